-- Demand 1: what is refused, by which number, and that a refusal changes nothing. Assumes nothing.
use Prim.Native.Nat.{ℕ, suc}
use mathlib.Core.Bool.{true, false, false≢true, ◌&&◌}
use mathlib.Core.List.{List, [], ◌∷◌, ◌++◌}
use mathlib.Core.Path.{◌≡◌, ap, subst, ◌∙◌}
use borrow.Author.Tests.{ne_eqb, eq-eqb, eqb-true}
use lib.Dec.{leb}
use lib.ListN.{length}
use Rattle.words.specs.Layout.{cells_of}
use Rattle.words.specs.Journal.{pending}
use Rattle.ranges.specs.declared.Range.{Range}
use Rattle.model.specs.State.{State}
use Rattle.model.specs.Answer.{is_refused, Report, refused, View}
use Rattle.model.specs.Calls.{Effect, refuse, viewed_with}
use Rattle.model.specs.Holdings.{range_ok, add_range, list_checks}
use Rattle.model.specs.History.{add, delete, look, Request, changes, reads}
use Rattle.model.specs.Session.{Input, make, call, opening, write, effect_of, memory_at, view_of}
use Rattle.model.proofs.Told.{Finished}
use Rattle.model.proofs.Ranged.{range_asked}
use Rattle.store.specs.Outcome.{Buffers, Outcome, outcome, leaves}
use Rattle.store.specs.Checks.{shape_check, table_check, make_check, open_check, store_check}
use Rattle.store.specs.State.{state_of}
use Rattle.store.specs.Calls.{make_call, open_call}
use Rattle.store.specs.Means.{make_means, room_of}
use Rattle.store.proofs.Means.{make_means_lem}
use Rattle.demands.specs.Session.{call_on, input_on}
use Rattle.demands.specs.Demands.{lengths_right, header_right, table_right, asked, opens, is_call, is_later, Demand1}
use Rattle.demands.proofs.Shape.{refused_kept, refused_report, call_kept, call_report}
use Rattle.demands.proofs.Calls.{facts}
use Rattle.demands.proofs.Seen.{call_means_lem, call_refusal}
use Rattle.demands.proofs.Steps.{open_refusal}
use Rattle.demands.proofs.Numbers.{input_numbered}

-- ---- a refusal leaves everything as lent

refused_outcome : (o : Outcome) (q : ℕ) (b : Buffers) → o.report ≡ refused q → o.buffers ≡ b → o ≡ leaves (refused q) b
refused_outcome o q b r s = λ i. leaves (r i) (s i)

input_kept : (i : Input) (b : Buffers) → (input_on i b).report.status ≡ is_refused → input_on i b ≡ leaves (refused (input_on i b).report.refusal) b
input_kept (make k) b e = refused_outcome _ _ b (refused_report _ k b e) (refused_kept _ k b e)
input_kept (call c k) b e = refused_outcome _ _ b (call_report c k b e) (call_kept c k b e)
input_kept (opening k) b e = refused_outcome _ _ b (refused_report _ k b e) (refused_kept _ k b e)
input_kept (write ws) b e = absurd (subst Finished e tt)

-- ---- questions 1 to 4

module _ (b : Buffers) where
  asked_1 : lengths_right b ≡ false → asked b ≡ 1
  unfolding store_check shape_check
  asked_1 e = rw e

  opens_1 : lengths_right b ≡ false → opens b ≡ 1
  unfolding open_check shape_check
  opens_1 e = rw e

  asked_2 : lengths_right b ≡ true → header_right b ≡ false → asked b ≡ 2
  unfolding store_check shape_check
  asked_2 e f = rw (e, f)

  opens_2 : lengths_right b ≡ true → header_right b ≡ false → opens b ≡ 2
  unfolding open_check shape_check
  opens_2 e f = rw (e, f)

  asked_3 : lengths_right b ≡ true → header_right b ≡ true → (pending b.table ≡ 0 → ⊥) → asked b ≡ 3
  unfolding store_check shape_check
  asked_3 e f n = rw (e, f, ne_eqb (pending b.table) 0 n)

  asked_4 : lengths_right b ≡ true → header_right b ≡ true → pending b.table ≡ 0 → table_right b ≡ false → asked b ≡ 4
  unfolding store_check shape_check table_check
  asked_4 e f p t = rw (e, f, eq-eqb (pending b.table) 0 p, t)

  opens_4 : lengths_right b ≡ true → header_right b ≡ true → table_right b ≡ false → opens b ≡ 4
  unfolding open_check shape_check table_check
  opens_4 e f t = rw (e, f, t)

pub open_refuses : (k n : ℕ) (b : Buffers) → opens b ≡ suc n → outcome (open_call b) k b ≡ leaves (refused (suc n)) b
open_refuses k n b e =
    let r = open_refusal k n b e in
    refused_outcome _ (suc n) b r (refused_kept (open_call b) k b (ap (λ (x : Report). x.status) r))

make_refuses : (k : ℕ) (b : Buffers) → lengths_right b ≡ false → outcome (make_call b) k b ≡ leaves (refused 1) b
unfolding make_means make_check
make_refuses k b e =
    let v : (make_means k b).report ≡ refused 1 = rw e in
    let r : (outcome (make_call b) k b).report ≡ refused 1 = ap (λ (v : View). v.report) (make_means_lem k b) ∙ v in
    refused_outcome _ 1 b r (refused_kept (make_call b) k b (ap (λ (x : Report). x.status) r))

call_refuses : (c : Request) (k n : ℕ) (b : Buffers) → asked b ≡ suc n → call_on c k b ≡ leaves (refused (suc n)) b
call_refuses c k n b e =
    let r = call_refusal c k n b e in
    refused_outcome _ (suc n) b r (call_kept c k b (ap (λ (x : Report). x.status) r))

-- ---- the other questions, put to the state

state_refuses : (c : Request) (k q : ℕ) (b : Buffers) → asked b ≡ 0 → effect_of (room_of b) b.memory c (state_of b) ≡ refuse q → call_on c k b ≡ leaves (refused q) b
state_refuses c k q b good e =
    let v : (view_of (room_of b) c k (state_of b) b.memory).report ≡ refused q =
    ap (λ (f : Effect). (viewed_with f k (state_of b) b.memory (memory_at k c (state_of b) b.memory)).report) e in
    let r : (call_on c k b).report ≡ refused q = ap (λ (v : View). v.report) (call_means_lem c k b good) ∙ v in
    refused_outcome _ q b r (call_kept c k b (ap (λ (x : Report). x.status) r))

-- a list in which the first range that is not right lies past memory
past_list : (m : ℕ) (memory : List ℕ) (before : List Range) (r : Range) (after : List Range) (s : State) (rest : ℕ) → list_checks m memory before s 0 ≡ 0
    → (leb r.kind 2 && leb r.label 1) ≡ true → range_ok m r.first r.count ≡ false → list_checks m memory (before ++ r ∷ after) s rest ≡ 8
past_list m memory [] r after s rest q kinds range = rw (kinds, range)
past_list m memory (p ∷ ps) r after s rest q kinds range =
    let y = range_asked m memory p s _ q in
    rw (y.numbers, y.lies, y.holds, y.same, y.rules, y.plain) (past_list m memory ps r after (add_range memory p s) rest y.onward kinds range)

wrong_length : (i : Input) (b : Buffers) → is_call i ≡ true → lengths_right b ≡ false → input_on i b ≡ leaves (refused 1) b
wrong_length (make k) b c e = make_refuses k b e
wrong_length (call c k) b _ e = call_refuses c k 0 b (asked_1 b e)
wrong_length (opening k) b c e = open_refuses k 0 b (opens_1 b e)
wrong_length (write ws) b c e = absurd (false≢true c)

wrong_header : (i : Input) (b : Buffers) → is_later i ≡ true → lengths_right b ≡ true → header_right b ≡ false → input_on i b ≡ leaves (refused 2) b
wrong_header (make k) b c e f = absurd (false≢true c)
wrong_header (call c k) b _ e f = call_refuses c k 1 b (asked_2 b e f)
wrong_header (opening k) b c e f = open_refuses k 1 b (opens_2 b e f)
wrong_header (write ws) b c e f = absurd (false≢true c)

pub demand_1 : Demand1
demand_1 = record {
  numbered = input_numbered;
  kept = input_kept;
  wrong_length = wrong_length;
  wrong_header = wrong_header;
  unopened = λ c k b e f n. call_refuses c k 2 b (asked_3 b e f n);
  wrong_table = λ c k b e f p t. call_refuses c k 3 b (asked_4 b e f p t);
  wrong_table_opening = λ k b e f t. open_refuses k 3 b (opens_4 b e f t);
  stale_handle = λ c h k b good e d. state_refuses c k 5 b good ((facts c b).dead h e d);
  past_add = λ h k before r after b good live inner few right kinds range.
      state_refuses (changes (add h (before ++ r ∷ after))) k 8 b good
      (rw (live, inner, few, past_list (cells_of (length b.memory)) b.memory before r after (state_of b) _ (eqb-true _ 0 right) kinds range));
  past_delete = λ h first n k b good live range. state_refuses (changes (delete h first n)) k 8 b good (rw (live, range));
  past_look = λ h c k b good live range. state_refuses (reads (look h c)) k 8 b good (rw (live, range));
  wrong_list = λ h k rs b good live inner few. state_refuses (changes (add h rs)) k 20 b good (rw (live, inner, few));
}
