-- The call over a lent list is the call over the batch that the list is gathered into (`same_call`), and means the same (`same_means`). A batch of up to 64 ranges has those of the list; of more, whatever they are,
-- question 20 refuses both. Assumes nothing.
use Prim.Native.Nat.{ℕ, zero, suc, ◌<◌}
use mathlib.Core.Bool.{Bool, true, false, ◌&&◌}
use mathlib.Core.List.{List}
use mathlib.Core.Path.{◌≡◌, refl, sym, ap, ◌∙◌}
use native.Mathlib.Omega.{arith}
use borrow.Author.Tests.{le-leb, lt-leb}
use lib.ListN.{length}
use Rattle.words.proofs.Scan.{by_le}
use Rattle.ranges.specs.declared.Range.{Range}
use Rattle.ranges.specs.Ranges.{max_ranges, list_ok}
use Rattle.ranges.specs.Batch.{no_batch, gathered}
use Rattle.ranges.proofs.Gathered.{gathered_all, gathered_more}
use Rattle.model.specs.State.{State}
use Rattle.model.specs.Answer.{ask, by_number, or_else}
use Rattle.model.specs.Calls.{Effect, refuse as refuse-effect, viewed}
use Rattle.model.specs.Holdings.{Room, is_live, is_innermost, ask_innermost, add_checks, add_effect}
use Rattle.store.specs.Outcome.{Buffers, refuse}
use Rattle.store.specs.Checks.{store_check, lent_of}
use Rattle.store.specs.State.{state_of}
use Rattle.store.specs.Means.{or_refused, call_means, room_of}
use Rattle.store.proofs.Checks.{ask_stop}
use Rattle.add.specs.Add.{add_check, add_call, add_means}

-- ---- a list that is too long

-- questions that end in a no say no, whichever of them is the first to
ask_no : (t : Bool) (n rest : ℕ) → 0 < n → 0 < rest → 0 < ask t n rest
ask_no true n rest g h = h
ask_no false n rest g h = g

else_no : (n rest : ℕ) → 0 < rest → 0 < or_else n rest
else_no zero rest h = h
else_no (suc n) rest h = omega arith

-- and then it does not matter what the call would do
refuses : {A : Type 0} (f : ℕ → A) (n : ℕ) (a : A) → 0 < n → by_number f n a ≡ f n
refuses f zero a h = absurd (omega arith)
refuses f (suc n) a h = refl

-- what is asked of it: its ranges do not matter
abbrev long_checks : ℕ → State → ℕ
long_checks h s = ask_innermost h s 20

long_no : (h : ℕ) (s : State) → 0 < long_checks h s
long_no h s = ask_no (is_live h s) 5 _ (omega arith) (ask_no (is_innermost h s) 6 20 (omega arith) (omega arith))

module _ (h : ℕ) (rs : List Range) (long : max_ranges < length rs) where
  not_ok : list_ok rs ≡ false
  not_ok = λ i. le-leb 1 (length rs) (omega arith) i && lt-leb (length rs) max_ranges long i

  long_checks_lem : (room : Room) (memory : List ℕ) (s : State) → add_checks room memory h rs s ≡ long_checks h s
  long_checks_lem room memory s = ap (ask_innermost h s) (ask_stop (list_ok rs) 20 _ not_ok)

  long_call : (b : Buffers) → add_call h rs b ≡ refuse (or_else (store_check (lent_of b)) (long_checks h (state_of b)))
  unfolding add_call add_check
  long_call b = rw (long_checks_lem (room_of b) b.memory (state_of b)) (refuses refuse _ _ (else_no (store_check (lent_of b)) _ (long_no h (state_of b))))

  long_effect : (room : Room) (memory : List ℕ) (s : State) → add_effect room memory h rs s ≡ refuse-effect (long_checks h s)
  long_effect room memory s = rw (long_checks_lem room memory s) (refuses refuse-effect _ _ (long_no h s))

  long_means : (k : ℕ) (b : Buffers) → add_means h rs k b ≡ call_means (λ s. refuse-effect (long_checks h s)) k b
  unfolding call_means
  long_means k b = ap (λ (f : Effect). or_refused (store_check (lent_of b)) b (viewed f k (state_of b) b.memory)) (long_effect (room_of b) b.memory (state_of b))

-- ---- the batch of a list

-- what is the same for all lists that are too long is the same for a list and the ranges of its batch
same : {A : Type 0} (f : List Range → A) (x : A) → ((rs : List Range) → max_ranges < length rs → f rs ≡ x) → (rs : List Range) → f (gathered no_batch rs) ≡ f rs
same f x all rs = by_le (length rs) max_ranges
    (λ few. ap f (gathered_all rs few))
    (λ long. let n = gathered_more rs long in all _ (omega arith) ∙ sym (all rs long))

pub same_call : (h : ℕ) (rs : List Range) (b : Buffers) → add_call h (gathered no_batch rs) b ≡ add_call h rs b
same_call h rs b = same (λ qs. add_call h qs b) _ (λ qs long. long_call h qs long b) rs

pub same_means : (h : ℕ) (rs : List Range) (budget : ℕ) (b : Buffers) → add_means h (gathered no_batch rs) budget b ≡ add_means h rs budget b
same_means h rs budget b = same (λ qs. add_means h qs budget b) _ (λ qs long. long_means h qs long budget b) rs
