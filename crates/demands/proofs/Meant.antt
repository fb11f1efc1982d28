-- Demand 2: what each call leaves to be seen, that every state reached can be opened, and what opening finds after a cut. Assumes nothing.
use Prim.Native.Nat.{ℕ, zero, suc, ◌+◌, ◌*◌, ◌≤◌, ◌<◌}
use mathlib.Core.Bool.{Bool, true, false, cond}
use mathlib.Core.List.{List, map}
use mathlib.Core.Option.{some}
use mathlib.Core.Path.{◌≡◌, refl, sym, ap, subst, ◌∙◌}
use native.Mathlib.Omega.{arith}
use borrow.Author.Tests.{ltb-true, lt-ltb}
use lib.Dec.{ltb, eqb}
use lib.ListN.{length}
use Rattle.words.specs.Layout.{cells_of, bodies_of}
use Rattle.words.specs.Journal.{pending}
use Rattle.words.proofs.Scan.{by_bool}
use Rattle.ranges.specs.Ranges.{one_range}
use Rattle.model.specs.State.{State}
use Rattle.model.specs.Answer.{is_stopped, View, steps_of}
use Rattle.model.proofs.Ranged.{one_range_lem}
use Rattle.model.specs.Calls.{Effect, change, make_steps, listed}
use Rattle.model.specs.History.{Request}
use Rattle.model.specs.Session.{memory_after, Mixed}
use Rattle.model.proofs.Views.{memory_whole, memory_mixed}
use Rattle.model.proofs.Told.{Halted}
use Rattle.store.specs.Outcome.{Buffers, in_table, perform, Outcome, outcome}
use Rattle.store.specs.Checks.{make_check}
use Rattle.store.specs.State.{state_of, standing, slots}
use Rattle.store.specs.Calls.{make_plan, make_call, open_call}
use Rattle.store.specs.Means.{call_means, list_means, room_of}
use Rattle.store.proofs.Checks.{store_lengths}
use Rattle.store.proofs.Outcome.{table_after}
use Rattle.store.proofs.Making.{make_none}
use Rattle.store.proofs.Means.{long, make_means_lem, open_means_lem}
use Rattle.store.proofs.Pending.{after_pending}
use Rattle.store.proofs.Reopened.{stopped_short}
use Rattle.store.proofs.Standing.{stands_for, only_state}
use Rattle.add.proofs.Added.{add_means_lem, add_takes, add_is, add_with_means, add_with_reopens}
use Rattle.advance.proofs.Advanced.{advance_takes, advance_is, gives_few, advance_step_count, advance_with_means, advance_with_reopens}
use Rattle.look.proofs.Placing.{look_means_lem, look_within}
use Rattle.look.proofs.Shown.{look_tells}
use Rattle.demands.specs.Session.{call_on}
use Rattle.demands.specs.Demands.{asked, opens, Found, not_made, wholly_made, lengths_right, advance_steps, advancing_cells, outward_cells, made_from, Demand2}
use Rattle.demands.proofs.Seen.{call_passed, Shown, call_shown}
use Rattle.demands.proofs.Calls.{facts}
use Rattle.demands.proofs.Bounded.{input_bounded}
use Rattle.demands.proofs.Stepping.{stepped, call_stepped}
use Rattle.demands.proofs.Ready.{done_clears, done_ready, reached}
use Rattle.demands.proofs.Reopening.{opening_keeps, reopened}
use Rattle.demands.proofs.Refused.{open_refuses}

pub exact : (b : Buffers) → asked b ≡ 0 → length b.memory ≡ 64 * cells_of (length b.memory)
exact b e = (store_lengths (length b.memory) (length b.bodies) b.table e).memory_exact

-- ---- the steps of an advance

steps_most : (n g : ℕ) → g ≤ n → advance_steps n g ≤ 76 * n + 2
steps_most n g few = by_bool (eqb n 0) (λ z. rw z (omega arith)) (λ z. rw z (omega arith))

-- ---- a make cut after a store: no store is left

make_performs : (k : ℕ) (b : Buffers) → lengths_right b ≡ true → outcome (make_call b) k b
    ≡ outcome (perform (map (λ x. in_table x) (make_plan (cells_of (length b.memory)) (slots b) (bodies_of (length b.bodies)))) 0) k b
unfolding make_call make_check
make_performs k b fit = rw fit

cut_made : (k : ℕ) (b : Buffers) → lengths_right b ≡ true → 0 < k → k < make_steps (slots b) → opens (made_from b k) ≡ 2
cut_made k b fit pos less =
    ap (λ (o : Outcome). opens o.buffers)
    (make_performs k b fit ∙ table_after (make_plan (cells_of (length b.memory)) (slots b) (bodies_of (length b.bodies))) 0 k b.memory b.bodies b.table)
    ∙ make_none b.memory b.bodies b.table fit (long (length b.memory) (length b.bodies) b.table fit) k pos less

list_shows : (b : Buffers) → asked b ≡ 0 → list_means b ≡ listed (state_of b)
unfolding list_means
list_shows b e = rw e

-- ---- cuts

pub cut : (c : Request) (k : ℕ) (b : Buffers) → (call_on c k b).report.status ≡ is_stopped → Found c b (call_on c k b).buffers
cut c k b stop = found (ltb (x + 2 * w) k) refl (ap (λ (v : View). v.state) is.shows)
  where
    is : Shown c k b
    is = call_shown c k b (λ r. subst Halted (sym stop ∙ r) tt)

    good : asked b ≡ 0
    good = call_passed c k b (λ r. subst Halted (sym stop ∙ r) tt)

    x : ℕ
    x = is.bytes

    w : ℕ
    w = is.words

    left : Buffers
    left = (call_on c k b).buffers

    more : k < steps_of x w
    more = stopped_short (steps_of x w) is.handle k (ap (λ (v : View). v.report.status) (sym is.shows) ∙ stop)

    pends : pending left.table ≡ after_pending (change x w is.handle is.new) k
    pends = (facts c b).pends k good ∙ ap (λ (f : Effect). after_pending f k) is.effect

    words_some : (x w : ℕ) → k < steps_of x w → x + 2 * w < k → 0 < w
    words_some x zero l m = absurd (omega arith)
    words_some x (suc w) l m = omega arith

    found : (t : Bool) → ltb (x + 2 * w) k ≡ t → standing left ≡ some (cond t is.new (state_of b)) → Found c b left
    found true t s =
        let late : x + 2 * w < k = ltb-true (x + 2 * w) k t in
        let p : pending left.table ≡ w = pends ∙ rw (t, lt-ltb k (steps_of x w) more) in
        wholly_made is.effect s (subst (λ (n : ℕ). 0 < n) (sym p) (words_some x w more late))
        (ap (λ (v : View). v.memory) is.shows ∙ memory_whole (room_of b) c (state_of b) is.new b.memory k x w is.handle (exact b good) is.effect (omega arith))
    found false t s =
        not_made s (pends ∙ rw t)
        (subst (λ (y : List ℕ). Mixed b.memory (memory_after c (state_of b) b.memory) y) (ap (λ (v : View). v.memory) (sym is.shows)) (memory_mixed c (state_of b) b.memory k))

pub demand_2 : Demand2
demand_2 = record {
  make_shows = make_means_lem;
  open_shows = open_means_lem;
  call_shows = λ c k b. (facts c b).shows k;
  look_shows = look_means_lem;
  look_tells = look_tells;
  look_within = look_within;
  list_shows = list_shows;
  plain_shows = λ h first n kind rule label k b.
      add_means_lem h (one_range first n kind rule label) k b
      ∙ ap (λ (f : State → Effect). call_means f k b) (λ i s. one_range_lem (room_of b) b.memory h first n kind rule label s i);
  make_stepped = λ b. stepped (make_call b) b;
  open_stepped = λ b. stepped (open_call b) b;
  call_stepped = call_stepped;
  bound = λ i b. (input_bounded i b).few;
  enough = λ i b. (input_bounded i b).whole;
  done_clears = done_clears;
  done_ready = done_ready;
  add_takes = add_takes;
  add_is = add_is;
  add_any = λ h rs b slot body may. record { shown = add_with_means h rs b slot body may; reopens = add_with_reopens h rs b slot body may };
  advance_takes = advance_takes;
  advance_is = advance_is;
  advance_any = λ h b slot body may. record { shown = advance_with_means h b slot body may; reopens = advance_with_reopens h b slot body may };
  advance_step_count = λ h b pass k. advance_step_count b h pass k;
  advance_most = λ b. steps_most (advancing_cells b) (outward_cells b) (gives_few b);
  stands = stands_for;
  one_state = λ b s e. only_state b e s;
  reached = reached;
  make_cut = λ k j b fit pos less. open_refuses j 1 (made_from b k) (cut_made k b fit pos less);
  cut = cut;
  reopened = λ c k ks j b. reopened k j ks b c;
  opening_keeps = opening_keeps;
}
