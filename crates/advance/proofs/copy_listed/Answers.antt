use Prim.Native.Nat.{ℕ, ◌+◌, ◌*◌, ◌<◌}
use mathlib.Core.List.{List}
use mathlib.Core.Path.{◌≡◌, refl, sym, ap, ◌∙◌}
use native.Mathlib.Omega.{arith}
use borrow.Author.Rules.{rules}
use lib.ListN.{length, get_or, take}
use Rattle.words.specs.Layout.{bodies_of}
use Rattle.words.specs.Scan.{count, nth}
use Rattle.words.specs.Stores.{Store, store, stores, gather}
use Rattle.words.specs.Cells.{cell_plan}
use Rattle.words.proofs.Plans.{stores_none}
use Rattle.words.proofs.Gather.{gather_turn}
use Rattle.table.specs.Marks.{cell_in}
use Rattle.search.specs.Free.{unmarked, unmarked_from}
use Rattle.search.proofs.Free.{unmarked_nth, unmarked_below, unmarked_passed}
use Rattle.changes.proofs.Staging.{stages_skip, stages_ext, stages_but}
use Rattle.store.specs.Outcome.{buffers}
use Rattle.advance.specs.Advance.{advances}
use Rattle.advance.proofs.Found.{found_some, found_is}
use Rattle.advance.proofs.Listing.{plans_length, change_none, change_more}
use Rattle.advance.proofs.copy_listed.Goals as goal

pub loop-r-init : goal.loop-r-init
unfolding count
loop-r-init g c =
    let a = c.args in (
      search rules,
      refl,
      refl,
      stores_none a.budget a.bodies.now,
      stages_ext (stages_skip a.entries.now.slots c.requires.blank (omega arith) (λ i l h. refl)) (λ i l. sym (change_none a.entries.now.slots (bodies_of (length a.bodies.now)) a.entries.now.words.now a.used.now (advances (buffers a.memory.now a.bodies.now a.entries.now.words.now)) i)),
    )

pub overflow_cast-i : goal.overflow_cast-i
overflow_cast-i g c = omega (arith, c.type_inv.places c.loop-r.r)

pub next_free_body-requires : goal.next_free_body-requires
next_free_body-requires g c = (omega (arith, c.bodies_of-total.ensures, c.requires.free), omega (arith, c.bodies_of-total.ensures, c.loop-r.invariant.0))

pub unwrap-body-requires : goal.unwrap-body-requires
unwrap-body-requires g c =
    let a = c.args in
    let s = c.loop-r in
    let here : s.r < a.n = omega arith in
    let low = unmarked_below a.used.now (bodies_of (length a.bodies.now)) s.at s.r s.invariant.0 s.invariant.1 (omega (arith, here, c.requires.free.2)) in
    found_some _ _ _ c.next_free_body.ensures (rw c.bodies_of-total.ensures low)

pub copy_entry-requires : goal.copy_entry-requires
copy_entry-requires g c =
    let a = c.args in
    let s = c.loop-r in
    let here : s.r < a.n = omega arith in
    let low = unmarked_below a.used.now (bodies_of (length a.bodies.now)) s.at s.r s.invariant.0 s.invariant.1 (omega (arith, here, c.requires.free.2)) in
    let body = found_is _ _ _ c.next_free_body.ensures _ c.unwrap-body.ensures ∙ ap (λ (x : ℕ). unmarked_from x a.used.now s.at) c.bodies_of-total.ensures in
    let list = c.requires.listed in (
      omega (arith, s.staged.few, s.staged.room),
      ((list.0.slot s.r here, omega (arith, c.requires.room.0 s.r here, a.staged.now.wide)), (list.1 s.r here, omega (arith, low, body, s.invariant.2), omega (arith, low, body, c.requires.free.0))),
    )

pub overflow_add-at : goal.overflow_add-at
overflow_add-at g c =
    let a = c.args in
    let s = c.loop-r in
    let here : s.r < a.n = omega arith in
    let low = unmarked_below a.used.now (bodies_of (length a.bodies.now)) s.at s.r s.invariant.0 s.invariant.1 (omega (arith, here, c.requires.free.2)) in
    let body = found_is _ _ _ c.next_free_body.ensures _ c.unwrap-body.ensures ∙ ap (λ (x : ℕ). unmarked_from x a.used.now s.at) c.bodies_of-total.ensures in
    omega (arith, low, body, c.requires.free.0)

pub loop-r-preserved : goal.loop-r-preserved
loop-r-preserved g c =
    let a = c.args in
    let s = c.loop-r in
    let here : c.loop-r.r < c.args.n = omega arith in
    let b = bodies_of (length a.bodies.now) in
    let u = a.used.now in
    let list = c.requires.listed.0 in
    let body = found_is _ _ _ c.next_free_body.ensures _ c.unwrap-body.ensures ∙ ap (λ (x : ℕ). unmarked_from x u s.at) c.bodies_of-total.ensures in
    let left : s.r < count b (unmarked u) = omega (arith, here, c.requires.free.2) in
    let low = unmarked_below u b s.at s.r s.invariant.0 s.invariant.1 left in
    let is = body ∙ unmarked_nth u b s.at s.r s.invariant.0 s.invariant.1 in
    let from : ℕ → ℕ = λ k. cell_in a.entries.now.slots a.entries.now.words.now (get_or a.places.now k 0) in
    let plan : ℕ → List Store = λ k. cell_plan a.memory.now (from k) (nth b (unmarked u) k) in
    let copied = rw (c.saturating_sub-left.ensures, is) at c.copy_entry.ensures.copied in
    let staged = rw is at c.copy_entry.ensures.staged in (
      omega (arith, low, body),
      ap (λ (x : ℕ). count (x + 1) (unmarked u)) body ∙ unmarked_passed u b s.at s.r s.invariant.0 s.invariant.1 left,
      c.copy_entry.auto.bodies ∙ s.invariant.2,
      gather_turn plan store a.budget s.r (64 * s.r) a.bodies.now s.bodies _ (plans_length a.memory.now from (nth b (unmarked u)) s.r) s.invariant.3 copied,
      stages_ext (stages_but s.invariant.4 (list.slot s.r here) staged) (change_more a.entries.now.slots b a.entries.now.words.now u (advances (buffers a.memory.now a.bodies.now a.entries.now.words.now)) a.n s.r a.places.now list here),
    )

pub returns : goal.returns
returns g c =
    let a = c.args in
    let s = c.loop-r in
    let b = bodies_of (length a.bodies.now) in
    let last : s.r ≡ a.n = omega arith in record { bytes = s.invariant.3 ∙ ap (λ (x : ℕ). stores (take a.budget (gather x (λ k. cell_plan a.memory.now (cell_in a.entries.now.slots a.entries.now.words.now (get_or a.places.now k 0)) (nth b (unmarked a.used.now) k)))) a.bodies.now) last; staged = rw last at s.invariant.4 }
