use Prim.Native.Nat.{ℕ, ◌+◌, ◌<◌, ◌^◌}
use mathlib.Core.Path.{◌≡◌, refl, sym, ap, subst, ◌∙◌}
use native.Mathlib.Omega.{arith}
use lib.ListN.{get_or, length-set, set}
use lib.Count.{ones}
use Rattle.words.specs.Layout.{group_at}
use Rattle.words.specs.Scan.{count}
use Rattle.words.proofs.Nth.{count_mono}
use Rattle.marks.specs.Blocks.{block_of, max_groups}
use Rattle.changes.specs.Staged.{is_set}
use Rattle.advance.specs.Notes.{by_group, Ends}
use Rattle.advance.proofs.Bits.{count_empty, count_inside, ends_none, ends_empty, ends_inside}
use Rattle.advance.proofs.Blocks.{block_fits, blank_bits, count_more, ends_more}
use Rattle.advance.proofs.count_groups.Goals as goal

pub past_blank-g-requires : goal.past_blank-g-requires
past_blank-g-requires c = (omega arith, c.requires.inside.0)

pub loop-g-init : goal.loop-g-init
unfolding count
loop-g-init c = let a = c.args in
    let x = by_group a.seen.now a.bits.now in
    let p = c.past_blank-g.ensures in
    let none = blank_bits a.seen.now a.bits.now c.requires.room.0 0 _ (omega (arith, p.1, c.requires.inside.0)) p.2 in
    (p.1, refl, count_empty x 0 _ p.0 none, ends_empty x 0 _ (by_group a.seen.now a.ends.now) none (ends_none x (by_group a.seen.now a.ends.now)))

pub block_of-b-requires : goal.block_of-b-requires
block_of-b-requires c = omega (arith, c.loop-g-test.true, c.requires.inside.0)

pub bounds-bits-b : goal.bounds-bits-b
bounds-bits-b c = let a = c.args in
    omega (arith, block_fits a.seen.now c.requires.room.0.kept a.bits.now c.requires.room.0.room c.loop-g.g (omega (arith, c.loop-g-test.true, c.requires.inside.0)), c.block_of-b.ensures.0)

pub overflow_add-n : goal.overflow_add-n
overflow_add-n c = let a = c.args in
    let s = c.loop-g in
    let l : s.g < max_groups = omega (arith, c.loop-g-test.true, c.requires.inside.0) in
    let q = c.block_of-b.ensures.0 in
    let small : get_or a.bits.now (block_of a.seen.now s.g) 0 < 2 ^ 64 = omega (arith, rw q at (c.type_inv.bits c.block_of-b.result)) in
    let next = count_more a.seen.now a.bits.now c.requires.room.0 s.g l small in
    rw q (omega (arith, next, s.invariant.2, count_mono (is_set (by_group a.seen.now a.bits.now)) (group_at (s.g + 1)) 65536 (omega (arith, l)), c.requires.few))

pub overflow_cast-ends : goal.overflow_cast-ends
overflow_cast-ends c = let a = c.args in
    let s = c.loop-g in
    let l : s.g < max_groups = omega (arith, c.loop-g-test.true, c.requires.inside.0) in
    let q = c.block_of-b.ensures.0 in
    let small : get_or a.bits.now (block_of a.seen.now s.g) 0 < 2 ^ 64 = omega (arith, rw q at (c.type_inv.bits c.block_of-b.result)) in
    let next = count_more a.seen.now a.bits.now c.requires.room.0 s.g l small in
    rw q (omega (arith, next, s.invariant.2, count_mono (is_set (by_group a.seen.now a.bits.now)) (group_at (s.g + 1)) 65536 (omega (arith, l)), c.requires.few))

pub bounds-ends-b : goal.bounds-ends-b
bounds-ends-b c = let a = c.args in
    omega (arith, block_fits a.seen.now c.requires.room.0.kept a.bits.now c.requires.room.0.room c.loop-g.g (omega (arith, c.loop-g-test.true, c.requires.inside.0)), c.block_of-b.ensures.0, c.loop-g.invariant.1, c.requires.room.1)

pub past_blank-g-requires-in-loop-g : goal.past_blank-g-requires-in-loop-g
past_blank-g-requires-in-loop-g c = (omega (arith, c.loop-g-test.true), c.requires.inside.0)

pub loop-g-smaller : goal.loop-g-smaller
loop-g-smaller c = omega (arith, c.past_blank-g-in-loop-g.ensures.0, c.loop-g-test.true)

pub loop-g-preserved : goal.loop-g-preserved
loop-g-preserved c = let a = c.args in
    let s = c.loop-g in
    let x = by_group a.seen.now a.bits.now in
    let p = c.past_blank-g-in-loop-g.ensures in
    let l : s.g < max_groups = omega (arith, c.loop-g-test.true, c.requires.inside.0) in
    let q = c.block_of-b.ensures.0 in
    let small : get_or a.bits.now (block_of a.seen.now s.g) 0 < 2 ^ 64 = omega (arith, rw q at (c.type_inv.bits c.block_of-b.result)) in
    let next = count_more a.seen.now a.bits.now c.requires.room.0 s.g l small in
    let here : ℕ = ones (get_or a.bits.now c.block_of-b.result 0) in
    let now : s.n + here ≡ count (group_at (s.g + 1)) (is_set x) = rw q (omega (arith, next, s.invariant.2)) in
    let none = blank_bits a.seen.now a.bits.now c.requires.room.0 (s.g + 1) _ (omega (arith, p.1, c.requires.inside.0)) p.2 in
    let fits = block_fits a.seen.now c.requires.room.0.kept a.bits.now c.requires.room.0.room s.g l in
    let noted = ends_more a.seen.now a.bits.now c.requires.room.0 s.g (s.n + here) s.ends l (omega (arith, fits, s.invariant.1, c.requires.room.1)) now s.invariant.3 in (
      p.1,
      length-set s.ends _ _ ∙ s.invariant.1,
      now ∙ count_empty x (s.g + 1) _ p.0 none,
      ends_empty x (s.g + 1) _ _ none (subst (λ (k : ℕ). Ends x (s.g + 1) (by_group a.seen.now (set s.ends k (s.n + here)))) (sym q) noted),
    )

pub returns : goal.returns
returns c = let a = c.args in
    let s = c.loop-g in
    let x = by_group a.seen.now a.bits.now in
    let inside = c.requires.inside.1 in
    let last : s.g ≡ a.groups = omega (arith, s.invariant.0, c.loop-g-test.false) in record { counted = s.invariant.2 ∙ ap (λ (k : ℕ). count (group_at k) (is_set x)) last ∙ count_inside x a.groups 65536 (omega (arith, c.requires.inside.0)) inside; noted = ends_inside x a.groups max_groups _ inside (subst (λ (k : ℕ). Ends x k (by_group a.seen.now s.ends)) last s.invariant.3) }
