use Prim.Native.Nat.{ℕ, ◌<◌}
use mathlib.Core.Path.{◌≡◌, sym, ap, ◌∙◌}
use native.Mathlib.Omega.{arith}
use borrow.Author.Count.{below_none}
use Rattle.words.specs.Scan.{all}
use Rattle.words.proofs.Scan.{all_make, all_next}
use Rattle.table.specs.Entry.{word1}
use Rattle.table.specs.Marks.{parent_told}
use Rattle.table.proofs.Passing.{told_stop}
use Rattle.table.proofs.passes.parents_told.Goals as goal

pub loop-i-init : goal.loop-i-init
loop-i-init c = sym (all_make 0 _ (below_none _))

pub parent_marked-told-requires : goal.parent_marked-told-requires
parent_marked-told-requires c =
    let l : c.loop-i.i < c.args.table.now.slots = omega (arith, c.loop-i-test.true, c.args.table.now.ends.0) in
    rw c.first_word.ensures (λ v. (c.requires.0 c.loop-i.i l v, c.requires.1 c.loop-i.i l v))

pub loop-i-preserved : goal.loop-i-preserved
loop-i-preserved c =
    let here = rw c.first_word.ensures at c.parent_marked-told.ensures in
    rw (c.loop-i.invariant, here) (all_next c.loop-i.i (λ k. parent_told (word1 c.args.table.now.slots c.args.table.now.words.now k) c.args.seen.now))

pub returns : goal.returns
returns c =
    let a = c.args in
    let e : c.loop-i.i ≡ a.table.now.top = omega arith in
    c.loop-i.invariant ∙ ap (λ (n : ℕ). all n (λ k. parent_told (word1 a.table.now.slots a.table.now.words.now k) a.seen.now)) e
    ∙ told_stop a.table.now.slots a.table.now.words.now a.table.now.top a.seen.now a.table.now.ends
