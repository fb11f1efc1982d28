use Prim.Native.Nat.{ℕ, ◌+◌}
use mathlib.Core.Path.{◌≡◌, sym, ap, ◌∙◌}
use native.Mathlib.Omega.{arith}
use borrow.Author.Count.{below_none}
use Rattle.words.specs.Scan.{all}
use Rattle.words.proofs.Scan.{all_make, all_next}
use Rattle.marks.specs.Blocks.{mark_of}
use Rattle.table.specs.Marks.{has}
use Rattle.delete.proofs.all_held.Goals as goal

pub loop-j-init : goal.loop-j-init
loop-j-init c = sym (all_make 0 _ (below_none _))

pub loop-j-preserved : goal.loop-j-preserved
loop-j-preserved c =
    let a = c.args in
    rw (c.loop-j.invariant, c.has_depth-held.ensures, c.mark_of.ensures) (all_next c.loop-j.j (λ k. has a.cells.depth (mark_of a.seen.now (a.cells.first + k))))

pub returns : goal.returns
returns c =
    let a = c.args in
    let e : c.loop-j.j ≡ a.cells.count = omega arith in
    c.loop-j.invariant ∙ ap (λ (n : ℕ). all n (λ k. has a.cells.depth (mark_of a.seen.now (a.cells.first + k)))) e
