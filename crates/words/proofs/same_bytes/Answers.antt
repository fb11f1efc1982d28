use mathlib.Core.Path.{◌≡◌, refl}
use Prim.Native.Nat.{ℕ}
use native.Mathlib.Omega.{arith}
use lib.Dec.{eqb}
use lib.ListN.{get_or}
use Rattle.words.specs.Scan.{all}
use Rattle.words.specs.Cells.{same_cell}
use Rattle.words.proofs.Scan.{all_next}
use Rattle.words.proofs.same_bytes.Goals as goal

pub loop-k-init : goal.loop-k-init
unfolding all
loop-k-init c = refl

pub loop-k-preserved : goal.loop-k-preserved
loop-k-preserved c =
    let a = c.args in
    rw c.loop-k.invariant (all_next c.loop-k.k (λ (j : ℕ). eqb (get_or a.a.now j 0) (get_or a.b.now j 0)))

pub returns : goal.returns
unfolding same_cell
returns c =
    let e : c.loop-k.k ≡ 64 = omega arith in
    rw e at c.loop-k.invariant
