use Prim.Native.Nat.{ℕ}
use mathlib.Core.Path.{◌≡◌, refl, ap, ◌∙◌}
use native.Mathlib.Omega.{arith}
use lib.Dec.{eqb}
use lib.ListN.{length, get_or}
use Rattle.words.specs.Scan.{all}
use Rattle.words.proofs.Scan.{all_next}
use Rattle.advance.proofs.none_set.Goals as goal

pub loop-number-init : goal.loop-number-init
unfolding all
loop-number-init c = refl

pub loop-number-preserved : goal.loop-number-preserved
loop-number-preserved c = rw c.loop-number.invariant (all_next c.loop-number.number-index (λ (j : ℕ). eqb (get_or c.args.bits.now j 0) 0))

pub returns : goal.returns
returns c =
    let last : c.loop-number.number-index ≡ length c.args.bits.now = omega arith in
    c.loop-number.invariant ∙ ap (λ (n : ℕ). all n (λ k. eqb (get_or c.args.bits.now k 0) 0)) last
