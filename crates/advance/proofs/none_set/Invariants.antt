-- `none` tells whether the numbers passed are 0.
use mathlib.Core.Path.{◌≡◌}
use lib.Dec.{eqb}
use lib.ListN.{get_or}
use Rattle.words.specs.Scan.{all}
use Rattle.advance.proofs.none_set.Given as goal

abbrev pub invariant-loop-number : goal.invariant-loop-number
invariant-loop-number l = l.none ≡ all l.number-index (λ k. eqb (get_or l.bits k 0) 0)
