-- `words::same_bytes` meets its contract. The loop's invariant: `same` is what comparing the first `k` bytes gives. Assumes nothing.
use mathlib.Core.Path.{◌≡◌}
use lib.Dec.{eqb}
use lib.ListN.{get_or}
use Rattle.words.specs.Scan.{all}
use Rattle.words.proofs.same_bytes.Given as goal

abbrev pub invariant-loop-k : goal.invariant-loop-k
invariant-loop-k l = l.same ≡ all l.k (λ j. eqb (get_or l.a j 0) (get_or l.b j 0))
