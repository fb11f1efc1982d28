-- `marks::lent::Directory::past_rows` meets its contract. The loop's invariant: the groups passed have no block. Assumes nothing.
use Prim.Native.Nat.{ℕ, ◌-◌, ◌≤◌, ◌<◌}
use mathlib.Core.Path.{◌≡◌}
use Rattle.marks.specs.Blocks.{block_of}
use Rattle.marks.proofs.lent.Directory.past_rows.Given as goal

abbrev pub invariant-loop-g : goal.invariant-loop-g
invariant-loop-g l = (l.from ≤ l.g) × (l.g ≤ l.end) × ((k : ℕ) → l.from ≤ k → k < l.g → block_of l.self.seen.now k ≡ 0)

abbrev pub decreases-loop-g : goal.decreases-loop-g
decreases-loop-g l = l.end - l.g
