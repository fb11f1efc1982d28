-- `marks::lent::Directory::past_blank` meets its contract. The loop's invariant: the groups passed have no block. Assumes nothing.
use Prim.Native.Nat.{ℕ, ◌≤◌, ◌<◌}
use mathlib.Core.Path.{◌≡◌}
use Rattle.marks.specs.Blocks.{block_of}
use Rattle.marks.proofs.lent.Directory.past_blank.Given as goal

abbrev pub invariant-loop-g : goal.invariant-loop-g
invariant-loop-g l = (k : ℕ) → l.from ≤ k → k < l.g → block_of l.self.seen.now k ≡ 0
