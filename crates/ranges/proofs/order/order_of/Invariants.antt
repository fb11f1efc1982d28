-- `ranges::order::order_of` meets its contract. The loop's invariant: each key passed names the range at its place; sorting moves keys, and loses
-- none. Assumes nothing.
use Rattle.std.proofs.Common.{◌≡◌, ℕ, ◌<◌, length}
use Rattle.ranges.specs.Lists.{number_by}
use Rattle.ranges.proofs.order.order_of.Given as goal

abbrev pub invariant-loop-i : goal.invariant-loop-i
invariant-loop-i l = record { room : length l.keys ≡ 64; named : (k : ℕ) → k < l.i → number_by l.keys k ≡ k }
