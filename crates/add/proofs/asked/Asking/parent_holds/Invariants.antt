use Rattle.std.proofs.Common.{◌≡◌, ℕ, ◌+◌, ◌<◌, true}
use Rattle.add.specs.Walking.{backed}
use Rattle.add.specs.Asked.{newly, depth_in}
use Rattle.add.proofs.asked.Asking.parent_holds.Given as goal

abbrev pub invariant-loop-j : goal.invariant-loop-j
invariant-loop-j l = (i : ℕ) → i < l.j → backed l.self.held.now (depth_in l.self) (newly l.self l.part.seen.now) (l.part.range.first + i) ≡ true
