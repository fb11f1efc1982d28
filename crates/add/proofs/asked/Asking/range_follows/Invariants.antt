use Rattle.std.proofs.Common.{◌≡◌, ℕ, ◌+◌, ◌<◌, true}
use Rattle.add.specs.Walking.{follows}
use Rattle.add.specs.Asked.{newly}
use Rattle.add.proofs.asked.Asking.range_follows.Given as goal

abbrev pub invariant-loop-j : goal.invariant-loop-j
invariant-loop-j l = (i : ℕ) → i < l.j → follows l.self.memory.now l.bytes (newly l.self l.part.seen.now) (l.part.range.first + i) ≡ true
