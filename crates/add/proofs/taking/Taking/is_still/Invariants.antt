use Rattle.std.proofs.Common.{◌≡◌, ℕ, ◌+◌, ◌<◌, true}
use Rattle.add.specs.Walking.{lacks}
use Rattle.add.proofs.taking.Taking.is_still.Given as goal

abbrev pub invariant-loop-j : goal.invariant-loop-j
invariant-loop-j l = (i : ℕ) → i < l.j → lacks l.self.held.now l.depth (l.range.first + i) ≡ true
