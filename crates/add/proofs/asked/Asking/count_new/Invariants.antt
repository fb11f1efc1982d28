use Rattle.std.proofs.Common.{◌≡◌, ◌+◌, ◌≤◌}
use Rattle.words.specs.Scan.{count}
use Rattle.add.specs.Asked.{newly}
use Rattle.add.proofs.asked.Asking.count_new.Given as goal

abbrev pub invariant-loop-j : goal.invariant-loop-j
invariant-loop-j l = (l.new ≤ l.j) × (l.new ≡ count l.j (λ k. newly l.self l.part.seen.now (l.part.range.first + k)))
