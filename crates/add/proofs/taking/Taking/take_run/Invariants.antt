use Rattle.std.proofs.Common.{◌≡◌, length}
use Rattle.add.specs.Walking.{stand}
use Rattle.add.specs.Took.{Stands, Copies}
use Rattle.add.proofs.taking.Taking.take_run.Given as goal

abbrev pub invariant-loop-cell : goal.invariant-loop-cell
invariant-loop-cell g l =
    Stands l.self l.bodies (stand l.cell l.walk) l.staged.words l.staged.changed × Copies l.self l.budget (stand l.at l.initial.walk) (stand l.cell l.walk) l.initial.bodies l.bodies
    × (length l.bodies ≡ l.self.room)
