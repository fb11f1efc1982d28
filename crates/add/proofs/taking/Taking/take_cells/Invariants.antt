use Rattle.std.proofs.Common.{◌≡◌, ◌-◌, length}
use Rattle.add.specs.Walking.{stand}
use Rattle.add.specs.Took.{Stands, Copies}
use Rattle.add.specs.declared.cursors.Cursors.{Cursors}
use Rattle.add.proofs.taking.Taking.take_cells.Given as goal

-- where taking begins
abbrev pub begins : Cursors
begins = record { slot = 0; body = 0; made = 0 }

abbrev pub invariant-loop-part : goal.invariant-loop-part
invariant-loop-part g l =
    (l.segments.list ≡ l.self.list) × Stands l.self l.bodies (stand l.segments.at l.walk) l.staged.words l.staged.changed
    × Copies l.self l.budget (stand 0 begins) (stand l.segments.at l.walk) l.initial.bodies l.bodies × (length l.bodies ≡ l.self.room)

abbrev pub decreases-loop-part : goal.decreases-loop-part
decreases-loop-part g l = l.segments.list.cells - l.segments.at
