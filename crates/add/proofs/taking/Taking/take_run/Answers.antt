use Rattle.std.proofs.Common.{◌+◌, ◌∙◌, arith}
use Rattle.table.specs.Entry.{kind_number, label_number}
use Rattle.add.specs.Walking.{RoomToTake, stand}
use Rattle.add.specs.Took.{words_lent, ranges_lent}
use Rattle.add.proofs.Taken.{cell_room, cell_turn, same_stands, copied_length, copied_join}
use Rattle.add.proofs.taking.Taking.take_run.Goals as goal

pub take_cell-walk-requires : goal.take_cell-walk-requires
take_cell-walk-requires g c =
    let q = c.args.self.now in
    let a = c.args.asked in
    let s = c.loop-cell.staged in
    let i = c.loop-cell.invariant in
    let asks = c.requires.asks.asks c.loop-cell.cell c.loop-cell.auto.cell c.loop-cell-test.true in
    let room : RoomToTake q.memory.now (words_lent q) (ranges_lent q) s.words s.changed =
    record { top = q.entries.top; ends = rw q.slots at q.entries.ends; room = (omega (arith, c.requires.room, s.wide), omega (arith, s.wide, s.long, s.room)) } in (
      omega arith,
      (
        i.2,
        (
          (omega (arith, c.requires.asks.high, c.loop-cell-test.true), i.0.made),
          (
            (i.0.slot, rw i.2 at i.0.body),
            λ h.
                rw i.2 at (cell_room q.memory.now c.loop-cell.bodies (words_lent q) q.held.now q.used.now (ranges_lent q) (q.able c.loop-cell.bodies i.2)
                (stand c.loop-cell.cell c.loop-cell.walk) s.words s.changed i.0 (kind_number a.kind) a.rule (label_number a.label) asks room h),
          ),
        ),
      ),
    )

pub loop-cell-preserved : goal.loop-cell-preserved
loop-cell-preserved g c =
    let q = c.args.self.now in
    let a = c.args.asked in
    let s = c.loop-cell.staged in
    let i = c.loop-cell.invariant in
    let y = c.take_cell-walk.ensures in
    let asks = c.requires.asks.asks c.loop-cell.cell c.loop-cell.auto.cell c.loop-cell-test.true in
    let turn = cell_turn q.memory.now c.loop-cell.bodies (words_lent q) q.held.now q.used.now (ranges_lent q) (q.able c.loop-cell.bodies i.2)
    (stand c.loop-cell.cell c.loop-cell.walk) s.words s.changed i.0 (kind_number a.kind) a.rule (label_number a.label) asks c.args.budget
    (stand (c.loop-cell.cell + 1) c.take_cell-walk.result) c.take_cell-walk.new.bodies c.take_cell-walk.new.staged.words c.take_cell-walk.new.staged.changed
    (rw (← i.2) at y.next) (rw (← i.2) at y.bytes) (rw (← i.2) at y.staged) in
    let long = copied_length q.memory.now (words_lent q) (ranges_lent q) c.args.budget (stand c.loop-cell.cell c.loop-cell.walk)
    (stand (c.loop-cell.cell + 1) c.take_cell-walk.result) c.loop-cell.bodies c.take_cell-walk.new.bodies turn.1 in (
      same_stands q.memory.now c.loop-cell.bodies (words_lent q) (ranges_lent q) c.take_cell-walk.new.bodies long (stand (c.loop-cell.cell + 1) c.take_cell-walk.result) _ _ turn.0,
      copied_join q.memory.now (words_lent q) (ranges_lent q) c.args.budget (stand c.args.at c.args.walk) (stand c.loop-cell.cell c.loop-cell.walk)
          (stand (c.loop-cell.cell + 1) c.take_cell-walk.result) c.args.bodies.now c.loop-cell.bodies c.take_cell-walk.new.bodies i.1 turn.1,
      long ∙ i.2,
    )
