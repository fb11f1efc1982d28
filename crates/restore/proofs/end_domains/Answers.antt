-- `end_domains` meets its contract. Assumes nothing.
use Rattle.restore.proofs.Writing.{unfinished, finished}
use Rattle.restore.proofs.end_domains.Goals as goal

pub returns-then-live-depth : goal.returns-then-live-depth
returns-then-live-depth c = unfinished c.args.table.now c.args.depth c.args.budget c.if-live-depth.true

pub returns-then-top-le-FEW_SLOTS : goal.returns-then-top-le-FEW_SLOTS
returns-then-top-le-FEW_SLOTS c = finished c.args.table.now c.args.depth _ _ _ _ c.if-live-depth.false c.slots_of-slots.ensures c.end_with.ensures

pub returns-else-top-le-FEW_SLOTS : goal.returns-else-top-le-FEW_SLOTS
returns-else-top-le-FEW_SLOTS c = finished c.args.table.now c.args.depth _ _ _ _ c.if-live-depth.false c.slots_of-slots.ensures c.end_with-else-top-le-FEW_SLOTS.ensures
