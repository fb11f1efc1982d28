-- `put_cell` meets its contract: the stores in the cell's part of memory are those of its plan in the whole. Assumes nothing.
use Rattle.restore.proofs.Finding.{put_bytes}
use Rattle.restore.proofs.holdings.put_cell.Goals as goal

pub returns : goal.returns
returns c = put_bytes c.args.bytes.now c.args.memory.now _ c.args.cell _ c.args.budget c.requires.0 c.cell_at-at.ensures c.copy_bytes.ensures
