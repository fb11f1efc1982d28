-- `table::passes::has_parent` meets its contract. Assumes nothing.
use Rattle.marks.proofs.Digits.{parent_digit}
use Rattle.table.proofs.passes.has_parent.Goals as goal

pub returns : goal.returns
returns c = parent_digit c.args.depth c.args.mark
