-- `table::passes::parents_ok` meets its contract. Assumes nothing.
use mathlib.Core.Path.{sym}
use Rattle.table.proofs.Passing.{told_none}
use Rattle.table.proofs.passes.parents_ok.Goals as goal

pub returns-then-vias-eq0 : goal.returns-then-vias-eq0
returns-then-vias-eq0 c = sym (told_none c.args.table.now.slots c.args.table.now.words.now c.args.vias c.args.seen.now c.requires.2 c.if-vias-eq0.true)
