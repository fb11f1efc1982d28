use Rattle.std.proofs.Common.{arith}
use Rattle.search.proofs.Keys.{none_beyond}
use Rattle.search.proofs.entries.key_in.Goals as goal

pub returns-then-depth-cell : goal.returns-then-depth-cell
returns-then-depth-cell c e = none_beyond e c.args.words.now c.args.depth c.args.cell (λ k. omega (arith, c.type_inv.words k)) c.if-depth-cell.true
