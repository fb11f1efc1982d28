use native.Mathlib.Omega.{arith}
use Rattle.changes.proofs.Writing.{words_turn}
use Rattle.changes.proofs.writer.write_head.Goals as goal

pub loop-j-preserved : goal.loop-j-preserved
loop-j-preserved c =
    words_turn _ c.args.at c.args.budget c.loop-j.j c.args.table.now c.loop-j.table _ (omega arith) c.loop-j.invariant (rw c.saturating_sub.ensures at c.write_pair.ensures)
