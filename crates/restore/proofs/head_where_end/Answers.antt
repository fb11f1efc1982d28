use native.Mathlib.Omega.{arith}
use Rattle.restore.proofs.Writing.{head_turn}
use Rattle.restore.proofs.head_where_end.Goals as goal

pub loop-k-preserved : goal.loop-k-preserved
loop-k-preserved c = (omega arith, head_turn c.args.depth c.loop-k.k _ _ _ (omega arith) c.handle_at.ensures c.loop-k.invariant.1 c.with-head-in-loop-k.ensures.stored)
