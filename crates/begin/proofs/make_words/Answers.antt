-- `begin::make_words` meets its contract. Assumes nothing.
use native.Mathlib.Omega.{arith}
use Rattle.store.proofs.Making.{make_turn, make_stopped, make_ended}
use Rattle.begin.proofs.make_words.Goals as goal

pub loop-i-preserved : goal.loop-i-preserved
loop-i-preserved c = rw c.fresh_word.ensures (make_turn c.args.cells c.args.slots c.args.bodies _ c.loop-i.i _ (omega arith) (omega arith) c.loop-i.invariant)

pub returns-then-end-budget : goal.returns-then-end-budget
returns-then-end-budget c = make_ended c.args.cells c.args.slots c.args.bodies c.args.budget c.loop-i.i c.args.table.now _ (omega arith) (omega arith) c.loop-i.invariant

pub returns-else-end-budget : goal.returns-else-end-budget
returns-else-end-budget c = make_stopped c.args.cells c.args.slots c.args.bodies c.args.budget c.min-i-end.result c.loop-i.i c.args.table.now _ (omega arith) (omega arith) (omega arith) (omega arith) c.loop-i.invariant
