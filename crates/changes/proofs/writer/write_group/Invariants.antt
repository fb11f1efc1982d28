use Prim.Native.Nat.{◌*◌}
use lib.ListN.{get_or}
use Rattle.changes.proofs.Groups.{Begun}
use Rattle.changes.proofs.writer.write_group.Given as goal

abbrev pub invariant-loop-rest : goal.invariant-loop-rest
invariant-loop-rest l = Begun l.slots (64 * l.k) (get_or l.staged.changed.now l.k 0) l.staged.words.now l.at l.budget l.initial.table l.table l.n l.rest

abbrev pub decreases-loop-rest : goal.decreases-loop-rest
decreases-loop-rest l = l.rest
