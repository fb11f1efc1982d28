use Prim.Native.Nat.{◌+◌, ◌*◌, ◌<◌}
use native.Mathlib.Omega.{arith}
use lib.ListN.{length}
use mathlib.Core.Path.{refl}
use Rattle.changes.proofs.Staging.{group_start, gather_kept, gather_put, stages_to}
use Rattle.changes.proofs.staged.Staged.stage_group.Goals as goal
use Rattle.changes.proofs.staged.Staged.stage_group.Goals.{in-Some, in_default}

pub loop-i-init : goal.loop-i-init
loop-i-init g c = λ f says stages. group_start c.args.k stages refl (omega arith)

pub loop-i-preserved : goal.loop-i-preserved
loop-i-preserved g c = λ f says stages.
    let so = c.loop-i.invariant f says stages in
    let i = c.loop-i.i in
    let room : 2 * i + 1 < length c.loop-i.self.words = omega arith in
    elim c.match-change.branch [
      | in-Some w ↦ rw (w.self-is, w.bits-is, w.stage_words.ensures) (gather_put w.in-Some.first w.in-Some.second so (says i (omega arith) _ w.in-Some.ensures) (omega arith) room)
      | in_default w ↦ rw (w.self-is, w.bits-is) (gather_kept so (says i (omega arith) _ w.in_default.ensures))
    ]

pub returns : goal.returns
returns g c = λ f says stages. stages_to _ (c.loop-i.invariant f says stages).stages (omega arith)
