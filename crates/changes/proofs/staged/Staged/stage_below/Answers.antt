use Prim.Native.Nat.{◌*◌}
use native.Mathlib.Omega.{arith}
use Rattle.changes.proofs.Staging.{stages_to, stages_skip}
use Rattle.changes.proofs.staged.Staged.stage_below.Goals as goal
use Rattle.changes.proofs.staged.Staged.stage_below.Goals.{then-not-all_stay, else-not-all_stay}

pub loop-k-preserved : goal.loop-k-preserved
loop-k-preserved g c =
    λ f e told stages.
    let so = c.loop-k.invariant f e told stages in
    let k = c.loop-k.k in
    elim c.if-not-all_stay.branch [
      | then-not-all_stay w ↦ rw w.self-is (stages_to _ (w.stage_group.ensures f (λ i l. told.each i (omega arith)) (stages_to (64 * k) so (omega arith))) (omega arith))
      | else-not-all_stay w ↦
          rw w.self-is
          (stages_skip _ so (omega arith) (λ i low high. told.left_out (64 * k) c.min-end.result (omega arith) (omega arith) w.if-not-all_stay.ensures i (omega arith) (omega arith)))
    ]

pub returns : goal.returns
returns g c = λ f e le told stages. stages_skip e (c.loop-k.invariant f e told stages) (omega arith) (λ i low l. told.behind i (omega arith) l)
