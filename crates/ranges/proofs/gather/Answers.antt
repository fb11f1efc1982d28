use Rattle.std.proofs.Common.{◌+◌, sym, ap, ◌∙◌, drop, List, arith}
use Rattle.ranges.specs.declared.Range.{Range}
use Rattle.ranges.specs.Batch.{gathered}
use Rattle.ranges.proofs.Gathered.{gathered_next, gathered_end}
use Rattle.ranges.proofs.gather.Goals as goal

pub loop-range-preserved : goal.loop-range-preserved
loop-range-preserved c =
    ap (λ (b : List Range). gathered b (drop (c.loop-range.range-index + 1) c.args.ranges.now)) c.keep-batch.ensures
    ∙ sym (gathered_next _ c.args.ranges.now c.loop-range.range-index c.loop-range-test.true)
    ∙ c.loop-range.invariant

pub returns : goal.returns
returns c = sym (gathered_end _ c.args.ranges.now c.loop-range.range-index (omega arith)) ∙ c.loop-range.invariant
