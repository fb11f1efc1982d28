use Rattle.std.proofs.Common.{sym, ◌∙◌, arith}
use borrow.Author.Count.{below_more}
use borrow.Author.Tests.{not-false}
use Rattle.add.proofs.Lending.{small}
use Rattle.add.proofs.Still.{none_still}
use Rattle.add.proofs.taking.Taking.none_rises.Goals as goal

pub is_still-requires : goal.is_still-requires
is_still-requires c =
    let q = c.args.self.now in
    let w = q.list.within c.loop-range.range-index c.loop-range-test.true in
    (c.requires, omega (arith, w, q.cells, small _ _ _ _ _ _ q.able))

pub loop-range-preserved : goal.loop-range-preserved
loop-range-preserved c = below_more _ _ c.loop-range.invariant (sym c.is_still.ensures ∙ not-false _ c.if-not-is_still.false-raw)

pub returns : goal.returns
returns c = λ _. none_still c.args.self.now.held.now c.args.depth c.args.self.now.list.ranges.now (λ i l. c.loop-range.invariant i (omega arith))
