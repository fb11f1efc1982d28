use Rattle.std.proofs.Common.{◌+◌, sym, ◌∙◌, arith}
use borrow.Author.Count.{below_more}
use borrow.Author.Tests.{not-true, not-false}
use Rattle.words.proofs.Scan.{all_not, all_make}
use Rattle.add.specs.Walking.{follows}
use Rattle.add.specs.Asked.{newly}
use Rattle.add.proofs.asked.Asking.range_follows.Goals as goal

pub returns-then-not-cell_follows : goal.returns-then-not-cell_follows
returns-then-not-cell_follows c = sym (all_not _ _ c.loop-j.j c.loop-j-test.true (sym c.cell_follows.ensures ∙ not-true _ c.if-not-cell_follows.true-raw))

pub loop-j-preserved : goal.loop-j-preserved
loop-j-preserved c = below_more _ _ c.loop-j.invariant (sym c.cell_follows.ensures ∙ not-false _ c.if-not-cell_follows.false-raw)

pub returns : goal.returns
returns c =
    let q = c.args.self.now in
    let p = c.args.part.now in
    sym (all_make p.range.count (λ x. follows q.memory.now c.args.bytes.now (newly q p.seen.now) (p.range.first + x)) (λ i l. c.loop-j.invariant i (omega arith)))
