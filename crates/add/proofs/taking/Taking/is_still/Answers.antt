use Rattle.std.proofs.Common.{◌+◌, sym, ◌∙◌, arith}
use borrow.Author.Tests.{not-true, not-false}
use Rattle.words.proofs.Scan.{all_not, all_make}
use Rattle.add.specs.Walking.{lacks}
use Rattle.add.proofs.Lending.{deep, readable}
use Rattle.add.proofs.taking.Taking.is_still.Goals as goal

pub is_lacking-requires : goal.is_lacking-requires
is_lacking-requires c =
    let q = c.args.self.now in
    (omega (arith, c.requires.1, c.loop-j-test.true, readable _ _ _ _ _ _ q.able), omega (arith, c.requires.0, deep _ _ _ _ _ _ q.able))

pub returns-then-not-is_lacking : goal.returns-then-not-is_lacking
returns-then-not-is_lacking c =
    rw (sym c.is_writable.ensures ∙ not-false _ c.if-not-is_writable.false-raw)
    (sym (all_not _ _ c.loop-j.j c.loop-j-test.true (sym c.is_lacking.ensures ∙ not-true _ c.if-not-is_lacking.true-raw)))

pub returns : goal.returns
returns c =
    let q = c.args.self.now in
    let r = c.args.range.now in
    rw (sym c.is_writable.ensures ∙ not-false _ c.if-not-is_writable.false-raw)
    (sym (all_make r.count (λ j. lacks q.held.now c.args.depth (r.first + j)) (λ i l. c.loop-j.invariant i (omega arith))))
