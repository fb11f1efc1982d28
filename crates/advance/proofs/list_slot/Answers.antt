-- `advance::list_slot` meets its contract. Assumes nothing.
use mathlib.Core.Path.{sym, ap, ◌∙◌}
use borrow.Author.Tests.{not-true, not-false}
use lib.Dec.{eqb}
use Rattle.words.proofs.Scan.{and_split}
use Rattle.table.specs.Entry.{depth_of, cell_of}
use Rattle.advance.specs.Advance.{turns}
use Rattle.advance.specs.Notes.{has_bit, list_slot}
use Rattle.advance.proofs.list_slot.Goals as goal

pub turns-requires : goal.turns-requires
turns-requires c = c.requires.sized.0

pub returns-then-not-turns : goal.returns-then-not-turns
unfolding list_slot
returns-then-not-turns c =
    let a = c.args in
    let told = c.turns.ensures ∙ ap (turns a.live (has_bit a.seen.now a.bits.now)) c.first_word-word.ensures in
    rw (sym told ∙ not-true _ c.if-not-turns.true-raw)

pub rank_of-requires : goal.rank_of-requires
rank_of-requires c =
    let a = c.args in
    let w = c.first_word-word.result in
    let goes = sym c.turns.ensures ∙ not-false _ c.if-not-turns.false-raw in
    record { sized = c.requires.sized; noted = c.requires.noted; here = ap (has_bit a.seen.now a.bits.now) c.cell_of.ensures ∙ (and_split (eqb (depth_of w) a.live) (has_bit a.seen.now a.bits.now (cell_of w)) goes).1 }

pub returns : goal.returns
unfolding list_slot
returns c =
    let a = c.args in
    let told = c.turns.ensures ∙ ap (turns a.live (has_bit a.seen.now a.bits.now)) c.first_word-word.ensures in
    rw (sym told ∙ not-false _ c.if-not-turns.false-raw, c.rank_of.ensures.0, c.cell_of.ensures, c.first_word-word.ensures)
