-- `keep_entry` meets its contract. Assumes nothing.
use Rattle.std.proofs.Common.{sym, ◌∙◌, arith}
use Rattle.marks.proofs.Blocks.{kept_cells}
use Rattle.search.proofs.TakenOut.{keeps_same, keeps_stored}
use Rattle.search.proofs.writable.keep_entry.Goals as goal

pub returns-then-depth_of-depth : goal.returns-then-depth_of-depth
returns-then-depth_of-depth c = (keeps_same c.args.depth c.args.word c.args.seen.now (λ z. c.if-depth_of-depth.true (c.depth_of.ensures ∙ z)), c.requires.1)

pub mark_of-mark-requires : goal.mark_of-mark-requires
mark_of-mark-requires c = rw (kept_cells c.args.seen.now c.requires.1) (omega (arith, c.cell_of-cell.ensures))

pub returns : goal.returns
returns c = let w = c.args.word in let s = c.args.seen.now in
    rw (c.change_mark.ensures, c.cell_of-cell.ensures) (keeps_stored c.args.depth w s c.requires.1 (c.requires.3 (sym c.depth_of.ensures ∙ c.if-depth_of-depth.false)) _ (rw (c.taken_bit.ensures, c.mark_of-mark.ensures, c.cell_of-cell.ensures)))
