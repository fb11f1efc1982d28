use Rattle.std.proofs.Common.{ℕ, List, sym, ap, ◌∙◌, arith}
use borrow.Author.Tests.{not-false}
use Rattle.words.specs.Cells.{cell_bytes, same_cell}
use Rattle.words.proofs.Cells.{first_cell}
use Rattle.store.proofs.Checks.{store_lengths}
use Rattle.add.proofs.asked.Asking.cell_follows.Goals as goal

pub is_new-requires : goal.is_new-requires
is_new-requires c = let f = store_lengths _ _ _ c.args.self.now.store in omega (arith, f.cells_high)

pub same_cell-requires : goal.same_cell-requires
same_cell-requires c = let f = store_lengths _ _ _ c.args.self.now.store in (omega (arith, c.requires.0), omega (arith, c.requires.1, f.memory_exact))

pub returns : goal.returns
returns c =
    c.same_cell.ensures
    ∙ rw (sym c.is_new.ensures ∙ not-false _ c.if-not-is_new.false-raw)
    (ap (λ (v : List ℕ). same_cell v (cell_bytes c.args.self.now.memory.now c.args.cell)) (first_cell c.args.bytes.now c.requires.0))
