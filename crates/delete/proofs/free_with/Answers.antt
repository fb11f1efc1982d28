-- `delete::free_with` meets its contract: what is staged is delete's own change, and the writer stores it by the journal. Assumes nothing.
use native.Mathlib.Omega.{arith}
use borrow.Author.Rules.{rules}
use Rattle.changes.specs.Staged.{Stages}
use Rattle.changes.proofs.Staging.{stages_inside, stages_words}
use Rattle.delete.specs.Delete.{delete_change}
use Rattle.delete.proofs.Deleting.{free_kept}
use Rattle.delete.proofs.free_with.Given.{Over}
use Rattle.delete.proofs.free_with.Goals.{After-none}
use Rattle.delete.proofs.free_with.Goals as goal

all_staged : (g : Over) (c : After-none g)
    → Stages c.args.slots (delete_change c.args.slots c.args.table.now c.args.cells.depth c.args.cells.first c.args.cells.count) c.stage_below.new.self.words c.stage_below.new.self.changed
all_staged g c =
    let a = c.args in
    let f = delete_change a.slots a.table.now a.cells.depth a.cells.first a.cells.count in
    c.stage_below.ensures f a.slots (omega arith)
    (record {
      each = λ i l r given. search rules;
      left_out = λ from end l le given i low high. search rules;
      behind = λ i low l. free_kept a.slots a.table.now a.cells.depth a.cells.first a.cells.count i a.cells.lives.0 (c.requires.ends.1 i low l).0;
    })
    (c.none-staged.ensures f)

pub write_staged-requires : goal.write_staged-requires
write_staged-requires g c = record { small = (c.requires.small.0, c.requires.small.1); inside = rw c.lent.ensures.1 (stages_inside (all_staged g (goal.at.write_staged-requires g c).After-none)) }

pub returns : goal.returns
returns g c = rw (c.lent.ensures.0, c.lent.ensures.1, stages_words c.none.ensures.stored (all_staged g (goal.at.returns g c).After-none)) at c.write_staged.ensures
