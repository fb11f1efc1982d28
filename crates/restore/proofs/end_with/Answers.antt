-- `end_with` meets its contract: what is staged is restore's own change, and the writer stores it by the journal. Assumes nothing.
use native.Mathlib.Omega.{arith}
use borrow.Author.Rules.{rules}
use Rattle.changes.specs.Staged.{Stages}
use Rattle.changes.proofs.Staging.{stages_inside, stages_words}
use Rattle.restore.specs.Restore.{restore_change}
use Rattle.restore.proofs.Writing.{free_kept}
use Rattle.restore.proofs.end_with.Given.{Over}
use Rattle.restore.proofs.end_with.Goals.{After-stage_below}
use Rattle.restore.proofs.end_with.Goals as goal

all_staged : (g : Over) (c : After-stage_below g)
    → Stages c.args.slots (restore_change c.args.slots c.args.table.now c.args.depth) c.stage_below.new.self.words c.stage_below.new.self.changed
all_staged g c =
    let a = c.args in
    let f = restore_change a.slots a.table.now a.depth in
    c.stage_below.ensures f a.slots (omega arith)
    (record {
      each = λ i l r given. search rules;
      left_out = λ from end l le given i low high. search rules;
      behind = λ i low l. free_kept a.slots a.table.now a.depth i (c.requires.sizes.2.1 i low l).0;
    })
    (c.none-staged.ensures f)

pub write_staged-requires : goal.write_staged-requires
write_staged-requires g c = record { small = (c.requires.sizes.0, c.requires.sizes.1); inside = rw c.lent.ensures.1 (stages_inside (all_staged g (goal.at.write_staged-requires g c).After-stage_below)) }

pub returns : goal.returns
returns g c = rw (c.lent.ensures.0, c.lent.ensures.1, stages_words c.head_where_end.ensures (all_staged g (goal.at.returns g c).After-stage_below)) at c.write_staged.ensures
