-- `commit::end_with` meets its contract: what is staged is commit's own change, and the writer stores it by the journal. Assumes nothing.
use native.Mathlib.Omega.{arith}
use borrow.Author.Rules.{rules}
use Rattle.changes.specs.Staged.{Stages}
use Rattle.changes.proofs.Staging.{stages_inside, stages_words}
use Rattle.commit.specs.Commit.{commit_change}
use Rattle.commit.proofs.Deciding.{change_free}
use Rattle.commit.proofs.end_with.Given.{Over}
use Rattle.commit.proofs.end_with.Goals.{After-commit_head}
use Rattle.commit.proofs.end_with.Goals as goal

all_staged : (g : Over) (c : After-commit_head g)
    → Stages c.args.slots (commit_change c.args.slots c.args.table.now c.args.innermost.depth) c.stage_below.new.self.words c.stage_below.new.self.changed
all_staged g c =
    let a = c.args in
    let f = commit_change a.slots a.table.now a.innermost.depth in
    c.stage_below.ensures f a.slots (omega arith)
    (record {
      each = λ i l r given. search rules;
      left_out = λ from end l le given i low high. search rules;
      behind = λ i low l. change_free a.slots a.table.now a.innermost.depth i a.innermost.lives.0 (c.requires.ends.1 i low l).0;
    })
    (c.none-staged.ensures f)

pub write_staged-requires : goal.write_staged-requires
write_staged-requires g c = record { small = (c.requires.small.0, c.requires.small.1); inside = rw c.lent.ensures.1 (stages_inside (all_staged g (goal.at.write_staged-requires g c).After-commit_head)) }

pub returns : goal.returns
returns g c = rw (c.lent.ensures.0, c.lent.ensures.1, stages_words c.commit_head.ensures (all_staged g (goal.at.returns g c).After-commit_head)) at c.write_staged.ensures
