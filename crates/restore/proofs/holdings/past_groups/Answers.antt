-- `past_groups` meets its contract: groups without a block have no marks. Assumes nothing.
use Rattle.restore.proofs.Marking.{unheld_blank}
use Rattle.restore.proofs.holdings.past_groups.Goals as goal

pub returns : goal.returns
returns c =
    let a = c.args in
    λ mask. rw c.min.ensures (unheld_blank mask a.marks.now.directory.seen.now a.from a.runs c.past_blank-g.result a.marks.now.kept c.requires.0 c.if-from-ne0.false c.past_blank-g.ensures.0 c.past_blank-g.ensures.2)
