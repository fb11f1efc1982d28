use mathlib.Core.Path.{refl}
use Rattle.table.specs.Marks.{zeros}
use Rattle.changes.proofs.Staging.{stages_start}
use Rattle.changes.proofs.staged.Staged.none.Goals as goal

pub returns : goal.returns
unfolding zeros
returns g c = λ f. stages_start g.row.BITS refl
