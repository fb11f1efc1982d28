-- `words::copy_whole` meets its contract: four quarters, one after another. Assumes nothing.
use mathlib.Core.Path.{refl}
use Rattle.words.proofs.copy_whole.Goals as goal

pub returns : goal.returns
returns c = c.copy_quarter-4.ensures _ (c.copy_quarter-3.ensures _ (c.copy_quarter-2.ensures _ (c.copy_quarter.ensures _ refl)))
