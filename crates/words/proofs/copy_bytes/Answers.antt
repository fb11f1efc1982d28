-- `words::copy_bytes` meets its contract: a budget that suffices makes all 64 stores. Assumes nothing.
use mathlib.Core.Path.{◌≡◌, ◌∙◌}
use Prim.Native.Nat.{min}
use native.Mathlib.Omega.{arith}
use Rattle.words.proofs.Plans.{take_min, length_copy_plan}
use Rattle.words.proofs.copy_bytes.Goals as goal

pub returns-then-budget-ge-CELL_SIZE : goal.returns-then-budget-ge-CELL_SIZE
returns-then-budget-ge-CELL_SIZE c =
    let e : 64 ≡ min c.args.budget 64 = omega arith in
    c.copy_whole.ensures ∙ rw (e, take_min _ 64 _ (length_copy_plan _))
