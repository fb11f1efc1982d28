-- `marks::with_depth` meets its contract. Assumes nothing.
use native.Mathlib.Omega.{arith}
use Rattle.marks.proofs.Digits.{bit_small, depth_fits}
use Rattle.marks.proofs.with_depth.Goals as goal

pub overflow_add-result : goal.overflow_add-result
overflow_add-result c = record { fits = omega (arith, bit_small c.args.depth c.requires.0, depth_fits c.args.depth c.args.mark c.requires.0 (omega arith) c.requires.1) }
