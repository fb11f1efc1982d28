-- `inwards_of` meets its contract: the mask fits a byte. Assumes nothing.
use Prim.Native.Nat.{◌^◌, ◌≤◌}
use native.Mathlib.Omega.{arith}
use lib.Pow.{pow_mono}
use Rattle.marks.proofs.Digits.{bit_small}
use Rattle.restore.proofs.holdings.inwards_of.Goals as goal

pub overflow_cast-result : goal.overflow_cast-result
overflow_cast-result c =
    let low : 2 ^ 1 ≤ 2 ^ c.args.depth = pow_mono c.requires.0 in
    record { fits = omega (arith, bit_small c.args.depth c.requires.1) }
