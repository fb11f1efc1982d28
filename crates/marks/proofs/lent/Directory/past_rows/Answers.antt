use native.Mathlib.Omega.{arith}
use mathlib.Core.Path.{refl}
use Prim.Native.Nat.{◌+◌, ◌*◌}
use Rattle.marks.proofs.Blocks.{row_blank}
use Rattle.marks.proofs.lent.Directory.past_rows.Goals as goal

pub loop-g-preserved : goal.loop-g-preserved
loop-g-preserved c = let s = c.loop-g in let a = c.args in
    (omega (arith, s.invariant.0), omega arith, row_blank a.self.now.seen.now (2 + 2 * s.g) _ s.g a.from refl (omega arith) (c.any_byte.ensures c.if-any_byte.false) s.invariant.2)
