use Prim.Native.Nat.{◌%◌}
use native.Mathlib.Omega.{arith}
use Rattle.changes.proofs.Bits.{bit_shifted}
use Rattle.changes.proofs.Staging.{entry_marked}
use Rattle.changes.proofs.staged.stage_entry.Goals as goal

pub returns : goal.returns
returns c =
    let a = c.args in
    rw (c.stage_words.ensures, bit_shifted _ (a.i % 64) (omega arith)) (entry_marked a.words.now a.changed.now a.i a.first a.second c.requires.0 c.requires.1)
