-- `taken_bit` meets its contract. Assumes nothing.
use Rattle.std.proofs.Common.{◌≡◌, ◌*◌, ◌/◌, ◌%◌, ◌^◌, arith}
use Rattle.marks.proofs.Digits.{bit_small}
use Rattle.search.proofs.TakenOut.{taken_bit}
use Rattle.search.proofs.writable.taken_bit.Goals as goal

pub returns : goal.returns
returns c =
    let a = c.args in
    let bit : 1 * 2 ^ a.depth % 4_294_967_296 / 2 ≡ 2 ^ a.depth / 2 = omega (arith, bit_small a.depth c.requires.0) in
    rw (bit, c.writable_of.ensures) (taken_bit a.depth a.word c.requires.1)
