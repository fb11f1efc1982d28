-- `advance::rank_of` meets its contract. Assumes nothing.
use Prim.Native.Nat.{◌<◌, ◌^◌}
use mathlib.Core.Path.{◌≡◌, ap, ◌∙◌}
use native.Mathlib.Omega.{arith}
use lib.ListN.{get_or}
use Rattle.words.specs.Layout.{group_of}
use Rattle.marks.specs.Blocks.{block_of, max_groups}
use Rattle.advance.specs.Notes.{by_group}
use Rattle.advance.proofs.Bits.{rank_fits}
use Rattle.advance.proofs.Blocks.{bit_cell, block_fits, rank_noted}
use Rattle.advance.proofs.rank_of.Goals as goal

pub block_of-b-requires : goal.block_of-b-requires
block_of-b-requires c = omega (arith, c.group_of.ensures, bit_cell c.args.seen.now c.args.bits.now c.args.cell c.requires.here)

pub bounds-ends-b : goal.bounds-ends-b
bounds-ends-b c = let a = c.args in
    let l : c.group_of.result < max_groups = omega (arith, c.group_of.ensures, bit_cell a.seen.now a.bits.now a.cell c.requires.here) in
    omega (arith, block_fits a.seen.now c.requires.sized.0.kept a.bits.now c.requires.sized.0.room c.group_of.result l, c.block_of-b.ensures.0, c.requires.sized.1)

pub overflow_cast-result : goal.overflow_cast-result
overflow_cast-result c = omega (arith, c.type_inv.ends c.block_of-b.result)

pub bounds-bits-b : goal.bounds-bits-b
bounds-bits-b c = let a = c.args in
    let l : c.group_of.result < max_groups = omega (arith, c.group_of.ensures, bit_cell a.seen.now a.bits.now a.cell c.requires.here) in
    omega (arith, block_fits a.seen.now c.requires.sized.0.kept a.bits.now c.requires.sized.0.room c.group_of.result l, c.block_of-b.ensures.0)

pub overflow_sub-result : goal.overflow_sub-result
overflow_sub-result c = let a = c.args in
    let q : c.block_of-b.result ≡ block_of a.seen.now (group_of a.cell) = c.block_of-b.ensures.0 ∙ ap (block_of a.seen.now) c.group_of.ensures in
    let small : get_or a.bits.now (block_of a.seen.now (group_of a.cell)) 0 < 2 ^ 64 = omega (arith, rw q at (c.type_inv.bits c.block_of-b.result)) in
    rw q (omega (arith, rank_noted a.seen.now a.bits.now c.requires.sized.0 a.ends.now a.cell small c.requires.noted c.requires.here))

pub returns : goal.returns
returns c = let a = c.args in
    let q : c.block_of-b.result ≡ block_of a.seen.now (group_of a.cell) = c.block_of-b.ensures.0 ∙ ap (block_of a.seen.now) c.group_of.ensures in
    let small : get_or a.bits.now (block_of a.seen.now (group_of a.cell)) 0 < 2 ^ 64 = omega (arith, rw q at (c.type_inv.bits c.block_of-b.result)) in
    let rank = rank_noted a.seen.now a.bits.now c.requires.sized.0 a.ends.now a.cell small c.requires.noted c.requires.here in
    let fits = rank_fits (by_group a.seen.now a.bits.now) 65536 a.cell (bit_cell a.seen.now a.bits.now a.cell c.requires.here) c.requires.here in
    rw q (omega (arith, rank), omega (arith, rank, fits))
