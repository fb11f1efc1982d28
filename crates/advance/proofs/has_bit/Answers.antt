-- `advance::has_bit` meets its contract. Assumes nothing.
use Prim.Native.Nat.{ℕ, ◌/◌, ◌%◌, ◌^◌}
use mathlib.Core.Path.{◌≡◌, sym, ap, ◌∙◌}
use native.Mathlib.Omega.{arith}
use lib.Dec.{eqb}
use Rattle.words.specs.Layout.{group_of}
use Rattle.marks.specs.Blocks.{block_of}
use Rattle.advance.proofs.Blocks.{by_at, block_fits}
use Rattle.advance.proofs.has_bit.Goals as goal

pub bounds-bits-b : goal.bounds-bits-b
bounds-bits-b c =
    let a = c.args in
    let p = c.requires in
    let q : c.block_of-b.result ≡ block_of a.seen.now (group_of a.cell) = c.block_of-b.ensures.0 ∙ ap (block_of a.seen.now) c.group_of.ensures in
    omega (arith, q, block_fits a.seen.now p.0.kept a.bits.now p.0.room (group_of a.cell) (omega (arith, p.1)))

pub returns : goal.returns
returns c =
    let a = c.args in
    let p = c.requires in
    let q : c.block_of-b.result ≡ block_of a.seen.now (group_of a.cell) = c.block_of-b.ensures.0 ∙ ap (block_of a.seen.now) c.group_of.ensures in
    rw q (sym (ap (λ (x : ℕ). eqb (x / 2 ^ (a.cell % 64) % 2) 1) (by_at a.seen.now a.bits.now (group_of a.cell) (omega (arith, p.1)))))
