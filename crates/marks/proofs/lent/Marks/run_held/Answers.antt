-- `marks::lent::Marks::run_held` meets its contract. Assumes nothing.
use mathlib.Core.Path.{ap, ◌∙◌}
use Prim.Native.Nat.{ℕ, ◌+◌}
use mathlib.Core.List.{List}
use lib.Bits.{bit_and}
use Rattle.marks.specs.Blocks.{place_of, packed}
use Rattle.marks.proofs.Blocks.{part_fits, part_mark, held_bytes}
use Rattle.marks.proofs.lent.Marks.run_held.Goals as goal

pub eight_bytes-requires : goal.eight_bytes-requires
eight_bytes-requires c =
    let marks = c.args.self.now in
    rw c.place_of.ensures (part_fits marks.directory.seen.now marks.kept c.args.cell 8 c.requires.0 c.requires.1).0

pub returns : goal.returns
returns c =
    let a = c.args in
    let s : List ℕ = a.self.now.directory.seen.now in
    let at : ℕ = place_of s a.cell in
    λ mask small q.
    ap (λ (x : ℕ). bit_and x a.masks) (rw c.place_of.ensures at c.eight_bytes.ensures.number)
    ∙ ap (bit_and (packed s at 8)) q
    ∙ held_bytes s mask small s at a.cell 8 (part_mark s a.cell 8 c.requires.0 c.requires.1) (λ j b. c.eight_bytes.ensures.bytes (at + j))
