-- `delete::check_with` meets its contract, question by question (proofs/Asked.antt). Assumes nothing.
use Prim.Native.Nat.{ℕ}
use mathlib.Core.Path.{sym, ◌∙◌}
use native.Mathlib.Omega.{arith}
use lib.ListN.{length-replicate}
use Rattle.marks.proofs.Blocks.{blank_zeros, kept_cells}
use Rattle.table.specs.Marks.{zeros}
use Rattle.store.proofs.Checks.{store_lengths}
use Rattle.delete.proofs.Asked.{refused_4, refused_5, refused_8, says_13, says_14, says_0}
use Rattle.delete.proofs.check_with.Goals as goal

pub store_check-requires : goal.store_check-requires
unfolding zeros
store_check-requires g c = record {
  room = rw length-replicate c.requires.room.1;
  bodies = length-replicate {A = ℕ} 4096 0;
  no_cells = blank_zeros g.row.BYTES;
  no_bodies = blank_zeros 4096;
  reached = c.requires.reached;
}

pub returns-in_err-sound-clause-no : goal.returns-in_err-sound-clause-no
returns-in_err-sound-clause-no g c = let a = c.args in
    refused_4 a.memory a.bodies a.table.now a.handle a.first a.count _ _ c.from_residual.ensures.1 c.in_err-sound.ensures.no

pub returns-in_err-depth-clause-no : goal.returns-in_err-depth-clause-no
returns-in_err-depth-clause-no g c = let a = c.args in
    refused_5 a.memory a.bodies a.table.now a.handle a.first a.count _ _ c.from_residual-in_err-depth.ensures.1 c.in_ok-sound.ensures.no c.in_err-depth.ensures.no

pub returns-in_err-range_check-clause-no : goal.returns-in_err-range_check-clause-no
returns-in_err-range_check-clause-no g c = let a = c.args in
    let low = c.in_ok-depth.ensures.depth in
    refused_8 a.memory a.bodies a.table.now a.handle a.first a.count _ _ c.from_residual-in_err-range_check.ensures.1 c.in_ok-sound.ensures.no (omega (arith, low.0, low.1)) (rw c.cells_of.ensures at c.in_err-range_check.ensures.no)

pub invariant_of-cells : goal.invariant_of-cells
invariant_of-cells g c =
    let f = store_lengths c.args.memory c.args.bodies c.args.table.now (sym c.in_ok-sound.ensures.no) in
    let few = rw c.in_ok-sound.ensures.sound.words at c.in_ok-sound.sound.domains in
    let d = c.in_ok-depth.ensures.depth in
    let within = c.in_ok-range_check.ensures.within in
    record { lives = (omega (arith, d.1), omega (arith, d.2, few)); inside = omega (arith, f.cells_high, c.cells_of.ensures, within.1) }

pub all_held-requires : goal.all_held-requires
all_held-requires g c = omega (arith, kept_cells c.store_check.new.seen c.in_ok-sound.ensures.marks.kept)

pub returns-then-not-all_held-clause-no : goal.returns-then-not-all_held-clause-no
returns-then-not-all_held-clause-no g c = let a = c.args in
    let d = c.in_ok-depth.ensures.depth in
    says_13 a.memory a.bodies a.table.now a.handle a.first a.count _ c.in_ok-sound.ensures.no d.0 d.1 (rw c.cells_of.ensures at c.in_ok-range_check.ensures.no) _ c.in_ok-sound.ensures.marks.cells (sym c.all_held.ensures ∙ c.if-not-all_held.true)

pub returns-then-not-none_via-clause-no : goal.returns-then-not-none_via-clause-no
returns-then-not-none_via-clause-no g c = let a = c.args in
    let d = c.in_ok-depth.ensures.depth in
    let s = c.in_ok-sound.ensures.sound in
    let none = rw (s.words, s.slots) at c.none_via.ensures in
    says_14 a.memory a.bodies a.table.now a.handle a.first a.count _ c.in_ok-sound.ensures.no d.0 d.1 (rw c.cells_of.ensures at c.in_ok-range_check.ensures.no) _ c.in_ok-sound.ensures.marks.cells (sym c.all_held.ensures ∙ c.if-not-all_held.false) (sym none ∙ c.if-not-none_via.true)

pub returns-clause-no : goal.returns-clause-no
returns-clause-no g c = let a = c.args in
    let d = c.in_ok-depth.ensures.depth in
    let s = c.in_ok-sound.ensures.sound in
    let none = rw (s.words, s.slots) at c.none_via.ensures in
    says_0 a.memory a.bodies a.table.now a.handle a.first a.count _ c.in_ok-sound.ensures.no d.0 d.1 (rw c.cells_of.ensures at c.in_ok-range_check.ensures.no) _ c.in_ok-sound.ensures.marks.cells (sym c.all_held.ensures ∙ c.if-not-all_held.false) (sym none ∙ c.if-not-none_via.false)
