use Prim.Native.Nat.{ℕ, ◌<◌}
use mathlib.Core.Path.{◌≡◌, refl, subst, ◌∙◌}
use native.Mathlib.Omega.{arith}
use lib.Dec.{eqb}
use Rattle.words.proofs.Scan.{and_split}
use Rattle.table.specs.Entry.{live, word1, depth_of, cell_of}
use Rattle.advance.specs.Notes.{by_group, has_bit, ListedSlots}
use Rattle.advance.proofs.Bits.{rank_fits}
use Rattle.advance.proofs.Blocks.{bit_cell}
use Rattle.advance.proofs.Listing.{listed_none, listed_more}
use Rattle.advance.proofs.Noting.{listed_front}
use Rattle.advance.proofs.list_slots.Goals as goal

pub count_groups-n-requires : goal.count_groups-n-requires
count_groups-n-requires c = record { room = c.requires.sized; inside = c.requires.inside; few = omega (arith, c.requires.room) }

pub loop-i-init : goal.loop-i-init
loop-i-init c = (refl, listed_none _ _ _ c.requires.once.1 _ _)

pub list_slot-requires : goal.list_slot-requires
list_slot-requires c = let a = c.args in
    let s = c.loop-i in
    let long = c.count_groups-n.auto.ends in
    let inside : s.i < a.entries.now.slots = omega (arith, a.entries.now.ends.0) in
    record { small = inside; sized = (c.requires.sized.0, long ∙ c.requires.sized.1); noted = c.count_groups-n.ensures.noted; room = omega (arith, s.invariant.0, c.requires.room) }

pub loop-i-preserved : goal.loop-i-preserved
loop-i-preserved c = let a = c.args in
    let s = c.loop-i in
    let once = c.requires.once in
    let f = has_bit a.seen.now a.bits.now in
    let inside : s.i < a.entries.now.slots = omega (arith, a.entries.now.ends.0) in (
      c.list_slot.auto.places ∙ s.invariant.0,
      rw c.list_slot.ensures
          (listed_more a.entries.now.slots a.entries.now.words.now (live a.entries.now.words.now) once.1 f s.places s.i once.0 inside
          (λ z.
          let here = (and_split (eqb (depth_of (word1 a.entries.now.slots a.entries.now.words.now s.i)) (live a.entries.now.words.now)) (f (cell_of (word1 a.entries.now.slots a.entries.now.words.now s.i))) z).1 in
          omega (arith, rank_fits (by_group a.seen.now a.bits.now) 65536 _ (bit_cell a.seen.now a.bits.now _ here) here, c.requires.room, s.invariant.0)) s.invariant.1),
    )

pub returns : goal.returns
returns c = let a = c.args in
    let s = c.loop-i in
    let n = live a.entries.now.words.now in
    let last : s.i ≡ a.entries.now.top = omega arith in record {
      counted = c.count_groups-n.ensures.counted;
      listed = listed_front a.entries.now.slots a.entries.now.words.now a.entries.now.top a.entries.now.ends.0 a.entries.now.ends.1 n c.requires.once.1 (has_bit a.seen.now a.bits.now) _
          (subst (λ (k : ℕ). ListedSlots a.entries.now.slots a.entries.now.words.now n (has_bit a.seen.now a.bits.now) k s.places) last s.invariant.1);
    }
