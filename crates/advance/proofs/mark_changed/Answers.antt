use Prim.Native.Nat.{ℕ, ◌+◌, ◌≤◌, ◌<◌}
use mathlib.Core.Bool.{true}
use mathlib.Core.List.{List}
use mathlib.Core.Path.{◌≡◌, refl, ap, sym, subst, ◌∙◌}
use native.Mathlib.Omega.{arith}
use borrow.Author.Tests.{eqb-true}
use lib.Dec.{eqb}
use lib.ListN.{length, get_or}
use Rattle.words.specs.Layout.{group_of}
use Rattle.words.specs.Scan.{count}
use Rattle.words.proofs.Scan.{and_split, count_le}
use Rattle.table.specs.Entry.{word1, depth_of, writable_of, cell_of}
use Rattle.marks.specs.Blocks.{block_of, block_at}
use Rattle.search.proofs.From.{count_byte, byte_small}
use Rattle.values.specs.Values.{writes, entry_changed}
use Rattle.advance.specs.Notes.{by_group, mark_turning, TurnedBits}
use Rattle.advance.proofs.Bits.{turned_none, turned_more}
use Rattle.advance.proofs.Blocks.{by_length, by_blank, block_fits, by_turning, front_turning, turning_own}
use Rattle.advance.proofs.Noting.{advancing_front, turned_front}
use Rattle.advance.proofs.mark_changed.Goals as goal

pub loop-i-init : goal.loop-i-init
unfolding count
loop-i-init g c =
    let a = c.args in
    (refl, turned_none a.table.now.entries.slots a.table.now.entries.words.now (entry_changed a.memory.now a.bodies.now a.table.now.entries.slots a.table.now.entries.words.now a.live) (by_group a.seen.now a.bits.now) (by_blank a.seen.now a.bits.now c.requires.blank.1), c.requires.blank.1 0, refl)

pub entry_changed-goes-requires : goal.entry_changed-goes-requires
entry_changed-goes-requires g c =
    let p = c.requires.comparable in
    record { sizes = (omega (arith, p.ends.0), p.low); rule = p.right }

pub overflow_add-n : goal.overflow_add-n
overflow_add-n g c =
    let a = c.args in
    omega (arith, count_le c.loop-i.i (entry_changed a.memory.now a.bodies.now a.table.now.entries.slots a.table.now.entries.words.now a.live), byte_small c.entry_changed-goes.result, c.loop-i.invariant.3, c.requires.comparable.ends.0, c.requires.comparable.slots)

pub mark_turning-requires : goal.mark_turning-requires
mark_turning-requires g c =
    let a = c.args in
    let p = c.requires.comparable in
    let s = c.loop-i in
    let room : length a.seen.now ≤ block_at (length s.bits) = omega (arith, s.invariant.0, c.requires.blank.0) in
    (omega (arith, p.kept.room), block_fits a.seen.now p.kept s.bits room (group_of (cell_of c.first_word.result)) (omega arith))

pub loop-i-preserved : goal.loop-i-preserved
loop-i-preserved g c =
    let a = c.args in
    let p = c.requires.comparable in
    let s = c.loop-i in
    let word = c.first_word.ensures in
    let w = word1 a.table.now.entries.slots a.table.now.entries.words.now s.i in
    let goes = entry_changed a.memory.now a.bodies.now a.table.now.entries.slots a.table.now.entries.words.now a.live in
    let inside : s.i < a.table.now.entries.slots = omega (arith, p.ends.0) in
    let room : length a.seen.now ≤ block_at (length s.bits) = omega (arith, s.invariant.0, c.requires.blank.0) in
    let fits = block_fits a.seen.now p.kept s.bits room (group_of (cell_of w)) (omega arith) in
    let own : goes s.i ≡ true → 1 ≤ block_of a.seen.now (group_of (cell_of w)) =
    λ z.
    turning_own a.seen.now p.kept a.table.now.entries.slots a.table.now.entries.words.now p.marked a.live s.i p.low inside
    (eqb-true _ _ (and_split (eqb (depth_of w) a.live) (eqb (writable_of w) 1) (and_split (writes a.live w) _ z).0).0) in
    let q = c.mark_turning.ensures ∙ (λ j. mark_turning (c.entry_changed-goes.ensures j) (word j) (block_of a.seen.now (group_of (cell_of (word j)))) s.bits) in
    let all-bits = ap (by_group a.seen.now) q ∙ by_turning a.seen.now p.kept (goes s.i) w s.bits own fits in (
      c.mark_turning.auto.bits ∙ s.invariant.0,
      subst (TurnedBits a.table.now.entries.slots a.table.now.entries.words.now goes (s.i + 1)) (sym all-bits)
          (turned_more a.table.now.entries.slots a.table.now.entries.words.now goes s.i (by_group a.seen.now s.bits) (omega (arith, by_length a.seen.now s.bits)) s.invariant.1),
      ap (λ (l : List ℕ). get_or l 0 0) q ∙ front_turning a.seen.now p.kept (goes s.i) w s.bits own s.invariant.2,
      count_byte goes s.i s.n s.invariant.3 _ c.entry_changed-goes.ensures,
    )

pub returns : goal.returns
returns g c =
    let a = c.args in
    let s = c.loop-i in
    let ends = c.requires.comparable.ends in
    let goes = entry_changed a.memory.now a.bodies.now a.table.now.entries.slots a.table.now.entries.words.now a.live in
    let last : s.i ≡ a.table.now.entries.top = omega arith in record {
      counted = s.invariant.3 ∙ ap (λ (n : ℕ). count n goes) last ∙ advancing_front a.table.now.entries.slots a.table.now.entries.words.now a.table.now.entries.top ends.0 ends.1 a.memory.now a.bodies.now a.live;
      bits = record {
        turned = turned_front a.table.now.entries.slots a.table.now.entries.words.now a.table.now.entries.top ends.0 ends.1 a.memory.now a.bodies.now a.live _ (subst (λ (n : ℕ). TurnedBits a.table.now.entries.slots a.table.now.entries.words.now goes n (by_group a.seen.now s.bits)) last s.invariant.1);
        front = s.invariant.2;
      };
    }
