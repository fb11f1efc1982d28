use Rattle.std.proofs.Common.{◌≡◌, ℕ, not, eqb, refl, ap, ◌∙◌, arith}
use Rattle.words.specs.Scan.{count}
use Rattle.words.proofs.Scan.{count_le}
use Rattle.table.specs.Entry.{owns_body}
use Rattle.search.specs.Free.{slot_free, is_copy, used_slots, copies}
use Rattle.search.proofs.From.{count_byte, byte_small}
use Rattle.search.proofs.Counts.{count_front}
use Rattle.search.proofs.places.count_used.Goals as goal

pub loop-i-init : goal.loop-i-init
unfolding count
loop-i-init c = (refl, refl)

pub overflow_add-used : goal.overflow_add-used
overflow_add-used c =
    let e = c.args.entries.now in
    omega (arith, e.few, e.ends.0, c.from-used.ensures, count_le c.loop-i.i (λ k. not (slot_free e.slots e.words.now k)), byte_small (not (eqb c.first_word-word.result 0)))

pub overflow_add-copies : goal.overflow_add-copies
overflow_add-copies c =
    let e = c.args.entries.now in
    omega (arith, e.few, e.ends.0, c.from-copies.ensures, count_le c.loop-i.i (is_copy e.slots e.words.now), byte_small c.owns_body.result)

pub loop-i-preserved : goal.loop-i-preserved
loop-i-preserved c =
    let e = c.args.entries.now in
    let word = c.first_word-word.ensures in
    rw (c.from-used.ensures, c.from-copies.ensures) (
      count_byte (λ k. not (slot_free e.slots e.words.now k)) c.loop-i.i c.loop-i.used c.loop-i.invariant.0 _ (ap (λ (w : ℕ). not (eqb w 0)) word),
      count_byte (is_copy e.slots e.words.now) c.loop-i.i c.loop-i.copies c.loop-i.invariant.1 _ (c.owns_body.ensures ∙ ap owns_body word),
    )

pub returns : goal.returns
unfolding used_slots copies
returns c =
    let e = c.args.entries.now in
    let last : c.loop-i.i ≡ e.top = omega arith in
    let front = count_front e.slots e.words.now e.top e.ends.0 e.ends.1 in (
      c.loop-i.invariant.0 ∙ ap (λ (n : ℕ). count n (λ k. not (slot_free e.slots e.words.now k))) last ∙ front (λ w. not (eqb w 0)) refl,
      c.loop-i.invariant.1 ∙ ap (λ (n : ℕ). count n (is_copy e.slots e.words.now)) last ∙ front owns_body refl,
    )
