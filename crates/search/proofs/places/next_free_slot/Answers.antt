use Rattle.std.proofs.Common.{None, Some, sym, ◌∙◌, arith, eq-eqb}
use Rattle.search.specs.Free.{slot_free, free_from}
use Rattle.search.proofs.From.{found_first}
use Rattle.search.proofs.places.next_free_slot.Goals as goal

pub returns-then-first_word-eq0 : goal.returns-then-first_word-eq0
unfolding free_from
returns-then-first_word-eq0 c =
    let e = c.args.entries.now in
    found_first (slot_free e.slots e.words.now) c.args.from e.slots (Some c.loop-i.i) c.requires
    (c.loop-i.auto.i, c.loop-i-test.true, eq-eqb _ _ (sym c.first_word.ensures ∙ c.if-first_word-eq0.true), c.loop-i.invariant)

pub returns : goal.returns
unfolding free_from
returns c =
    let e = c.args.entries.now in
    found_first (slot_free e.slots e.words.now) c.args.from e.slots None c.requires (λ k l h. c.loop-i.invariant k l (omega arith))
