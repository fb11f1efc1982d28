use Rattle.std.proofs.Common.{◌∙◌, refl, arith}
use Rattle.words.proofs.Scan.{not_lt}
use Rattle.search.specs.Search.{value_in}
use Rattle.search.proofs.Holding.{own_bytes, own_within}
use Rattle.values.proofs.Held.{rule, held_inside, source_own, source_slot}
use Rattle.values.proofs.compared.is_unchanged.Goals as goal

pub unreachable-requires : goal.unreachable-requires
unreachable-requires c =
    let a = c.args in
    let e = a.table.now.entries in
    not_lt _ e.slots (source_slot a.memory.now a.bodies.now e.slots e.words.now c.requires.rule a.i c.requires.slot c.requires.used _ refl) (omega (arith, c.in_default.ensures))

pub has_own-requires-clause-cell : goal.has_own-requires-clause-cell
has_own-requires-clause-cell c =
    let a = c.args in
    let e = a.table.now.entries in
    rw (c.cell_of.ensures, c.first_word-word.ensures) (held_inside a.memory.now a.bodies.now e.slots e.words.now c.requires.rule a.i c.requires.slot c.requires.used)

pub has_own-requires-clause-body : goal.has_own-requires-clause-body
has_own-requires-clause-body c =
    let a = c.args in
    let e = a.table.now.entries in
    rw c.value_at.ensures
    (own_within _ e.slots a.bodies.now e.words.now (rule a.memory.now a.bodies.now e.slots e.words.now c.requires.rule a.i c.requires.slot c.requires.used) c.in-Some.source
    (source_own a.memory.now a.bodies.now e.slots e.words.now c.requires.rule a.i c.requires.slot c.requires.used c.in-Some.source c.in-Some.ensures.1))

pub returns : goal.returns
unfolding value_in
returns c =
    let a = c.args in
    let e = a.table.now.entries in
    c.has_own.ensures ∙ rw (c.value_at.ensures, own_bytes, c.cell_of.ensures, c.first_word-word.ensures, c.in-Some.ensures.1)
