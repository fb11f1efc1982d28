use Rattle.std.proofs.Common.{◌-◌, refl, sym, ◌∙◌, arith}
use mathlib.Core.Bool.{true≢false}
use borrow.Author.Tests.{not-true, not-false}
use Rattle.words.proofs.Plans.{stores_none}
use Rattle.add.proofs.Lending.{deep, small, readable}
use Rattle.add.proofs.taking.Taking.take_cell.Goals as goal

pub is_lacking-requires : goal.is_lacking-requires
is_lacking-requires g c =
    let q = c.args.self.now in
    (omega (arith, c.requires.cell.0, small _ _ _ _ _ _ q.able, readable _ _ _ _ _ _ q.able), deep _ _ _ _ _ _ q.able)

pub returns-then-not-is_lacking : goal.returns-then-not-is_lacking
returns-then-not-is_lacking g c =
    let no-new = sym c.is_lacking.ensures ∙ not-true _ c.if-not-is_lacking.true-raw in
    record { next = rw no-new; bytes = rw no-new (stores_none (c.args.budget - c.args.walk.made) c.args.bodies.now); staged = rw no-new (record { put = λ z. absurd (true≢false (sym z)); kept = λ _. (refl, refl) }) }

pub take_new-requires : goal.take_new-requires
take_new-requires g c =
    (omega arith, (c.requires.bodies, (c.requires.cell, (c.requires.places, c.requires.room (sym c.is_lacking.ensures ∙ not-false _ c.if-not-is_lacking.false-raw)))))

pub returns : goal.returns
returns g c =
    let new = sym c.is_lacking.ensures ∙ not-false _ c.if-not-is_lacking.false-raw in
    record { next = rw new c.take_new.ensures.next; bytes = rw new c.take_new.ensures.bytes; staged = rw new c.take_new.ensures.staged }
