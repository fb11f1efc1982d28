use Rattle.std.proofs.Common.{ℕ, Bool, sym, ◌∙◌}
use borrow.Author.Tests.{not-true, not-false}
use Rattle.add.specs.Asked.{table_of, slots_in, newly}
use Rattle.add.proofs.Asking.{parent_11, parent_then, covered_is}
use Rattle.add.proofs.asked.Asking.parent_check.Goals as goal

pub returns-then-not-parent_holds : goal.returns-then-not-parent_holds
returns-then-not-parent_holds c =
    let q = c.args.self.now in
    let p = c.args.part.now in
    let new : ℕ → Bool = newly q p.seen.now in
    let same = covered_is q.memory.now q.bodies.now (slots_in q) (table_of q) new p.range.first p.range.count q.held.now q.told q.inner in
    parent_11 q.memory.now q.bodies.now (slots_in q) (table_of q) new p.range.first p.range.count (sym same ∙ sym c.parent_holds.ensures ∙ not-true _ c.if-not-parent_holds.true-raw)

pub range_values-requires : goal.range_values-requires
range_values-requires c = record { lies = c.requires; backed = sym c.parent_holds.ensures ∙ not-false _ c.if-not-parent_holds.false-raw }

pub returns : goal.returns
returns c =
    let q = c.args.self.now in
    let p = c.args.part.now in
    let new : ℕ → Bool = newly q p.seen.now in
    let same = covered_is q.memory.now q.bodies.now (slots_in q) (table_of q) new p.range.first p.range.count q.held.now q.told q.inner in
    parent_then q.memory.now q.bodies.now (slots_in q) (table_of q) new p.range.first p.range.count (sym same ∙ sym c.parent_holds.ensures ∙ not-false _ c.if-not-parent_holds.false-raw) _
    c.range_values.ensures
