use Rattle.std.proofs.Common.{◌≡◌, ℕ, Bool, sym, ◌∙◌, refl, arith}
use Rattle.store.proofs.Refused.{handed_on}
use Rattle.add.specs.Asked.{table_of, slots_in, depth_in, newly}
use Rattle.add.proofs.Asking.{numbered_none, numbered_stop, numbered_more, numbered_19, numbered_0, covered_is, sources}
use Rattle.add.proofs.asked.Asking.values_check.Goals as goal

pub loop-j-init : goal.loop-j-init
loop-j-init g c = numbered_none _ _ _ _ _ _ _ _

pub cell_told-requires : goal.cell_told-requires
cell_told-requires g c =
    let q = c.args.self.now in
    let p = c.args.part.now in
    let new : ℕ → Bool = newly q p.seen.now in
    let same = covered_is q.memory.now q.bodies.now (slots_in q) (table_of q) new p.range.first p.range.count q.held.now q.told q.inner in (
      omega arith,
      (
        omega (arith, c.requires.lies, c.loop-j-test.true),
        sources q.memory.now q.bodies.now (table_of q) q.store new p.range.first p.range.count q.inner (sym same ∙ c.requires.backed) c.loop-j.j c.loop-j-test.true,
      ),
    )

pub returns-in_err-by_rule : goal.returns-in_err-by_rule
returns-in_err-by_rule g c =
    let q = c.args.self.now in
    let p = c.args.part.now in
    handed_on _ _ c.from_residual.ensures.1
    ∙ numbered_stop q.memory.now q.bodies.now (slots_in q) (table_of q) (depth_in q) (newly q p.seen.now) p.range.first p.range.count c.loop-j.j _ c.in_err-by_rule.ensures c.loop-j-test.true

pub loop-j-preserved : goal.loop-j-preserved
loop-j-preserved g c = numbered_more _ _ _ _ _ _ _ _ _ _ _ _ c.loop-j.invariant c.in_ok-by_rule.ensures refl

pub returns-then-ruled : goal.returns-then-ruled
returns-then-ruled g c =
    let q = c.args.self.now in
    let p = c.args.part.now in
    let last : c.loop-j.j ≡ p.range.count = omega arith in
    numbered_19 q.memory.now q.bodies.now (slots_in q) (table_of q) (depth_in q) (newly q p.seen.now) p.range.first p.range.count
    (rw (last, c.if-ruled.true) at c.loop-j.invariant)

pub returns : goal.returns
returns g c =
    let q = c.args.self.now in
    let p = c.args.part.now in
    let last : c.loop-j.j ≡ p.range.count = omega arith in
    numbered_0 q.memory.now q.bodies.now (slots_in q) (table_of q) (depth_in q) (newly q p.seen.now) p.range.first p.range.count
    (rw (last, c.if-ruled.false) at c.loop-j.invariant)
