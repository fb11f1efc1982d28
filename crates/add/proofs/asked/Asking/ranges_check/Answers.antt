use Rattle.std.proofs.Common.{◌≡◌, ℕ, refl, sym, ap, ◌∙◌, length, arith}
use Rattle.ranges.specs.Lists.{range_of}
use Rattle.store.proofs.Refused.{handed_on, question_no}
use Rattle.add.specs.declared.part.Part.{Part}
use Rattle.add.specs.Walking.{copies_of}
use Rattle.add.specs.Asked.{table_of}
use Rattle.add.proofs.Listing.{passing_none, passing_few, passing_stop, passing_more, passing_all}
use Rattle.add.proofs.asked.Asking.ranges_check.Goals as goal

pub loop-i-init : goal.loop-i-init
loop-i-init c = let q = c.args.self.now in passing_none q.memory.now q.bodies.now (table_of q) q.held.now c.args.list.now

pub returns-in_err-kind-clause-no : goal.returns-in_err-kind-clause-no
returns-in_err-kind-clause-no c =
    let q = c.args.self.now in
    let rs = c.args.list.now in
    let p : Part = record { range = range_of rs c.loop-i.i; seen = c.earlier.result } in
    handed_on _ _ c.from_residual.ensures.1
    ∙ passing_stop q.memory.now q.bodies.now (table_of q) q.held.now rs q.store q.inner q.told c.loop-i.i c.loop-i-test.true p (record { range = refl; seen = c.earlier.ensures.first; same = c.earlier.ensures.asked })
    _ c.in_err-kind.ensures.no c.loop-i.cells c.loop-i.copies c.loop-i.invariant (question_no _)

pub overflow_add-cells : goal.overflow_add-cells
overflow_add-cells c =
    let q = c.args.self.now in
    let rs = c.args.list.now in
    let p : Part = record { range = range_of rs c.loop-i.i; seen = c.earlier.result } in
    let next = passing_more q.memory.now q.bodies.now (table_of q) q.held.now rs q.store q.inner q.told c.loop-i.i c.loop-i-test.true p (record { range = refl; seen = c.earlier.ensures.first; same = c.earlier.ensures.asked })
    0 c.in_ok-kind.ensures.no c.loop-i.cells c.loop-i.copies c.count_new-more.result c.loop-i.invariant refl c.count_new-more.ensures (copies_of p.range.kind c.count_new-more.result) refl in
    omega (arith, (passing_few q.memory.now q.bodies.now (table_of q) q.held.now rs q.store _ _ _ next).0)

pub overflow_add-copies : goal.overflow_add-copies
overflow_add-copies c =
    let q = c.args.self.now in
    let rs = c.args.list.now in
    let p : Part = record { range = range_of rs c.loop-i.i; seen = c.earlier.result } in
    let next = passing_more q.memory.now q.bodies.now (table_of q) q.held.now rs q.store q.inner q.told c.loop-i.i c.loop-i-test.true p (record { range = refl; seen = c.earlier.ensures.first; same = c.earlier.ensures.asked })
    0 c.in_ok-kind.ensures.no c.loop-i.cells c.loop-i.copies c.count_new-more.result c.loop-i.invariant refl c.count_new-more.ensures c.copies_of-taken.result (c.copies_of-taken.ensures ∙ ap (λ (k : ℕ). copies_of k c.count_new-more.result) c.in_ok-kind.ensures.kind.0) in
    omega (arith, (passing_few q.memory.now q.bodies.now (table_of q) q.held.now rs q.store _ _ _ next).1)

pub loop-i-preserved : goal.loop-i-preserved
loop-i-preserved c =
    let q = c.args.self.now in
    let rs = c.args.list.now in
    let p : Part = record { range = range_of rs c.loop-i.i; seen = c.earlier.result } in
    passing_more q.memory.now q.bodies.now (table_of q) q.held.now rs q.store q.inner q.told c.loop-i.i c.loop-i-test.true p (record { range = refl; seen = c.earlier.ensures.first; same = c.earlier.ensures.asked })
    0 c.in_ok-kind.ensures.no c.loop-i.cells c.loop-i.copies c.count_new-more.result c.loop-i.invariant refl c.count_new-more.ensures c.copies_of-taken.result (c.copies_of-taken.ensures ∙ ap (λ (k : ℕ). copies_of k c.count_new-more.result) c.in_ok-kind.ensures.kind.0)

pub returns-clause-no : goal.returns-clause-no
returns-clause-no c =
    let q = c.args.self.now in
    let last : c.loop-i.i ≡ length c.args.list.now = omega arith in
    sym (passing_all q.memory.now q.bodies.now (table_of q) q.held.now c.args.list.now c.loop-i.i _ _ c.loop-i.invariant last).0

pub returns-clause-counted : goal.returns-clause-counted
returns-clause-counted c =
    let q = c.args.self.now in
    let last : c.loop-i.i ≡ length c.args.list.now = omega arith in
    (passing_all q.memory.now q.bodies.now (table_of q) q.held.now c.args.list.now c.loop-i.i _ _ c.loop-i.invariant last).1
