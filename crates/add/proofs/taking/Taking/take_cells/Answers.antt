use Rattle.std.proofs.Common.{ℕ, length, refl, sym, ◌∙◌, arith}
use Rattle.words.specs.Layout.{cells_of}
use Rattle.add.specs.Walking.{stand}
use Rattle.add.specs.Took.{words_lent, ranges_lent}
use Rattle.add.proofs.Lending.{small}
use Rattle.add.proofs.Taken.{same_stands, skip_stands, start_stands, copied_none, copied_length, copied_join}
use Rattle.add.proofs.Storing.{taken_all, bytes_made, bytes_stored}
use Rattle.add.proofs.taking.Taking.take_cells.Invariants.{begins}
use Rattle.add.proofs.taking.Taking.take_cells.Goals as goal

pub order_of-order-requires : goal.order_of-order-requires
order_of-order-requires g c =
    let q = c.args.self.now in
    (q.list.few, λ i l. omega (arith, q.list.within i l, q.cells, small _ _ _ _ _ _ q.able))

pub loop-part-init : goal.loop-part-init
loop-part-init g c =
    let q = c.args.self.now in
    let s = c.args.staged.now in (
      c.of-segments.ensures.begins.1,
      rw c.of-segments.ensures.begins.0 (start_stands q.memory.now c.args.bodies.now (words_lent q) (ranges_lent q) s.words s.changed c.requires.blank),
      rw c.of-segments.ensures.begins.0
          (copied_none q.memory.now (words_lent q) (ranges_lent q) c.args.budget (stand 0 begins) (stand 0 begins) c.args.bodies.now (omega arith) refl (λ y lo hi. absurd (omega arith))),
      c.requires.bodies,
    )

pub take_part-walk-requires : goal.take_part-walk-requires
take_part-walk-requires g c =
    let q = c.args.self.now in
    let i = c.loop-part.invariant in
    let n = rw i.0 at c.in-Some.ensures.next.0 in (
      omega arith,
      (
        i.3,
        (
          record { low = omega arith; none = λ x lo hi. absurd (omega (arith, lo, hi)); some = n.some; high = n.high; asks = n.asks },
          (
            skip_stands q.memory.now c.loop-part.bodies (words_lent q) (ranges_lent q) (stand c.loop-part.segments.at c.loop-part.walk) c.loop-part.staged.words c.loop-part.staged.changed i.1
                c.in-Some.part.at n.low (omega (arith, n.some, n.high, q.cells)) n.none,
            c.requires.room,
          ),
        ),
      ),
    )

pub loop-part-preserved : goal.loop-part-preserved
loop-part-preserved g c =
    let q = c.args.self.now in
    let i = c.loop-part.invariant in
    let n = rw i.0 at c.in-Some.ensures.next.0 in
    let y = c.take_part-walk.ensures in
    let gap = copied_none q.memory.now (words_lent q) (ranges_lent q) c.args.budget (stand c.loop-part.segments.at c.loop-part.walk) (stand c.in-Some.part.at c.loop-part.walk)
    c.loop-part.bodies n.low refl n.none in
    let long = copied_length q.memory.now (words_lent q) (ranges_lent q) c.args.budget (stand c.in-Some.part.at c.loop-part.walk) (stand c.in-Some.part.end c.take_part-walk.result)
    c.loop-part.bodies c.take_part-walk.new.bodies y.copied in (
      c.in-Some.ensures.same.0 ∙ i.0,
      rw c.in-Some.ensures.next.1 y.stands,
      rw c.in-Some.ensures.next.1
          (copied_join q.memory.now (words_lent q) (ranges_lent q) c.args.budget (stand 0 begins) (stand c.in-Some.part.at c.loop-part.walk) (stand c.in-Some.part.end c.take_part-walk.result)
          c.args.bodies.now c.loop-part.bodies c.take_part-walk.new.bodies
          (copied_join q.memory.now (words_lent q) (ranges_lent q) c.args.budget (stand 0 begins) (stand c.loop-part.segments.at c.loop-part.walk) (stand c.in-Some.part.at c.loop-part.walk)
          c.args.bodies.now c.loop-part.bodies c.loop-part.bodies i.2 gap)
          y.copied),
      long ∙ i.3,
    )

pub returns-clause-staged : goal.returns-clause-staged
returns-clause-staged g c =
    let q = c.args.self.now in
    let i = c.loop-part.invariant in
    let none = rw i.0 at c.in_default.ensures.next in
    let m : ℕ = cells_of (length q.memory.now) in
    let all = skip_stands q.memory.now c.loop-part.bodies (words_lent q) (ranges_lent q) (stand c.loop-part.segments.at c.loop-part.walk) c.loop-part.staged.words c.loop-part.staged.changed i.1
    m i.1.cell (omega arith) (λ x lo hi. none x lo) in
    let same = same_stands q.memory.now c.loop-part.bodies (words_lent q) (ranges_lent q) c.args.bodies.now (c.requires.bodies ∙ sym i.3) (stand m c.loop-part.walk) _ _ all in
    rw c.requires.bodies at (taken_all q.memory.now c.args.bodies.now (words_lent q) (ranges_lent q) (stand m c.loop-part.walk) c.loop-part.staged.words c.loop-part.staged.changed same refl)

pub returns-clause-bytes : goal.returns-clause-bytes
returns-clause-bytes g c =
    let q = c.args.self.now in
    let i = c.loop-part.invariant in
    let none = rw i.0 at c.in_default.ensures.next in
    let m : ℕ = cells_of (length q.memory.now) in
    let gap = copied_none q.memory.now (words_lent q) (ranges_lent q) c.args.budget (stand c.loop-part.segments.at c.loop-part.walk) (stand m c.loop-part.walk)
    c.loop-part.bodies i.1.cell refl (λ x lo hi. none x lo) in
    bytes_stored q.memory.now (words_lent q) (ranges_lent q) c.args.budget (stand m c.loop-part.walk) c.args.bodies.now c.loop-part.bodies
    (copied_join q.memory.now (words_lent q) (ranges_lent q) c.args.budget (stand 0 begins) (stand c.loop-part.segments.at c.loop-part.walk) (stand m c.loop-part.walk)
    c.args.bodies.now c.loop-part.bodies c.loop-part.bodies i.2 gap) refl

pub returns-clause-steps : goal.returns-clause-steps
returns-clause-steps g c =
    let q = c.args.self.now in
    let i = c.loop-part.invariant in
    let none = rw i.0 at c.in_default.ensures.next in
    let m : ℕ = cells_of (length q.memory.now) in
    let gap = copied_none q.memory.now (words_lent q) (ranges_lent q) c.args.budget (stand c.loop-part.segments.at c.loop-part.walk) (stand m c.loop-part.walk)
    c.loop-part.bodies i.1.cell refl (λ x lo hi. none x lo) in (
      bytes_made q.memory.now (words_lent q) (ranges_lent q) c.args.budget (stand m c.loop-part.walk) c.args.bodies.now c.loop-part.bodies
          (copied_join q.memory.now (words_lent q) (ranges_lent q) c.args.budget (stand 0 begins) (stand c.loop-part.segments.at c.loop-part.walk) (stand m c.loop-part.walk)
          c.args.bodies.now c.loop-part.bodies c.loop-part.bodies i.2 gap) refl,
      omega (arith, i.1.made, i.1.cell),
    )
