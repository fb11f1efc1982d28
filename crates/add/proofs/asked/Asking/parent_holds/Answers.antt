use Rattle.std.proofs.Common.{ℕ, ◌+◌, Bool, sym, arith}
use borrow.Author.Count.{below_more}
use Rattle.words.proofs.Scan.{all_not, all_make}
use Rattle.table.specs.Entry.{parent}
use Rattle.store.proofs.Checks.{store_lengths}
use Rattle.add.specs.Walking.{lacks, backed}
use Rattle.add.specs.Asked.{newly, depth_in}
use Rattle.add.proofs.Asking.{or_fails, or_holds}
use Rattle.add.proofs.asked.Asking.parent_holds.Goals as goal

pub is_new-requires : goal.is_new-requires
is_new-requires c = let f = store_lengths _ _ _ c.args.self.now.store in omega (arith, f.cells_high)

pub is_lacking-requires : goal.is_lacking-requires
is_lacking-requires c =
    let q = c.args.self.now in
    let f = store_lengths _ _ _ q.store in
    let deep = q.table.domains in
    (omega (arith, c.requires, c.loop-j-test.true, f.cells_high, q.cells), omega (arith, c.parent_of-parent.ensures, c.depth.ensures, deep))

pub returns-then-is_new-is_lacking : goal.returns-then-is_new-is_lacking
returns-then-is_new-is_lacking c =
    let q = c.args.self.now in
    let p = c.args.part.now in
    let new : ℕ → Bool = newly q p.seen.now in
    sym (all_not p.range.count (λ x. backed q.held.now (depth_in q) new (p.range.first + x)) c.loop-j.j c.loop-j-test.true
    (or_fails (new (p.range.first + c.loop-j.j)) (lacks q.held.now (parent (depth_in q)) (p.range.first + c.loop-j.j))
    (rw (c.is_new.ensures, c.is_lacking.ensures, c.parent_of-parent.ensures, c.depth.ensures) at c.if-is_new-is_lacking.true)))

pub loop-j-preserved : goal.loop-j-preserved
loop-j-preserved c =
    let q = c.args.self.now in
    let p = c.args.part.now in
    let new : ℕ → Bool = newly q p.seen.now in
    below_more _ _ c.loop-j.invariant
    (or_holds (new (p.range.first + c.loop-j.j)) (lacks q.held.now (parent (depth_in q)) (p.range.first + c.loop-j.j))
    (rw (c.is_new.ensures, c.is_lacking.ensures, c.parent_of-parent.ensures, c.depth.ensures) at c.if-is_new-is_lacking.false))

pub returns : goal.returns
returns c =
    let q = c.args.self.now in
    let p = c.args.part.now in
    sym (all_make p.range.count (λ x. backed q.held.now (depth_in q) (newly q p.seen.now) (p.range.first + x)) (λ i l. c.loop-j.invariant i (omega arith)))
