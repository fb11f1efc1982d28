use Rattle.std.proofs.Common.{arith}
use Rattle.add.proofs.Asking.{used_small, copies_small, room_16, room_17, room_0}
use Rattle.add.proofs.asked.Asking.room_check.Goals as goal

pub overflow_add-in_use : goal.overflow_add-in_use
overflow_add-in_use c = let e = c.args.self.now.table.entries in omega (arith, c.count_used-in_use.ensures.0, used_small e.slots e.words.now 0 0 0, e.few)

pub overflow_add-in_use-2 : goal.overflow_add-in_use-2
overflow_add-in_use-2 c = let e = c.args.self.now.table.entries in omega (arith, c.count_used-in_use.ensures.1, copies_small e.slots e.words.now 0 0 0, e.few)

pub returns-then-self-in_use : goal.returns-then-self-in_use
returns-then-self-in_use c = rw (← c.args.self.now.slots) (room_16 _ _ _ _ _ (rw c.count_used-in_use.ensures.0 at c.if-self-in_use.true))

pub returns-then-bodies_of-in_use : goal.returns-then-bodies_of-in_use
returns-then-bodies_of-in_use c = rw (← c.args.self.now.slots)
    (room_17 _ _ _ _ _ (rw c.count_used-in_use.ensures.0 at c.if-self-in_use.false) (rw (c.count_used-in_use.ensures.1, c.bodies_of.ensures) at c.if-bodies_of-in_use.true))

pub returns : goal.returns
returns c = rw (← c.args.self.now.slots)
    (room_0 _ _ _ _ _ (rw c.count_used-in_use.ensures.0 at c.if-self-in_use.false) (rw (c.count_used-in_use.ensures.1, c.bodies_of.ensures) at c.if-bodies_of-in_use.false))
