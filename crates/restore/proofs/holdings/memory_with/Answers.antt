-- `memory_with` meets its contract: the marks tell who holds which cell; of notes nothing is asked. Assumes nothing.
use Rattle.std.proofs.Common.{arith}
use Rattle.restore.proofs.Marking.{marks_tell}
use Rattle.restore.proofs.holdings.memory_with.Goals as goal

pub invariant_of-held : goal.invariant_of-held
invariant_of-held g c =
    let a = c.args in
    let e = a.table.now.entries in
    record {
      noted = omega arith;
      few = omega arith;
      deep = omega arith;
      right = rw c.cells_of.ensures c.requires.right;
      told = rw c.inwards_of.ensures (marks_tell e.slots e.words.now a.depth c.requires.sizes.1 c.requires.sizes.2 a.marks.now.directory.seen.now c.requires.marks);
    }
