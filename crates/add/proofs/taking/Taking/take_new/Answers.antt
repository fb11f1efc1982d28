use Rattle.std.proofs.Common.{arith}
use Rattle.add.specs.Took.{places}
use Rattle.add.proofs.Lending.{deep, small, few, long}
use Rattle.add.proofs.Taken.{body_small}
use Rattle.table.specs.Entry.{kind_number}
use Rattle.add.proofs.taking.Taking.take_new.Goals as goal

pub take_body-body-requires-clause-small : goal.take_body-body-requires-clause-small
take_body-body-requires-clause-small g c =
    let q = c.args.self.now in
    (omega (arith, c.bodies_of.ensures, few _ _ _ _ _ _ q.able, long _ _ _ _ _ _ q.able), omega (arith, c.bodies_of.ensures, c.requires.places.1))

pub entry_word-word-requires : goal.entry_word-word-requires
entry_word-word-requires g c =
    let q = c.args.self.now in
    (omega (arith, deep _ _ _ _ _ _ q.able), omega (arith, c.requires.cell.0, small _ _ _ _ _ _ q.able))

pub overflow_cast-cell : goal.overflow_cast-cell
overflow_cast-cell g c = let q = c.args.self.now in omega (arith, c.requires.cell.0, small _ _ _ _ _ _ q.able)

pub overflow_cast-body : goal.overflow_cast-body
overflow_cast-body g c =
    let q = c.args.self.now in
    let body = rw c.bodies_of.ensures at c.take_body-body.ensures in
    omega (arith, body, few _ _ _ _ _ _ q.able, body_small q.used.now (places q) (kind_number c.args.asked.kind) c.args.walk.body c.requires.places.1)

pub beyond-requires : goal.beyond-requires
beyond-requires g c =
    let q = c.args.self.now in
    let body = rw c.bodies_of.ensures at c.take_body-body.ensures in (
      omega (arith, c.in-Some.ensures.0, q.entries.few),
      omega (arith, body, few _ _ _ _ _ _ q.able, body_small q.used.now (places q) (kind_number c.args.asked.kind) c.args.walk.body c.requires.places.1),
      omega (arith, c.requires.cell.0, c.requires.cell.1, small _ _ _ _ _ _ q.able),
    )
