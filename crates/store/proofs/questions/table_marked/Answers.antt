-- `store::questions::table_marked` meets its contract. Assumes nothing.
use native.Mathlib.Omega.{arith}
use Rattle.store.proofs.Checks.{shape_facts}
use Rattle.store.proofs.questions.table_marked.Goals as goal

pub idle_ok-right-requires-clause-sizes : goal.idle_ok-right-requires-clause-sizes
idle_ok-right-requires-clause-sizes c =
    let f = shape_facts _ _ _ c.requires.passed in
    let p = c.requires.room in
    rw (c.cells_of-cells.ensures, c.slots_of-slots.ensures, c.bodies_of-places.ensures) (f.slots_high, f.table_exact, f.bodies_high, (p.reached f.slots_low f.slots_high).0, p.room, omega (arith, f.bodies_high, p.bodies))

pub table_ok-right-requires-clause-sizes : goal.table_ok-right-requires-clause-sizes
table_ok-right-requires-clause-sizes c =
    let f = shape_facts _ _ _ c.requires.passed in
    let p = c.requires.room in
    rw (c.cells_of-cells.ensures, c.slots_of-slots.ensures, c.bodies_of-places.ensures) (f.slots_high, f.table_exact, f.bodies_high, p.reached f.slots_low f.slots_high, p.room, omega (arith, f.bodies_high, p.bodies))
