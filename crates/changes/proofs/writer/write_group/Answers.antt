use native.Mathlib.Omega.{arith}
use Rattle.changes.proofs.Bits.{lowest_found, lowest_cleared}
use Rattle.changes.proofs.Groups.{begun_here, begun_room, begun_turn, begun_count, begun_made}
use Rattle.changes.proofs.writer.write_group.Goals as goal

pub write_entry-requires : goal.write_entry-requires
write_entry-requires c =
    let low = lowest_found c.loop-rest.rest (omega arith) c.loop-rest-test.true in
    let so = c.loop-rest.invariant in
    (c.requires.inside _ low.within (begun_here so low), c.requires.small.0, omega (arith, c.requires.room, begun_room so low (lowest_cleared _ _ low)))

pub loop-rest-preserved : goal.loop-rest-preserved
loop-rest-preserved c =
    let low = lowest_found c.loop-rest.rest (omega arith) c.loop-rest-test.true in
    begun_turn c.loop-rest.invariant low (lowest_cleared _ _ low) (rw c.saturating_sub.ensures at c.write_entry.ensures)

pub returns-clause-counted : goal.returns-clause-counted
returns-clause-counted c = begun_count c.loop-rest.invariant c.loop-rest-test.false

pub returns-clause-words : goal.returns-clause-words
returns-clause-words c = begun_made c.loop-rest.invariant c.loop-rest-test.false
