use Rattle.std.proofs.Common.{arith}
use Rattle.store.proofs.Checks.{store_lengths}
use Rattle.add.proofs.add_stores.Goals as goal

pub write_with-requires-2-clause-room : goal.write_with-requires-2-clause-room
write_with-requires-2-clause-room c = let f = store_lengths _ _ c.args.table.now c.requires.able.ready.store in (omega (arith, f.slots_high), omega arith, omega arith)
