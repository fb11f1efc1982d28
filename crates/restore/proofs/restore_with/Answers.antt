-- `restore_with` meets its contract: what its parts did is the outcome of the call. Assumes nothing.
use Rattle.std.proofs.Common.{ℕ, sym, arith}
use lib.ListN.{length-replicate}
use Rattle.words.specs.Layout.{cells_of, max_cells}
use Rattle.marks.proofs.Blocks.{blank_zeros}
use Rattle.table.specs.Marks.{zeros}
use Rattle.store.proofs.Checks.{store_lengths}
use Rattle.store.proofs.Checked.{checked_ends}
use Rattle.restore.proofs.Blocks.{put_as}
use Rattle.restore.proofs.Finding.{bytes_are}
use Rattle.restore.proofs.Performed.{rule_passed, restore_passed, refused_before, refused_domain, restore_performed}
use Rattle.restore.proofs.restore_with.Goals as goal

pub store_check-requires : goal.store_check-requires
unfolding zeros
store_check-requires g c = record {
  room = rw length-replicate c.requires.room.0;
  bodies = length-replicate {A = ℕ} 4096 0;
  no_cells = blank_zeros g.row.BYTES;
  no_bodies = blank_zeros 4096;
  reached = c.requires.reached;
}

pub returns-in_err-sound : goal.returns-in_err-sound
returns-in_err-sound g c = refused_before _ _ _ c.args.handle c.args.budget _ _ c.from_residual.ensures.1 c.in_err-sound.ensures.no

pub returns-in_err-depth : goal.returns-in_err-depth
returns-in_err-depth g c =
    refused_domain _ _ _ c.args.handle c.args.budget _ _ c.from_residual-in_err-depth.ensures.1 c.in_ok-sound.ensures.no (rw c.in_ok-sound.ensures.sound.words at c.in_err-depth.ensures.no)

pub put_memory-bytes-requires-clause-sizes : goal.put_memory-bytes-requires-clause-sizes
put_memory-bytes-requires-clause-sizes g c =
    let f = store_lengths _ _ _ (sym c.in_ok-sound.ensures.no) in
    let named = c.in_ok-depth.ensures.depth in
    (named.1, omega (arith, named), f.cells_high)

pub put_memory-bytes-requires-clause-right : goal.put_memory-bytes-requires-clause-right
put_memory-bytes-requires-clause-right g c = let s = c.in_ok-sound.ensures.sound in rw (s.words, s.slots) (rule_passed _ _ _ (sym c.in_ok-sound.ensures.no))

pub end_domains-words-requires : goal.end_domains-words-requires
end_domains-words-requires g c =
    let t = c.args.table.now in
    let s = c.in_ok-sound.ensures.sound in
    let yes = sym c.in_ok-sound.ensures.no in
    let f = store_lengths _ _ t yes in
    let named = rw s.words at c.in_ok-depth.ensures.depth in
    let few = rw s.words at c.in_ok-sound.sound.domains in
    (f.slots_high, f.table_exact, checked_ends _ _ t yes c.args.top c.requires.reached, named.2, few)

pub returns : goal.returns
returns g c =
    let a = c.args in
    let t = a.table.now in
    let s = c.in_ok-sound.ensures.sound in
    let passed = restore_passed _ _ t a.handle c.in_ok-sound.ensures.no (rw s.words at c.in_ok-depth.ensures.no) in
    let put = put_as {o = max_cells} (bytes_are (cells_of _) c.in_ok-depth.depth _ a.bodies.now _ t s.words s.slots) (omega arith) c.put_memory-bytes.ensures in
    restore_performed a.memory.now a.bodies.now t a.handle a.budget _ _ _ _ _ _ _ _ passed (rw s.words at c.in_ok-depth.ensures.depth).0 put c.saturating_sub.ensures c.end_domains-words.ensures c.answer_of.ensures
