-- `commit::commit_with` meets its contract: the words that it stores make the outcome of the call (proofs/Committed.antt). Assumes nothing.
use Prim.Native.Nat.{ℕ}
use mathlib.Core.Path.{sym}
use lib.ListN.{length-replicate}
use Rattle.marks.proofs.Blocks.{blank_zeros}
use Rattle.table.specs.Marks.{zeros}
use Rattle.commit.proofs.Committed.{marks_ready, commit_ready, commit_refused, commit_performed}
use Rattle.commit.proofs.commit_with.Goals as goal

pub commit_check-requires : goal.commit_check-requires
unfolding zeros
commit_check-requires g c = record {
  room = rw length-replicate c.requires.room.1;
  bodies = length-replicate {A = ℕ} 4096 0;
  no_cells = blank_zeros g.row.BYTES;
  no_bodies = blank_zeros 4096;
  reached = c.requires.reached;
}

pub returns-in_err-sound : goal.returns-in_err-sound
returns-in_err-sound g c = let a = c.args in
    commit_refused a.memory.now a.bodies.now a.table.now a.handle a.budget _ _ c.from_residual.ensures.1 c.in_err-sound.ensures.no

pub invariant_of-innermost : goal.invariant_of-innermost
invariant_of-innermost g c =
    let p = commit_ready _ _ c.args.table.now c.args.handle (sym c.in_ok-sound.ensures.no) in
    record { lives = rw c.in_ok-sound.ensures.sound.words (p.low, p.high) }

pub tell_writable-requires : goal.tell_writable-requires
tell_writable-requires g c =
    let s = c.in_ok-sound.ensures.sound in
    let marks = c.in_ok-sound.ensures.marks in
    rw (s.words, s.slots) (marks.kept, marks.cells)

pub end_domain-steps-requires : goal.end_domain-steps-requires
end_domain-steps-requires g c =
    let p = commit_ready _ _ c.args.table.now c.args.handle (sym c.in_ok-sound.ensures.no) in
    let s = c.in_ok-sound.ensures.sound in
    let kept = c.in_ok-sound.ensures.marks.kept in
    record {
      small = rw s.slots (p.small, p.long);
      ends = rw s.slots (p.ends c.args.top c.requires.reached);
      told = (marks_ready _ _ kept c.tell_writable.auto.seen, rw s.words (rw s.words at c.tell_writable.ensures));
    }

pub returns : goal.returns
returns g c =
    let a = c.args in
    let s = c.in_ok-sound.ensures.sound in
    let w = rw s.words at c.end_domain-steps.ensures in
    commit_performed a.memory.now a.bodies.now a.table.now a.handle a.budget (sym c.in_ok-sound.ensures.no) s.slots w.made w.words c.answer_of.ensures
