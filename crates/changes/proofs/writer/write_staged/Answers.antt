use native.Mathlib.Omega.{arith}
use Rattle.changes.specs.Staged.{staged}
use Rattle.changes.proofs.Writing.{heads_of, both_few, both_ready, both_done}
use Rattle.changes.proofs.writer.write_staged.Goals as goal

pub overflow_add-heads : goal.overflow_add-heads
overflow_add-heads c =
    let a = c.args in
    let h = heads_of a.slots a.head.now in
    omega (arith, both_few h (staged a.staged.words.now a.staged.changed.now) _ c.write_entries-n.ensures.counted)

pub finish_journal-requires : goal.finish_journal-requires
finish_journal-requires c =
    let a = c.args in
    let front = c.pairs_at-at.ensures in
    let h = heads_of a.slots a.head.now in
    rw front (both_ready h (staged a.staged.words.now a.staged.changed.now) _ c.write_entries-n.ensures.counted a.budget a.table.now c.requires.small.0 c.requires.small.1 (rw front at c.write_head.ensures) (rw (front, c.saturating_sub.ensures) at c.write_entries-n.ensures.words))

pub returns : goal.returns
returns c =
    let a = c.args in
    let front = c.pairs_at-at.ensures in
    let h = heads_of a.slots a.head.now in
    both_done h (staged a.staged.words.now a.staged.changed.now) _ c.write_entries-n.ensures.counted a.budget a.table.now c.requires.small.0 c.requires.small.1 (rw front at c.write_head.ensures) (rw (front, c.saturating_sub.ensures) at c.write_entries-n.ensures.words) c.finish_journal.ensures.made (rw front at c.finish_journal.ensures.words)
