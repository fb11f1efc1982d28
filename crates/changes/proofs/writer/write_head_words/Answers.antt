use native.Mathlib.Omega.{arith}
use Rattle.changes.specs.Head.{head_stores}
use Rattle.changes.proofs.Writing.{heads_of, pairs_ready, pairs_done}
use Rattle.changes.proofs.writer.write_head_words.Goals as goal

pub finish_journal-requires : goal.finish_journal-requires
finish_journal-requires c =
    let a = c.args in
    let front = c.pairs_at-at.ensures in
    let h = heads_of a.slots a.head.now in
    rw front (pairs_ready a.slots (head_stores a.head.now) a.table.now _ a.budget _ c.requires.0 c.requires.1 h.number (omega (arith, h.few)) h.low (rw front at c.write_head.ensures))

pub returns : goal.returns
returns c =
    let a = c.args in
    let front = c.pairs_at-at.ensures in
    let h = heads_of a.slots a.head.now in
    let done = pairs_done a.slots (head_stores a.head.now) a.table.now _ a.budget _ c.requires.0 c.requires.1 h.number (omega (arith, h.few)) h.low (rw front at c.write_head.ensures) _ _ c.finish_journal.ensures.made (rw front at c.finish_journal.ensures.words) in
    record { made = done.0; few = done.1; words = done.2 }
