use Rattle.std.proofs.Common.{sym, ◌∙◌}
use Rattle.table.specs.Entry.{word1, depth_of, cell_of}
use Rattle.table.proofs.Entry.{via_some, via_zero}
use Rattle.search.proofs.Anywhere.{find_used}
use Rattle.search.proofs.Value.{source_own_at, source_via_at}
use Rattle.search.proofs.holders.source_of.Goals as goal

pub returns-then-not-is_via : goal.returns-then-not-is_via
returns-then-not-is_via c =
    let t = c.args.table.now in
    let e = t.entries in
    let w = word1 e.slots e.words.now c.args.i in (
      c.requires.slot,
      sym (source_own_at e.slots e.words.now (depth_of w) (cell_of w) c.args.i c.requires.used (sym (find_used e.slots e.words.now t.once c.args.i c.requires.slot c.requires.used)) c.requires.slot
          (via_zero w (rw c.first_word-word.ensures at (sym c.is_via.ensures ∙ c.if-not-is_via.true)))),
    )

pub returns : goal.returns
returns c =
    let t = c.args.table.now in
    let e = t.entries in
    let w = word1 e.slots e.words.now c.args.i in
    let out =
    source_via_at e.slots e.words.now (depth_of w) (cell_of w) c.args.i c.requires.used (sym (find_used e.slots e.words.now t.once c.args.i c.requires.slot c.requires.used)) c.requires.slot
    (via_some w (rw c.first_word-word.ensures at (sym c.is_via.ensures ∙ c.if-not-is_via.false))) in
    rw out (rw (c.parent_of.ensures, c.depth_of.ensures, c.cell_of.ensures, c.first_word-word.ensures) at c.find_source.ensures)
