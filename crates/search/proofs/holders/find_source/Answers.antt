use Rattle.std.proofs.Common.{sym, ◌∙◌, arith}
use Rattle.table.proofs.Entry.{via_some, via_zero}
use Rattle.search.proofs.Value.{source_none_at, source_own_at, source_via_at, source_zero}
use Rattle.search.proofs.holders.find_source.Goals as goal

pub returns-in_err-i : goal.returns-in_err-i
returns-in_err-i c =
    let e = c.args.entries.now in
    rw c.from_residual.ensures (c.loop-d.invariant ∙ source_none_at e.slots e.words.now c.loop-d.d c.args.cell (omega arith) (omega (arith, c.in_err-i.ensures)))

pub returns-then-not-is_via : goal.returns-then-not-is_via
returns-then-not-is_via c =
    let e = c.args.entries.now in
    let found = c.in_ok-i.ensures in
    (found.0, sym (c.loop-d.invariant ∙ source_own_at e.slots e.words.now c.loop-d.d c.args.cell c.in_ok-i.i (omega arith) found.1 found.0 (via_zero _ (rw c.first_word.ensures at (sym c.is_via.ensures ∙ c.if-not-is_via.true)))))

pub loop-d-preserved : goal.loop-d-preserved
loop-d-preserved c =
    let e = c.args.entries.now in
    let found = c.in_ok-i.ensures in
    c.loop-d.invariant ∙ source_via_at e.slots e.words.now c.loop-d.d c.args.cell c.in_ok-i.i (omega arith) found.1 found.0 (via_some _ (rw c.first_word.ensures at (sym c.is_via.ensures ∙ c.if-not-is_via.false)))

pub returns : goal.returns
returns c = let e = c.args.entries.now in c.loop-d.invariant ∙ source_zero e.slots e.words.now c.loop-d.d c.args.cell (omega arith)
