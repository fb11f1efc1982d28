use Rattle.std.proofs.Common.{◌<◌, ◌≤◌, sym, ◌∙◌, rules}
use Rattle.table.specs.Entry.{word1, depth_of}
use Rattle.search.proofs.Holding.{no_holder, holder_slot, holder_used, chain_ends, value_there}
use Rattle.search.proofs.holders.find_value.Goals as goal

pub returns-in_err-holder : goal.returns-in_err-holder
returns-in_err-holder c =
    let e = c.args.table.now.entries in
    c.from_residual.ensures ∙ sym (no_holder e.slots e.words.now c.args.from c.args.cell (sym c.in_err-holder.ensures))

pub source_of-requires : goal.source_of-requires
source_of-requires c =
    let e = c.args.table.now.entries in
    let h = c.in_ok-holder.holder in
    let slot : h.entry < e.slots = holder_slot e.slots e.words.now c.args.from c.args.cell h (sym c.in_ok-holder.ensures) in
    let used : 1 ≤ depth_of (word1 e.slots e.words.now h.entry) = holder_used e.slots e.words.now c.args.from c.args.cell h (sym c.in_ok-holder.ensures) c.requires.depth in
    search rules

pub returns-in_err-source : goal.returns-in_err-source
returns-in_err-source c =
    let e = c.args.table.now.entries in
    absurd (chain_ends e.slots e.words.now c.args.from c.args.cell _ (sym c.in_ok-holder.ensures) c.requires.source c.in_err-source.ensures)

pub returns : goal.returns
returns c =
    let e = c.args.table.now.entries in
    rw c.value_at.ensures
    (sym (value_there e.slots e.words.now c.args.from c.args.cell _ (sym c.in_ok-holder.ensures) _ c.in_ok-source.ensures.1))
