use Rattle.std.proofs.Common.{◌≡◌, ◌<◌, true, sym, arith}
use Rattle.table.specs.Entry.{word1}
use Rattle.search.specs.Search.{named_by}
use Rattle.search.proofs.Keys.{none_wide}
use Rattle.search.proofs.Inwards.{lacking_more, holder_nobody, holder_none, holder_found}
use Rattle.search.proofs.Anywhere.{found_nowhere}
use Rattle.search.proofs.holders.find_holder.Goals as goal

pub returns-then-cell-ge65536 : goal.returns-then-cell-ge65536
returns-then-cell-ge65536 c = let e = c.args.table.now.entries in sym (holder_none e.slots e.words.now c.args.from c.args.cell (λ d. none_wide e.slots e.words.now d c.args.cell c.if-cell-ge65536.true))

pub loop-depth-preserved : goal.loop-depth-preserved
loop-depth-preserved c =
    let t = c.args.table.now in
    let e = t.entries in
    let depth = c.loop-depth.depth in
    lacking_more e.slots e.words.now c.args.from c.args.cell depth c.loop-depth.auto.depth c.loop-depth.invariant
    (found_nowhere e.slots e.words.now t.once depth c.args.cell _ (omega arith) c.of-key.ensures e.top c.start_at-start.result _ _ e.ends c.loop-i-test.false c.loop-j-test.false c.loop-i.invariant c.loop-j.invariant)

pub returns-after-loop-depth : goal.returns-after-loop-depth
returns-after-loop-depth c =
    let e = c.args.table.now.entries in
    sym (holder_nobody e.slots e.words.now c.args.from c.args.cell c.loop-depth.depth c.loop-depth.auto.depth (omega arith) c.loop-depth.invariant)

pub returns-then-names : goal.returns-then-names
returns-then-names c =
    let t = c.args.table.now in
    let e = t.entries in
    let i = c.loop-i.i in
    let within : i < e.slots = omega (arith, e.ends.0) in
    let named : named_by c.of-key.result.word (word1 e.slots e.words.now i) ≡ true = cc in
    sym
    (holder_found e.slots e.words.now c.args.from c.args.cell t.once c.requires c.loop-depth.depth i c.of-key.result.word c.loop-depth.auto.depth (omega arith)
    c.loop-depth.invariant c.of-key.ensures within named)

pub returns-then-names-2 : goal.returns-then-names-2
returns-then-names-2 c =
    let t = c.args.table.now in
    let e = t.entries in
    let j = c.loop-j.j in
    let within : j < e.slots = omega (arith, e.ends.0) in
    let named : named_by c.of-key.result.word (word1 e.slots e.words.now j) ≡ true = cc in
    sym
    (holder_found e.slots e.words.now c.args.from c.args.cell t.once c.requires c.loop-depth.depth j c.of-key.result.word c.loop-depth.auto.depth (omega arith)
    c.loop-depth.invariant c.of-key.ensures within named)
