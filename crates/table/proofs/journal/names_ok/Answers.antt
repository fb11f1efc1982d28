use Rattle.std.proofs.Common.{◌≡◌, sym, ◌∙◌, arith, lt-ltb, le-ltb}
use Rattle.words.proofs.Names.{names_step, names_end}
use Rattle.table.proofs.journal.names_ok.Goals as goal

pub returns-then-not-name_ok : goal.returns-then-not-name_ok
returns-then-not-name_ok c =
    let s = c.loop-j in
    let step = rw (← c.wide-word.ensures) at (names_step c.args.table.now c.args.first c.args.count s.j s.last c.loop-j-test.true) in
    sym (s.invariant ∙ step ∙ rw (sym c.if-not-name_ok.ensures))

pub returns-then-word-last : goal.returns-then-word-last
returns-then-word-last c =
    let s = c.loop-j in
    let step = rw (← c.wide-word.ensures) at (names_step c.args.table.now c.args.first c.args.count s.j s.last c.loop-j-test.true) in
    sym (s.invariant ∙ step ∙ rw (sym c.if-not-name_ok.ensures, le-ltb _ _ c.if-word-last.true))

pub loop-j-preserved : goal.loop-j-preserved
loop-j-preserved c =
    let s = c.loop-j in
    let step = rw (← c.wide-word.ensures) at (names_step c.args.table.now c.args.first c.args.count s.j s.last c.loop-j-test.true) in
    s.invariant ∙ step ∙ rw (sym c.if-not-name_ok.ensures, lt-ltb _ _ c.if-word-last.false)

pub returns : goal.returns
returns c =
    let e : c.loop-j.j ≡ c.args.count = omega arith in
    sym (rw e at c.loop-j.invariant ∙ names_end c.args.table.now c.args.first c.args.count c.loop-j.last)
