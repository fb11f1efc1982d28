use Rattle.std.proofs.Common.{ℕ, ◌+◌, ◌*◌, List, get_or, set, sym, ap, ◌∙◌, arith}
use Rattle.table.proofs.Pairs.{put_none, put_agree}
use Rattle.table.proofs.journal.put_pairs.Goals as goal

pub loop-j-init : goal.loop-j-init
loop-j-init c = λ k l. c.requires.pairs.1 k l ∙ ap (λ (x : List ℕ). get_or x k 0) (sym (put_none c.args.table.now c.args.first c.args.table.now))

pub loop-j-preserved : goal.loop-j-preserved
loop-j-preserved c = λ k l.
    let a = c.args in
    let t = a.table.now in
    let s = c.loop-j.copy in
    let j = c.loop-j.j in
    ap (λ (y : ℕ). get_or (set s y (get_or t (a.first + 2 * j + 1) 0)) k 0) c.wide.ensures
    ∙ put_agree t a.first j s (c.requires.pairs.0 j c.loop-j-test.true) (omega (arith, c.loop-j.auto.copy)) (omega arith) c.loop-j.invariant k l
