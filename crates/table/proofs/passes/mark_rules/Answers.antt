use Prim.Native.Nat.{ℕ}
use mathlib.Core.Path.{◌≡◌, subst}
use native.Mathlib.Omega.{arith}
use Rattle.table.specs.Marks.{RulesMarked}
use Rattle.table.proofs.Passing.{rules_once, rules_end}
use Rattle.table.proofs.passes.mark_rules.Goals as goal

pub returns-clause-right : goal.returns-clause-right
returns-clause-right c = λ r.
    let e = c.args.table.now in
    let q : c.loop-i.i ≡ e.top = omega arith in
    let all = subst (λ (n : ℕ). RulesMarked e.slots e.words.now e.top n c.loop-i.seen) q c.loop-i.invariant in
    (rules_once e.slots e.words.now e.top _ e.ends all, rules_end e.slots e.words.now e.top _ e.ends all, all.kept)
