use Rattle.std.proofs.Common.{None, Some, not, ap, arith, ne_eqb}
use Rattle.search.specs.Free.{unmarked, unmarked_from}
use Rattle.search.proofs.From.{found_first}
use Rattle.search.proofs.places.next_free_body.Goals as goal

pub returns-then-used-k-ne1 : goal.returns-then-used-k-ne1
unfolding unmarked_from
returns-then-used-k-ne1 c =
    let a = c.args in
    found_first (unmarked a.used.now) a.from a.bodies (Some c.loop-k.k) c.requires.1 (c.loop-k.auto.k, c.loop-k-test.true, ap not (ne_eqb _ _ c.if-used-k-ne1.true), c.loop-k.invariant)

pub returns : goal.returns
unfolding unmarked_from
returns c = let a = c.args in found_first (unmarked a.used.now) a.from a.bodies None c.requires.1 (λ k l h. c.loop-k.invariant k l (omega arith))
