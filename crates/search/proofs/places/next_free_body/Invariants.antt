-- Every body passed has the mark.
use Rattle.search.specs.Free.{unmarked}
use Rattle.search.proofs.From.{Failing}
use Rattle.search.proofs.places.next_free_body.Given as goal

abbrev pub invariant-loop-k : goal.invariant-loop-k
invariant-loop-k l = Failing (unmarked l.used) l.from l.k
