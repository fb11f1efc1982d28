-- `ranges::list::earlier` meets its contract: behind the last range that shares a cell with it none names one of its cells. Assumes nothing.
use Rattle.std.proofs.Common.{◌+◌, take, sym, arith}
use Rattle.std.proofs.lemmas.Bool.Decides.{nat_tests}
use Rattle.std.proofs.lemmas.List.{length-take-le}
use Rattle.ranges.proofs.Lists.{take_at, named_nowhere, named_until}
use Rattle.ranges.proofs.list.earlier.Goals as goal

pub returns-in-Some-clause-asked : goal.returns-in-Some-clause-asked
returns-in-Some-clause-asked c = λ x e.
    let rs = c.args.list.now in
    let i = c.args.i in
    let n = length-take-le i rs (omega arith) in
    let h = c.in-Some.ensures in
    named_until rs x (c.in-Some.k + 1) i (omega (arith, h.0)) (omega arith) (λ j a b. rw (sym (take_at rs i j b)) (h.1 j (omega arith) (omega arith) x e))

pub returns-in-None-clause-asked : goal.returns-in-None-clause-asked
returns-in-None-clause-asked c = λ x e.
    let none = named_nowhere (take c.args.i c.args.list.now) x (λ j l. c.in-None.ensures j l x e) in
    rw none (grind (arith, nat_tests))
