use Rattle.std.proofs.Common.{◌≡◌, ℕ, ◌-◌, Bool, true, false, eqb, rules}
use Rattle.std.proofs.lemmas.Iterator.{first_from_Range}
use borrow.Author.Tests.{tests}
use Rattle.table.specs.Entry.{handle}
use Rattle.search.proofs.Domain.{named_live, named_first}
use Rattle.search.proofs.domains.find_domain.Goals as goal

pub returns-then-handle-eq0 : goal.returns-then-handle-eq0
returns-then-handle-eq0 c = rw c.then_some.ensures (named_live c.args.table.now c.args.handle c.if-handle-eq0.true)

pub returns : goal.returns
returns c =
    let a = c.args in
    let f : ℕ → Bool = λ d. eqb (handle a.table.now (d - 1)) a.handle in
    named_first a.table.now a.handle c.if-handle-eq0.false c.find.result
    (first_from_Range _ _ _ c.find.result (λ k. f k ≡ true) (λ k. f k ≡ false) c.find.ensures.ran (λ x q k. search (rules, tests)) (λ x q k. search (rules, tests)))
