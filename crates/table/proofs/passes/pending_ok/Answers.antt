-- `table::passes::pending_ok` meets its contract. The copy agrees with the effective table in every word that the rule reads (proofs/Agree.antt). Assumes nothing.
use Rattle.std.proofs.Common.{ℕ, get_or, sym, ap, ◌∙◌, arith}
use Rattle.words.specs.Layout.{pairs_at}
use Rattle.words.specs.Stores.{stores}
use Rattle.words.specs.Journal.{pairs}
use Rattle.table.proofs.Agree.{rule_same}
use Rattle.table.proofs.Pairs.{pairs_few, pairs_fine, effective_same}
use Rattle.table.proofs.passes.pending_ok.Goals as goal

pub put_pairs-requires-clause-sizes : goal.put_pairs-requires-clause-sizes
put_pairs-requires-clause-sizes g c = (
  omega (arith, c.requires.pairs.0, c.pairs_at-first.ensures, c.wide.ensures, pairs_few c.args.table.now.slots c.args.table.now.words.now c.requires.pairs.1),
  omega (arith, c.requires.front.0, c.pairs_at-first.ensures),
)

pub put_pairs-requires-clause-pairs : goal.put_pairs-requires-clause-pairs
put_pairs-requires-clause-pairs g c =
    let e = c.args.table.now in (
      (λ j l. rw c.pairs_at-first.ensures (pairs_fine e.slots e.words.now c.requires.pairs.1 j (rw c.wide.ensures at l)).0),
      c.copy_words.ensures,
    )

pub returns : goal.returns
returns g c =
    let e = c.args.table.now in
    let t = e.words.now in
    c.rule_ok.ensures.value
    ∙ rule_same c.args.cells e.slots c.args.bodies _ _ (λ k l z.
    c.put_pairs.ensures k (rw c.pairs_at-first.ensures l)
    ∙ ap (λ (n : ℕ). get_or (stores (pairs t n c.wide.result) t) k 0) c.pairs_at-first.ensures
    ∙ ap (λ (n : ℕ). get_or (stores (pairs t (pairs_at e.slots) n) t) k 0) c.wide.ensures
    ∙ sym (effective_same (pairs_at e.slots) t k l z))
