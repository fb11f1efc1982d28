-- `table::journal::write_entry` meets its contract. Assumes nothing.
use mathlib.Core.List.{[], ◌∷◌}
use Rattle.words.specs.Layout.{first_at, second_at}
use Rattle.words.specs.Stores.{◌≔◌}
use Rattle.words.proofs.Phases.{pair_more}
use Rattle.table.proofs.journal.write_entry.Goals as goal

pub returns : goal.returns
returns c =
    let a = c.args in
    let e₁ = rw c.first_at.ensures at c.write_pair.ensures in
    let e₂ = rw (c.saturating_sub.ensures, c.second_at.ensures) at c.write_pair-2.ensures in
    pair_more a.at ((first_at a.slots a.i ≔ a.words.0) ∷ []) (second_at a.slots a.i ≔ a.words.1) a.budget a.table.now _ _ e₁ e₂
