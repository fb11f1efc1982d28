-- `table::passes::head_ok` meets its contract. Assumes nothing.
use Rattle.std.proofs.Common.{◌≡◌, refl, rules, ◌∙◌}
use Rattle.std.proofs.lemmas.Iterator.{YieldsList-from_range}
use Rattle.std.proofs.lemmas.Iterator.Search.{all_from_yields_List}
use Rattle.words.specs.Scan.{all}
use Rattle.table.specs.Rule.{handle_ok, head_ok}
use Rattle.table.proofs.Listed.{all_listed}
use Rattle.table.proofs.passes.head_ok.Goals as goal

pub returns : goal.returns
unfolding head_ok
returns c =
    let t = c.args.table.now in
    let e : c.all.result ≡ all 8 (handle_ok t) =
    all_from_yields_List (handle_ok t) _ _ _ c.all.ensures.ran (YieldsList-from_range 0 8 8 refl refl) (λ x b q k. search rules) ∙ all_listed 8 (handle_ok t) in
    rw e
