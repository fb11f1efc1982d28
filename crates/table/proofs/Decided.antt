-- What the questions after the pass over the entries decide. Assumes nothing.
use Rattle.std.proofs.Common.{◌≡◌, ℕ, min, true, false, List, sym, ◌∙◌, arith}
use Rattle.words.specs.Layout.{max_cells}
use Rattle.words.specs.Scan.{all}
use Rattle.table.specs.Rule.{head_ok, entry_ok, rule_ok}
use Rattle.marks.specs.Blocks.{cells_in, Room}
use Rattle.table.specs.Marks.{EndsAt, CellsOnce, ViasMarkable, ViaInner, NoVias, all_told, PassedAll, RulesMarked, AllMarked}
use Rattle.table.proofs.Parts.{entries_inner, entries_markable}
use Rattle.table.proofs.Passing.{passed_cells, pass_entries, pass_right, pass_wrong, alone_once, alone_marks, rules_start, rule_least}

-- of a memory of c cells, of which an entry can name m
module _ (m c e b : ℕ) (t seen used : List ℕ) (top vias rules : ℕ) (named : m ≡ min c max_cells) (head : head_ok t ≡ true)
    (done : PassedAll m e b t top vias rules seen used) where
  entries : all e (entry_ok m e b t) ≡ true
  entries = pass_entries m e b t seen used done.passed head

  same_rule : rule_ok m e b t ≡ rule_ok c e b t
  same_rule = rw named (rule_least c e b t)

  pub parents_asked : ViasMarkable e t (cells_in seen) × ViaInner e t × NoVias e t e vias
  parents_asked = (
    entries_markable m e b t entries _ (rw (passed_cells m e b t e seen used done.passed) (omega (arith, named))),
    entries_inner m e b t entries,
    done.alone,
  )

  pub parents_missing : all_told e t seen ≡ false → rule_ok c e b t ≡ false
  parents_missing h = sym same_rule ∙ pass_wrong m e b t seen used done.passed head h

  module _ (told : all_told e t seen ≡ true) where
    -- no entry follows a rule
    pub right_alone : rules ≡ 0 → (rule_ok c e b t ≡ true) × AllMarked e t seen used
    right_alone none =
        let z = sym done.counted ∙ none in
        (sym same_rule ∙ pass_right m e b t seen used done.passed head (alone_once m e b t seen used done.passed head z) told, alone_marks m e b t seen used done.passed head z)

    pub rules_first : EndsAt e t top → Room top m seen → RulesMarked e t top 0 seen
    rules_first ends room = rules_start m e b t seen used done.passed head top ends room done.few

    -- those that follow a rule decide
    pub right_once : CellsOnce e t e → rule_ok c e b t ≡ true
    right_once once = sym same_rule ∙ pass_right m e b t seen used done.passed head once told
