-- What passed questions 1 to 4 let a pass over the entries rely on: no depth has a cell twice, and where the entries in use end. Assumes nothing.
use Prim.Native.Nat.{ℕ}
use mathlib.Core.List.{List}
use mathlib.Core.Path.{◌≡◌, sym, ◌∙◌}
use lib.ListN.{length}
use Rattle.words.specs.Layout.{cells_of, bodies_of, slots_of}
use Rattle.table.specs.Marks.{CellsOnce, EndsAt, Reached}
use Rattle.table.proofs.Parts.{rule_once}
use Rattle.store.specs.Checks.{idle_check, table_check, store_check, lent}
use Rattle.store.specs.Lent.{Passes}
use Rattle.store.proofs.Checks.{store_parts, store_lengths, or_else_go}
use Rattle.store.proofs.Raw.{check_rule}

module _ (memory bodies : ℕ) (t : List ℕ) (yes : store_check (lent memory bodies t) ≡ 0) where
  -- no depth has a cell twice
  pub checked_once : CellsOnce (slots_of (length t)) t (slots_of (length t))
  checked_once = rule_once (cells_of memory) (slots_of (length t)) (bodies_of bodies) t (check_rule memory bodies t yes)

  -- the entries end where the call was told
  pub checked_ends : (top : ℕ) → Reached t top → EndsAt (slots_of (length t)) t top
  checked_ends top reached = let f = store_lengths memory bodies t yes in (reached f.slots_low f.slots_high).0

-- questions 1 to 3 and question 4, each answered yes
pub passes : (memory bodies : ℕ) (t : List ℕ) → 0 ≡ idle_check (lent memory bodies t) → 0 ≡ table_check (lent memory bodies t) → Passes t
passes memory bodies t idle right = record { memory = memory; bodies = bodies; yes = store_parts memory bodies t ∙ or_else_go _ _ (sym idle) ∙ sym right }
