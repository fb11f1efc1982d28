-- In a table that is right: the entry at the end of an entry's chain, and its value. Assumes nothing.
use Prim.Native.Nat.{ℕ, ◌+◌, ◌≤◌, ◌<◌}
use mathlib.Core.Bool.{true, false}
use mathlib.Core.List.{List}
use mathlib.Core.Path.{◌≡◌}
use native.Mathlib.Omega.{arith}
use lib.ListN.{length}
use Rattle.words.specs.Layout.{cell_at, cells_of, bodies_of}
use Rattle.table.specs.Entry.{word1, word2, depth_of, cell_of, is_pattern, find_in}
use Rattle.table.specs.Marks.{CellsOnce}
use Rattle.table.specs.Rule.{rule_ok}
use Rattle.table.proofs.Entry.{pattern_zero}
use Rattle.table.proofs.Parts.{rule_once}
use Rattle.table.proofs.Rule.{Rule, ok_facts}
use Rattle.table.proofs.Single.{find_self}
use Rattle.search.specs.Search.{source_in}
use Rattle.search.proofs.Value.{Own, ends_in_own, body_fits_lem}

module _ (memory bodies : List ℕ) (e : ℕ) (t : List ℕ) (ok : rule_ok (cells_of (length memory)) e (bodies_of (length bodies)) t ≡ true)
    (i : ℕ) (l : i < e) (low : 1 ≤ depth_of (word1 e t i)) where
  pub rule : Rule (cells_of (length memory)) e (bodies_of (length bodies)) t
  rule = ok_facts (cells_of (length memory)) e (bodies_of (length bodies)) t ok

  used : word1 e t i ≡ 0 → ⊥
  used z = omega (arith, low, z)

  pub held_once : CellsOnce e t e
  held_once = rule_once (cells_of (length memory)) e (bodies_of (length bodies)) t rule

  -- it is the one found for its depth and cell
  pub held_here : find_in e t (depth_of (word1 e t i)) (cell_of (word1 e t i)) ≡ i
  held_here = find_self (cells_of (length memory)) e (bodies_of (length bodies)) t rule i l used

  -- its cell is one of memory's
  pub held_inside : cell_at (cell_of (word1 e t i)) + 64 ≤ length memory
  held_inside = omega (arith, (rule.used i l used).cell)

  -- its chain ends in an entry, and where that is a copy its body is one of the bodies
  module _ (s : ℕ) (is : s ≡ source_in e t (depth_of (word1 e t i)) (cell_of (word1 e t i))) where
    pub source_own : Own e t s
    source_own = rw is (ends_in_own (cells_of (length memory)) e (bodies_of (length bodies)) t rule (depth_of (word1 e t i)) (cell_of (word1 e t i)) low (rw held_here l))

    pub source_slot : s < e
    source_slot = source_own.slot

    pub source_fits : is_pattern (word1 e t s) ≡ false → cell_at (word2 e t s) + 64 ≤ length bodies
    source_fits p =
        let inside = body_fits_lem (cells_of (length memory)) e (bodies_of (length bodies)) t rule s
        (record { slot = source_own.slot; used = source_own.used; copy = source_own.own; plain = pattern_zero (word1 e t s) p }) in
        omega (arith, inside)
