-- Questions 1 and 2 as facts: what a yes to question 1 tells, and what makes a yes to question 2. Assumes nothing.
use Prim.Native.Nat.{ℕ, ◌≤◌}
use mathlib.Core.Bool.{true, false, ◌&&◌}
use mathlib.Core.List.{List}
use mathlib.Core.Path.{◌≡◌}
use borrow.Author.Tests.{eq-eqb, leb-true, eqb-true}
use lib.Dec.{leb, eqb}
use lib.ListN.{length, get_or}
use Rattle.words.specs.Layout.{cell_at, cells_of, bodies_of, max_cells, max_bodies, max_slots, table_words, slots_of, magic, magic_at, cells_at, slots_at, bodies_at, zero_at}
use Rattle.words.proofs.Scan.{and_split, and_join, is_false}
use Rattle.table.specs.Checks.{between1, lengths_ok, header_ok}

-- ---- question 1
pub record Lengths (memory bodies table : ℕ) : Type 0 where
  pub cells_low : 1 ≤ cells_of memory
  pub cells_high : cells_of memory ≤ max_cells
  pub memory_exact : memory ≡ cell_at (cells_of memory)
  pub bodies_low : 1 ≤ bodies_of bodies
  pub bodies_high : bodies_of bodies ≤ max_bodies
  pub bodies_exact : bodies ≡ cell_at (bodies_of bodies)
  pub slots_low : 1 ≤ slots_of table
  pub slots_high : slots_of table ≤ max_slots
  pub table_exact : table ≡ table_words (slots_of table)

-- a length with n elements of some size, n from 1 to most
within : (n most len exact : ℕ) → (between1 n most && eqb len exact) ≡ true → (1 ≤ n) × (n ≤ most) × (len ≡ exact)
within n most len exact h =
    let s = and_split (between1 n most) (eqb len exact) h in
    let b = and_split (leb 1 n) (leb n most) s.0 in
    (leb-true 1 n b.0, leb-true n most b.1, eqb-true len exact s.1)

module _ (m b t : ℕ) where
  pub lengths_facts : lengths_ok m b t ≡ true → Lengths m b t
  unfolding lengths_ok
  lengths_facts h =
      let s = and_split _ _ h in
      let r = and_split _ _ s.1 in
      let x = within (cells_of m) max_cells m (cell_at (cells_of m)) s.0 in
      let y = within (cells_of b) max_bodies b (cell_at (cells_of b)) r.0 in
      let z = within (slots_of t) max_slots t (table_words (slots_of t)) r.1 in
      record {
        cells_low = x.0;
        cells_high = x.1;
        memory_exact = x.2;
        bodies_low = y.0;
        bodies_high = y.1;
        bodies_exact = y.2;
        slots_low = z.0;
        slots_high = z.1;
        table_exact = z.2;
      }

  -- a table whose number of slots is not allowed
  pub lengths_none : (1 ≤ slots_of t → slots_of t ≤ max_slots → ⊥) → lengths_ok m b t ≡ false
  lengths_none h = is_false (lengths_ok m b t) (λ p. let f = lengths_facts p in h f.slots_low f.slots_high)

-- ---- question 2, for buffers of m and b bytes
pub record Header (m b : ℕ) (t : List ℕ) : Type 0 where
  pub magic : get_or t magic_at 0 ≡ magic
  pub cells : get_or t cells_at 0 ≡ cells_of m
  pub slots : get_or t slots_at 0 ≡ slots_of (length t)
  pub bodies : get_or t bodies_at 0 ≡ cells_of b
  pub zero : get_or t zero_at 0 ≡ 0

module _ (m b : ℕ) (t : List ℕ) where
  pub header_make : Header m b t → header_ok m b t ≡ true
  unfolding header_ok
  header_make h =
      and_join _ _ (eq-eqb _ _ h.magic)
      (and_join _ _ (eq-eqb _ _ h.cells) (and_join _ _ (eq-eqb _ _ h.slots) (and_join _ _ (eq-eqb _ _ h.bodies) (eq-eqb _ _ h.zero))))

  -- a table whose word 0 is cleared is no store
  pub header_none : get_or t magic_at 0 ≡ 0 → header_ok m b t ≡ false
  unfolding header_ok
  header_none z = rw z
