-- What the second word of an entry is, by its kind, as the code asks it. Assumes nothing.
use Prim.Native.Nat.{ℕ}
use mathlib.Core.Bool.{true, not, ◌&&◌, and-true, and-false}
use mathlib.Core.List.{List}
use mathlib.Core.Path.{◌≡◌}
use borrow.Author.Tests.{eq-eqb, ne_eqb}
use lib.Dec.{ltb, leb, eqb}
use lib.ListN.{get_or, set}
use Rattle.table.specs.Entry.{depth_of, via_of, pattern_of}
use Rattle.table.specs.Rule.{kind_ok}
use Rattle.table.specs.Marks.{mark_body, body_fits}
use Rattle.table.proofs.Entry.{pattern_none}

-- ---- is it right?
module _ (b w v : ℕ) where
  pub kind_via : pattern_of w ≡ 0 → (via_of w ≡ 0 → ⊥) → kind_ok b w v ≡ (eqb v 0 && leb 2 (depth_of w))
  kind_via p z = rw (ne_eqb _ _ z, eq-eqb _ _ p, and-true (leb 2 (depth_of w)))

  pub kind_copy : pattern_of w ≡ 0 → via_of w ≡ 0 → kind_ok b w v ≡ ltb v b
  kind_copy p z = rw (eq-eqb _ _ z, pattern_none w p)

-- ---- is it a body?
module _ (w v : ℕ) (used : List ℕ) where
  pub no_body : (via_of w ≡ 0 → ⊥) → (body_fits w v used ≡ true) × (mark_body w v used ≡ used)
  unfolding body_fits mark_body
  no_body z = (rw (ne_eqb _ _ z, and-false (not (eqb w 0))), rw (ne_eqb _ _ z, and-false (not (eqb w 0))))

  pub one_body : (w ≡ 0 → ⊥) → via_of w ≡ 0 → pattern_of w ≡ 0 → (body_fits w v used ≡ not (eqb (get_or used v 0) 1)) × (mark_body w v used ≡ set used v 1)
  unfolding body_fits mark_body
  one_body u z p = (rw (ne_eqb _ _ u, eq-eqb _ _ z, eq-eqb _ _ p), rw (ne_eqb _ _ u, eq-eqb _ _ z, eq-eqb _ _ p))
