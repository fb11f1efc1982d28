-- The lowest free slots and bodies, in the order of the cells, are a choice of different free ones where questions 16 and 17 are answered by yes. Assumes
-- nothing.
use Prim.Native.Nat.{ℕ, ◌+◌, ◌≤◌}
use mathlib.Core.Bool.{Bool}
use mathlib.Core.List.{List}
use native.Mathlib.Omega.{arith}
use Rattle.words.specs.Scan.{count}
use Rattle.table.proofs.Rule.{Rule}
use Rattle.search.specs.Free.{slot_free, body_free, used_slots, copies, lowest_free, TakesFree}
use Rattle.search.proofs.Free.{slots_all, bodies_all}
use Rattle.search.proofs.Taking.{lowest_free_lem}

module _ (m e b : ℕ) (t : List ℕ) (ok : Rule m e b t) (f : ℕ → Bool) (room : copies e t + count m f ≤ b) where
  pub enough : count m f ≤ count b (body_free e t)
  enough = omega (arith, bodies_all m e b t ok)

  pub chosen : TakesFree m f b (body_free e t) (lowest_free b (body_free e t) f)
  chosen = lowest_free_lem m f b (body_free e t) enough

module _ (m e : ℕ) (t : List ℕ) (g : ℕ → Bool) (room : used_slots e t + count m g ≤ e) where
  pub slots_enough : count m g ≤ count e (slot_free e t)
  slots_enough = omega (arith, slots_all e t)

  pub slots_chosen : TakesFree m g e (slot_free e t) (lowest_free e (slot_free e t) g)
  slots_chosen = lowest_free_lem m g e (slot_free e t) slots_enough
