-- Demand 2 on states: a table that opening accepts stands for exactly one state, and what does not matter to it. Assumes nothing.
use Prim.Native.Nat.{ℕ}
use mathlib.Core.List.{List}
use mathlib.Core.Option.{Option, none, some}
use mathlib.Core.Path.{◌≡◌, refl, subst}
use borrow.Author.Tests.{eqb-true}
use lib.Dec.{eqb}
use lib.ListN.{length}
use Rattle.words.specs.Layout.{cells_of, bodies_of}
use Rattle.words.specs.Cells.{cell_bytes}
use Rattle.words.proofs.Scan.{by_bool}
use Rattle.table.specs.Entry.{word2}
use Rattle.table.proofs.Rule.{Rule}
use Rattle.search.proofs.Value.{Copy}
use Rattle.model.specs.State.{State}
use Rattle.store.specs.Outcome.{Buffers, buffers}
use Rattle.store.specs.Checks.{open_check, lent_of}
use Rattle.store.specs.State.{StandsFor, state_in, state_of, standing, slots, effective_table}
use Rattle.store.proofs.Checks.{open_table, table_rule}
use Rattle.store.proofs.State.{stands, only, state_kept}
use Rattle.store.proofs.Cuts.{stands_open}

-- ---- exactly one state

abbrev pub Opens : Buffers → Type 0
Opens b = open_check (lent_of b) ≡ 0

abbrev pub None : Option State → Type 0
None none = Unit {0}
None (some s) = ⊥

-- what stands for a state can be opened
pub standing_opens : (b : Buffers) (s : State) → standing b ≡ some s → Opens b
unfolding standing
standing_opens b s e =
    by_bool (eqb (open_check (lent_of b)) 0)
    (λ t. eqb-true (open_check (lent_of b)) 0 t)
    (λ t. let f = rw t at e in absurd (subst None f tt))

module _ (b : Buffers) (opens : Opens b) where
  pub right : Rule (cells_of (length b.memory)) (slots b) (bodies_of (length b.bodies)) (effective_table b)
  right = table_rule (length b.memory) (length b.bodies) b.table (open_table (length b.memory) (length b.bodies) b.table opens)

  pub stands_for : StandsFor (slots b) (effective_table b) b.bodies (state_of b)
  unfolding state_of
  stands_for = stands (cells_of (length b.memory)) (slots b) (bodies_of (length b.bodies)) (effective_table b) right b.bodies

  pub only_state : (s : State) → StandsFor (slots b) (effective_table b) b.bodies s → s ≡ state_of b
  unfolding state_of
  only_state = only (cells_of (length b.memory)) (slots b) (bodies_of (length b.bodies)) (effective_table b) right b.bodies

  pub is_standing : standing b ≡ some (state_of b)
  unfolding state_of
  is_standing = stands_open b.memory b.bodies b.table opens

  -- free bodies do not matter: any bodies in which the bodies in use have the same bytes stand for the same state
  pub free_bodies : (new : List ℕ)
      → ((i : ℕ) → Copy (slots b) (effective_table b) i → cell_bytes new (word2 (slots b) (effective_table b) i) ≡ cell_bytes b.bodies (word2 (slots b) (effective_table b) i))
      → state_of (buffers b.memory new b.table) ≡ state_of b
  unfolding state_of
  free_bodies new same =
      state_kept (cells_of (length b.memory)) (slots b) (bodies_of (length b.bodies)) (effective_table b) (effective_table b) b.bodies new right
      (λ i l. refl) (λ i c. refl) same refl refl (λ k l. refl)

-- nothing but the effective table and the bodies is read
pub same_effective : (b c : Buffers) → slots b ≡ slots c → effective_table b ≡ effective_table c → b.bodies ≡ c.bodies → state_of b ≡ state_of c
unfolding state_of
same_effective b c n e q = λ i. state_in (n i) (e i) (q i)
