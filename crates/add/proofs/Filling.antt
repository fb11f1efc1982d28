-- Add over any choice of free slots and bodies: its bytes fill the new bodies and spare those in use, and as many slots are taken as cells are
-- new. Assumes nothing.
use Prim.Native.Nat.{ℕ, ◌*◌, ◌≤◌, ◌<◌}
use mathlib.Core.Bool.{Bool, true, false}
use mathlib.Core.List.{List}
use mathlib.Core.Path.{◌≡◌, ap, ◌∙◌}
use native.Mathlib.Omega.{arith}
use borrow.Author.Tests.{leb-true}
use lib.Dec.{leb}
use lib.ListN.{length}
use Rattle.words.specs.Layout.{cells_of, bodies_of, slots_of}
use Rattle.words.specs.Scan.{count}
use Rattle.words.specs.Cells.{cell_bytes}
use Rattle.words.specs.Stores.{stores}
use Rattle.words.proofs.Scan.{and_split}
use Rattle.words.proofs.Plans.{Each}
use Rattle.words.proofs.Copies.{copies_length, copies_stored}
use Rattle.ranges.specs.declared.Range.{Range}
use Rattle.ranges.specs.Ranges.{kind_for, rule_for}
use Rattle.patterns.specs.Pattern.{max_rule}
use Rattle.table.specs.Entry.{live, parent, find_in, holds_in}
use Rattle.table.proofs.Entry.{holds_found}
use Rattle.search.specs.Search.{ruled_in}
use Rattle.search.proofs.Taking.{taker_facts, taken_many}
use Rattle.store.proofs.Changes.{Spares, copies_spare}
use Rattle.store.proofs.Checks.{store_lengths}
use Rattle.add.specs.Add.{is_new, is_new_copy, cell_for, bytes_with}
use Rattle.add.specs.Ready.{Ready}
use Rattle.add.specs.Choice.{Choice}
use Rattle.add.proofs.Choices.{Taking, second_copy}
use Rattle.add.proofs.Chosen.{taking, new_make, copy_make}

-- ---- of a call that no question refuses

module _ (memory bodies t : List ℕ) (rs : List Range) (r : Ready memory bodies t rs)
    {slot body : ℕ → ℕ} (choice : Choice (cells_of (length memory)) (slots_of (length t)) (bodies_of (length bodies)) t rs slot body) where
  -- slot by slot
  abbrev told : Taking (cells_of (length memory)) (slots_of (length t)) (bodies_of (length bodies)) t rs
  told = taking choice

  abbrev m : ℕ
  m = cells_of (length memory)

  abbrev e : ℕ
  e = slots_of (length t)

  abbrev wanted : ℕ → Bool
  wanted = is_new_copy (slots_of (length t)) t rs

  -- the cell that a slot takes is new
  cell_new : (i : ℕ) → i < e → told.taken i ≡ true → is_new e t rs (told.cell i) ≡ true
  cell_new i h p = new_make e t rs (told.cell i) (told.within i h p) (told.new i h p)

  -- a new via parent entry rests on the parent
  pub rests_with : (i : ℕ) → i < slots_of (length t) → (taking choice).taken i ≡ true → kind_for rs ((taking choice).cell i) ≡ 1
      → (2 ≤ live t) × (find_in (slots_of (length t)) t (parent (live t)) ((taking choice).cell i) < slots_of (length t))
  rests_with i h p z =
      let has = r.rests (told.cell i) (cell_new i h p) z in
      let s = and_split (leb 2 (live t)) (holds_in e t (parent (live t)) (told.cell i)) has in
      (leb-true 2 (live t) s.0, holds_found e t (parent (live t)) (told.cell i) s.1)

  -- which holds the cell by no rule
  pub plain_with : (i : ℕ) → i < slots_of (length t) → (taking choice).taken i ≡ true → kind_for rs ((taking choice).cell i) ≡ 1
      → ruled_in (slots_of (length t)) t (parent (live t)) ((taking choice).cell i) ≡ false
  plain_with i h p z = r.plain (told.cell i) (cell_new i h p) z

  -- and of a new entry by rule there is the rule
  pub rule_with : (i : ℕ) → i < slots_of (length t) → (taking choice).taken i ≡ true → kind_for rs ((taking choice).cell i) ≡ 2
      → rule_for rs ((taking choice).cell i) ≤ max_rule
  rule_with i h p z = r.rule (told.cell i) (cell_new i h p) z

  -- as many slots are taken as cells are new
  pub slots_taken : count (slots_of (length t)) (taking choice).taken ≡ count (cells_of (length memory)) (is_new (slots_of (length t)) t rs)
  unfolding taking
  slots_taken = taken_many choice.slots

  -- ---- the bytes

  pub bytes_length : length (bytes_with memory t rs body) ≡ 64 * count (cells_of (length memory)) (is_new_copy (slots_of (length t)) t rs)
  bytes_length = copies_length memory wanted (λ c. c) body m

  -- each new body has its cell's bytes
  pub bytes_filled : (i : ℕ) → i < slots_of (length t) → (taking choice).taken i ≡ true → kind_for rs ((taking choice).cell i) ≡ 0
      → cell_bytes (stores (bytes_with memory t rs body) bodies) ((taking choice).body i) ≡ cell_bytes memory ((taking choice).cell i)
  unfolding taking
  bytes_filled i h p z =
      let w = store_lengths _ _ t r.store in
      let f = taker_facts m (is_new e t rs) slot i p in
      let c : ℕ = cell_for m e t rs slot i in
      let here : wanted c ≡ true = copy_make e t rs c f.1 z in
      let some = choice.bodies in
      ap (λ (v : ℕ). cell_bytes (stores (bytes_with memory t rs body) bodies) v) (second_copy (kind_for rs c) (rule_for rs c) (body c) z)
      ∙ copies_stored memory wanted (λ x. x) body m c bodies f.0 here
      (omega (arith, w.memory_exact, f.0))
      (omega (arith, w.bodies_exact, some.below c f.0 here))
      (λ x lx px q. some.own c x f.0 lx here px q)

  -- and bodies in use are spared
  pub bytes_spare : Each (Spares (slots_of (length t)) t) (bytes_with memory t rs body)
  bytes_spare = copies_spare e t memory wanted (λ c. c) body m (λ c h p. choice.bodies.was_free c h p)
