-- Memory after the first k of restore's stores is what the model says, byte by byte. Assumes nothing.
use Prim.Native.Nat.{ℕ, ◌+◌, ◌*◌, ◌≤◌, ◌<◌}
use mathlib.Core.Bool.{true, false, cond}
use mathlib.Core.List.{List}
use mathlib.Core.Path.{◌≡◌, sym, ap, subst, ◌∙◌}
use native.Mathlib.Omega.{arith}
use borrow.Author.Tests.{lt-ltb}
use lib.Dec.{ltb}
use lib.ListN.{length, get_or, take}
use lib.Seq.{ext_get_or}
use Rattle.words.specs.Layout.{cell_at, slots_of}
use Rattle.words.specs.Scan.{count}
use Rattle.words.specs.Stores.{stores, tab}
use Rattle.words.specs.Cells.{cell_bytes}
use Rattle.words.proofs.Scan.{by_bool, count_ext}
use Rattle.words.proofs.Plans.{length_tab, get_or_tab, length_stores}
use Rattle.search.specs.Search.{held_from, bytes_from}
use Rattle.model.specs.State.{State}
use Rattle.model.specs.Holdings.{is_held}
use Rattle.model.specs.Restore.{cell_of_byte, place_in_cell, outermost, restored_byte, cells_put_back, memory_after_steps}
use Rattle.model.proofs.Bytes.{cell_byte}
use Rattle.store.specs.State.{state_in}
use Rattle.store.proofs.Outermost.{outermost_held, outermost_value, outermost_other}
use Rattle.restore.specs.Restore.{restore_bytes}
use Rattle.restore.proofs.Putting.{cells_stored}

module _ (t bodies : List ℕ) (d : ℕ) (low : 1 ≤ d) (memory : List ℕ) where
  abbrev e : ℕ
  e = slots_of (length t)

  abbrev s : State
  s = state_in (slots_of (length t)) t bodies

  -- the byte to be put back is one of those that the first holder has
  held_byte_lem : (x : ℕ) → held_from e t d (cell_of_byte x) ≡ true → restored_byte d s memory x ≡ get_or (bytes_from e t bodies d (cell_of_byte x)) (place_in_cell x) 0
  held_byte_lem x h = ap (λ (v : List ℕ). get_or v (place_in_cell x) 0) (outermost_value e t d (cell_of_byte x) bodies low (cell_bytes memory (cell_of_byte x)) h)

  other_byte : (x : ℕ) → held_from e t d (cell_of_byte x) ≡ false → restored_byte d s memory x ≡ get_or memory x 0
  other_byte x h =
      ap (λ (v : List ℕ). get_or v (place_in_cell x) 0) (outermost_other e t d (cell_of_byte x) bodies low (cell_bytes memory (cell_of_byte x)) h) ∙ cell_byte memory x

  -- as many cells lie below
  same_rank : (c : ℕ) → count c (held_from e t d) ≡ cells_put_back c d s
  same_rank c = count_ext c (held_from e t d) (λ x. is_held (outermost d x s)) (λ x l. sym (outermost_held e t d x bodies low))

  one_byte : (m k x : ℕ) → length memory ≡ cell_at m → x < length memory
      → get_or (stores (take k (restore_bytes m d bodies t)) memory) x 0
      ≡ cond (ltb (64 * cells_put_back (cell_of_byte x) d s + place_in_cell x) k) (restored_byte d s memory x) (get_or memory x 0)
  unfolding restore_bytes
  one_byte m k x size l =
      let inside : cell_of_byte x < m = omega arith in
      let stored = cells_stored (bytes_from e t bodies d) (held_from e t d) k m x memory (omega arith) in
      let rank = same_rank (cell_of_byte x) in
      by_bool (held_from e t d (cell_of_byte x))
      (λ h. stored ∙ rw (lt-ltb (cell_of_byte x) m inside, h, rank, held_byte_lem x h))
      (λ h.
      stored
      ∙ rw (lt-ltb (cell_of_byte x) m inside, h, other_byte x h)
      (by_bool (ltb (64 * cells_put_back (cell_of_byte x) d s + place_in_cell x) k) (λ z. rw z) (λ z. rw z)))

  -- a byte of a cell that nobody from depth d inwards holds is never stored
  pub kept_byte_lem : (m k x : ℕ) → length memory ≡ cell_at m → held_from (slots_of (length t)) t d (cell_of_byte x) ≡ false
      → get_or (stores (take k (restore_bytes m d bodies t)) memory) x 0 ≡ get_or memory x 0
  unfolding restore_bytes
  kept_byte_lem m k x size h =
      cells_stored (bytes_from e t bodies d) (held_from e t d) k m x memory (omega arith)
      ∙ rw h (by_bool (ltb (cell_of_byte x) m) (λ z. rw z) (λ z. rw z))

  pub memory_after_lem : (m k : ℕ) → length memory ≡ cell_at m
      → stores (take k (restore_bytes m d bodies t)) memory ≡ memory_after_steps k d (state_in (slots_of (length t)) t bodies) memory
  unfolding memory_after_steps
  memory_after_lem m k size =
      let f : ℕ → ℕ = λ x. cond (ltb (64 * cells_put_back (cell_of_byte x) d s + place_in_cell x) k) (restored_byte d s memory x) (get_or memory x 0) in
      let long : length (stores (take k (restore_bytes m d bodies t)) memory) ≡ length memory = length_stores (take k (restore_bytes m d bodies t)) memory in
      ext_get_or 0 (stores (take k (restore_bytes m d bodies t)) memory) (tab (length memory) f) (long ∙ sym (length_tab f (length memory)))
      (λ x l.
      let b : x < length memory = subst (λ (n : ℕ). x < n) long l in
      one_byte m k x size b ∙ sym (get_or_tab f (length memory) x 0 b))
