-- What opening finds after every cut of restore, what memory holds then, how many steps the call takes at most, and how many pairs it leaves
-- pending. Assumes nothing.
use Prim.Native.Nat.{ℕ, ◌+◌, ◌*◌, ◌≤◌}
use mathlib.Core.Bool.{false}
use mathlib.Core.List.{List}
use mathlib.Core.Path.{◌≡◌, sym, ap, subst, ◌∙◌}
use native.Mathlib.Omega.{arith}
use lib.Dec.{ltb}
use lib.ListN.{length, get_or, take}
use lib.Seq.{take_all}
use Rattle.words.specs.Layout.{cells_of, bodies_of, slots_of, pairs_at}
use Rattle.words.specs.Stores.{Store, stores}
use Rattle.words.specs.Journal.{pending}
use Rattle.table.specs.Entry.{live}
use Rattle.search.specs.Domain.{depth_named}
use Rattle.search.proofs.Domain.{depth_small}
use Rattle.model.specs.State.{State}
use Rattle.model.specs.Answer.{ask, steps_of}
use Rattle.model.specs.Holdings.{named, is_held}
use Rattle.model.specs.Restore.{cell_of_byte, outermost, restored_memory, cells_put_back, restore_effect}
use Rattle.model.specs.Restore as model
use Rattle.model.specs.Session.{Mixed}
use Rattle.model.proofs.Views.{all_stored, part_stored}
use Rattle.store.specs.Outcome.{Buffers, buffers, outcome, perform}
use Rattle.store.specs.Checks.{store_check, lent, lent_of}
use Rattle.store.specs.State.{state_of}
use Rattle.store.proofs.Checks.{or_else_both, or_else_go}
use Rattle.store.proofs.Outermost.{store_held}
use Rattle.store.proofs.Pending.{pending_after, after_pending, change_pending, call_pending}
use Rattle.store.proofs.Bounds.{change_bound}
use Rattle.store.proofs.Raw.{raw_rule, raw_state, raw_named}
use Rattle.restore.specs.Restore.{restore_check, restore_bytes, restore_words, restore_plan, restore_call}
use Rattle.restore.proofs.Plan.{restore_steps}
use Rattle.restore.proofs.Counting.{put_few, words_few}
use Rattle.restore.proofs.Bytes.{kept_byte_lem}
use Rattle.restore.proofs.Restored.{names, room, whole_cells, new_words, new_bytes, new_memory, asked, asked_low}

-- ---- a table that passes questions 1 to 4, and a live domain of depth d

module _ (memory bodies t : List ℕ) (yes : store_check (lent (length memory) (length bodies) t) ≡ 0) (d : ℕ) (low : 1 ≤ d) (high : d ≤ live t) where
  abbrev m : ℕ
  m = cells_of (length memory)

  abbrev e : ℕ
  e = slots_of (length t)

  abbrev b : ℕ
  b = bodies_of (length bodies)

  abbrev first : ℕ
  first = pairs_at (slots_of (length t))

  abbrev bytes : List Store
  bytes = restore_bytes (cells_of (length memory)) d bodies t

  abbrev ws : List Store
  ws = restore_words d t

  abbrev S : State
  S = state_of (buffers memory bodies t)

  -- memory after k stores, which has the same length; so the questions and the rule are the same with it
  abbrev filled : ℕ → List ℕ
  filled k = stores (take k (restore_bytes (cells_of (length memory)) d bodies t)) memory

  -- "every other call at most 70E + 32"
  pub restore_bound : steps_of (64 * cells_put_back (cells_of (length memory)) d (state_of (buffers memory bodies t)))
      (model.restore_words (cells_of (length memory)) d (state_of (buffers memory bodies t))) ≤ 70 * slots_of (length t) + 32
  restore_bound =
      let ok = raw_rule memory bodies t yes in
      let cells : cells_put_back m d S ≤ e = rw (raw_state memory bodies t yes) (put_few m e b t ok bodies d low high) in
      rw (← new_words memory bodies t yes d low high) (change_bound (cells_put_back m d S) (length ws) e cells (words_few t d low ok.live))

  -- ---- memory at every budget

  -- a byte of a cell that is not to be put back is the old one
  other_kept : (k x : ℕ) → is_held (outermost d (cell_of_byte x) S) ≡ false → get_or (filled k) x 0 ≡ get_or memory x 0
  other_kept k x h =
      kept_byte_lem t bodies d low memory m k x (whole_cells memory bodies t yes d low high) (sym (store_held memory bodies t yes d (cell_of_byte x) low) ∙ h)

  pub put_mixed : (k : ℕ) → Mixed memory (restored_memory d (state_of (buffers memory bodies t)) memory) (stores (take k (restore_bytes (cells_of (length memory)) d bodies t)) memory)
      × ((x : ℕ) → is_held (outermost d (cell_of_byte x) (state_of (buffers memory bodies t))) ≡ false
      → get_or (stores (take k (restore_bytes (cells_of (length memory)) d bodies t)) memory) x 0 ≡ get_or memory x 0)
      × (64 * cells_put_back (cells_of (length memory)) d (state_of (buffers memory bodies t)) ≤ k
      → stores (take k (restore_bytes (cells_of (length memory)) d bodies t)) memory ≡ restored_memory d (state_of (buffers memory bodies t)) memory)
  put_mixed k =
      let after = new_memory memory bodies t yes d low high k in (
        subst (Mixed memory (restored_memory d S memory)) (sym after) (part_stored k d S memory),
        other_kept k,
        λ l. after ∙ all_stored m k d S memory (whole_cells memory bodies t yes d low high) l,
      )

  -- so the memory of the uncut call, which opening finds after a cut from word 6 on, is whole
  pub restore_whole : stores (restore_bytes (cells_of (length memory)) d bodies t) memory ≡ restored_memory d (state_of (buffers memory bodies t)) memory
  restore_whole =
      let n = new_bytes memory bodies t yes d low high in
      ap (λ (ps : List Store). stores ps memory) (sym (take_all (length bytes) bytes (omega arith))) ∙ (put_mixed (length bytes)).2 (omega arith)

  left : (k : ℕ) → pending (outcome (perform (restore_plan (pairs_at (slots_of (length t))) (restore_bytes (cells_of (length memory)) d bodies t) (restore_words d t)) 0) k (buffers memory bodies t)).buffers.table
      ≡ pending_after (64 * cells_put_back (cells_of (length memory)) d (state_of (buffers memory bodies t))) (model.restore_words (cells_of (length memory)) d (state_of (buffers memory bodies t))) k
  unfolding outcome
  left k =
      ap (λ (c : Buffers). pending c.table) (restore_steps first k bytes ws memory bodies t)
      ∙ change_pending (length memory) (length bodies) t yes bytes ws (room memory bodies t yes d low high) (names memory bodies t yes d low high) k
      ∙ (λ i. pending_after (new_bytes memory bodies t yes d low high i) (new_words memory bodies t yes d low high i) k)

-- ---- the call

-- "Inside a restore, memory may be mixed over the cells to be put back, and nowhere else": each byte is the old one or the new one, those of other
-- cells are the old ones, and once 64 bytes are stored for each cell to be put back memory is whole
pub restore_mixed : (h k : ℕ) (b : Buffers) → restore_check (lent_of b) h ≡ 0
    → Mixed b.memory (restored_memory (named h (state_of b)) (state_of b) b.memory) (outcome (restore_call h b) k b).buffers.memory
    × ((x : ℕ) → is_held (outermost (named h (state_of b)) (cell_of_byte x) (state_of b)) ≡ false → get_or (outcome (restore_call h b) k b).buffers.memory x 0 ≡ get_or b.memory x 0)
    × (64 * cells_put_back (cells_of (length b.memory)) (named h (state_of b)) (state_of b) ≤ k
    → (outcome (restore_call h b) k b).buffers.memory ≡ restored_memory (named h (state_of b)) (state_of b) b.memory)
unfolding restore_call outcome restore_check
restore_mixed h k b passed =
    let both = or_else_both (store_check (lent_of b)) (asked b.table h) passed in
    let d : ℕ = depth_named b.table h in
    rw (both.0, both.1, raw_named b.memory b.bodies b.table both.0 h)
    (rw (restore_steps (pairs_at (slots_of (length b.table))) k (restore_bytes (cells_of (length b.memory)) (depth_named b.table h) b.bodies b.table) (restore_words (depth_named b.table h) b.table) b.memory b.bodies b.table)
    (put_mixed b.memory b.bodies b.table both.0 (depth_named b.table h) (asked_low b.table h both.1) (depth_small b.table h) k))

-- the pairs that it leaves pending, at every budget
pub restore_pending : (h k : ℕ) (b : Buffers) → store_check (lent_of b) ≡ 0
    → pending (outcome (restore_call h b) k b).buffers.table ≡ after_pending (restore_effect (cells_of (length b.memory)) h (state_of b)) k
unfolding restore_call restore_check
restore_pending h k b good =
    let name = raw_named b.memory b.bodies b.table good h in
    call_pending k b good _ _ _ _ (or_else_go _ _ good ∙ ap (λ (x : ℕ). ask (ltb 0 x) 5 0) (sym name))
    (λ q.
    left b.memory b.bodies b.table good (depth_named b.table h) (asked_low b.table h (sym (or_else_go _ _ good) ∙ q)) (depth_small b.table h) k
    ∙ ap (λ (d : ℕ). pending_after (64 * cells_put_back (cells_of (length b.memory)) d (state_of b)) (model.restore_words (cells_of (length b.memory)) d (state_of b)) k) (sym name))
