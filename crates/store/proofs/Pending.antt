-- How many pairs a call leaves pending at every budget, by its effect: so what the next opening finds to do is known from the call alone.
-- Assumes nothing.
use Prim.Native.Nat.{ℕ, ◌+◌, ◌-◌, ◌*◌, ◌≤◌, ◌<◌}
use mathlib.Core.Bool.{Bool, true, false, cond, ◌&&◌}
use mathlib.Core.List.{List}
use mathlib.Core.Path.{◌≡◌, refl, sym, ap, subst, ◌∙◌}
use native.Mathlib.Omega.{arith}
use borrow.Author.Tests.{ne_eqb, le-leb, lt-leb, lt-ltb, le-ltb}
use lib.Dec.{leb, ltb, eqb}
use lib.ListN.{length, take}
use lib.Seq.{take_all}
use Rattle.words.specs.Layout.{cells_of, bodies_of, slots_of, pairs_at, max_pairs}
use Rattle.words.specs.Stores.{Store, stores}
use Rattle.words.specs.Journal.{pending, names_ok, open_plan, journal, journaled}
use Rattle.words.proofs.Scan.{by_bool, by_le}
use Rattle.words.proofs.Places.{pending_at_below}
use Rattle.words.proofs.Plans.{stores_none}
use Rattle.words.proofs.Pairs.{length_journaled, journal_some, journal_none}
use Rattle.words.proofs.Journal as law
use Rattle.table.specs.Checks.{lengths_ok}
use Rattle.model.specs.Answer.{steps_of}
use Rattle.model.specs.Calls.{Effect, or_refuse, make_steps, open_steps}
use Rattle.store.specs.Outcome.{Buffers, buffers, Call, perform, unless, change_plan, outcome}
use Rattle.store.specs.Checks.{make_check, open_check, store_check, lent, lent_of}
use Rattle.store.specs.Calls.{make_plan, make_call, open_call}
pub use Rattle.store.specs.Means.{left_pending, pending_after, after_pending}
use Rattle.store.proofs.Checks.{open_shape, shape_lengths, store_idle, store_shape}
use Rattle.store.proofs.Outcome.{table_after}
use Rattle.store.proofs.Cuts.{opening_stopped, opening_done}
use Rattle.store.proofs.Making.{make_idle}
use Rattle.store.proofs.Means.{by_check, long, open_length}
use Rattle.store.proofs.Changes.{change_steps}

none_pending : (c : Bool) (w : ℕ) → w ≡ 0 → cond c w 0 ≡ 0
none_pending true w z = z
none_pending false w z = refl

module _ (memory bodies : ℕ) (t : List ℕ) (yes : store_check (lent memory bodies t) ≡ 0) (bytes ws : List Store)
    (few : length ws ≤ max_pairs (slots_of (length t))) (names : names_ok (pairs_at (slots_of (length t))) 0 ws ≡ true) where
  abbrev first : ℕ
  first = pairs_at (slots_of (length t))

  idle : pending t ≡ 0
  idle = store_idle memory bodies t yes

  room : first + 2 * length ws ≤ length t
  room = omega (arith, long memory bodies t (shape_lengths memory bodies t (store_shape memory bodies t yes)))

  some_words : (k : ℕ) → 0 < length ws
      → pending (stores (take (k - length bytes) (journaled first ws)) t) ≡ pending_after (length bytes) (length ws) k
  some_words k pos =
      let j : ℕ = k - length bytes in
      let front = pending_at_below (slots_of (length t)) in
      rw (ne_eqb (length ws) 0 (λ z. omega arith))
      (by_le k (length bytes + 2 * length ws)
      (λ l. rw (le-ltb (length bytes + 2 * length ws) k l) (law.cut_idle first ws t front room idle pos names j (omega arith)))
      (λ l.
      rw (lt-ltb (length bytes + 2 * length ws) k l)
      (by_le (length bytes + (3 * length ws + 2)) k
      (λ g.
      rw (le-ltb k (length bytes + (3 * length ws + 2)) g)
      (ap (λ (ps : List Store). pending (stores ps t)) (take_all j (journaled first ws) (rw (length_journaled first ws) (omega arith)))
      ∙ law.cut_whole first ws t front room idle pos names))
      (λ g.
      rw (lt-ltb k (length bytes + (3 * length ws + 2)) g)
      (law.cut_pending first ws t front room idle pos names j (omega arith) (omega arith))))))

  pub change_pending : (k : ℕ) → pending (stores (take (k - length bytes) (journal (pairs_at (slots_of (length t))) ws)) t)
      ≡ pending_after (length bytes) (length ws) k
  change_pending k =
      by_le (length ws) 0
      (λ l.
      let z : length ws ≡ 0 = omega arith in
      ap (λ (ps : List Store). pending (stores (take (k - length bytes) ps) t)) (journal_none first ws z)
      ∙ ap (λ (u : List ℕ). pending u) (sym (stores_none (k - length bytes) t))
      ∙ idle
      ∙ sym (none_pending (ltb (length bytes + 2 * length ws) k && ltb k (steps_of (length bytes) (length ws))) (length ws) z))
      (λ pos. ap (λ (ps : List Store). pending (stores (take (k - length bytes) ps) t)) (sym (journal_some first ws pos)) ∙ some_words k pos)

-- ---- a changing call

-- once no question refuses it, by its stores
pub performed_pending : (memory bodies t : List ℕ) → store_check (lent (length memory) (length bodies) t) ≡ 0 → (bytes ws : List Store)
    → length ws ≤ max_pairs (slots_of (length t)) → names_ok (pairs_at (slots_of (length t))) 0 ws ≡ true → (h k : ℕ)
    → left_pending (outcome (perform (change_plan (pairs_at (slots_of (length t))) bytes ws) h) k (buffers memory bodies t))
    ≡ pending_after (length bytes) (length ws) k
unfolding outcome
performed_pending memory bodies t good bytes ws few names h k =
    ap (λ (b : Buffers). pending b.table) (change_steps (pairs_at (slots_of (length t))) k bytes ws memory bodies t)
    ∙ change_pending (length memory) (length bodies) t good bytes ws few names k

-- by its questions, on the words and on the state
pub call_pending : (k : ℕ) (b : Buffers) → store_check (lent_of b) ≡ 0 → (q r : ℕ) (c : Call) (f : Effect)
    → q ≡ r → (q ≡ 0 → left_pending (outcome c k b) ≡ after_pending f k) → left_pending (outcome (unless q c) k b) ≡ after_pending (or_refuse r f) k
unfolding outcome
call_pending k b good q r c f same go =
    subst (λ (x : ℕ). left_pending (outcome (unless q c) k b) ≡ after_pending (or_refuse x f) k) same
    (by_check (λ x. (x ≡ 0 → left_pending (outcome c k b) ≡ after_pending f k) → left_pending (outcome (unless x c) k b) ≡ after_pending (or_refuse x f) k) q
    (λ n e g. store_idle (length b.memory) (length b.bodies) b.table good)
    (λ e g. g refl)
    go)

-- ---- make and open

-- a make that is done leaves nothing pending
pub make_pending : (k : ℕ) (b : Buffers) → lengths_ok (length b.memory) (length b.bodies) (length b.table) ≡ true
    → make_steps (slots_of (length b.table)) ≤ k → left_pending (outcome (make_call b) k b) ≡ 0
unfolding make_call make_check
make_pending k b good enough =
    rw good
    (ap left_pending (table_after (make_plan (cells_of (length b.memory)) (slots_of (length b.table)) (bodies_of (length b.bodies))) 0 k b.memory b.bodies b.table)
    ∙ make_idle b.memory b.bodies b.table good (long (length b.memory) (length b.bodies) b.table good) k enough)

-- an opening leaves nothing pending where it is done, and else as many pairs as there were
pub open_pending_after : (k : ℕ) (b : Buffers) → open_check (lent_of b) ≡ 0
    → left_pending (outcome (open_call b) k b) ≡ cond (leb (open_steps (pending b.table)) k) 0 (pending b.table)
unfolding open_call
open_pending_after k b good =
    let t : List ℕ = b.table in
    let first : ℕ = pairs_at (slots_of (length t)) in
    let w = long (length b.memory) (length b.bodies) t (shape_lengths (length b.memory) (length b.bodies) t (open_shape (length b.memory) (length b.bodies) t good)) in
    rw good
    (ap left_pending (table_after (open_plan first t) 0 k b.memory b.bodies t)
    ∙ by_le (open_steps (pending t)) k
    (λ l.
    rw (le-leb (open_steps (pending t)) k l)
    (ap (λ (ps : List Store). pending (stores ps t)) (take_all k (open_plan first t) (rw (open_length first t) l))
    ∙ opening_done (length b.memory) (length b.bodies) t w good))
    (λ l.
    rw (lt-leb (open_steps (pending t)) k l)
    (opening_stopped (length b.memory) (length b.bodies) t w good k (early (pending t) l))))
  where
    early : (p : ℕ) → k < open_steps p → k ≤ p
    early p l = by_bool (eqb p 0) (λ z. let y : k < 0 = rw z at l in omega arith) (λ z. let y : k < p + 1 = rw z at l in omega arith)
