-- After a cut, whatever openings come, one that is done leaves what the cut left, where the call was not made, and else, word for word and byte for
-- byte, what the call leaves when it is not cut. One argument for every call, from the shape of its plan: bytes, and then words by the journal. That
-- pairs may name those words is read off the table at the store of word 6, which can be opened. Assumes nothing.
use Prim.Native.Nat.{ℕ, ◌+◌, ◌-◌, ◌*◌, ◌≤◌, ◌<◌}
use mathlib.Core.Bool.{Bool, true, cond}
use mathlib.Core.List.{List, [], ◌∷◌, ◌++◌}
use mathlib.Core.Path.{◌≡◌, refl, sym, ap, subst, ◌∙◌}
use native.Mathlib.Omega.{arith}
use borrow.Author.Tests.{lt-leb, le-leb, ne_eqb}
use lib.ListN.{length, take, length-set}
use lib.Seq.{take_all, get_or-set_same, get_or-set_other}
use Rattle.words.specs.Layout.{slots_of, pairs_at, max_pairs, table_words, pending_at}
use Rattle.words.specs.Stores.{Store, ◌≔◌, store, stores}
use Rattle.words.specs.Journal.{pending, pairs, names_ok, open_plan, pair_plans, journal, journaled, openings}
use Rattle.words.proofs.Scan.{by_le}
use Rattle.words.proofs.Places.{pending_at_below}
use Rattle.words.proofs.Plans.{length_stores, stores_none, run_take_append}
use Rattle.words.proofs.Pairs.{length_pair_plans, length_journaled, journal_some, journal_none, pairs_same, read_back}
use Rattle.words.proofs.Journal as law
use Rattle.table.specs.Rule.{pairs_ok}
use Rattle.table.proofs.Pairs.{pairs_few, pairs_names}
use Rattle.model.specs.Answer.{is_done, is_stopped, done, ended, steps_of}
use Rattle.model.proofs.Told.{Finished}
use Rattle.store.specs.Outcome.{Buffers, buffers, Call, perform, unless, change_plan, Outcome, outcome, leaves}
use Rattle.store.specs.Checks.{open_check, store_check, lent_of}
use Rattle.store.specs.State.{slots}
use Rattle.store.specs.Calls.{open_call, after_openings, opening_after}
use Rattle.store.specs.Means.{Reopens}
use Rattle.store.proofs.Checks.{store_idle, store_opens, open_shape, open_table, table_pairs, shape_lengths}
use Rattle.store.proofs.Outcome.{table_after}
use Rattle.store.proofs.Cuts.{opening_opens}
use Rattle.store.proofs.Means.{by_check, long, t_long, open_none}
use Rattle.store.proofs.Standing.{Opens}
use Rattle.store.proofs.Changes.{change_length, change_steps}

-- what is done had the budget that it needs
pub done_enough : (n h k : ℕ) → (ended n h k).status ≡ is_done → n ≤ k
unfolding ended
done_enough n h k e = by_le n k (λ l. l) (λ l. let s = rw (lt-leb n k l) at e in absurd (subst Finished (sym s) tt))

-- and what is stopped had less
pub stopped_short : (n h k : ℕ) → (ended n h k).status ≡ is_stopped → k < n
unfolding ended
stopped_short n h k e = by_le n k (λ l. let s = rw (le-leb n k l) at e in absurd (subst Finished s tt)) (λ l. l)

-- ---- openings of a table that can be opened

-- what an opening leaves: the first stores of its plan made
opened_at : (k : ℕ) (b : Buffers) → open_check (lent_of b) ≡ 0 → outcome (open_call b) k b
    ≡ leaves (ended (length (open_plan (pairs_at (slots b)) b.table)) 0 k) (buffers b.memory b.bodies (stores (take k (open_plan (pairs_at (slots b)) b.table)) b.table))
unfolding open_call
opened_at k b fine = rw fine (table_after (open_plan (pairs_at (slots b)) b.table) 0 k b.memory b.bodies b.table)

opened_done : (j : ℕ) (b : Buffers) → Opens b → (outcome (open_call b) j b).report.status ≡ is_done
    → (outcome (open_call b) j b).buffers ≡ buffers b.memory b.bodies (stores (open_plan (pairs_at (slots b)) b.table) b.table)
opened_done j b fine d =
    let plan : List Store = open_plan (pairs_at (slots b)) b.table in
    let at = opened_at j b fine in
    let enough : length plan ≤ j = done_enough (length plan) 0 j (ap (λ (o : Outcome). o.report.status) (sym at) ∙ d) in
    ap (λ (o : Outcome). o.buffers) at ∙ ap (λ (ps : List Store). buffers b.memory b.bodies (stores ps b.table)) (take_all j plan enough)

still_opens : (k : ℕ) (b : Buffers) → Opens b → Opens (outcome (open_call b) k b).buffers
still_opens k b fine =
    let t : List ℕ = b.table in
    let exact = long (length b.memory) (length b.bodies) t (shape_lengths (length b.memory) (length b.bodies) t (open_shape (length b.memory) (length b.bodies) t fine)) in
    subst (λ (o : Outcome). Opens o.buffers) (sym (opened_at k b fine)) (opening_opens (length b.memory) (length b.bodies) t exact fine k)

openings_leave : (ks : List ℕ) (b : Buffers) → Opens b
    → (after_openings ks b ≡ buffers b.memory b.bodies (openings (pairs_at (slots b)) ks b.table)) × Opens (after_openings ks b)
openings_leave [] b fine = (refl, fine)
openings_leave (k ∷ ks) b fine =
    let next : Buffers = (outcome (open_call b) k b).buffers in
    let at : (outcome (open_call b) k b).buffers ≡ buffers b.memory b.bodies (stores (take k (open_plan (pairs_at (slots b)) b.table)) b.table) =
    ap (λ (o : Outcome). o.buffers) (opened_at k b fine) in
    let same : pairs_at (slots next) ≡ pairs_at (slots b) =
    ap (λ (x : Buffers). pairs_at (slots x)) at ∙ ap (λ (x : ℕ). pairs_at (slots_of x)) (length_stores (take k (open_plan (pairs_at (slots b)) b.table)) b.table) in
    let rest = openings_leave ks next (still_opens k b fine) in (
      rest.0
          ∙ ap (λ (x : ℕ). buffers next.memory next.bodies (openings x ks next.table)) same
          ∙ ap (λ (x : Buffers). buffers x.memory x.bodies (openings (pairs_at (slots b)) ks x.table)) at,
      rest.1,
    )

-- with nothing pending none takes a step
openings_none : (j : ℕ) (ks : List ℕ) (b : Buffers) → Opens b → pending b.table ≡ 0 → opening_after ks j b ≡ leaves (done 0 0) b
openings_none j [] b fine z = sym (open_none b.memory b.bodies b.table j fine z)
openings_none j (k ∷ ks) b fine z =
    ap (λ (o : Outcome). opening_after ks j o.buffers) (sym (open_none b.memory b.bodies b.table k fine z)) ∙ openings_none j ks b fine z

-- ---- the shape of a changing call: its buffers after k steps, n bytes and then the words ws by the journal

pub record Shaped (c : Call) (b : Buffers) : Type 0 where
  pub bytes : ℕ
  pub ws : List Store
  pub handle : ℕ
  pub memory_at : ℕ → List ℕ
  pub bodies_at : ℕ → List ℕ
  pub leaves_at : (k : ℕ) → outcome c k b ≡ leaves (ended (steps_of bytes (length ws)) handle k)
      (buffers (memory_at k) (bodies_at k) (stores (take (k - bytes) (journal (pairs_at (slots b)) ws)) b.table))
  pub memory_whole : (k : ℕ) → bytes ≤ k → memory_at k ≡ memory_at bytes
  pub bodies_whole : (k : ℕ) → bytes ≤ k → bodies_at k ≡ bodies_at bytes

pub whole_bytes : (k : ℕ) (bytes : List Store) (xs : List ℕ) → length bytes ≤ k → stores (take k bytes) xs ≡ stores (take (length bytes) bytes) xs
whole_bytes k bytes xs l = ap (λ (ps : List Store). stores ps xs) (take_all k bytes l ∙ sym (take_all (length bytes) bytes (omega arith)))

pub changes_shaped : (b : Buffers) (bytes ws : List Store) (h : ℕ) → Shaped (perform (change_plan (pairs_at (slots b)) bytes ws) h) b
unfolding outcome
changes_shaped b bytes ws h = record {
  bytes = length bytes;
  ws = ws;
  handle = h;
  memory_at = λ k. b.memory;
  bodies_at = λ k. stores (take k bytes) b.bodies;
  leaves_at = λ k. λ i. leaves (ended (change_length (pairs_at (slots b)) bytes ws i) h k) (change_steps (pairs_at (slots b)) k bytes ws b.memory b.bodies b.table i);
  memory_whole = λ k l. refl;
  bodies_whole = λ k l. whole_bytes k bytes b.bodies l;
}

-- ---- the argument

module _ (c : Call) (b : Buffers) (s : Shaped c b) (good : store_check (lent_of b) ≡ 0)
    (every : (k : ℕ) → Opens (outcome c k b).buffers) where
  abbrev first : ℕ
  first = pairs_at (slots_of (length b.table))

  idle : pending b.table ≡ 0
  idle = store_idle (length b.memory) (length b.bodies) b.table good

  exact : length b.table ≡ table_words (slots_of (length b.table))
  exact = t_long b.memory b.bodies b.table good

  left_at : (k : ℕ) → (outcome c k b).buffers ≡ buffers (s.memory_at k) (s.bodies_at k) (stores (take (k - s.bytes) (journal (pairs_at (slots b)) s.ws)) b.table)
  left_at k = ap (λ (o : Outcome). o.buffers) (s.leaves_at k)

  -- with no word to replace the table stays
  no_words : (k : ℕ) → length s.ws ≡ 0 → (outcome c k b).buffers.table ≡ b.table
  no_words k z =
      ap (λ (x : Buffers). x.table) (left_at k)
      ∙ ap (λ (ps : List Store). stores (take (k - s.bytes) ps) b.table) (journal_none first s.ws z)
      ∙ sym (stores_none (k - s.bytes) b.table)

  module _ (pos : 0 < length s.ws) where
    table_at : (k : ℕ) → (outcome c k b).buffers.table ≡ stores (take (k - s.bytes) (journaled (pairs_at (slots b)) s.ws)) b.table
    table_at k = ap (λ (x : Buffers). x.table) (left_at k) ∙ ap (λ (ps : List Store). stores (take (k - s.bytes) ps) b.table) (sym (journal_some first s.ws pos))

    -- the table at the store of word 6: the pairs are written, and their number
    abbrev at6 : List ℕ
    at6 = law.published (pairs_at (slots b)) s.ws b.table

    is6 : (outcome c (s.bytes + (2 * length s.ws + 1)) b).buffers.table ≡ law.published (pairs_at (slots b)) s.ws b.table
    unfolding journaled
    is6 =
        let k : ℕ = 2 * length s.ws + 1 in
        let z : s.bytes + (2 * length s.ws + 1) - s.bytes ≡ 2 * length s.ws + 1 = omega arith in
        let one : 2 * length s.ws + 1 - length (pair_plans first s.ws) ≡ 1 = rw length_pair_plans (omega arith) in
        table_at (s.bytes + (2 * length s.ws + 1))
        ∙ ap (λ (x : ℕ). stores (take x (journaled first s.ws)) b.table) z
        ∙ run_take_append store (2 * length s.ws + 1) (pair_plans first s.ws) ((pending_at ≔ length s.ws) ∷ (s.ws ++ (pending_at ≔ 0) ∷ [])) b.table
        ∙ rw (one, take_all (2 * length s.ws + 1) (pair_plans first s.ws) (rw length_pair_plans (omega arith)))

    length6 : length (law.published (pairs_at (slots b)) s.ws b.table) ≡ length b.table
    length6 = length-set (law.written first s.ws b.table) pending_at (length s.ws) ∙ length_stores (pair_plans first s.ws) b.table

    pending6 : pending (law.published (pairs_at (slots b)) s.ws b.table) ≡ length s.ws
    pending6 =
        get_or-set_same (law.written first s.ws b.table) pending_at (length s.ws) 0
        (rw (length_stores (pair_plans first s.ws) b.table) (omega (arith, exact)))

    -- opening accepts it, so its pairs are few and name words that pairs may name
    right6 : pairs_ok (slots_of (length b.table)) (law.published (pairs_at (slots b)) s.ws b.table) ≡ true
    right6 =
        let k : ℕ = s.bytes + (2 * length s.ws + 1) in
        let o : Buffers = (outcome c k b).buffers in
        let found = table_pairs (length o.memory) (length o.bodies) o.table (open_table (length o.memory) (length o.bodies) o.table (every k)) in
        subst (λ (x : ℕ). pairs_ok (slots_of x) (law.published first s.ws b.table) ≡ true) length6
        (subst (λ (u : List ℕ). pairs_ok (slots_of (length u)) u ≡ true) is6 found)

    few : length s.ws ≤ max_pairs (slots_of (length b.table))
    few = let l = pairs_few (slots_of (length b.table)) at6 right6 in omega (arith, pending6)

    room : pairs_at (slots_of (length b.table)) + 2 * length s.ws ≤ length b.table
    room = omega (arith, exact, few)

    front : pending_at < pairs_at (slots_of (length b.table))
    front = pending_at_below (slots_of (length b.table))

    names : names_ok (pairs_at (slots_of (length b.table))) 0 s.ws ≡ true
    names =
        let same : pairs at6 first (length s.ws) ≡ s.ws =
        pairs_same at6 (law.written first s.ws b.table) first (length s.ws)
        (λ i h. get_or-set_other (law.written first s.ws b.table) pending_at i (length s.ws) 0 (omega arith))
        ∙ read_back s.ws first b.table room in
        subst (λ (ws : List Store). names_ok first 0 ws ≡ true) (ap (λ (x : ℕ). pairs at6 first x) pending6 ∙ same)
        (pairs_names (slots_of (length b.table)) at6 right6)

    -- so a cut that leaves pairs pending came after the store of word 6
    late : (k : ℕ) → 0 < pending (outcome c k b).buffers.table → s.bytes + 2 * length s.ws < k
    late k waits =
        by_le k (s.bytes + 2 * length s.ws)
        (λ l.
        let none : pending (outcome c k b).buffers.table ≡ 0 =
        ap (λ (u : List ℕ). pending u) (table_at k) ∙ law.cut_idle first s.ws b.table front room idle pos names (k - s.bytes) (omega arith) in
        absurd (omega arith))
        (λ l. l)

    -- what a call that is done leaves
    whole : (k : ℕ) → (outcome c k b).report.status ≡ is_done
        → (outcome c k b).buffers ≡ buffers (s.memory_at s.bytes) (s.bodies_at s.bytes) (stores (journaled (pairs_at (slots b)) s.ws) b.table)
    whole k d =
        let need : steps_of s.bytes (length s.ws) ≤ k =
        done_enough (steps_of s.bytes (length s.ws)) s.handle k (ap (λ (o : Outcome). o.report.status) (sym (s.leaves_at k)) ∙ d) in
        let steps : s.bytes + (3 * length s.ws + 2) ≤ k =
        subst (λ (x : Bool). s.bytes + cond x 0 (3 * length s.ws + 2) ≤ k) (ne_eqb (length s.ws) 0 (λ z. omega arith)) need in
        let all : take (k - s.bytes) (journaled first s.ws) ≡ journaled first s.ws =
        take_all (k - s.bytes) (journaled first s.ws) (rw length_journaled (omega arith)) in
        left_at k
        ∙ ap (λ (ps : List Store). buffers (s.memory_at k) (s.bodies_at k) (stores (take (k - s.bytes) ps) b.table)) (sym (journal_some first s.ws pos))
        ∙ ap (λ (ps : List Store). buffers (s.memory_at k) (s.bodies_at k) (stores ps b.table)) all
        ∙ (λ i. buffers (s.memory_whole k (omega arith) i) (s.bodies_whole k (omega arith) i) (stores (journaled first s.ws) b.table))

    -- and what the openings after a cut that leaves pairs pending make of it
    made : (k j : ℕ) (ks : List ℕ) → 0 < pending (outcome c k b).buffers.table → (opening_after ks j (outcome c k b).buffers).report.status ≡ is_done
        → (opening_after ks j (outcome c k b).buffers).buffers
        ≡ buffers (s.memory_at s.bytes) (s.bodies_at s.bytes) (stores (journaled (pairs_at (slots b)) s.ws) b.table)
    made k j ks waits d =
        let left : Buffers = (outcome c k b).buffers in
        let after6 : s.bytes + 2 * length s.ws < k = late k waits in
        let o = openings_leave ks (outcome c k b).buffers (every k) in
        let same : pairs_at (slots (outcome c k b).buffers) ≡ first =
        ap (λ (u : List ℕ). pairs_at (slots_of (length u))) (table_at k) ∙ ap (λ (x : ℕ). pairs_at (slots_of x)) (length_stores (take (k - s.bytes) (journaled first s.ws)) b.table) in
        let u : List ℕ = openings first ks (stores (take (k - s.bytes) (journaled first s.ws)) b.table) in
        let now : after_openings ks (outcome c k b).buffers ≡ buffers (s.memory_at s.bytes) (s.bodies_at s.bytes) u =
        o.0
        ∙ ap (λ (x : ℕ). buffers (outcome c k b).buffers.memory (outcome c k b).buffers.bodies (openings x ks (outcome c k b).buffers.table)) same
        ∙ ap (λ (x : List ℕ). buffers (outcome c k b).buffers.memory (outcome c k b).buffers.bodies (openings first ks x)) (table_at k)
        ∙ ap (λ (x : Buffers). buffers x.memory x.bodies u) (left_at k)
        ∙ (λ i. buffers (s.memory_whole k (omega arith) i) (s.bodies_whole k (omega arith) i) u) in
        let long-u : pairs_at (slots_of (length u)) ≡ first =
        ap (λ (x : ℕ). pairs_at (slots_of x))
        (law.openings_length first ks (stores (take (k - s.bytes) (journaled first s.ws)) b.table) ∙ length_stores (take (k - s.bytes) (journaled first s.ws)) b.table) in
        opened_done j (after_openings ks (outcome c k b).buffers) o.1 d
        ∙ ap (λ (x : Buffers). buffers x.memory x.bodies (stores (open_plan (pairs_at (slots x)) x.table) x.table)) now
        ∙ ap (λ (x : ℕ). buffers (s.memory_at s.bytes) (s.bodies_at s.bytes) (stores (open_plan x u) u)) long-u
        ∙ ap (λ (x : List ℕ). buffers (s.memory_at s.bytes) (s.bodies_at s.bytes) x)
        (law.cut_openings_again first s.ws b.table front room idle pos names (k - s.bytes) ks (omega arith))

  pub shape_reopens : Reopens c b
  shape_reopens = record {
    not_made = λ k j ks z. openings_none j ks (outcome c k b).buffers (every k) z;
    made = λ k full j ks waits d e.
        by_le (length s.ws) 0
        (λ l.
        let left : pending (outcome c k b).buffers.table ≡ 0 = ap (λ (u : List ℕ). pending u) (no_words k (omega arith)) ∙ idle in
        absurd (omega arith))
        (λ pos. made pos k j ks waits e ∙ sym (whole pos full d));
  }

-- a call that is refused leaves nothing pending
pub unless_reopens : (b : Buffers) → store_check (lent_of b) ≡ 0 → (q : ℕ) (c : Call) → (q ≡ 0 → Reopens c b) → Reopens (unless q c) b
unfolding outcome
unless_reopens b good q c go =
    let idle = store_idle (length b.memory) (length b.bodies) b.table good in
    by_check (λ x. (x ≡ 0 → Reopens c b) → Reopens (unless x c) b) q
    (λ n e g. record {
      not_made = λ k j ks z. openings_none j ks b (store_opens (length b.memory) (length b.bodies) b.table good) idle;
      made = λ k full j ks waits d f. absurd (omega arith);
    })
    (λ e g. g refl)
    go
