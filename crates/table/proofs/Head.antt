-- The rule on the handles as facts, and which changes of words 4, 5 and 8 to 15 keep the table's rule. Assumes nothing.
use Prim.Native.Nat.{ℕ, zero, suc, ◌+◌, ◌-◌, ◌≤◌, ◌<◌}
use mathlib.Core.Bool.{true}
use mathlib.Core.List.{List, ◌∷◌, ◌++◌}
use mathlib.Core.Path.{◌≡◌, sym, ap, subst, ◌∙◌}
use native.Mathlib.Omega.{arith}
use borrow.Author.Tests.{lt-ltb, le-ltb, eq-eqb, ltb-true, ltb-false, eqb-true, eqb-false}
use lib.ListN.{length, get_or, set, length-set}
use lib.Seq.{get_or-set_same, get_or-set_other}
use lib.Dec.{ltb, eqb}
use Rattle.words.specs.Layout.{max_live, live_at, next_at, handle_at, pairs_at}
use Rattle.words.specs.Stores.{Store, ◌≔◌, stores, tab, tab_from}
use Rattle.words.proofs.Scan.{and_split, and_join, by_bool, by_le}
use Rattle.words.proofs.Plans.{Each, each_tab, each_tab_from, get_or_stores}
use Rattle.table.specs.Entry.{live, next_handle, handle, word1, word2, depth_of, via_of, cell_of, parent, names, find_in}
use Rattle.table.specs.Rule.{handle_before, handle_ok}
use Rattle.table.specs.Changes.{Change, entry_changes}
use Rattle.table.proofs.Entry.{find_ext}
use Rattle.table.proofs.Rule.{Rule, Used, Apart}
use Rattle.table.proofs.Entries.{head_unchanged, head_staged}

-- ---- a handle's word

module _ (t : List ℕ) (k : ℕ) where
  pub handle_live : handle_ok t k ≡ true → k < live t → (handle_before t k < handle t k) × (handle t k < next_handle t)
  unfolding handle_ok
  handle_live h l =
      let s = and_split (ltb (handle_before t k) (handle t k)) (ltb (handle t k) (next_handle t)) (rw (lt-ltb _ _ l) at h) in
      (ltb-true _ _ s.0, ltb-true _ _ s.1)

  pub handle_unused : handle_ok t k ≡ true → live t ≤ k → handle t k ≡ 0
  unfolding handle_ok
  handle_unused h l = eqb-true _ _ (rw (le-ltb _ _ l) at h)

  pub handle_make : (k < live t → (handle_before t k < handle t k) × (handle t k < next_handle t)) → (live t ≤ k → handle t k ≡ 0) → handle_ok t k ≡ true
  unfolding handle_ok
  handle_make f g =
      by_bool (ltb k (live t))
      (λ p. let r = f (ltb-true _ _ p) in rw p (and_join _ _ (lt-ltb _ _ r.0) (lt-ltb _ _ r.1)))
      (λ p. rw p (eq-eqb _ _ (g (ltb-false _ _ p))))

-- ---- a new head over the same entries, all of which name live domains

module _ (m e b : ℕ) (t u : List ℕ) (ok : Rule m e b t)
    (firsts : (i : ℕ) → i < e → word1 e u i ≡ word1 e t i)
    (seconds : (i : ℕ) → i < e → word2 e u i ≡ word2 e t i) where
  used_kept : (i : ℕ) → i < e → depth_of (word1 e t i) ≤ live u → Used m e b t i → Used m e b u i
  used_kept i l high k =
      let p = firsts i l in
      let q = seconds i l in
      record {
        low = rw p k.low;
        high = rw p high;
        spare = rw p k.spare;
        cell = rw p k.cell;
        copy = λ z y. rw q (k.copy (rw p at z) (rw p at y));
        rule = λ z. rw q (k.rule (rw p at z));
        second = λ z. rw q (k.second (λ y. z (rw p y)));
        inner = λ z. rw p (k.inner (λ y. z (rw p y)));
        plain = λ z. rw p (k.plain (λ y. z (rw p y)));
      }

  apart_kept : (i j : ℕ) → i < e → j < e → Apart e t j i → Apart e u j i
  apart_kept i j l h k =
      record {
        cells = rw (firsts i l, firsts j h) k.cells;
        bodies = rw (firsts i l, firsts j h, seconds i l, seconds j h) k.bodies;
      }

  same_find : (d c : ℕ) → find_in e u d c ≡ find_in e t d c
  same_find d c = find_ext e t u d c (λ k h. ap (names d c) (firsts k h))

  pub head_changed : live u ≤ max_live → 1 ≤ next_handle u → ((k : ℕ) → k < max_live → handle_ok u k ≡ true)
      → ((i : ℕ) → i < e → (word1 e t i ≡ 0 → ⊥) → depth_of (word1 e t i) ≤ live u) → Rule m e b u
  head_changed few some handles deep =
      record {
        live = few;
        next = some;
        handles = handles;
        free = λ i l z. seconds i l ∙ ok.free i l (sym (firsts i l) ∙ z);
        used = λ i l h. let n : word1 e t i ≡ 0 → ⊥ = λ z. h (firsts i l ∙ z) in used_kept i l (deep i l n) (ok.used i l n);
        outer = λ i l v.
            rw (firsts i l, same_find (parent (depth_of (word1 e t i))) (cell_of (word1 e t i))) (ok.outer i l (λ z. v (ap via_of (firsts i l) ∙ z)));
        outer_plain = λ i l v.
            let via : via_of (word1 e t i) ≡ 0 → ⊥ = λ z. v (ap via_of (firsts i l) ∙ z) in
            let d = parent (depth_of (word1 e t i)) in
            let c = cell_of (word1 e t i) in
            rw (firsts i l, same_find d c, firsts (find_in e t d c) (ok.outer i l via)) (ok.outer_plain i l via);
        apart_from = λ i l j h x y.
            apart_kept i j l (omega arith) (ok.apart_from i l j h (λ z. x (firsts i l ∙ z)) (λ z. y (firsts j (omega arith) ∙ z)));
      }

-- ---- of the domains of t the first n remain in u

pub record Remain (n : ℕ) (t u : List ℕ) : Type 0 where
  pub fewer : n ≤ live t
  pub live : live u ≡ n
  pub next : next_handle u ≡ next_handle t
  pub kept : (k : ℕ) → k < n → handle u k ≡ handle t k
  pub gone : (k : ℕ) → n ≤ k → k < max_live → handle u k ≡ 0

-- their handles are right
pub remain_handles : (n : ℕ) (t u : List ℕ) → ((k : ℕ) → k < max_live → handle_ok t k ≡ true) → Remain n t u → (k : ℕ) → k < max_live → handle_ok u k ≡ true
remain_handles n t u ok r k l =
    handle_make u k
    (λ h.
    let lt : k < n = subst (λ (x : ℕ). k < x) r.live h in
    let old = handle_live t k (ok k l) (omega (arith, r.fewer)) in
    let before : handle_before u k ≡ handle_before t k =
    by_bool (eqb k 0) (λ z. rw z) (λ z. rw z (r.kept (k - 1) (omega arith))) in
    (rw (before, r.kept k lt) old.0, rw (r.kept k lt, r.next) old.1))
    (λ h. r.gone k (subst (λ (x : ℕ). x ≤ k) r.live h) l)

-- all of them, where no word of the head is stored
pub all_remain : {m e b : ℕ} {t : List ℕ} (f : ℕ → Change) → Rule m e b t → Remain (live t) t (stores (entry_changes e f) t)
all_remain {m} {e} {b} {t} f ok =
    let few = ok.live in
    record {
      fewer = omega arith;
      live = head_unchanged e f t live_at (omega arith);
      next = head_unchanged e f t next_at (omega arith);
      kept = λ k l. head_unchanged e f t (handle_at k) (omega arith);
      gone = λ k h l. head_unchanged e f t (handle_at k) (omega arith) ∙ handle_unused t k (ok.handles k l) h;
    }

-- the first d, where word 4 becomes d and the handles of the others, of n, become 0
abbrev pub ended_words : (d n : ℕ) → List Store
ended_words d n = (live_at ≔ d) ∷ tab (n - d) (λ k. handle_at (d + k) ≔ 0)

pub ended_low : (d n : ℕ) → n ≤ max_live → Each (λ s. s.at < handle_at max_live) (ended_words d n)
ended_low d n few = (omega arith, each_tab (λ s. s.at < handle_at max_live) (λ k. handle_at (d + k) ≔ 0) (n - d) (λ k l. omega arith))

cleared : (d at n j : ℕ) (l : List ℕ) → handle_at (d + (at + n)) ≤ length l → at ≤ j → j < at + n
    → get_or (stores (tab_from (λ k. handle_at (d + k) ≔ 0) at n) l) (handle_at (d + j)) 0 ≡ 0
cleared d at zero j l fits a b = absurd (never at j a b)
  where
    never : (at j : ℕ) → at ≤ j → j < at + 0 → ⊥
    never at j a b = omega arith
cleared d at (suc n) j l fits a b =
    by_bool (eqb j at)
    (λ z.
    let q = eqb-true j at z in
    get_or_stores (tab_from (λ k. handle_at (d + k) ≔ 0) (suc at) n) (set l (handle_at (d + at)) 0) (handle_at (d + j))
    (each_tab_from (λ s. handle_at (d + j) ≡ s.at → ⊥) (λ k. handle_at (d + k) ≔ 0) (suc at) n (λ i h p. omega arith))
    ∙ rw q (get_or-set_same l (handle_at (d + at)) 0 0 (omega arith)))
    (λ z.
    let ne = eqb-false j at z in
    cleared d (suc at) n j (set l (handle_at (d + at)) 0) (rw (length-set l (handle_at (d + at)) 0) (omega arith)) (omega (arith, ne)) (omega arith))

module _ {m e b : ℕ} {t : List ℕ} (f : ℕ → Change) (ok : Rule m e b t) (long : pairs_at e ≤ length t) (d : ℕ) (fewer : d ≤ live t) where
  at_head : (k : ℕ) → k < handle_at max_live → get_or (stores (ended_words d (live t) ++ entry_changes e f) t) k 0 ≡ get_or (stores (ended_words d (live t)) t) k 0
  at_head k l = head_staged e f (ended_words d (live t)) (ended_low d (live t) ok.live) t k l

  -- a word that is no handle that leaves
  beside : (k : ℕ) → ((j : ℕ) → j < live t - d → k ≡ handle_at (d + j) → ⊥) → get_or (stores (ended_words d (live t)) t) k 0 ≡ get_or (set t live_at d) k 0
  beside k h =
      get_or_stores (tab (live t - d) (λ j. handle_at (d + j) ≔ 0)) (set t live_at d) k
      (each_tab (λ s. k ≡ s.at → ⊥) (λ j. handle_at (d + j) ≔ 0) (live t - d) h)

  same : (k : ℕ) → k < handle_at max_live → (k ≡ live_at → ⊥) → ((j : ℕ) → j < live t - d → k ≡ handle_at (d + j) → ⊥)
      → get_or (stores (ended_words d (live t) ++ entry_changes e f) t) k 0 ≡ get_or t k 0
  same k l p h = at_head k l ∙ beside k h ∙ get_or-set_other t live_at k d 0 p

  pub first_remain : Remain d t (stores (ended_words d (live t) ++ entry_changes e f) t)
  first_remain =
      let few = ok.live in
      record {
        fewer = fewer;
        live = at_head live_at (omega arith) ∙ beside live_at (λ j l q. omega arith) ∙ get_or-set_same t live_at d 0 (omega arith);
        next = same next_at (omega arith) (λ q. omega arith) (λ j l q. omega arith);
        kept = λ k l. same (handle_at k) (omega arith) (λ q. omega arith) (λ j b q. omega arith);
        gone = λ k h l.
            by_le (live t) k
            (λ a. same (handle_at k) (omega arith) (λ q. omega arith) (λ j b q. omega arith) ∙ handle_unused t k (ok.handles k l) a)
            (λ a.
            let at : handle_at k ≡ handle_at (d + (k - d)) = omega arith in
            at_head (handle_at k) (omega arith)
            ∙ ap (λ (x : ℕ). get_or (stores (ended_words d (live t)) t) x 0) at
            ∙ cleared d 0 (live t - d) (k - d) (set t live_at d) (rw (length-set t live_at d) (omega arith)) (omega arith) (omega arith));
      }
