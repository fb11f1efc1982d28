-- Laws of marks: what one more entry does to them, for any wanted entries, key and tag; then the passes over the cells and over the bodies. Assumes nothing.
use Prim.Native.Nat.{ℕ, ◌+◌, ◌≤◌, ◌<◌}
use mathlib.Core.Bool.{Bool, true, false, not, ◌&&◌}
use mathlib.Core.List.{List}
use mathlib.Core.Path.{◌≡◌, refl, sym, ap, subst, ◌∙◌}
use mathlib.Core.Logic.{◌⊎◌, inl, inr, ⊎_elim}
use native.Mathlib.Nat.{not-suc-le-zero, eq-or-lt_of_le, le_of_suc-le-suc}
use native.Mathlib.Numerals.{add-one}
use native.Mathlib.Omega.{arith}
use borrow.Author.Tests.{eq-eqb, ne_eqb, eqb-true, eqb-false, ltb-true, lt-ltb, not-true, not-false}
use lib.ListN.{length, get_or, set}
use lib.Seq.{get_or-set_same, get_or-set_other}
use lib.Dec.{ltb, eqb}
use Rattle.words.specs.Layout.{max_bodies}
use Rattle.words.proofs.Scan.{by_bool, by_le, and_split, and_join, is_false, true≢}
use Rattle.table.specs.Entry.{word1, word2, depth_of, via_of, pattern_of, parent, find_in, holds_in, is_pattern, owns_body}
use Rattle.table.specs.Rule.{holds_plain, parent_ok}
use Rattle.marks.specs.Blocks.{mark_of, with_depth, block_at, Enough, OneMark}
use Rattle.table.specs.Marks.{Reached, RoomForMarks, Marks, Distinct, zeros, has, cell_in, mark_at, MarkedAmong, OnceAmong, PlainBelow, Marked, CellsOnce, ViaInner, parent_told, IsCopy, mark_body, body_fits}
use Rattle.marks.proofs.Digits.{has_here, has_other}
use Rattle.marks.proofs.Blocks.{zeros_length, blank_zeros}
use Rattle.table.proofs.Entry.{find_some, find_hit, holds_true, holds_found}

pub split : {C : Type 0} (n j : ℕ) → j < n + 1 → (j ≡ n → C) → (j < n → C) → C
split n j l f g = ⊎_elim f g (eq-or-lt_of_le (le_of_suc-le-suc (subst (λ (m : ℕ). j < m) (add-one n) l)))

-- ---- any marks
module _ (Wanted : ℕ → Type 0) (key : ℕ → ℕ) (tag : ℕ) where
  pub marks_none : (s : List ℕ) → ((k : ℕ) → get_or s k 0 ≡ tag → ⊥) → Marks Wanted key tag 0 s
  marks_none s z = record { clear = λ k e j l. absurd (not-suc-le-zero l); found = λ k h. absurd (z k h) }

  pub marks_skip : (n : ℕ) (s : List ℕ) → (Wanted n → ⊥) → Marks Wanted key tag n s → Marks Wanted key tag (n + 1) s
  marks_skip n s other m =
      record {
        clear = λ k e j l u q. split n j l (λ p. other (subst Wanted p u)) (λ p. m.clear k e j p u q);
        found = λ k h. let f = m.found k h in (f.0, omega arith, f.2, f.3);
      }

  pub marks_more : (n : ℕ) (s : List ℕ) → Wanted n → key n < length s → Marks Wanted key tag n s → Marks Wanted key tag (n + 1) (set s (key n) tag)
  marks_more n s un fits m =
      record {
        clear = λ k e j l u q.
            by_bool (eqb k (key n))
            (λ b. e (subst (λ (x : ℕ). get_or (set s (key n) tag) x 0 ≡ tag) (sym (eqb-true k (key n) b)) (get_or-set_same s (key n) tag 0 fits)))
            (λ b.
            let ne = eqb-false k (key n) b in
            split n j l
            (λ p. ne (sym q ∙ ap key p))
            (λ p. m.clear k (λ z. e (get_or-set_other s (key n) k tag 0 ne ∙ z)) j p u q));
        found = λ k h.
            by_bool (eqb k (key n))
            (λ b. (n, omega arith, un, sym (eqb-true k (key n) b)))
            (λ b.
            let ne = eqb-false k (key n) b in
            let f = m.found k (sym (get_or-set_other s (key n) k tag 0 ne) ∙ h) in
            (f.0, omega arith, f.2, f.3));
      }

module _ (Wanted : ℕ → Type 0) (key : ℕ → ℕ) where
  pub distinct_none : Distinct Wanted key 0
  distinct_none i l = absurd (not-suc-le-zero l)

  pub distinct_more : (n : ℕ) → Distinct Wanted key n → ((j : ℕ) → j < n → Wanted n → Wanted j → key j ≡ key n → ⊥) → Distinct Wanted key (n + 1)
  distinct_more n d h i l =
      split n i l
      (λ p. subst (λ (x : ℕ). (j : ℕ) → j < x → Wanted x → Wanted j → key j ≡ key x → ⊥) (sym p) h)
      (λ p. d i p)

pub marked_holds : (e : ℕ) (t seen : List ℕ) → Marked e t e seen → (d c : ℕ) → 1 ≤ d → has d (mark_of seen c) ≡ holds_in e t d c
unfolding holds_in
marked_holds e t seen m d c low =
    by_bool (has d (mark_of seen c))
    (λ h. let f = m.found d c h in h ∙ sym (lt-ltb (find_in e t d c) e (omega (arith, find_some e t d c f.0 f.1 f.2 f.3, f.1))))
    (λ h.
    h
    ∙ sym (is_false (ltb (find_in e t d c) e) (λ y.
    let f = ltb-true (find_in e t d c) e y in
    let q = find_hit e t d c f in
    m.clear d c low h (find_in e t d c) f q.0 q.1)))

-- ---- the marks of some entries' cells
module _ (e : ℕ) (t : List ℕ) where
  -- the same entries, named otherwise
  module _ (Among Others : ℕ → Type 0) (to : (j : ℕ) → Among j → Others j) (from : (j : ℕ) → Others j → Among j) where
    pub marked_same : (s : List ℕ) → MarkedAmong e t Among s → MarkedAmong e t Others s
    marked_same s m =
        record {
          clear = λ d k low h j l q r. m.clear d k low h j (from j l) q r;
          found = λ d k h. let f = m.found d k h in (f.0, to f.0 f.1, f.2, f.3);
        }

    pub once_same : OnceAmong e t Among → OnceAmong e t Others
    once_same once i l j k = once i (from i l) j (from j k)

  -- one entry more
  module _ (Among More : ℕ → Type 0) (n : ℕ) (s : List ℕ) (m : MarkedAmong e t Among s) where
    -- it does not fit
    pub once_not : (Among n → ⊥) → ((j : ℕ) → Among j → j < e) → n < e → 1 ≤ depth_of (word1 e t n) → has (depth_of (word1 e t n)) (mark_at s (word1 e t n)) ≡ true → CellsOnce e t e → ⊥
    once_not other low l deep h once =
        let f = m.found (depth_of (word1 e t n)) (cell_in e t n) h in
        by_le n f.0
        (λ far.
        by_bool (eqb f.0 n)
        (λ z. other (subst Among (eqb-true f.0 n z) f.1))
        (λ z. once f.0 (low f.0 f.1) n (omega (arith, far, eqb-false f.0 n z)) (rw f.2 deep) (sym f.2) (sym f.3)))
        (λ near. once n l f.0 near deep f.2 f.3)

    -- it fits
    module _ (here : More n) (grow : (j : ℕ) → More j → (j ≡ n) ⊎ Among j) (kept : (j : ℕ) → Among j → More j)
        (free : has (depth_of (word1 e t n)) (mark_at s (word1 e t n)) ≡ false) where
      apart_from : (j : ℕ) → Among j → 1 ≤ depth_of (word1 e t n) → depth_of (word1 e t j) ≡ depth_of (word1 e t n) → cell_in e t j ≡ cell_in e t n → ⊥
      apart_from j k low q r = m.clear (depth_of (word1 e t n)) (cell_in e t n) low free j k q r

      -- of two entries, each this one or one of the others
      once_pair : OnceAmong e t Among → (i j : ℕ) → (i ≡ n) ⊎ Among i → (j ≡ n) ⊎ Among j → j < i → 1 ≤ depth_of (word1 e t i)
          → depth_of (word1 e t j) ≡ depth_of (word1 e t i) → cell_in e t j ≡ cell_in e t i → ⊥
      once_pair once i j (inl p) (inl p') less low q r = omega (arith, p, p', less)
      once_pair once i j (inl p) (inr k) less low q r =
          apart_from j k (rw p at low) (q ∙ ap (λ (x : ℕ). depth_of (word1 e t x)) p) (r ∙ ap (cell_in e t) p)
      once_pair once i j (inr l) (inl p) less low q r =
          let same : depth_of (word1 e t i) ≡ depth_of (word1 e t n) = sym q ∙ ap (λ (x : ℕ). depth_of (word1 e t x)) p in
          apart_from i l (rw same at low) same (sym r ∙ ap (cell_in e t) p)
      once_pair once i j (inr l) (inr k) less low q r = once i l j k less low q r

      pub once_more : OnceAmong e t Among → OnceAmong e t More
      once_more once i l j k = once_pair once i j (grow i l) (grow j k)

      module _ (after : List ℕ) (one : OneMark s (cell_in e t n) (with_depth (depth_of (word1 e t n)) (mark_at s (word1 e t n))) after) where
        mark_here : 1 ≤ depth_of (word1 e t n) → has (depth_of (word1 e t n)) (mark_of after (cell_in e t n)) ≡ true
        mark_here low = rw (one (cell_in e t n), eq-eqb (cell_in e t n) (cell_in e t n) refl) (has_here _ _ low free)

        mark_other : (d k : ℕ) → (d ≡ depth_of (word1 e t n) → k ≡ cell_in e t n → ⊥) → has d (mark_of after k) ≡ has d (mark_of s k)
        mark_other d k other =
            by_bool (eqb k (cell_in e t n))
            (λ b.
            let q = eqb-true k (cell_in e t n) b in
            rw (one k, b)
            (has_other (depth_of (word1 e t n)) d (mark_at s (word1 e t n)) free (λ z. other z q)
            ∙ ap (λ (x : ℕ). has d (mark_of s x)) (sym q)))
            (λ b. rw (one k, b))

        -- is a depth and a cell this entry's?
        here_or : {C : Type 0} (d k : ℕ) → (d ≡ depth_of (word1 e t n) → k ≡ cell_in e t n → C) → ((d ≡ depth_of (word1 e t n) → k ≡ cell_in e t n → ⊥) → C) → C
        here_or d k f g =
            by_bool (eqb d (depth_of (word1 e t n)))
            (λ a. by_bool (eqb k (cell_in e t n)) (λ b. f (eqb-true _ _ a) (eqb-true _ _ b)) (λ b. g (λ p q. eqb-false _ _ b q)))
            (λ a. g (λ p q. eqb-false _ _ a p))

        pub marked_more : MarkedAmong e t More after
        marked_more =
            record {
              clear = λ d k low h j l q r.
                  here_or d k
                  (λ a b. true≢ (rw (a, b) (mark_here (rw a at low))) h)
                  (λ other.
                  ⊎_elim
                  (λ p. other (sym q ∙ ap (λ (x : ℕ). depth_of (word1 e t x)) p) (sym r ∙ ap (cell_in e t) p))
                  (λ p. m.clear d k low (sym (mark_other d k other) ∙ h) j p q r) (grow j l));
              found = λ d k h.
                  here_or d k
                  (λ a b. (n, here, sym a, sym b))
                  (λ other. let f = m.found d k (sym (mark_other d k other) ∙ h) in (f.0, kept f.0 f.1, f.2, f.3));
            }

  -- the entries that follow no rule are marked: the parent's mark tells whether it holds the cell by copy or via parent
  module _ (s : List ℕ) (m : MarkedAmong e t (PlainBelow e t e) s) (once : CellsOnce e t e) where
    plain_there : (d c : ℕ) → 1 ≤ d → has d (mark_of s c) ≡ true → holds_plain e t d c ≡ true
    plain_there d c low h =
        let f = m.found d c h in
        let i = f.0 in
        let le = find_some e t d c i f.1.0 f.2 f.3 in
        let hit = find_hit e t d c (omega (arith, le, f.1.0)) in
        let q : find_in e t d c ≡ i =
        by_bool (eqb (find_in e t d c) i) (λ z. eqb-true _ _ z)
        (λ z. absurd (once i f.1.0 (find_in e t d c) (omega (arith, le, eqb-false (find_in e t d c) i z)) (rw f.2 low) (hit.0 ∙ sym f.2) (hit.1 ∙ sym f.3))) in
        and_join _ _ (holds_true e t d c (omega (arith, le, f.1.0))) (rw q (eq-eqb _ _ f.1.1))

    plain_missing : (d c : ℕ) → 1 ≤ d → has d (mark_of s c) ≡ false → holds_plain e t d c ≡ false
    plain_missing d c low h =
        is_false (holds_plain e t d c) (λ ok.
        let both = and_split (holds_in e t d c) _ ok in
        let f = holds_found e t d c both.0 in
        let q = find_hit e t d c f in
        m.clear d c low h (find_in e t d c) (f, eqb-true _ _ both.1) q.0 q.1)

    pub plain_told : (d c : ℕ) → 1 ≤ d → has d (mark_of s c) ≡ holds_plain e t d c
    plain_told d c low = by_bool (has d (mark_of s c)) (λ h. h ∙ sym (plain_there d c low h)) (λ h. h ∙ sym (plain_missing d c low h))

    pub parent_told_lem : ViaInner e t → (i : ℕ) → i < e → parent_told (word1 e t i) s ≡ parent_ok e t i
    unfolding parent_ok
    parent_told_lem inner i l =
        by_bool (eqb (via_of (word1 e t i)) 0)
        (λ b. rw b)
        (λ b. let two = inner i l (eqb-false _ _ b) in rw b (plain_told (parent (depth_of (word1 e t i))) (cell_in e t i) (omega arith)))

-- ---- the pass over the bodies

-- an entry that has a body is in use and a copy
pub owns_facts : (w : ℕ) → owns_body w ≡ true → (w ≡ 0 → ⊥) × (via_of w ≡ 0) × (pattern_of w ≡ 0)
owns_facts w h =
    let s = and_split (not (eqb w 0)) _ h in
    let r = and_split (eqb (via_of w) 0) _ s.1 in
    (eqb-false _ _ (not-true _ s.0), eqb-true _ _ r.0, eqb-true _ _ r.1)

pub owns_make : (w : ℕ) → (w ≡ 0 → ⊥) → via_of w ≡ 0 → pattern_of w ≡ 0 → owns_body w ≡ true
owns_make w u v p = rw (ne_eqb _ _ u, eq-eqb _ _ v, eq-eqb _ _ p)

pub owns_not : (w : ℕ) → is_pattern w ≡ true → owns_body w ≡ false
owns_not w p = let q = eqb-true (pattern_of w) 1 p in is_false (owns_body w) (λ h. omega (arith, q, (owns_facts w h).2))

module _ (e : ℕ) (t : List ℕ) (n : ℕ) (s : List ℕ) (m : Marks (IsCopy e t) (word2 e t) 1 n s) where
  pub bodies_more : (IsCopy e t n → word2 e t n < length s) → Marks (IsCopy e t) (word2 e t) 1 (n + 1) (mark_body (word1 e t n) (word2 e t n) s)
  unfolding mark_body
  bodies_more fits =
      by_bool (owns_body (word1 e t n))
      (λ b. rw b (marks_more (IsCopy e t) (word2 e t) 1 n s b (fits b) m))
      (λ b. rw b (marks_skip (IsCopy e t) (word2 e t) 1 n s (λ u. true≢ u b) m))

  body_fresh : IsCopy e t n → body_fits (word1 e t n) (word2 e t n) s ≡ true → get_or s (word2 e t n) 0 ≡ 1 → ⊥
  unfolding body_fits
  body_fresh u h = eqb-false _ _ (not-true _ (rw u at h))

  body_taken : body_fits (word1 e t n) (word2 e t n) s ≡ false → IsCopy e t n × (get_or s (word2 e t n) 0 ≡ 1)
  unfolding body_fits
  body_taken h =
      by_bool (owns_body (word1 e t n))
      (λ b. (b, eqb-true _ _ (not-false _ (rw b at h))))
      (λ b. absurd (true≢ refl (rw b at h)))

  -- what is known of a body pass, one entry later: x says whether all bodies so far differ
  pub single_more : (x : Bool) → n < e → (x ≡ true → Distinct (IsCopy e t) (word2 e t) n) → (x ≡ false → Distinct (IsCopy e t) (word2 e t) e → ⊥)
      → ((body_fits (word1 e t n) (word2 e t n) s && x) ≡ true → Distinct (IsCopy e t) (word2 e t) (n + 1))
      × ((body_fits (word1 e t n) (word2 e t n) s && x) ≡ false → Distinct (IsCopy e t) (word2 e t) e → ⊥)
  single_more x l yes-so-far not-so-far = (
    (λ h.
        let b = and_split (body_fits (word1 e t n) (word2 e t n) s) x h in
        distinct_more (IsCopy e t) (word2 e t) n (yes-so-far b.1) (λ j k un uj q. m.clear (word2 e t n) (body_fresh un b.0) j k uj q)),
    (λ h d.
        by_bool (body_fits (word1 e t n) (word2 e t n) s)
        (λ b. not-so-far (ap (λ (y : Bool). y && x) (sym b) ∙ h) d)
        (λ b.
        let u = body_taken b in
        let f = m.found (word2 e t n) u.1 in
        d n l f.0 f.1 u.0 f.2 f.3)),
  )

-- ---- room for marks, none made yet
module _ (t : List ℕ) (m n : ℕ) (reach : Reached t n) where
  -- so many blocks in so many bytes
  pub room_with : (k : ℕ) → Enough k n m → (long : ℕ) → block_at (k + 1) ≤ long → RoomForMarks t m n (zeros long) (zeros max_bodies)
  room_with k few long fits =
      record {
        room = omega (arith, few, fits, zeros_length long);
        bodies = zeros_length max_bodies;
        no_cells = blank_zeros long;
        no_bodies = blank_zeros max_bodies;
        reached = reach;
      }

  pub room_few : Enough 64 n m → RoomForMarks t m n (zeros 6272) (zeros 4096)
  room_few few = room_with 64 few 6272 (omega arith)

  pub room_some : Enough 256 n m → RoomForMarks t m n (zeros 18560) (zeros 4096)
  room_some few = room_with 256 few 18560 (omega arith)

  -- no memory has more groups
  pub room_many : RoomForMarks t m n (zeros 67712) (zeros 4096)
  room_many = room_with 1024 (omega arith) 67712 (omega arith)
