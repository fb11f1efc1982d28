-- Laws of taking a depth out of a mark, and of the pass in which the read-only entries of a depth take theirs out. Assumes nothing.
use Rattle.std.proofs.Common.{◌≡◌, ℕ, zero, suc, ◌+◌, ◌-◌, ◌*◌, ◌/◌, ◌%◌, ◌^◌, ◌<◌, ◌≤◌, true, false, cond, ◌&&◌, eqb, List, set, sym, refl, ap, ◌∙◌, subst, not-suc-le-zero, arith, pow_pos, eq-eqb, ne_eqb, eqb-true}
use native.Mathlib.Nat.{div-eq_of_lt, div-eq-sub-div}
use borrow.Author.Tests.{eqb-false}
use Rattle.words.specs.Layout.{max_live, max_cells}
use Rattle.words.proofs.Scan.{by_bool, by_le, and_split, and_join, is_false, is_true, true≢}
use Rattle.table.specs.Entry.{word1, depth_of, cell_of, writable_of, find_in, holds_in, writes_in}
use Rattle.marks.specs.Blocks.{with_depth, place_of, mark_of, Kept}
use Rattle.table.specs.Marks.{has, cell_in, mark_at, Marked, CellsOnce, FreeRun}
use Rattle.marks.proofs.Digits.{has_zero, has_none, has_other, bit_small}
use Rattle.marks.proofs.Blocks.{marked_own, store_mark, store_kept}
use Rattle.table.proofs.Marks.{split}
use Rattle.table.proofs.Entry.{find_some, find_hit, holds_true, holds_found}
use Rattle.search.specs.Writable.{without_depth, taken_by, KeepsCell, TellWritable}

-- ---- a depth out of a mark
even : (d : ℕ) → 1 ≤ d → 2 * (2 ^ d / 2) ≡ 2 ^ d
even zero l = absurd (omega arith)
even (suc d) l = omega arith

module _ (d m : ℕ) (h : has d m ≡ true) where
  low : 1 ≤ d
  low = by_le 1 d (λ l. l) (λ l. let none : d ≡ 0 = omega arith in absurd (true≢ h (ap (λ (x : ℕ). has x m) none ∙ has_zero m)))

  digit : 2 * m / 2 ^ d % 2 ≡ 1
  digit = eqb-true _ _ h

  whole : 2 ^ d ≤ 2 * m
  whole =
      by_le (2 ^ d) (2 * m) (λ l. l)
      (λ l. let none : 2 * m / 2 ^ d ≡ 0 = div-eq_of_lt l in absurd (omega (arith, none, digit)))

  pub depth_there : 2 ^ d / 2 ≤ m
  depth_there = omega (arith, whole, even d low)

  pub has_out : has d (without_depth d m) ≡ false
  has_out =
      let less : 2 * without_depth d m ≡ 2 * m - 2 ^ d = omega (arith, whole, even d low) in
      let once : 2 * m / 2 ^ d ≡ (2 * m - 2 ^ d) / 2 ^ d + 1 = div-eq-sub-div (pow_pos d) whole in
      ne_eqb _ _ (λ q. omega (arith, once, digit, sym (ap (λ (x : ℕ). x / 2 ^ d % 2) less) ∙ q))

  pub has_rest : (k : ℕ) → (k ≡ d → ⊥) → has k (without_depth d m) ≡ has k m
  has_rest k n =
      let back : with_depth d (without_depth d m) ≡ m = omega (arith, depth_there) in
      sym (has_other d k (without_depth d m) has_out n) ∙ ap (has k) back

-- ---- the pass over the entries of depth d
module _ (d w : ℕ) where
  pub takes : depth_of w ≡ d → writable_of w ≡ 0 → taken_by d w ≡ d
  unfolding taken_by
  takes p q = rw (eq-eqb _ _ p, eq-eqb _ _ q)

  pub takes_none : (depth_of w ≡ d → writable_of w ≡ 0 → ⊥) → taken_by d w ≡ 0
  unfolding taken_by
  takes_none n =
      rw (is_false (eqb (depth_of w) d && eqb (writable_of w) 0) (λ h.
      let s = and_split (eqb (depth_of w) d) (eqb (writable_of w) 0) h in
      n (eqb-true _ _ s.0) (eqb-true _ _ s.1)))

  -- the bit that the code takes out of the mark, where the depth is d
  pub taken_bit : depth_of w ≡ d → 2 ^ d / 2 * (1 - writable_of w) ≡ 2 ^ taken_by d w / 2
  taken_bit p =
      by_bool (eqb (writable_of w) 0)
      (λ b.
      let q = eqb-true (writable_of w) 0 b in
      rw (takes p q, q) (omega arith))
      (λ b.
      let n = eqb-false (writable_of w) 0 b in
      let one : writable_of w ≡ 1 = omega (arith, n) in
      rw (takes_none (λ x y. n y), one) (omega arith))

  pub taken_small : d ≤ max_live → 2 ^ d / 2 * (1 - writable_of w) ≤ 128
  taken_small few =
      by_bool (eqb (writable_of w) 0)
      (λ b. rw (eqb-true (writable_of w) 0 b) (omega (arith, bit_small d few)))
      (λ b.
      let one : writable_of w ≡ 1 = omega (arith, eqb-false (writable_of w) 0 b) in
      rw one (omega arith))

  by_taken : {C : Type 0} → (depth_of w ≡ d → writable_of w ≡ 0 → C) → ((depth_of w ≡ d → writable_of w ≡ 0 → ⊥) → C) → C
  by_taken f g =
      by_bool (eqb (depth_of w) d)
      (λ a. by_bool (eqb (writable_of w) 0) (λ b. f (eqb-true _ _ a) (eqb-true _ _ b)) (λ b. g (λ p q. eqb-false _ _ b q)))
      (λ a. g (λ p q. eqb-false _ _ a p))

-- an entry of another depth leaves all marks
pub keeps_same : (d w : ℕ) (s : List ℕ) → (depth_of w ≡ d → ⊥) → KeepsCell d w s s
keeps_same d w s other k =
    by_bool (eqb k (cell_of w))
    (λ b. rw (b, takes_none d w (λ p q. other p)) (ap (mark_of s) (eqb-true k (cell_of w) b) ∙ omega arith))
    (λ b. rw b)

-- and one of this depth, whose cell has a mark, stores its cell's
pub keeps_stored : (d w : ℕ) (s : List ℕ) → Kept s → 1 ≤ mark_at s w → (v : ℕ) → v ≡ without_depth (taken_by d w) (mark_at s w)
    → KeepsCell d w s (set s (place_of s (cell_of w)) v) × Kept (set s (place_of s (cell_of w)) v)
keeps_stored d w s ok some v q =
    let small : cell_of w < max_cells = omega arith in
    let own = marked_own s ok (cell_of w) small some in
    ((λ k. store_mark s ok (cell_of w) small own v k ∙ ap (λ (x : ℕ). cond (eqb k (cell_of w)) x (mark_of s k)) q), store_kept s ok (cell_of w) small own v)

-- n entries have passed
pub record TakenOut (e : ℕ) (t : List ℕ) (d : ℕ) (before : List ℕ) (n : ℕ) (after : List ℕ) : Type 0 where
  pub others : (k c : ℕ) → (k ≡ d → ⊥) → has k (mark_of after c) ≡ has k (mark_of before c)
  pub still : (c : ℕ) → has d (mark_of after c) ≡ true
      → (has d (mark_of before c) ≡ true) × ((j : ℕ) → j < n → depth_of (word1 e t j) ≡ d → writable_of (word1 e t j) ≡ 0 → cell_in e t j ≡ c → ⊥)
  pub gone : (c : ℕ) → has d (mark_of after c) ≡ false → has d (mark_of before c) ≡ true
      → (j : ℕ) × (j < n) × (depth_of (word1 e t j) ≡ d) × (writable_of (word1 e t j) ≡ 0) × (cell_in e t j ≡ c)

module _ (e : ℕ) (t : List ℕ) (d : ℕ) (s : List ℕ) where
  pub kept_none : TakenOut e t d s 0 s
  kept_none =
      record {
        others = λ k c n. refl;
        still = λ c h. (h, λ j l. absurd (not-suc-le-zero l));
        gone = λ c h g. absurd (true≢ g h);
      }

  module _ (some : 1 ≤ d) (m : Marked e t e s) (once : CellsOnce e t e) where
    module _ (n : ℕ) (u : List ℕ) (l : n < e) (kept : TakenOut e t d s n u) where
      -- an entry's depth is still in its cell's mark: no other entry of that depth has the cell
      there : depth_of (word1 e t n) ≡ d → has d (mark_at u (word1 e t n)) ≡ true
      there p =
          let was : has d (mark_of s (cell_in e t n)) ≡ true = is_true _ (λ z. m.clear d (cell_in e t n) some z n l p refl) in
          is_true _ (λ z.
          let f = kept.gone (cell_in e t n) z was in
          once n l f.0 f.1 (omega (arith, p)) (f.2 ∙ sym p) f.4)

      -- and so its cell has a mark
      pub marked_there : depth_of (word1 e t n) ≡ d → 1 ≤ mark_at u (word1 e t n)
      marked_there p =
          by_le 1 (mark_at u (word1 e t n)) (λ l. l)
          (λ l. let none : mark_at u (word1 e t n) ≡ 0 = omega (arith, l) in absurd (true≢ (there p) (ap (has d) none ∙ has_none d)))

      pub take_fits : 2 ^ taken_by d (word1 e t n) / 2 ≤ mark_at u (word1 e t n)
      take_fits =
          by_taken d (word1 e t n)
          (λ p q. rw (takes d (word1 e t n) p q) (depth_there d _ (there p)))
          (λ z. rw (takes_none d (word1 e t n) z) (omega arith))

      by_cell : {C : Type 0} (c : ℕ) → (c ≡ cell_in e t n → C) → ((c ≡ cell_in e t n → ⊥) → C) → C
      by_cell c f g = by_bool (eqb c (cell_in e t n)) (λ b. f (eqb-true _ _ b)) (λ b. g (eqb-false _ _ b))

      module _ (after : List ℕ) (one : KeepsCell d (word1 e t n) u after) where
        here : mark_of after (cell_in e t n) ≡ without_depth (taken_by d (word1 e t n)) (mark_at u (word1 e t n))
        here = one (cell_in e t n) ∙ rw (eq-eqb (cell_in e t n) (cell_in e t n) refl)

        elsewhere : (c : ℕ) → (c ≡ cell_in e t n → ⊥) → mark_of after c ≡ mark_of u c
        elsewhere c z = one c ∙ rw (ne_eqb c (cell_in e t n) z)

        -- an entry that takes nothing leaves all marks
        same : taken_by d (word1 e t n) ≡ 0 → (c : ℕ) → mark_of after c ≡ mark_of u c
        same z c =
            by_cell c
            (λ q. rw q (here ∙ ap (λ (x : ℕ). without_depth x (mark_at u (word1 e t n))) z ∙ omega arith))
            (λ q. elsewhere c q)

        kept_skip : (depth_of (word1 e t n) ≡ d → writable_of (word1 e t n) ≡ 0 → ⊥) → TakenOut e t d s (n + 1) after
        kept_skip z =
            let eq = same (takes_none d (word1 e t n) z) in
            record {
              others = λ k c ne. ap (has k) (eq c) ∙ kept.others k c ne;
              still = λ c h.
                  let f = kept.still c (sym (ap (has d) (eq c)) ∙ h) in
                  (f.0, λ j b p q r. split n j b (λ x. z (subst (λ (y : ℕ). depth_of (word1 e t y) ≡ d) x p) (subst (λ (y : ℕ). writable_of (word1 e t y) ≡ 0) x q)) (λ x. f.1 j x p q r));
              gone = λ c h g.
                  let f = kept.gone c (sym (ap (has d) (eq c)) ∙ h) g in
                  (f.0, omega arith, f.2, f.3, f.4);
            }

        module _ (p : depth_of (word1 e t n) ≡ d) (q : writable_of (word1 e t n) ≡ 0) where
          taken_here : mark_of after (cell_in e t n) ≡ without_depth d (mark_at u (word1 e t n))
          taken_here = here ∙ ap (λ (x : ℕ). without_depth x (mark_at u (word1 e t n))) (takes d (word1 e t n) p q)

          none_here : has d (mark_of after (cell_in e t n)) ≡ false
          none_here = ap (has d) taken_here ∙ has_out d (mark_at u (word1 e t n)) (there p)

          kept_take : TakenOut e t d s (n + 1) after
          kept_take =
              record {
                others = λ k c ne.
                    by_cell c
                    (λ x. ap (λ (y : ℕ). has k (mark_of after y)) x ∙ ap (has k) taken_here
                    ∙ has_rest d (mark_at u (word1 e t n)) (there p) k ne ∙ ap (λ (y : ℕ). has k (mark_of u y)) (sym x) ∙ kept.others k c ne)
                    (λ x. ap (has k) (elsewhere c x) ∙ kept.others k c ne);
                still = λ c h.
                    by_cell c
                    (λ x. absurd (true≢ h (ap (λ (y : ℕ). has d (mark_of after y)) x ∙ none_here)))
                    (λ x.
                    let f = kept.still c (sym (ap (has d) (elsewhere c x)) ∙ h) in
                    (f.0, λ j b p q r. split n j b (λ y. x (sym r ∙ ap (cell_in e t) y)) (λ y. f.1 j y p q r)));
                gone = λ c h g.
                    by_cell c
                    (λ x. (n, omega arith, p, q, sym x))
                    (λ x.
                    let f = kept.gone c (sym (ap (has d) (elsewhere c x)) ∙ h) g in
                    (f.0, omega arith, f.2, f.3, f.4));
              }

        pub kept_more : TakenOut e t d s (n + 1) after
        kept_more = by_taken d (word1 e t n) kept_take kept_skip

    -- free entries take nothing
    pub kept_free : (n k : ℕ) (u : List ℕ) → n ≤ k → FreeRun e t n k → TakenOut e t d s n u → TakenOut e t d s k u
    kept_free n k u low free kept =
        record {
          others = kept.others;
          still = λ c h.
              let f = kept.still c h in
              (f.0, λ j b p q r. by_le n j (λ far. omega (arith, (free j far b).0, p, some)) (λ near. f.1 j near p q r));
          gone = λ c h g. let f = kept.gone c h g in (f.0, omega (arith, f.1, low), f.2, f.3, f.4);
        }

    -- the entry of a depth and a cell is the only one
    only : (i j : ℕ) → i < e → j < e → depth_of (word1 e t i) ≡ d → depth_of (word1 e t j) ≡ d → cell_in e t i ≡ cell_in e t j → i ≡ j
    only i j a b p q r =
        by_le i j
        (λ x.
        by_le j i (λ y. omega arith)
        (λ y. absurd (once j b i y (omega (arith, q)) (p ∙ sym q) r)))
        (λ x. absurd (once i a j x (omega (arith, p)) (q ∙ sym p) (sym r)))

    pub kept_end : (u : List ℕ) → TakenOut e t d s e u → TellWritable e t d s u
    kept_end u kept =
        record {
          others = kept.others;
          writes = λ c.
              by_bool (has d (mark_of u c))
              (λ h. h ∙ sym (writing c h))
              (λ h. h ∙ sym (not_writing c h));
        }
      where
        writing : (c : ℕ) → has d (mark_of u c) ≡ true → writes_in e t d c ≡ true
        writing c h =
            let f = kept.still c h in
            let g = m.found d c f.0 in
            let here : find_in e t d c < e = omega (arith, find_some e t d c g.0 g.1 g.2 g.3, g.1) in
            let hit = find_hit e t d c here in
            and_join _ _ (holds_true e t d c here)
            (is_true _ (λ z. f.1 (find_in e t d c) here hit.0 (omega (arith, eqb-false (writable_of (word1 e t (find_in e t d c))) 1 z)) hit.1))

        not_writing : (c : ℕ) → has d (mark_of u c) ≡ false → writes_in e t d c ≡ false
        not_writing c h =
            is_false (writes_in e t d c) (λ z.
            let w = and_split (holds_in e t d c) _ z in
            let here = holds_found e t d c w.0 in
            let hit = find_hit e t d c here in
            let was : has d (mark_of s c) ≡ true = is_true _ (λ y. m.clear d c some y (find_in e t d c) here hit.0 hit.1) in
            let g = kept.gone c h was in
            let at : find_in e t d c ≡ g.0 = only (find_in e t d c) g.0 here g.1 hit.0 g.2 (hit.1 ∙ sym g.4) in
            omega (arith, eqb-true (writable_of (word1 e t (find_in e t d c))) 1 w.1, ap (λ (x : ℕ). writable_of (word1 e t x)) at, g.3))
