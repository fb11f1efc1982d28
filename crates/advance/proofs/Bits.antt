-- Cells as bits, 64 to a number: how many bits are set before that of a cell, what is noted of each group, and one bit more. Then the pass over
-- the entries that sets the bits of the cells. Assumes nothing.
use Prim.Native.Nat.{ℕ, zero, suc, ◌+◌, ◌/◌, ◌%◌, ◌^◌, ◌≤◌, ◌<◌}
use mathlib.Core.Bool.{Bool, true, false, ◌&&◌, ◌||◌}
use mathlib.Core.List.{List}
use mathlib.Core.Path.{◌≡◌, refl, sym, ap, subst, ◌∙◌}
use native.Mathlib.Nat.{not-suc-le-zero}
use native.Mathlib.Omega.{arith}
use borrow.Author.Tests.{eq-eqb, eqb-true, eqb-false}
use lib.Count.{ones, ones_step}
use lib.Dec.{eqb}
use lib.ListN.{length, get_or, get_or-eq_default}
use lib.Pow.{shr-shr, shr_lt}
use lib.Seq.{set-get_or}
use Rattle.words.specs.Layout.{group_at, group_of}
use Rattle.words.specs.Scan.{count}
use Rattle.words.proofs.Scan.{by_bool, by_le, is_false, and_split, and_join, true≢, count_ext, count_stop}
use Rattle.words.proofs.Nth.{count_below}
use Rattle.table.specs.Entry.{word1, cell_of}
use Rattle.table.specs.Marks.{Blank}
use Rattle.table.proofs.Marks.{split}
use Rattle.changes.specs.Staged.{bit_at, is_set, Inside}
use Rattle.changes.proofs.Bits.{bit_none, bit_kept, set_at, more_here, more_other}
use Rattle.advance.specs.Notes.{NoBits, mark_turning, TurnedBits, Ends}

-- ---- the bits of one number, counted

-- those below the j-th, and those from it on
ones_rest : (w j : ℕ) → ones w ≡ count j (bit_at w) + ones (w / 2 ^ j)
unfolding count
ones_rest w zero = let z : w ≡ w / 2 ^ 0 = omega arith in omega (arith, ap ones z)
ones_rest w (suc j) =
    let half : w / 2 ^ j / 2 ≡ w / 2 ^ suc j = shr-shr w j 1 ∙ ap (λ (x : ℕ). w / 2 ^ x) (omega arith) in
    let next = ones_step (w / 2 ^ j) ∙ ap (λ (x : ℕ). w / 2 ^ j % 2 + ones x) half in
    let before = ones_rest w j in
    by_bool (bit_at w j)
    (λ p. rw p (omega (arith, next, before, eqb-true (w / 2 ^ j % 2) 1 p)))
    (λ p. rw p (omega (arith, next, before, eqb-false (w / 2 ^ j % 2) 1 p)))

ones_none : ones 0 ≡ 0
unfolding ones
ones_none = refl

ones_all : (w : ℕ) → w < 2 ^ 64 → ones w ≡ count 64 (bit_at w)
ones_all w small =
    let low : w / 2 ^ 64 < 2 ^ 0 = shr_lt 0 64 small in
    let none : w / 2 ^ 64 ≡ 0 = omega (arith, low) in
    let rest = ap ones none ∙ ones_none in
    omega (arith, ones_rest w 64, rest)

-- ---- the bits of all groups, counted

-- in two parts
count_parts : (a n : ℕ) (f : ℕ → Bool) → count (a + n) f ≡ count a f + count n (λ k. f (a + k))
unfolding count
count_parts a zero f = let z : a + 0 ≡ a = omega arith in rw z (omega arith)
count_parts a (suc n) f =
    let z : a + suc n ≡ suc (a + n) = omega arith in
    ap (λ (x : ℕ). count x f) z
    ∙ by_bool (f (a + n))
    (λ p. rw (p, count_parts a n f) (omega arith))
    (λ p. rw (p, count_parts a n f))

module _ (groups : List ℕ) where
  group_count : (g j : ℕ) → j ≤ 64 → count (group_at g + j) (is_set groups) ≡ count (group_at g) (is_set groups) + count j (bit_at (get_or groups g 0))
  group_count g j l =
      count_parts (group_at g) j (is_set groups)
      ∙ ap (λ (x : ℕ). count (group_at g) (is_set groups) + x) (count_ext j (λ k. is_set groups (group_at g + k)) (bit_at (get_or groups g 0)) (λ k h. set_at groups g k (omega arith)))

  -- up to the end of a group
  pub count_next : (g : ℕ) → get_or groups g 0 < 2 ^ 64 → count (group_at g) (is_set groups) + ones (get_or groups g 0) ≡ count (group_at (g + 1)) (is_set groups)
  count_next g small =
      let z : group_at (g + 1) ≡ group_at g + 64 = omega arith in
      let whole = ap (λ (x : ℕ). count x (is_set groups)) z ∙ group_count g 64 (omega arith) in
      omega (arith, whole, ones_all (get_or groups g 0) small)

  -- those before a cell, and those from it on to the end of its group
  rank_rest : (c : ℕ) → get_or groups (group_of c) 0 < 2 ^ 64
      → count (group_at (group_of c + 1)) (is_set groups) ≡ count c (is_set groups) + ones (get_or groups (group_of c) 0 / 2 ^ (c % 64))
  rank_rest c small =
      let z : group_at (group_of c) + c % 64 ≡ c = omega arith in
      let here = sym (ap (λ (x : ℕ). count x (is_set groups)) z) ∙ group_count (group_of c) (c % 64) (omega arith) in
      omega (arith, here, count_next (group_of c) small, ones_rest (get_or groups (group_of c) 0) (c % 64))

  -- a cell with a bit belongs to one of the groups, which has a bit
  pub group_some : (c : ℕ) → is_set groups c ≡ true → get_or groups (group_of c) 0 ≡ 0 → ⊥
  group_some c h z = true≢ h (bit_none (get_or groups (group_of c) 0) (c % 64) z)

  pub group_known : (c : ℕ) → is_set groups c ≡ true → group_of c < length groups
  group_known c h = by_le (length groups) (group_of c) (λ l. absurd (group_some c h (get_or-eq_default groups 0 l))) (λ l. l)

  -- its rank, by what is noted of its group
  pub ends_rank : (g : ℕ) (ends : List ℕ) (c : ℕ) → get_or groups (group_of c) 0 < 2 ^ 64 → Ends groups g ends → group_of c < g → is_set groups c ≡ true
      → get_or ends (group_of c) 0 ≡ count c (is_set groups) + ones (get_or groups (group_of c) 0 / 2 ^ (c % 64))
  ends_rank g ends c small noted l h = noted.noted c l h ∙ rank_rest c small

  -- which is below the number of all bits
  pub rank_fits : (m c : ℕ) → c < m → is_set groups c ≡ true → count c (is_set groups) < count m (is_set groups)
  rank_fits m c l h = count_below (is_set groups) c m l h

  -- groups without a bit are passed over
  pub count_empty : (g h : ℕ) → g ≤ h → NoBits groups g h → count (group_at g) (is_set groups) ≡ count (group_at h) (is_set groups)
  count_empty g h on empty =
      sym (count_stop (group_at h) (group_at g) (is_set groups) (omega arith)
      (λ c l b. bit_none (get_or groups (group_of c) 0) (c % 64) (empty (group_of c) (omega arith) (omega arith))))

  -- none has a bit behind the g-th
  pub count_inside : (g m : ℕ) → group_at g ≤ m → Inside (group_at g) groups → count (group_at g) (is_set groups) ≡ count m (is_set groups)
  count_inside g m l inside =
      sym (count_stop m (group_at g) (is_set groups) l (λ c far b. is_false (is_set groups c) (λ z. let near = inside c z in omega arith)))

  pub ends_none : (ends : List ℕ) → Ends groups 0 ends
  ends_none ends = record { noted = λ c l. absurd (not-suc-le-zero l) }

  pub ends_empty : (g h : ℕ) (ends : List ℕ) → NoBits groups g h → Ends groups g ends → Ends groups h ends
  ends_empty g h ends empty old =
      record { noted = λ c l some. by_le g (group_of c) (λ far. absurd (group_some c some (empty (group_of c) far l))) (λ near. old.noted c near some) }

  pub ends_inside : (g h : ℕ) (ends : List ℕ) → Inside (group_at g) groups → Ends groups g ends → Ends groups h ends
  ends_inside g h ends inside old = record { noted = λ c l some. let near = inside c some in old.noted c (omega arith) some }

-- ---- the pass over the entries

module _ (goes : Bool) (w : ℕ) (groups : List ℕ) (fits : group_of (cell_of w) < length groups) where
  abbrev own : ℕ
  own = get_or groups (group_of (cell_of w)) 0

  marks_after : (c : ℕ) → is_set (mark_turning goes w (group_of (cell_of w)) groups) c ≡ (is_set groups c || (goes && eqb c (cell_of w)))
  marks_after c =
      by_bool goes
      (λ y. rw y
      (by_bool (eqb c (cell_of w))
      (λ z. rw (z, eqb-true c (cell_of w) z, more_here groups (group_of (cell_of w)) own (cell_of w) fits refl) (or_true (is_set groups (cell_of w))))
      (λ z. rw (z, more_other groups (group_of (cell_of w)) own (cell_of w) fits refl c (eqb-false c (cell_of w) z), set-get_or groups (group_of (cell_of w)) 0) (or_none (is_set groups c)))))
      (λ y. rw (y, bit_kept own (cell_of w % 64), set-get_or groups (group_of (cell_of w)) 0) (or_none (is_set groups c)))
    where
      or_none : (x : Bool) → x ≡ (x || false)
      or_none true = refl
      or_none false = refl

      or_true : (x : Bool) → true ≡ (x || true)
      or_true true = refl
      or_true false = refl

or_cases : {C : Type 0} (x y : Bool) → (x || y) ≡ true → (x ≡ true → C) → (y ≡ true → C) → C
or_cases true y h f g = f refl
or_cases false y h f g = g h

or_fails : (x y : Bool) → (x || y) ≡ false → (x ≡ false) × (y ≡ false)
or_fails true y h = absurd (true≢ refl h)
or_fails false y h = (refl, h)

module _ (e : ℕ) (t : List ℕ) (goes : ℕ → Bool) where
  pub turned_none : (groups : List ℕ) → Blank groups → TurnedBits e t goes 0 groups
  turned_none groups blank =
      record {
        clear = λ c h j l. absurd (not-suc-le-zero l);
        found = λ c h. absurd (group_some groups c h (blank (group_of c)));
      }

  pub turned_more : (k : ℕ) (groups : List ℕ) → group_of (cell_of (word1 e t k)) < length groups → TurnedBits e t goes k groups → TurnedBits e t goes (k + 1) (mark_turning (goes k) (word1 e t k) (group_of (cell_of (word1 e t k))) groups)
  turned_more k groups fits m =
      record {
        clear = λ c h j l u q.
            let f = or_fails _ _ (sym (marks_after (goes k) (word1 e t k) groups fits c) ∙ h) in
            split k j l
            (λ p. true≢ (and_join _ _ (subst (λ (x : ℕ). goes x ≡ true) p u) (eq-eqb _ _ (sym q ∙ ap (λ (x : ℕ). cell_of (word1 e t x)) p))) f.1)
            (λ p. m.clear c f.0 j p u q);
        found = λ c h.
            or_cases (is_set groups c) (goes k && eqb c (cell_of (word1 e t k))) (sym (marks_after (goes k) (word1 e t k) groups fits c) ∙ h)
            (λ p. let f = m.found c p in (f.0, omega (arith, f.1), f.2, f.3))
            (λ p. let s = and_split (goes k) (eqb c (cell_of (word1 e t k))) p in (k, omega arith, s.0, sym (eqb-true _ _ s.1)));
      }
