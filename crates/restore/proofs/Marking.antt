-- The marks of all entries and the mask of the domains from a depth inwards: what a cell's mark has of the mask are the domains from that depth
-- inwards that hold the cell, and the first of them is the holder whose value is put back. Assumes nothing.
use Prim.Native.Nat.{ℕ, zero, suc, ◌+◌, ◌-◌, ◌*◌, ◌≤◌, ◌<◌, ◌/◌, ◌%◌, ◌^◌, min}
use mathlib.Core.Bool.{Bool, true, false, cond, not, ◌&&◌}
use mathlib.Core.List.{List}
use mathlib.Core.Path.{◌≡◌, refl, sym, ap, ap₂, ◌∙◌}
use Rattle.std.specs.Prelude.{Some}
use native.Mathlib.Numerals.{add-one}
use native.Mathlib.Omega.{arith}
use borrow.Author.Tests.{eq-eqb, ne_eqb, eqb-true, eqb-false, lt-ltb, le-leb, lt-leb, leb-true, not-true}
use lib.Bits.{bit_and, and_shr, and_step}
use lib.Count.{count_trailing_zeros}
use lib.Dec.{leb, eqb}
use lib.Pow.{pow_mono, shr_lt}
use Rattle.words.specs.Layout.{max_live}
use Rattle.words.specs.Scan.{first, all}
use Rattle.words.proofs.Scan.{by_bool, by_le, true≢, is_false, first_at_lem, all_at, and_split, and_join}
use Rattle.table.specs.Entry.{live, word1, word2, find_in, holds_in}
use Rattle.marks.specs.Blocks.{block_of, mark_of, Kept}
use Rattle.table.specs.Marks.{has, Marked}
use Rattle.marks.proofs.Blocks.{none_held}
use Rattle.marks.proofs.Digits.{halved, has_none}
use Rattle.table.proofs.Entry.{find_hit, holds_found}
use Rattle.table.proofs.Marks.{marked_holds}
use Rattle.table.proofs.Rule.{Rule}
use Rattle.search.specs.Search.{steps_in, held_from, source_in}
use Rattle.search.specs.Holders.{held_by, value_from}
use Rattle.search.proofs.Behind.{steps_within, steps_hold}
use Rattle.search.proofs.Holding.{value_some}
use Rattle.changes.proofs.Bits.{lowest_found}
use Rattle.restore.specs.Marks.{inwards, Holders, FirstDepth, Tells, Unheld}

-- ---- the digits of a mark

-- depth j + 1 is digit j
has_digit : (j m : ℕ) → has (suc j) m ≡ eqb (m / 2 ^ j % 2) 1
has_digit j m =
    let z : 2 * m / 2 ≡ m = omega arith in
    ap (λ (x : ℕ). eqb (x % 2) 1) (halved (2 * m) j ∙ ap (λ (y : ℕ). y / 2 ^ j) z)

-- digit j of what two numbers have in common
common_digit : (a b j : ℕ) → bit_and a b / 2 ^ j % 2 ≡ min (a / 2 ^ j % 2) (b / 2 ^ j % 2)
common_digit a b j = ap (λ (x : ℕ). x % 2) (and_shr a b j ∙ and_step (a / 2 ^ j) (b / 2 ^ j)) ∙ omega arith

both_one : (x y : ℕ) → x < 2 → y < 2 → eqb (min x y) 1 ≡ (eqb x 1 && eqb y 1)
both_one x y a b =
    by_bool (eqb x 1)
    (λ p.
    by_bool (eqb y 1)
    (λ q. rw (p, q) (eq-eqb (min x y) 1 (omega (arith, eqb-true x 1 p, eqb-true y 1 q))))
    (λ q. rw (p, q) (ne_eqb (min x y) 1 (λ z. eqb-false y 1 q (omega (arith, z, a, b))))))
    (λ p. rw p (ne_eqb (min x y) 1 (λ z. eqb-false x 1 p (omega (arith, z, a, b)))))

-- the depths that two marks have in common
common_has : (a b k : ℕ) → 1 ≤ k → has k (bit_and a b) ≡ (has k a && has k b)
common_has a b zero low = absurd (omega arith)
common_has a b (suc j) low =
    has_digit j (bit_and a b)
    ∙ ap (λ (x : ℕ). eqb x 1) (common_digit a b j)
    ∙ both_one (a / 2 ^ j % 2) (b / 2 ^ j % 2) (omega arith) (omega arith)
    ∙ sym (ap₂ (λ (x y : Bool). x && y) (has_digit j a) (has_digit j b))

-- ---- the mask

-- which of the eight depths it has, asked of all of them
asked : all 8 (λ i. all 8 (λ j. cond (leb i j) (has (suc j) (inwards (suc i))) (not (has (suc j) (inwards (suc i)))))) ≡ true
unfolding all
asked = refl

asked_at : (i j : ℕ) → i < 8 → j < 8 → cond (leb i j) (has (suc j) (inwards (suc i))) (not (has (suc j) (inwards (suc i)))) ≡ true
asked_at i j l k =
    all_at 8 (λ j. cond (leb i j) (has (suc j) (inwards (suc i))) (not (has (suc j) (inwards (suc i)))))
    (all_at 8 (λ i. all 8 (λ j. cond (leb i j) (has (suc j) (inwards (suc i))) (not (has (suc j) (inwards (suc i)))))) asked i l) j k

-- those from d on
mask_has : (d k : ℕ) → 1 ≤ d → d ≤ max_live → 1 ≤ k → k ≤ max_live → has k (inwards d) ≡ leb d k
mask_has zero k low high l few = absurd (omega arith)
mask_has (suc i) zero low high l few = absurd (omega arith)
mask_has (suc i) (suc j) low high l few =
    let one = asked_at i j (omega arith) (omega arith) in
    by_le (suc i) (suc j)
    (λ z. rw (le-leb i j (omega arith)) at one ∙ sym (le-leb (suc i) (suc j) z))
    (λ z. not-true (has (suc j) (inwards (suc i))) (rw (lt-leb i j (omega arith)) at one) ∙ sym (lt-leb (suc i) (suc j) z))

-- what the code asks of the marks
pub marks_tell : (e : ℕ) (t : List ℕ) (d : ℕ) → 1 ≤ d → d ≤ max_live → (seen : List ℕ) → Marked e t e seen → Tells e t d (inwards d) seen
marks_tell e t d low high seen marked c k l few =
    common_has (mark_of seen c) (inwards d) k l ∙ ap₂ (λ (x y : Bool). x && y) (marked_holds e t seen marked k c l) (mask_has d k low high l few)

-- ---- groups that are passed over

-- none is passed
pub unheld_none : (mask : ℕ) (seen : List ℕ) (from n : ℕ) → from ≤ n → Unheld mask seen from n from
unheld_none mask seen from n low = record { low = omega arith; high = low; none = λ c a b. absurd (omega (arith, a, b)) }

-- the runs of groups without a block
pub unheld_blank : (mask : ℕ) (seen : List ℕ) (from n g : ℕ) → Kept seen → from ≤ n → from % 8 ≡ 0 → from / 8 ≤ g
    → ((k : ℕ) → from / 8 ≤ k → k < g → block_of seen k ≡ 0) → Unheld mask seen from n (min (8 * g) n)
unheld_blank mask seen from n g ok low whole some blank =
    record {
      low = omega (arith, low, whole, some);
      high = omega arith;
      none = λ c a b. none_held seen ok mask c (blank (c / 64) (omega (arith, a)) (omega (arith, b)));
    }

-- one run more, and then those of groups without a block
pub unheld_more : (mask : ℕ) (seen : List ℕ) (from n g r : ℕ) → Unheld mask seen from n g → ((c : ℕ) → 8 * g ≤ c → c < 8 * g + 8 → bit_and (mark_of seen c) mask ≡ 0)
    → Unheld mask seen (g + 1) n r → Unheld mask seen from n r
unheld_more mask seen from n g r u here rest =
    record {
      low = omega (arith, u.low, rest.low);
      high = rest.high;
      none = λ c a b.
          by_le (g + 1) (c / 8)
          (λ far. rest.none c far b)
          (λ near. by_bool (eqb (c / 8) g) (λ z. let q = eqb-true (c / 8) g z in here c (omega (arith, q)) (omega (arith, q))) (λ z. u.none c a (omega (arith, near, eqb-false (c / 8) g z))));
    }

-- ---- the first depth of those that hold a cell

digit_before : (held n : ℕ) → ((i : ℕ) → i < n → eqb (held / 2 ^ i % 2) 1 ≡ false) → (k : ℕ) → 1 ≤ k → k < n + 1 → has k held ≡ false
digit_before held n h zero l b = absurd (omega arith)
digit_before held n h (suc i) l b = has_digit i held ∙ h i (omega (arith, b))

-- a byte has no digit past its eighth
digit_small : (held j : ℕ) → held < 256 → eqb (held / 2 ^ j % 2) 1 ≡ true → j < 8
digit_small held j small h =
    by_le 8 j
    (λ far.
    let wide : 2 ^ 8 ≤ 2 ^ (0 + j) = pow_mono {i = 8} {j = 0 + j} (omega (arith, far)) in
    let none : held / 2 ^ j < 1 = shr_lt 0 j (omega (arith, small, wide)) in
    absurd (omega (arith, none, eqb-true (held / 2 ^ j % 2) 1 h)))
    (λ near. near)

pub first_found : (held : ℕ) → held < 256 → (held ≡ 0 → ⊥) → FirstDepth held (count_trailing_zeros 64 held + 1)
first_found held small some =
    let l = lowest_found held (omega (arith, small)) some in
    record {
      low = omega arith;
      high = omega (arith, digit_small held (count_trailing_zeros 64 held) small l.here);
      here = ap (λ (k : ℕ). has k held) (add-one (count_trailing_zeros 64 held)) ∙ has_digit (count_trailing_zeros 64 held) held ∙ l.here;
      before = digit_before held (count_trailing_zeros 64 held) l.before;
    }

-- ---- who holds the cell

module _ (e : ℕ) (t : List ℕ) (d c held : ℕ) (tell : Holders e t d c held) where
  told : (k : ℕ) → 1 ≤ k → k ≤ max_live → has k held ≡ true → (holds_in e t k c ≡ true) × (d ≤ k)
  told k l few h =
      let both = and_split (holds_in e t k c) (leb d k) (sym (tell k l few) ∙ h) in
      (both.0, leb-true d k both.1)

  untold : (k : ℕ) → 1 ≤ d → d ≤ k → k ≤ max_live → has k held ≡ false → holds_in e t k c ≡ false
  untold k low l few h =
      is_false (holds_in e t k c) (λ p. true≢ (tell k (omega arith) few ∙ and_join (holds_in e t k c) (leb d k) p (le-leb d k l)) h)

  -- nobody, where no domain is told
  pub holders_none : 1 ≤ d → live t ≤ max_live → held ≡ 0 → held_from e t d c ≡ false
  holders_none low few z =
      is_false (held_from e t d c)
      (λ h.
      true≢ (steps_hold e t d c h)
      (untold (d + steps_in e t d c) low (omega arith) (omega (arith, steps_within e t d c h, few)) (ap (λ (m : ℕ). has (d + steps_in e t d c) m) z ∙ has_none (d + steps_in e t d c))))

-- a search that no domain before r ends ends there
steps_first : (e : ℕ) (t : List ℕ) (d c r : ℕ) → d ≤ r → r ≤ live t → ((k : ℕ) → d ≤ k → k < r → holds_in e t k c ≡ false) → holds_in e t r c ≡ true
    → d + steps_in e t d c ≡ r
unfolding steps_in
steps_first e t d c r l within none here =
    let back : d + (r - d) ≡ r = omega arith in
    let s : first (suc (live t) - d) (λ k. holds_in e t (d + k) c) ≡ r - d =
    first_at_lem (suc (live t) - d) (λ k. holds_in e t (d + k) c) (r - d) (omega arith) (λ j b. none (d + j) (omega arith) (omega (arith, b))) (λ _. rw back here) in
    rw s back

value_at : (e : ℕ) (t : List ℕ) (d c r : ℕ) → r ≤ live t → d + steps_in e t d c ≡ r → value_from e t d c ≡ Some (held_by r (word1 e t (source_in e t r c)) (word2 e t (source_in e t r c)))
value_at e t d c r within q =
    value_some e t d c (lt-ltb (steps_in e t d c) (suc (live t) - d) (omega (arith, q))) ∙ (λ j. Some (held_by (q j) (word1 e t (source_in e t (q j) c)) (word2 e t (source_in e t (q j) c))))

-- the search may begin at the first holder
module _ (m e b : ℕ) (t : List ℕ) (ok : Rule m e b t) (d c held : ℕ) (low : 1 ≤ d) (tell : Holders e t d c held) (r : ℕ) (f : FirstDepth held r) where
  holder : (holds_in e t r c ≡ true) × (d ≤ r)
  holder = told e t d c held tell r f.low f.high f.here

  -- who is live
  within : r ≤ live t
  within =
      let l = holds_found e t r c holder.0 in
      let q = find_hit e t r c l in
      let u = ok.used (find_in e t r c) l (λ z. omega (arith, z, q.0, f.low)) in
      omega (arith, u.high, q.0)

  pub value_first : value_from e t r c ≡ value_from e t d c
  value_first =
      value_at e t r c r within (steps_first e t r c r (omega arith) within (λ k a b. absurd (omega (arith, a, b))) holder.0)
      ∙ sym (value_at e t d c r within
      (steps_first e t d c r holder.1 within (λ k a b. untold e t d c held tell k low a (omega (arith, b, f.high)) (f.before k (omega (arith, a, low)) b)) holder.0))
