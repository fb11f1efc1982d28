-- The pass over the set bits of one word, and over all words of bits. Assumes nothing.
use Prim.Native.Nat.{ℕ, ◌+◌, ◌-◌, ◌*◌, ◌/◌, ◌%◌, ◌≤◌, ◌<◌, min}
use mathlib.Core.Bool.{Bool, true, false}
use mathlib.Core.List.{List, [], ◌++◌, append_assoc, append-nil}
use mathlib.Core.Path.{◌≡◌, refl, sym, ap, ◌∙◌}
use native.Mathlib.Omega.{arith}
use lib.ListN.{length, get_or, take, length-append, get_or-eq_default}
use Rattle.words.specs.Stores.{Store, stores, gather}
use Rattle.words.specs.Journal.{pair_plans}
use Rattle.words.proofs.Scan.{by_le, true≢, is_false}
use Rattle.words.proofs.Plans.{stores_none}
use Rattle.words.proofs.Gather.{gather_ext, gather_skip, gather_none, gather_split, gather_first, pairs_more}
use Rattle.table.specs.Changes.{put, entry_stores}
use Rattle.table.proofs.Entries.{upto_few}
use Rattle.changes.specs.Staged.{bit_at, Lowest, Without, is_set, Inside, entry_of, staged, group_stores, group}
use Rattle.changes.proofs.Bits.{bit_none, set_at}

-- ---- one word of bits

-- some entries of a group have their pairs, and `rest` has the bits of the others
pub record Begun (e base w : ℕ) (words : List ℕ) (at k : ℕ) (t₀ t : List ℕ) (n rest : ℕ) : Type 0 where
  pub written : List Store
  pub left : group e base w words ≡ written ++ group e base rest words
  pub among : (j : ℕ) → bit_at rest j ≡ true → bit_at w j ≡ true
  pub counted : n ≡ length written
  pub made : t ≡ stores (take k (pair_plans at written)) t₀

module _ (e base : ℕ) (words : List ℕ) where
  clear_adds : (w j : ℕ) → bit_at w j ≡ false → group_stores e base w words j ≡ []
  clear_adds w j z = ap (λ (b : Bool). entry_stores e (base + j) (entry_of b words (base + j))) z

  -- the two pairs of the lowest bit, and the others
  group_first : {w z r : ℕ} → Lowest w z → Without w z r
      → group e base w words ≡ entry_stores e (base + z) (put (get_or words (2 * (base + z)) 0) (get_or words (2 * (base + z) + 1) 0)) ++ group e base r words
  unfolding group
  group_first {w} {z} {r} low cleared =
      gather_first 64 z (group_stores e base w words) (group_stores e base r words) low.within (λ i l. clear_adds w i (low.before i l))
      (clear_adds r z cleared.here) (λ i n. ap (λ (b : Bool). entry_stores e (base + i) (entry_of b words (base + i))) (cleared.others i n))
      ∙ ap (λ (b : Bool). entry_stores e (base + z) (entry_of b words (base + z)) ++ gather 64 (group_stores e base r words)) low.here

  group_none : (w : ℕ) → w ≡ 0 → group e base w words ≡ []
  unfolding group
  group_none w z = gather_none 64 (group_stores e base w words) (λ j l. clear_adds w j (bit_none w j z))

module _ {e base w : ℕ} {words : List ℕ} {at k : ℕ} {t₀ : List ℕ} where
  pub begun_start : Begun e base w words at k t₀ t₀ 0 w
  begun_start = record { written = []; left = refl; among = λ j b. b; counted = refl; made = stores_none k t₀ }

  module _ {t : List ℕ} {n rest : ℕ} (h : Begun e base w words at k t₀ t n rest) where
    module _ {z : ℕ} (low : Lowest rest z) where
      pub begun_here : bit_at w z ≡ true
      begun_here = h.among z low.here

      module _ {r : ℕ} (cleared : Without rest z r) where
        both : List Store
        both = h.written ++ entry_stores e (base + z) (put (get_or words (2 * (base + z)) 0) (get_or words (2 * (base + z) + 1) 0))

        both_left : group e base w words ≡ both ++ group e base r words
        unfolding both
        both_left = h.left ∙ ap (λ (l : List Store). h.written ++ l) (group_first e base words low cleared) ∙ sym (append_assoc h.written _ (group e base r words))

        both_count : n + 2 ≡ length both
        unfolding both
        both_count = rw length-append (omega (arith, h.counted))

        pub begun_room : n + 2 ≤ length (group e base w words)
        begun_room = rw (both_left, length-append) (omega (arith, both_count))

        kept : (j : ℕ) → bit_at r j ≡ true → bit_at w j ≡ true
        kept j b =
            h.among j (sym (cleared.others j (λ q. true≢ b (ap (bit_at r) q ∙ cleared.here))) ∙ b)

        pub begun_turn : {t₂ : List ℕ}
            → t₂ ≡ stores (take (k - 2 * n) (pair_plans (at + 2 * n) (entry_stores e (base + z) (put (get_or words (2 * (base + z)) 0) (get_or words (2 * (base + z) + 1) 0))))) t
            → Begun e base w words at k t₀ t₂ (n + 2) r
        unfolding both
        begun_turn {t₂} e₂ = record {
          written = both;
          left = both_left;
          among = kept;
          counted = both_count;
          made = pairs_more at k n h.written _ t₀ t t₂ h.counted h.made e₂;
        }

    all_written : rest ≡ 0 → h.written ≡ group e base w words
    all_written z = sym (h.left ∙ rw (group_none e base words rest z) (append-nil h.written))

    pub begun_count : rest ≡ 0 → n ≡ length (group e base w words)
    begun_count z = h.counted ∙ ap length (all_written z)

    pub begun_made : rest ≡ 0 → t ≡ stores (take k (pair_plans at (group e base w words))) t₀
    begun_made z = h.made ∙ ap (λ (ws : List Store). stores (take k (pair_plans at ws)) t₀) (all_written z)

-- ---- all words of bits
module _ (e : ℕ) (words bits : List ℕ) (inside : Inside e bits) where
  -- the stores of entry i
  abbrev entry_out : ℕ → List Store
  entry_out i = entry_stores e i (staged words bits i)

  group_same : (k j : ℕ) → j < 64 → entry_out (64 * k + j) ≡ group_stores e (64 * k) (get_or bits k 0) words j
  unfolding staged
  group_same k j l = ap (λ (b : Bool). entry_stores e (64 * k + j) (entry_of b words (64 * k + j))) (set_at bits k j l)

  next_group : (k : ℕ) → gather (64 * (k + 1)) entry_out ≡ gather (64 * k) entry_out ++ group e (64 * k) (get_or bits k 0) words
  unfolding group
  next_group k =
      let s : 64 * (k + 1) ≡ 64 * k + 64 = omega arith in
      ap (λ (n : ℕ). gather n entry_out) s
      ∙ gather_split entry_out (64 * k) 64
      ∙ ap (λ (l : List Store). gather (64 * k) entry_out ++ l) (gather_ext 64 (λ j. entry_out (64 * k + j)) (group_stores e (64 * k) (get_or bits k 0) words) (λ j l. group_same k j l))

  pub group_inside : (k j : ℕ) → j < 64 → bit_at (get_or bits k 0) j ≡ true → 64 * k + j < e
  group_inside k j l b = inside (64 * k + j) (set_at bits k j l ∙ b)

  unset_none : (i : ℕ) → is_set bits i ≡ false → entry_out i ≡ []
  unfolding staged
  unset_none i z = ap (λ (b : Bool). entry_stores e i (entry_of b words i)) z

  past_none : (i : ℕ) → e ≤ i → entry_out i ≡ []
  past_none i h = unset_none i (is_false (is_set bits i) (λ b. omega (arith, inside i b)))

  behind_none : (i : ℕ) → 64 * length bits ≤ i → entry_out i ≡ []
  behind_none i h = unset_none i (bit_none (get_or bits (i / 64) 0) (i % 64) (get_or-eq_default bits 0 (omega arith)))

  -- from the last entry on nothing is added, and nothing behind the last bit
  pub all_passed : (n : ℕ) → min e (64 * length bits) ≤ n → gather n entry_out ≡ gather e entry_out
  all_passed n h =
      by_le e n (λ l. gather_skip entry_out e n l (λ i a b. past_none i a))
      (λ l. sym (gather_skip entry_out n e (omega arith) (λ i a b. behind_none i (omega arith))))

  never_more : (n : ℕ) → length (gather n entry_out) ≤ 2 * e
  never_more n =
      by_le n e (λ h. omega (arith, upto_few e (staged words bits) n)) (λ h. rw (all_passed n (omega arith)) (upto_few e (staged words bits) e))

  module _ (at k i n : ℕ) (counted : n ≡ length (gather (64 * i) entry_out)) where
    pub group_count : (r : ℕ) → r ≡ length (group e (64 * i) (get_or bits i 0) words) → n + r ≡ length (gather (64 * (i + 1)) entry_out)
    group_count r h = rw (next_group i, length-append) (omega (arith, counted, h))

    pub group_room : n + length (group e (64 * i) (get_or bits i 0) words) ≤ 2 * e
    group_room = omega (arith, group_count _ refl, never_more (64 * (i + 1)))

    pub group_words : (t t₁ t₂ : List ℕ) → t₁ ≡ stores (take k (pair_plans at (gather (64 * i) entry_out))) t
        → t₂ ≡ stores (take (k - 2 * n) (pair_plans (at + 2 * n) (group e (64 * i) (get_or bits i 0) words))) t₁
        → t₂ ≡ stores (take k (pair_plans at (gather (64 * (i + 1)) entry_out))) t
    group_words t t₁ t₂ e₁ e₂ =
        pairs_more at k n (gather (64 * i) entry_out) _ t t₁ t₂ counted e₁ e₂
        ∙ ap (λ (ws : List Store). stores (take k (pair_plans at ws)) t) (sym (next_group i))
