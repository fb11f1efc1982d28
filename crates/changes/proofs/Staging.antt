-- What is staged: before anything is, after one entry more, and after a pass over the slots, also in the middle of 64 of them. A call cites
-- these and never opens what is staged. Assumes nothing.
use Prim.Native.Nat.{ℕ, ◌+◌, ◌*◌, ◌/◌, ◌%◌, ◌^◌, ◌≤◌, ◌<◌}
use lib.Bits.{bit_or}
use Rattle.std.specs.Bool.{then_some}
use mathlib.Core.Bool.{Bool, true, false, cond}
use mathlib.Core.List.{List, [], ◌∷◌, ◌++◌}
use mathlib.Core.Path.{◌≡◌, refl, sym, ap, ap₂, subst, ◌∙◌}
use native.Mathlib.Nat.{not-suc-le-zero}
use native.Mathlib.Numerals.{add-one}
use native.Mathlib.Omega.{arith}
use borrow.Author.Tests.{ne_eqb, eqb-true, eqb-false, lt-ltb, le-ltb}
use lib.Dec.{eqb}
use lib.ListN.{length, get_or, set, length-set}
use lib.Seq.{get_or-set_same, get_or-set_other, set-get_or}
use Rattle.words.specs.Layout.{handle_at, max_live}
use Rattle.words.specs.Stores.{Store, ◌≔◌, tab}
use Rattle.words.proofs.Scan.{by_bool, by_le, true≢, is_false}
use Rattle.words.proofs.Plans.{tab_last, tab_below}
use Rattle.words.proofs.Gather.{gather_ext}
use Rattle.table.specs.Marks.{zeros}
use Rattle.table.specs.Changes.{Change, keep, put, is_changed, entry_stores, entry_changes}
use Rattle.marks.proofs.Blocks.{zeros_clear}
use Rattle.changes.specs.Staged.{with_bit, is_set, Inside, with_words, entry_of, staged, change_of, but, Restaged, below, Stages, Gathers}
use Rattle.changes.proofs.Bits.{bit_none, bit_kept, bit_shifted, word_own, word_other, more_here, more_other}

-- ---- f below n

below_in : (n : ℕ) (f : ℕ → Change) (i : ℕ) → i < n → below n f i ≡ f i
below_in n f i l = ap (λ (b : Bool). cond b (f i) keep) (lt-ltb i n l)

below_out : (n : ℕ) (f : ℕ → Change) (i : ℕ) → n ≤ i → below n f i ≡ keep
below_out n f i l = ap (λ (b : Bool). cond b (f i) keep) (le-ltb i n l)

module _ {n : ℕ} {f : ℕ → Change} {words bits : List ℕ} where
  pub stages_at : Stages n f words bits → (i : ℕ) → i < n → staged words bits i ≡ f i
  stages_at h i l = h.each i ∙ below_in n f i l

  stages_past : Stages n f words bits → (i : ℕ) → n ≤ i → staged words bits i ≡ keep
  stages_past h i l = h.each i ∙ below_out n f i l

  pub stages_make : ((i : ℕ) → i < n → staged words bits i ≡ f i) → ((i : ℕ) → n ≤ i → staged words bits i ≡ keep) → Stages n f words bits
  stages_make h k = record {
    each = λ i. by_le n i (λ l. k i l ∙ sym (below_out n f i l)) (λ l. h i l ∙ sym (below_in n f i l));
  }

-- a bit that is clear, by what is staged
unstaged : (words bits : List ℕ) (i : ℕ) → staged words bits i ≡ keep → is_set bits i ≡ false
unfolding staged
unstaged words bits i h = is_false (is_set bits i) (λ b. true≢ refl (ap is_changed (rw b at h)))

-- the same bits and words, the same staged
staged_same : (words bits bits' : List ℕ) (i : ℕ) → is_set bits' i ≡ is_set bits i → staged words bits' i ≡ staged words bits i
unfolding staged
staged_same words bits bits' i h = ap (λ (b : Bool). entry_of b words i) h

-- the words of an entry that changes where a test says so
pub change_then : (b : Bool) (words : ℕ × ℕ) → change_of (then_some b words) ≡ cond b (put words.0 words.1) keep
change_then true words = refl
change_then false words = refl

-- ---- at the start

-- nothing is staged where no bit is set
pub stages_start : {f : ℕ → Change} {words bits : List ℕ} (n : ℕ) → bits ≡ zeros n → Stages 0 f words bits
unfolding staged
stages_start {f} {words} {bits} n z =
    stages_make (λ i l. absurd (not-suc-le-zero l))
    (λ i l.
    ap (λ (b : Bool). entry_of b words i) (bit_none (get_or bits (i / 64) 0) (i % 64) (ap (λ (l : List ℕ). get_or l (i / 64) 0) z ∙ zeros_clear n (i / 64))))

-- ---- one entry more

pub entry_staged : (words bits bits' : List ℕ) (i w v : ℕ) → 2 * i + 1 < length words → is_set bits' i ≡ true
    → ((j : ℕ) → (j ≡ i → ⊥) → is_set bits' j ≡ is_set bits j) → Restaged words bits i (put w v) (with_words (put w v) i words) bits'
unfolding staged
entry_staged words bits bits' i w v room here others = record {
  each = λ j.
      by_bool (eqb j i)
      (λ z.
      let q = eqb-true j i z in
      rw (z, q, here, get_or-set_same (set words (2 * i) w) (2 * i + 1) v 0 (simp length-set room), get_or-set_other (set words (2 * i) w) (2 * i + 1) (2 * i) v 0 (λ e. omega arith), get_or-set_same words (2 * i) w 0 (omega arith)))
      (λ z.
      let n = eqb-false j i z in
      rw (z, others j n, get_or-set_other (set words (2 * i) w) (2 * i + 1) (2 * j) v 0 (λ e. omega arith), get_or-set_other (set words (2 * i) w) (2 * i + 1) (2 * j + 1) v 0 (λ e. n (omega arith)), get_or-set_other words (2 * i) (2 * j) w 0 (λ e. n (omega arith)), get_or-set_other words (2 * i) (2 * j + 1) w 0 (λ e. omega arith)));
}

-- its bit is set in memory
pub entry_marked : (words bits : List ℕ) (i w v : ℕ) → 2 * i + 1 < length words → i < 64 * length bits
    → Restaged words bits i (put w v) (with_words (put w v) i words) (set bits (i / 64) (with_bit true (i % 64) (get_or bits (i / 64) 0)))
entry_marked words bits i w v room known =
    entry_staged words bits _ i w v room (more_here bits (i / 64) (get_or bits (i / 64) 0) i (omega arith) refl)
    (λ j n. more_other bits (i / 64) (get_or bits (i / 64) 0) i (omega arith) refl j n ∙ ap (λ (l : List ℕ). is_set l j) (set-get_or bits (i / 64) 0))

module _ {f : ℕ → Change} {words bits words' bits' : List ℕ} where
  -- in any order: f has another value at i
  pub stages_but : {n : ℕ} {i : ℕ} {c : Change} → Stages n f words bits → i < n → Restaged words bits i c words' bits' → Stages n (but f i c) words' bits'
  stages_but {n} {i} {c} h l r =
      stages_make
      (λ j b. r.each j ∙ ap (λ (x : Change). cond (eqb j i) c x) (stages_at h j b))
      (λ j b. r.each j ∙ rw (ne_eqb j i (λ e. omega arith)) (stages_past h j b))

  -- in a pass over the slots
  pub stages_put : {n : ℕ} {c : Change} → Stages n f words bits → f n ≡ c → Restaged words bits n c words' bits' → Stages (n + 1) f words' bits'
  stages_put {n} {c} h q r =
      stages_make
      (λ j b.
      r.each j
      ∙ by_bool (eqb j n)
      (λ z. rw (z, eqb-true j n z) (sym q))
      (λ z. rw z (stages_at h j (omega (arith, eqb-false j n z)))))
      (λ j b. r.each j ∙ rw (ne_eqb j n (λ e. omega arith)) (stages_past h j (omega arith)))

module _ {f : ℕ → Change} {words bits : List ℕ} where
  -- slots that are kept are passed over
  pub stages_skip : {n : ℕ} (m : ℕ) → Stages n f words bits → n ≤ m → ((i : ℕ) → n ≤ i → i < m → f i ≡ keep) → Stages m f words bits
  stages_skip {n} m h l kept =
      stages_make
      (λ i b. by_le n i (λ q. stages_past h i q ∙ sym (kept i q b)) (λ q. stages_at h i q))
      (λ i b. stages_past h i (omega arith))

  pub stages_kept : {n : ℕ} → Stages n f words bits → f n ≡ keep → Stages (n + 1) f words bits
  stages_kept {n} h q = stages_skip (n + 1) h (omega arith) (λ i a b. let e : i ≡ n = omega arith in rw e q)

  pub stages_to : {n : ℕ} (m : ℕ) → Stages n f words bits → n ≡ m → Stages m f words bits
  stages_to m h e = rw e at h

  -- the same change, said in another way
  pub stages_ext : {n : ℕ} {g : ℕ → Change} → Stages n f words bits → ((i : ℕ) → i < n → f i ≡ g i) → Stages n g words bits
  stages_ext h same = stages_make (λ i b. stages_at h i b ∙ same i b) (λ i b. stages_past h i b)

  -- what the writer requires
  pub stages_inside : {n : ℕ} → Stages n f words bits → Inside n bits
  stages_inside {n} h i b = by_le n i (λ l. absurd (true≢ b (unstaged words bits i (stages_past h i l)))) (λ l. l)

  -- from the writer's words to the call's own
  pub stages_words : {n : ℕ} {hs₀ hs : List Store} → hs₀ ≡ hs → Stages n f words bits
      → hs₀ ++ entry_changes n (staged words bits) ≡ hs ++ entry_changes n f
  stages_words {n} e h =
      ap₂ (λ (a b : List Store). a ++ b) e
      (gather_ext n (λ i. entry_stores n i (staged words bits i)) (λ i. entry_stores n i (f i)) (λ i l. ap (λ (c : Change). entry_stores n i c) (stages_at h i l)))

-- ---- in the middle of 64 slots

module _ {f : ℕ → Change} {words bits : List ℕ} where
  pub group_start : {n : ℕ} (k : ℕ) → Stages n f words bits → n ≡ 64 * k → k < length bits → Gathers k n f words bits 0
  group_start {n} k h e l = record {
    within = l;
    stages =
        stages_make
        (λ i b. staged_same words bits (set bits k 0) i (word_other bits k 0 i (λ q. omega arith)) ∙ stages_at h i b)
        (λ i b.
        by_bool (eqb (i / 64) k)
        (λ z. staged_same words bits (set bits k 0) i (word_own bits k 0 l i (eqb-true (i / 64) k z) ∙ bit_none 0 (i % 64) refl ∙ sym (unstaged words bits i (stages_past h i b))) ∙ stages_past h i b)
        (λ z. staged_same words bits (set bits k 0) i (word_other bits k 0 i (eqb-false (i / 64) k z)) ∙ stages_past h i b));
  }

  group_change : {k n w : ℕ} → Gathers k n f words bits w → (c : Change) → f n ≡ c → n / 64 ≡ k → 2 * n + 1 < length words
      → Gathers k (n + 1) f (with_words c n words) bits (with_bit (is_changed c) (n % 64) w)
  group_change {k} {n} {w} g keep q here room =
      record { within = g.within; stages = subst (λ (x : ℕ). Stages (n + 1) f words (set bits k x)) (sym (bit_kept w (n % 64))) (stages_kept g.stages q) }
  group_change {k} {n} {w} g (put a v) q here room = record {
    within = g.within;
    stages = stages_put g.stages q (entry_staged words (set bits k w) _ n a v room (more_here bits k w n g.within here) (more_other bits k w n g.within here));
  }

  -- a turn that keeps slot n
  pub gather_kept : {k n w : ℕ} → Gathers k n f words bits w → keep ≡ f n → Gathers k (n + 1) f words bits w
  gather_kept g q = record { within = g.within; stages = stages_kept g.stages (sym q) }

  -- and one that stages two words for it
  pub gather_put : {k n w : ℕ} (a v : ℕ) → Gathers k n f words bits w → put a v ≡ f n → n / 64 ≡ k → 2 * n + 1 < length words
      → Gathers k (n + 1) f (set (set words (2 * n) a) (2 * n + 1) v) bits (bit_or w (1 * 2 ^ (n % 64) % 2 ^ 64))
  gather_put {k} {n} {w} a v g q here room = rw (bit_shifted w (n % 64) (omega arith)) (group_change g (put a v) (sym q) here room)
