-- Laws of what is given outwards: of how many cells, and of what is staged for them along the list. Assumes nothing.
use Prim.Native.Nat.{ℕ, ◌+◌, ◌≤◌, ◌<◌}
use mathlib.Core.Bool.{Bool, true, false}
use mathlib.Core.List.{List}
use mathlib.Core.Path.{◌≡◌, refl, sym, ◌∙◌}
use native.Mathlib.Omega.{arith}
use borrow.Author.Tests.{ne_eqb, eqb-true, eqb-false, lt-ltb, le-ltb}
use lib.Dec.{eqb, ltb}
use lib.ListN.{get_or}
use Rattle.words.specs.Scan.{count}
use Rattle.words.proofs.Scan.{by_bool, by_le, true≢, count_more}
use Rattle.words.proofs.Nth.{count_below, nth_of, same_rank}
use Rattle.table.specs.Entry.{word1, word2, depth_of, outward}
use Rattle.table.specs.Marks.{FreeRun}
use Rattle.table.specs.Changes.{Change, put}
use Rattle.search.specs.Free.{slot_free, free_from}
use Rattle.search.proofs.Counts.{count_front}
use Rattle.search.proofs.Free.{free_below, free_passed, free_holds, free_rank}
use Rattle.changes.specs.Staged.{but, Stages}
use Rattle.changes.proofs.Staging.{stages_but, stages_ext}
use Rattle.advance.specs.Notes.{gives_it, lacks_at, GivenOne, give_to}

-- ---- how many: free entries give no cell outwards, so that no pass need look at them

pub given_front : (e : ℕ) (t : List ℕ) (top : ℕ) → top ≤ e → FreeRun e t top e → (n : ℕ) → 1 ≤ n → (seen : List ℕ) (f : ℕ → Bool)
    → count top (λ i. gives_it seen n f (word1 e t i)) ≡ count e (λ i. gives_it seen n f (word1 e t i))
given_front e t top within free n low seen f = count_front e t top within free (gives_it seen n f) (rw (ne_eqb (depth_of 0) n (λ q. omega arith)))

-- ---- what is staged on the way

-- a cell that the parent has is passed over
pub passed_over : {e : ℕ} {t : List ℕ} {lacks : Bool} {i at : ℕ} {words bits : List ℕ} → lacks ≡ false → GivenOne e t lacks i at at words bits words bits
passed_over h = record { put = λ z. absurd (true≢ z h); on = λ z. absurd (true≢ z h); kept = λ _. (refl, refl, refl) }

module _ (e : ℕ) (t seen places : List ℕ) (n : ℕ) where
  abbrev lacks : ℕ → Bool
  lacks = lacks_at e t seen places

  abbrev free : ℕ → Bool
  free = slot_free e t

  pub give_none : (other : ℕ → Change) (i : ℕ) → give_to e t seen places n 0 other i ≡ other i
  unfolding give_to count
  give_none other i = by_bool (free i) (λ y. rw (y, le-ltb (count i free) 0 (omega arith))) (λ y. rw y)

  -- one entry more, whose cell the parent has
  give_same : (r : ℕ) → lacks_at e t seen places r ≡ false → (other : ℕ → Change) (i : ℕ) → give_to e t seen places n r other i ≡ give_to e t seen places n (r + 1) other i
  unfolding give_to
  give_same r has other i = let same : count (r + 1) lacks ≡ count r lacks = count_more r lacks ∙ rw has in rw same

  -- one entry more, whose cell the parent lacks: it gets a free slot, before which as many are free as cells were given
  give_more : (r : ℕ) → r < n → lacks_at e t seen places r ≡ true → (slot : ℕ) → slot_free e t slot ≡ true → count slot (slot_free e t) ≡ count r (lacks_at e t seen places)
      → (other : ℕ → Change) (j : ℕ)
      → but (give_to e t seen places n r other) slot (put (outward (word1 e t (get_or places r 0))) (word2 e t (get_or places r 0))) j ≡ give_to e t seen places n (r + 1) other j
  unfolding give_to
  give_more r here goes slot is_free rank other j =
      by_bool (eqb j slot)
      (λ z. rw (z, eqb-true j slot z, is_free, rank, nth_of n lacks r here goes, lt-ltb (count r lacks) (count (r + 1) lacks) (omega (arith, more))))
      (λ z.
      rw z
      (by_bool (free j)
      (λ y. rw (y, same_side (count j free) (λ q. eqb-false j slot z (same_rank free j slot y is_free (q ∙ sym rank)))))
      (λ y. rw y)))
    where
      more : count (r + 1) lacks ≡ count r lacks + 1
      more = count_more r lacks ∙ rw goes

      same_side : (k : ℕ) → (k ≡ count r lacks → ⊥) → ltb k (count r lacks) ≡ ltb k (count (r + 1) lacks)
      same_side k ne =
          by_le (count r lacks) k
          (λ h. le-ltb k (count r lacks) h ∙ sym (le-ltb k (count (r + 1) lacks) (omega (arith, ne, more))))
          (λ h. lt-ltb k (count r lacks) h ∙ sym (lt-ltb k (count (r + 1) lacks) (omega (arith, more))))

  -- ---- a turn of the walk along the list, which has passed as many free slots as it gave cells

  module _ (r at : ℕ) (here : r < n) (enough : count n (lacks_at e t seen places) ≤ count e (slot_free e t)) (low : at ≤ e)
      (passed : count at (slot_free e t) ≡ count r (lacks_at e t seen places)) where
    -- there is a slot left
    left : lacks r ≡ true → count r lacks < count e free
    left y = omega (arith, count_below lacks r n here y, enough)

    pub give_below : lacks_at e t seen places r ≡ true → free_from e t at < e
    give_below y = free_below e t at (count r lacks) low passed (left y)

    module _ {next : ℕ} {words bits words' bits' : List ℕ} (one : GivenOne e t (lacks_at e t seen places r) (get_or places r 0) at next words bits words' bits') where
      pub turn_low : next ≤ e
      turn_low = by_bool (lacks r) (λ y. omega (arith, one.on y, give_below y)) (λ y. omega (arith, (one.kept y).0, low))

      pub turn_passed : count next (slot_free e t) ≡ count (r + 1) (lacks_at e t seen places)
      turn_passed =
          by_bool (lacks r)
          (λ y. rw (one.on y, free_passed e t at (count r lacks) low passed (left y), count_more r lacks, y))
          (λ y. rw ((one.kept y).0, passed, count_more r lacks, y))

      pub turn_stages : (other : ℕ → Change) → Stages e (give_to e t seen places n r other) words bits → Stages e (give_to e t seen places n (r + 1) other) words' bits'
      turn_stages other old =
          by_bool (lacks r)
          (λ y.
          stages_ext (stages_but old (give_below y) (one.put y))
          (λ j l. give_more r here y (free_from e t at) (free_holds e t at (count r lacks) low passed (left y)) (free_rank e t at (count r lacks) low passed (left y)) other j))
          (λ y.
          let k = one.kept y in
          rw (k.1, k.2) (stages_ext old (λ j l. give_same r y other j)))
