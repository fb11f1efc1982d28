-- What the code decides from two words and a mark is the change that the definition names. Assumes nothing.
use Prim.Native.Nat.{ℕ, ◌≤◌, ◌<◌}
use mathlib.Core.Bool.{Bool, true, false, cond, not, ◌&&◌, ◌||◌}
use mathlib.Core.List.{List}
use mathlib.Core.Path.{◌≡◌, refl, ◌∙◌}
use native.Mathlib.Omega.{arith}
use borrow.Author.Tests.{ne_eqb, eqb-true, leb-true, lt-leb}
use lib.Dec.{leb, eqb}
use Rattle.words.proofs.Scan.{by_bool, and_split, and_join, is_false, true≢}
use Rattle.table.specs.Entry.{word1, word2, depth_of, cell_of, writable_of, parent, outward, writable, writes_in, parent_has}
use Rattle.table.specs.Changes.{keep, put}
use Rattle.table.specs.Marks.{has, mark_at, Marked}
use Rattle.table.proofs.Marks.{marked_holds}
use Rattle.search.specs.Writable.{TellWritable}
use Rattle.commit.specs.Commit.{raises, decided, commit_change}
use Rattle.commit.specs.Decide.{concerned, moves, TellsBoth}

-- the marks of all entries, once the innermost domain's read-only entries have taken their depth out
pub tells_after : (e : ℕ) (t : List ℕ) (d : ℕ) (before after : List ℕ) → Marked e t e before → TellWritable e t d before after → TellsBoth e t d after
tells_after e t d before after m w =
    record {
      inner = λ deep c. w.writes c;
      outer = λ deep c. w.others (parent d) c (λ q. omega (arith, q)) ∙ marked_holds e t before m (parent d) c (omega arith);
    }

-- the outermost domain asks nothing of them
pub tells_outermost : (e : ℕ) (t : List ℕ) (d : ℕ) (seen : List ℕ) → d < 2 → TellsBoth e t d seen
tells_outermost e t d seen few = record { inner = λ deep. absurd (omega arith); outer = λ deep. absurd (omega arith) }

-- ---- the change as the code makes it: one test whether there is one, and its words by selection

module _ (d w v : ℕ) (inner outer : Bool) (low : 1 ≤ d) where
  -- an innermost entry is not the parent's
  apart : eqb (depth_of w) d ≡ true → raises d w inner ≡ false
  apart p =
      let no : eqb (depth_of w) (parent d) ≡ false = ne_eqb (depth_of w) (parent d) (λ q. omega (arith, q, eqb-true (depth_of w) d p)) in
      by_bool (leb 2 d) (λ z. rw (z, no)) (λ z. rw z)

  decided_put : (eqb (depth_of w) d || raises d w inner) ≡ true
      → decided d w v inner outer ≡ put (cond (moves d w outer) (outward w) (cond (raises d w inner) (writable w) 0)) (cond (moves d w outer || raises d w inner) v 0)
  decided_put h =
      by_bool (eqb (depth_of w) d)
      (λ p. rw (p, apart p) (by_bool (leb 2 d && not outer) (λ z. rw z) (λ z. rw z)))
      (λ p. let r : raises d w inner ≡ true = rw p at h in rw (p, r))

  decided_keep : (eqb (depth_of w) d || raises d w inner) ≡ false → decided d w v inner outer ≡ keep
  decided_keep h =
      by_bool (eqb (depth_of w) d)
      (λ p. absurd (true≢ (rw p) h))
      (λ p. let r : raises d w inner ≡ false = rw p at h in rw (p, r))

  -- an entry that is not concerned
  decided_apart : concerned d w ≡ false → decided d w v inner outer ≡ keep
  decided_apart h =
      let far : eqb (depth_of w) d ≡ false = is_false (eqb (depth_of w) d) (λ p. true≢ (rw p) h) in
      decided_keep (rw far (is_false (raises d w inner) (λ r.
      let s = and_split (leb 2 d) (eqb (depth_of w) (parent d) && (eqb (writable_of w) 0 && inner)) r in
      let q = and_split (eqb (depth_of w) (parent d)) (eqb (writable_of w) 0 && inner) s.1 in
      true≢ (and_join _ _ s.0 (and_join _ _ q.0 (and_split (eqb (writable_of w) 0) inner q.1).0)) (rw far at h))))

  -- a word that moves out has a depth to lose, and one that is raised was read-only
  pub moves_deep : moves d w outer ≡ true → 1 ≤ depth_of w
  moves_deep h =
      let s = and_split (eqb (depth_of w) d) (leb 2 d && not outer) h in
      omega (arith, eqb-true (depth_of w) d s.0)

  pub raises_low : raises d w inner ≡ true → writable_of w ≡ 0
  raises_low h =
      let s = and_split (leb 2 d) (eqb (depth_of w) (parent d) && (eqb (writable_of w) 0 && inner)) h in
      let r = and_split (eqb (depth_of w) (parent d)) (eqb (writable_of w) 0 && inner) s.1 in
      eqb-true (writable_of w) 0 (and_split (eqb (writable_of w) 0) inner r.1).0

-- ---- the outermost domain: its entries are freed, and no others change

module _ (e : ℕ) (t : List ℕ) (d i : ℕ) (few : d < 2) where
  alone : leb 2 d ≡ false
  alone = lt-leb 2 d few

  pub change_alone : cond (eqb (depth_of (word1 e t i)) d) (put 0 0) keep ≡ commit_change e t d i
  unfolding commit_change
  change_alone = rw alone refl

-- ---- entry i, by the marks of all cells

module _ (e : ℕ) (t : List ℕ) (d i : ℕ) (low : 1 ≤ d) where
  abbrev w : ℕ
  w = word1 e t i

  pub change_apart : concerned d (word1 e t i) ≡ false → commit_change e t d i ≡ keep
  unfolding commit_change
  change_apart h = decided_apart d w (word2 e t i) (writes_in e t d (cell_of w)) (parent_has e t d (cell_of w)) low h

  -- a free entry stays
  pub change_free : word1 e t i ≡ 0 → commit_change e t d i ≡ keep
  change_free free =
      let far : eqb (depth_of w) d ≡ false = ne_eqb (depth_of w) d (λ q. omega (arith, q, free)) in
      change_apart
      (rw far
      (by_bool (leb 2 d)
      (λ z.
      let deep = leb-true 2 d z in
      let no : eqb (depth_of w) (parent d) ≡ false = ne_eqb (depth_of w) (parent d) (λ q. omega (arith, q, free, deep)) in
      rw (z, no))
      (λ z. rw z)))

  module _ (seen : List ℕ) (told : TellsBoth e t d seen) where
    abbrev inner : Bool
    inner = has d (mark_at seen w)

    abbrev outer : Bool
    outer = has (parent d) (mark_at seen w)

    -- what the marks tell decides the same
    told_change : commit_change e t d i ≡ decided d w (word2 e t i) inner outer
    unfolding commit_change
    told_change =
        by_bool (leb 2 d)
        (λ z.
        let deep = leb-true _ _ z in
        rw (z, told.inner deep (cell_of w), told.outer deep (cell_of w)))
        (λ z. rw z)

    pub change_kept : (eqb (depth_of (word1 e t i)) d || raises d (word1 e t i) (has d (mark_at seen (word1 e t i)))) ≡ false → commit_change e t d i ≡ keep
    change_kept h = told_change ∙ decided_keep d w (word2 e t i) inner outer low h

    pub change_put : (eqb (depth_of (word1 e t i)) d || raises d (word1 e t i) (has d (mark_at seen (word1 e t i)))) ≡ true
        → commit_change e t d i
        ≡ put (cond (moves d (word1 e t i) (has (parent d) (mark_at seen (word1 e t i)))) (outward (word1 e t i)) (cond (raises d (word1 e t i) (has d (mark_at seen (word1 e t i)))) (writable (word1 e t i)) 0))
        (cond (moves d (word1 e t i) (has (parent d) (mark_at seen (word1 e t i))) || raises d (word1 e t i) (has d (mark_at seen (word1 e t i)))) (word2 e t i) 0)
    change_put h = told_change ∙ decided_put d w (word2 e t i) inner outer low h
