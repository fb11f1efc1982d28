-- A choice of free slots and bodies for add's new cells, told slot by slot; and which labels rise. Assumes nothing.
use Prim.Native.Nat.{ℕ, ◌≤◌, ◌<◌}
use mathlib.Core.Bool.{Bool, true, false, cond, ◌&&◌}
use mathlib.Core.List.{List}
use mathlib.Core.Path.{◌≡◌, ap}
use native.Mathlib.Omega.{arith}
use borrow.Author.Tests.{eqb-true}
use lib.Dec.{eqb}
use Rattle.words.proofs.Scan.{and_split, is_false}
use Rattle.ranges.specs.declared.Range.{Range}
use Rattle.ranges.specs.Ranges.{named, kind_for, rule_for, label_for}
use Rattle.table.specs.Entry.{live, word1, word2, depth_of, writable_of, cell_of, holds_in, second_word}
use Rattle.table.specs.Changes.{Change, keep, put}
use Rattle.search.specs.Free.{body_free}
use Rattle.add.specs.Add.{rises, raise_change, taken_first}

-- ---- an entry whose label rises, or not

pub record Rises (d : ℕ) (rs : List Range) (w : ℕ) : Type 0 where
  pub depth : depth_of w ≡ d
  pub label : label_for rs (cell_of w) ≡ 1
  pub old : writable_of w ≡ 0

pub rises_facts : (d : ℕ) (rs : List Range) (w : ℕ) → rises d rs w ≡ true → Rises d rs w
rises_facts d rs w h =
    let s = and_split (eqb (depth_of w) d) (eqb (label_for rs (cell_of w)) 1 && eqb (writable_of w) 0) h in
    let q = and_split (eqb (label_for rs (cell_of w)) 1) (eqb (writable_of w) 0) s.1 in
    record { depth = eqb-true _ _ s.0; label = eqb-true _ _ q.0; old = eqb-true _ _ q.1 }

pub raise_no : (d : ℕ) (rs : List Range) (w v : ℕ) → rises d rs w ≡ false → raise_change d rs w v ≡ keep
unfolding raise_change
raise_no d rs w v h = rw h

-- a free slot's label does not rise
pub rises_free : (d : ℕ) (rs : List Range) → 1 ≤ d → rises d rs 0 ≡ false
rises_free d rs low = is_false (rises d rs 0) (λ h. let r = rises_facts d rs 0 h in never d low r.depth)
  where
    never : (d : ℕ) → 1 ≤ d → depth_of 0 ≡ d → ⊥
    never d p q = omega arith

-- ---- the second word of a new entry, by its kind

pub second_copy : (k r v : ℕ) → k ≡ 0 → second_word k r v ≡ v
second_copy k r v z = ap (λ (x : ℕ). second_word x r v) z

pub second_via : (k r v : ℕ) → k ≡ 1 → second_word k r v ≡ 0
second_via k r v z = ap (λ (x : ℕ). second_word x r v) z

pub second_rule : (k r v : ℕ) → k ≡ 2 → second_word k r v ≡ r
second_rule k r v z = ap (λ (x : ℕ). second_word x r v) z

-- ---- a choice of slots and bodies, told slot by slot: of m cells the new ones go into different free slots, as copies with different free bodies

pub record Taking (m e b : ℕ) (t : List ℕ) (rs : List Range) : Type 0 where
  -- does slot i take a cell, and which, with which second word: a copy's body, or the rule?
  pub taken : ℕ → Bool
  pub cell : ℕ → ℕ
  pub body : ℕ → ℕ
  pub free : (i : ℕ) → i < e → taken i ≡ true → word1 e t i ≡ 0
  pub within : (i : ℕ) → i < e → taken i ≡ true → named rs (cell i) ≡ true
  pub new : (i : ℕ) → i < e → taken i ≡ true → holds_in e t (live t) (cell i) ≡ false
  pub apart : (i j : ℕ) → i < e → j < e → taken i ≡ true → taken j ≡ true → cell i ≡ cell j → i ≡ j
  pub covers : (c : ℕ) → c < m → named rs c ≡ true → holds_in e t (live t) c ≡ false → (i : ℕ) × (i < e) × (taken i ≡ true) × (cell i ≡ c)
  pub fits : (i : ℕ) → i < e → taken i ≡ true → kind_for rs (cell i) ≡ 0 → body i < b
  pub unused : (i : ℕ) → i < e → taken i ≡ true → kind_for rs (cell i) ≡ 0 → body_free e t (body i) ≡ true
  pub bodies : (i j : ℕ) → i < e → j < e → taken i ≡ true → taken j ≡ true → kind_for rs (cell i) ≡ 0 → kind_for rs (cell j) ≡ 0 → body i ≡ body j → i ≡ j
  pub bodiless : (i : ℕ) → i < e → taken i ≡ true → kind_for rs (cell i) ≡ 1 → body i ≡ 0
  pub ruled : (i : ℕ) → i < e → taken i ≡ true → kind_for rs (cell i) ≡ 2 → body i ≡ rule_for rs (cell i)

-- the change of entry i
unfoldable pub chosen : {m e b : ℕ} {t : List ℕ} {rs : List Range} → Taking m e b t rs → (i : ℕ) → Change
chosen {m} {e} {b} {t} {rs} choice i =
    cond (choice.taken i) (put (taken_first t rs (choice.cell i)) (choice.body i)) (raise_change (live t) rs (word1 e t i) (word2 e t i))
