-- Request A.5 on states: restoring a domain and then one around it leaves what restoring the outer one alone leaves, whatever the state and memory are,
-- and also where the inner restore was cut and left memory mixed. Where both are one domain, restoring twice is restoring once. Assumes nothing.
use Prim.Native.Nat.{ℕ, zero, suc, ◌≤◌, ◌<◌}
use mathlib.Core.Bool.{true}
use mathlib.Core.List.{List, [], ◌∷◌}
use mathlib.Core.Logic.{◌⊎◌, inl, inr}
use mathlib.Core.Option.{Option, none, some}
use mathlib.Core.Path.{◌≡◌, refl, sym, ap, ◌∙◌}
use native.Mathlib.Omega.{arith}
use borrow.Author.Tests.{ltb-true, leb-true}
use lib.ListN.{length, get_or, take, drop}
use lib.Seq.{drop-nil, take-take}
use Rattle.words.specs.Cells.{cell_bytes}
use Rattle.words.proofs.Plans.{length_tab, get_or_tab, tab_below}
use Rattle.model.specs.State.{Holding, Domain, State}
use Rattle.model.specs.Holdings.{named, is_live, is_within, value_or}
use Rattle.model.specs.Restore.{cell_of_byte, place_in_cell, or_inner, first_held, outermost, restored_byte, restored_memory, restored}
use Rattle.model.specs.Session.{Mixed}
use Rattle.model.proofs.Bytes.{cell_byte}
use Rattle.model.proofs.Named.{named_le, named_stays}

-- ---- the first holder from an outer domain on is the first one up to an inner domain, or else the first one from there on

or_inner_lem : (a b c : Option Holding) → or_inner a (or_inner b c) ≡ or_inner (or_inner a b) c
or_inner_lem none b c = refl
or_inner_lem (some h) b c = refl

or_itself : (a b : Option Holding) → or_inner a b ≡ or_inner (or_inner a none) (or_inner a b)
or_itself none b = refl
or_itself (some h) b = refl

first_split : (ds : List Domain) (i j c : ℕ) → i ≤ j
    → first_held (drop i ds) c ≡ or_inner (first_held (drop i (take (suc j) ds)) c) (first_held (drop j ds) c)
first_split [] i j c l = rw (drop-nil {A = Domain} i, drop-nil {A = Domain} j)
first_split (x ∷ xs) zero zero c l = or_itself (x.holds c) (first_held xs c)
first_split (x ∷ xs) zero (suc j) c l =
    ap (or_inner (x.holds c)) (first_split xs zero j c (omega arith))
    ∙ or_inner_lem (x.holds c) (first_held (take (suc j) xs) c) (first_held (drop j xs) c)
first_split (x ∷ xs) (suc i) zero c l = absurd (omega arith)
first_split (x ∷ xs) (suc i) (suc j) c l = first_split xs i j c (omega arith)

holder_split : (g d c : ℕ) (s : State) → 1 ≤ g → g ≤ d → outermost g c s ≡ or_inner (outermost g c (restored d s)) (outermost d c s)
holder_split zero d c s low l = absurd (omega arith)
holder_split (suc i) zero c s low l = absurd (omega arith)
holder_split (suc i) (suc j) c s low l = first_split s.domains i j c (omega arith)

-- ---- the inner domain at depth d, the outer one at depth g

module _ (g d : ℕ) (s : State) (memory : List ℕ) (low : 1 ≤ g) (within : g ≤ d) where
  -- what a restore of the outer one leaves at byte x, by the first holder up to the inner one, a, and from there on, b
  abbrev byte_by : (now : List ℕ) (x : ℕ) (a b : Option Holding) → ℕ
  byte_by now x a b = get_or (value_or (cell_bytes now (cell_of_byte x)) (or_inner a b)) (place_in_cell x) 0

  by_holders : (now : List ℕ) (x : ℕ) → restored_byte g s now x ≡ byte_by now x (outermost g (cell_of_byte x) (restored d s)) (outermost d (cell_of_byte x) s)
  by_holders now x = ap (λ (o : Option Holding). get_or (value_or (cell_bytes now (cell_of_byte x)) o) (place_in_cell x) 0) (holder_split g d (cell_of_byte x) s low within)

  -- whole: where nobody up to the inner one holds the cell, its restore has put the byte there
  whole_byte : (now : List ℕ) (x : ℕ) (a b : Option Holding) → get_or now x 0 ≡ get_or (value_or (cell_bytes memory (cell_of_byte x)) b) (place_in_cell x) 0
      → get_or (value_or (cell_bytes now (cell_of_byte x)) a) (place_in_cell x) 0 ≡ byte_by memory x a b
  whole_byte now x none b e = cell_byte now x ∙ e
  whole_byte now x (some h) b e = refl

  whole_memory : restored_memory g (restored d s) (restored_memory d s memory) ≡ restored_memory g s memory
  unfolding restored_memory
  whole_memory =
      rw (length_tab (restored_byte d s memory) (length memory))
      (tab_below _ (restored_byte g s memory) (length memory) (λ x l.
      whole_byte (restored_memory d s memory) x (outermost g (cell_of_byte x) (restored d s)) (outermost d (cell_of_byte x) s)
      (get_or_tab (restored_byte d s memory) (length memory) x 0 l)
      ∙ sym (by_holders memory x)))

  -- cut: a byte of a cell that nobody holds is the old one
  mixed_byte : (now : List ℕ) (x : ℕ) (a b : Option Holding)
      → (get_or now x 0 ≡ get_or memory x 0) ⊎ (get_or now x 0 ≡ get_or (value_or (cell_bytes memory (cell_of_byte x)) b) (place_in_cell x) 0)
      → byte_by now x a b ≡ byte_by memory x a b
  mixed_byte now x (some h) b e = refl
  mixed_byte now x none (some h) e = refl
  mixed_byte now x none none (inl e) = cell_byte now x ∙ e ∙ sym (cell_byte memory x)
  mixed_byte now x none none (inr e) = cell_byte now x ∙ e

  mixed_memory : (now : List ℕ) → Mixed memory (restored_memory d s memory) now → restored_memory g s now ≡ restored_memory g s memory
  unfolding restored_memory
  mixed_memory now mixed =
      rw mixed.same_length
      (tab_below _ (restored_byte g s memory) (length memory) (λ x l.
      by_holders now x
      ∙ mixed_byte now x (outermost g (cell_of_byte x) (restored d s)) (outermost d (cell_of_byte x) s) (either x l (mixed.each_byte x))
      ∙ sym (by_holders memory x)))
    where
      either : (x : ℕ) → x < length memory → (get_or now x 0 ≡ get_or memory x 0) ⊎ (get_or now x 0 ≡ get_or (restored_memory d s memory) x 0)
          → (get_or now x 0 ≡ get_or memory x 0) ⊎ (get_or now x 0 ≡ restored_byte d s memory x)
      either x l (inl e) = inl e
      either x l (inr e) = inr (e ∙ get_or_tab (restored_byte d s memory) (length memory) x 0 l)

-- ---- by handles

-- the domain that `inner` names is restored, and then the one that `outer` names: what this comes to
pub record NestedRestores (outer inner : ℕ) (s : State) (before : List ℕ) : Type 0 where
  -- the outer one is still named
  pub still_named : named outer (restored (named inner s) s) ≡ named outer s
  -- next handle, live domains, holdings and values
  pub state : restored (named outer s) (restored (named inner s) s) ≡ restored (named outer s) s
  -- memory
  pub memory : restored_memory (named outer s) (restored (named inner s) s) (restored_memory (named inner s) s before) ≡ restored_memory (named outer s) s before
  -- and where the inner restore was cut before the table changed
  pub cut_memory : (now : List ℕ) → Mixed before (restored_memory (named inner s) s before) now
      → restored_memory (named outer s) s now ≡ restored_memory (named outer s) s before

pub nested_restores : (outer inner : ℕ) (s : State) (memory : List ℕ) → is_live outer s ≡ true → is_within (named outer s) (named inner s) ≡ true
    → NestedRestores outer inner s memory
nested_restores outer inner s memory live within =
    let low : 1 ≤ named outer s = ltb-true 0 (named outer s) live in
    let around : named outer s ≤ named inner s = leb-true (named outer s) (named inner s) within in
    record {
      still_named = named_stays outer (named inner s) s around (named_le inner s);
      state = λ i. record { next = s.next; domains = take-take (named outer s) (named inner s) s.domains around i };
      memory = whole_memory (named outer s) (named inner s) s memory low around;
      cut_memory = mixed_memory (named outer s) (named inner s) s memory low around;
    }
