-- Add's questions on ranges, as the code puts them on words, are the model's on the state; and what is counted on the way. Assumes nothing.
use Prim.Native.Nat.{ℕ, zero, suc, ◌+◌, ◌≤◌}
use mathlib.Core.Bool.{Bool, true, false, cond, not, ◌&&◌, ◌||◌}
use mathlib.Core.List.{List, [], ◌∷◌, ◌++◌}
use mathlib.Core.Path.{◌≡◌, refl, sym, ap, ◌∙◌}
use native.Mathlib.Omega.{arith}
use borrow.Author.Tests.{leb-true}
use lib.Dec.{leb, eqb}
use lib.ListN.{length}
use Rattle.words.specs.Layout.{cells_of}
use Rattle.words.specs.Scan.{all, count}
use Rattle.words.specs.Cells.{cell_bytes, same_cell}
use Rattle.words.proofs.Scan.{by_bool, and_split, and_join, true≢, all_at, all_ext, count_ext, count_or, count_none}
use Rattle.patterns.specs.Pattern.{max_rule}
use Rattle.ranges.specs.declared.Range.{Range}
use Rattle.ranges.specs.Ranges.{covers, named, kind_for}
use Rattle.ranges.proofs.Ranges.{named_append, kind_append}
use Rattle.table.specs.Entry.{live, holds_in, parent_has}
use Rattle.table.proofs.Rule.{Rule}
use Rattle.model.specs.State.{State}
use Rattle.model.specs.Answer.{ask, or_else}
use Rattle.model.specs.Holdings.{inner_holding, outer_holding, is_held, is_via, is_some, rule_of, held_by_rule, value_or, range_ok, kind_numbered}
use Rattle.model.specs.Holdings.{parent_holds, parent_same, rule_fits, parent_plain, add_range, add_ranges, range_checks, list_checks}
use Rattle.model.proofs.Ranged.{checks_append, held_after, outer_after}
use Rattle.store.specs.State.{state_in}
use Rattle.store.proofs.Domains.{domains_count}
use Rattle.store.proofs.Checks.{or_else_go, or_else_stop}
use Rattle.add.specs.Add.{is_new, is_new_copy}
use Rattle.add.specs.Walking.{new_to, fresh_to, parent_check, rule_check, value_check, part_check, copies_of, CellsTold, Counted}
use Rattle.add.proofs.Asking.{or_right, covered, agreed, plain, fitting}
use Rattle.add.proofs.Numbers.{inner_held, outer_held, outer_value, outer_ruled}
use Rattle.add.proofs.Counting.{count_range}

-- a question more on both sides, where the yes of the first helps the rest
ask_both : (a b : Bool) (q x y : ℕ) → a ≡ b → (a ≡ true → x ≡ y) → ask a q x ≡ ask b q y
ask_both true b q x y e f = rw (← e) (f refl)
ask_both false b q x y e f = rw (← e)

neither : (a b : Bool) → not (not a && not b) ≡ (a || b)
neither true b = refl
neither false true = refl
neither false false = refl

-- the marks tell which cells are new
pub fresh_new : (e : ℕ) (t held : List ℕ) → CellsTold e t held → 1 ≤ live t → (rs : List Range) → fresh_to held (live t) rs ≡ new_to e t rs
fresh_new e t held m inner rs = λ i c. not (m (live t) c inner i) && not (named rs c)

-- ---- one range, behind the ranges rs

module _ (memory : List ℕ) (m e b : ℕ) (t bodies : List ℕ) (ok : Rule m e b t) (inner : 1 ≤ live t) (rs : List Range) where
  abbrev s : State
  s = add_ranges memory rs (state_in e t bodies)

  some : 1 ≤ length (state_in e t bodies).domains
  some = omega (arith, domains_count e t bodies)

  new_at : (c : ℕ) → not (new_to e t rs c) ≡ is_held (inner_holding (add_ranges memory rs (state_in e t bodies)) c)
  new_at c =
      neither (holds_in e t (live t) c) (named rs c)
      ∙ ap (λ (x : Bool). x || named rs c) (sym (inner_held e t bodies inner c))
      ∙ sym (held_after memory rs (state_in e t bodies) some c)

  outer_at : (c : ℕ) → is_held (outer_holding (add_ranges memory rs (state_in e t bodies)) c) ≡ parent_has e t (live t) c
  outer_at c = ap is_held (outer_after memory rs (state_in e t bodies) c) ∙ outer_held e t bodies inner c

  module _ (base n : ℕ) where
    abbrev new : ℕ → Bool
    new = new_to e t rs

    same_11 : all n (covered memory bodies e t (new_to e t rs) base n) ≡ parent_holds base n s
    same_11 = all_ext n (covered memory bodies e t (new_to e t rs) base n) _ (λ j q. rw (new_at (base + j), outer_at (base + j)))

    same_18 : (u : ℕ) → (leb u max_rule && all n (fitting memory (new_to e t rs) base n u)) ≡ rule_fits memory u base n s
    same_18 u = ap (λ (x : Bool). leb u max_rule && x) (all_ext n (fitting memory (new_to e t rs) base n u) _ (λ j q. rw (new_at (base + j))))

    -- of cells that are new the parent's value is asked only where the parent holds them
    module _ (j : ℕ) (c : covered memory bodies e t (new_to e t rs) base n j ≡ true) where
      has_parent_lem : not (new_to e t rs (base + j)) ≡ false → parent_has e t (live t) (base + j) ≡ true
      has_parent_lem p = or_right (not (new_to e t rs (base + j))) (parent_has e t (live t) (base + j)) c p

      agrees_at : agreed memory bodies e t (new_to e t rs) base n j
          ≡ (is_held (inner_holding s (base + j)) || same_cell (value_or (cell_bytes memory (base + j)) (outer_holding s (base + j))) (cell_bytes memory (base + j)))
      agrees_at =
          rw (← (new_at (base + j)), outer_after memory rs (state_in e t bodies) (base + j))
          (by_bool (not (new_to e t rs (base + j)))
          (λ p. rw p)
          (λ p. rw (p, outer_value e t bodies inner (base + j) (cell_bytes memory (base + j)) (has_parent_lem p))))

      plain_at : plain memory bodies e t (new_to e t rs) base n j
          ≡ (is_held (inner_holding s (base + j)) || not (held_by_rule (outer_holding s (base + j))))
      plain_at =
          rw (← (new_at (base + j)), outer_after memory rs (state_in e t bodies) (base + j))
          (by_bool (not (new_to e t rs (base + j)))
          (λ p. rw p)
          (λ p. rw (p, outer_ruled m e b t ok bodies inner (base + j) (has_parent_lem p))))

    -- by the kind
    abbrev on_values : (k u : ℕ) → ℕ
    on_values k u =
        let kind = kind_numbered k u in
        ask (not (is_via kind) || parent_holds base n s) 11
        (ask (not (is_via kind) || parent_same memory base n s) 12
        (ask (not (is_some (rule_of kind)) || rule_fits memory u base n s) 18
        (ask (not (is_via kind) || parent_plain base n s) 19 0)))

    values_is : (k u : ℕ) → k ≤ 2 → value_check memory bodies e t (new_to e t rs) base n k u ≡ on_values k u
    unfolding parent_check rule_check
    values_is zero u small = refl
    values_is (suc zero) u small =
        ask_both (all n (covered memory bodies e t (new_to e t rs) base n)) (parent_holds base n s) 11 _ _ same_11
        (λ q11.
        ask_both (all n (agreed memory bodies e t (new_to e t rs) base n)) (parent_same memory base n s) 12 _ _
        (all_ext n _ _ (λ j q. agrees_at j (all_at n (covered memory bodies e t (new_to e t rs) base n) q11 j q)))
        (λ q12.
        ask_both (all n (plain memory bodies e t (new_to e t rs) base n)) (parent_plain base n s) 19 0 0
        (all_ext n _ _ (λ j q. plain_at j (all_at n (covered memory bodies e t (new_to e t rs) base n) q11 j q)))
        (λ q19. refl)))
    values_is (suc (suc zero)) u small = ask_both _ (rule_fits memory u base n s) 18 0 0 (same_18 u) (λ q. refl)
    values_is (suc (suc (suc k))) u small = absurd (omega arith)

  -- all the questions on a range
  pub part_is : (r : Range) → m ≡ cells_of (length memory) → part_check memory bodies e t (new_to e t rs) r.first r.count r.kind r.rule r.label
      ≡ range_checks m memory r (add_ranges memory rs (state_in e t bodies)) 0
  part_is r q =
      rw (← q)
      (ask_both (leb r.kind 2 && leb r.label 1) (leb r.kind 2 && leb r.label 1) 7 _ _ refl
      (λ q7.
      ask_both (range_ok m r.first r.count) (range_ok m r.first r.count) 8 _ _ refl
      (λ q8. values_is r.first r.count r.kind r.rule (leb-true r.kind 2 (and_split (leb r.kind 2) (leb r.label 1) q7).0))))

-- ---- range by range

-- the questions on a range, and then the rest
six : (a b c d x y : Bool) (rest : ℕ) → ask a 7 (ask b 8 (ask c 11 (ask d 12 (ask x 18 (ask y 19 rest))))) ≡ or_else (ask a 7 (ask b 8 (ask c 11 (ask d 12 (ask x 18 (ask y 19 0)))))) rest
six false b c d x y rest = refl
six true false c d x y rest = refl
six true true false d x y rest = refl
six true true true false x y rest = refl
six true true true true false y rest = refl
six true true true true true false rest = refl
six true true true true true true rest = refl

range_then : (m : ℕ) (memory : List ℕ) (r : Range) (s : State) (rest : ℕ) → range_checks m memory r s rest ≡ or_else (range_checks m memory r s 0) rest
range_then m memory r s rest =
    let kind = kind_numbered r.kind r.rule in
    six (leb r.kind 2 && leb r.label 1) (range_ok m r.first r.count) (not (is_via kind) || parent_holds r.first r.count s)
    (not (is_via kind) || parent_same memory r.first r.count s) (not (is_some (rule_of kind)) || rule_fits memory r.rule r.first r.count s)
    (not (is_via kind) || parent_plain r.first r.count s) rest

or_else_assoc : (x y z : ℕ) → or_else x (or_else y z) ≡ or_else (or_else x y) z
or_else_assoc zero y z = refl
or_else_assoc (suc x) y z = refl

pub list_then : (m : ℕ) (memory : List ℕ) (rs : List Range) (s : State) (rest : ℕ) → list_checks m memory rs s rest ≡ or_else (list_checks m memory rs s 0) rest
list_then m memory [] s rest = refl
list_then m memory (r ∷ rs) s rest =
    range_then m memory r s _
    ∙ ap (or_else (range_checks m memory r s 0)) (list_then m memory rs _ rest)
    ∙ or_else_assoc (range_checks m memory r s 0) (list_checks m memory rs (add_range memory r s) 0) rest
    ∙ ap (λ (x : ℕ). or_else x rest) (sym (range_then m memory r s (list_checks m memory rs (add_range memory r s) 0)))

module _ (m : ℕ) (memory : List ℕ) (ps qs : List Range) (r : Range) (s : State) (passed : list_checks m memory ps s 0 ≡ 0) where
  -- the first no is a range's
  pub stops_at : (x : ℕ) → x ≡ range_checks m memory r (add_ranges memory ps s) 0 → (x ≡ 0 → ⊥) → x ≡ list_checks m memory (ps ++ r ∷ qs) s 0
  stops_at x q ne =
      q ∙ sym
      (checks_append m memory ps (r ∷ qs) s 0
      ∙ list_then m memory ps s _
      ∙ or_else_go _ _ passed
      ∙ range_then m memory r (add_ranges memory ps s) _
      ∙ or_else_stop _ _ (λ z. ne (q ∙ z)))

pub goes_on : (m : ℕ) (memory : List ℕ) (ps : List Range) (r : Range) (s : State) → list_checks m memory ps s 0 ≡ 0
    → range_checks m memory r (add_ranges memory ps s) 0 ≡ 0 → list_checks m memory (ps ++ r ∷ []) s 0 ≡ 0
goes_on m memory ps r s passed here = checks_append m memory ps (r ∷ []) s 0 ∙ list_then m memory ps s _ ∙ or_else_go _ _ passed ∙ here

-- ---- what is counted

module _ (m e : ℕ) (t : List ℕ) (rs : List Range) (r : Range) (fits : r.first + r.count ≤ m) where
  abbrev lack : ℕ → Bool
  lack c = not (holds_in e t (live t) c)

  one_more : (x y l : Bool) → ((x || (y || false)) && l) ≡ ((x && l) || (y && (l && not x)))
  one_more true y true = refl
  one_more true true false = refl
  one_more true false false = refl
  one_more false true true = refl
  one_more false true false = refl
  one_more false false l = refl

  apart : (x y l : Bool) → (x && l) ≡ true → (y && (l && not x)) ≡ true → ⊥
  apart true y l p q = by_bool y (λ z. never l (rw z at q)) (λ z. true≢ (rw z at q) refl)
    where
      never : (l : Bool) → (l && false) ≡ true → ⊥
      never true h = true≢ h refl
      never false h = true≢ h refl
  apart false y l p q = true≢ p refl

  new_more : count m (is_new e t (rs ++ r ∷ [])) ≡ count m (is_new e t rs) + count r.count (λ j. new_to e t rs (r.first + j))
  new_more =
      count_ext m (is_new e t (rs ++ r ∷ [])) (λ c. is_new e t rs c || (covers r c && new_to e t rs c))
      (λ c l. rw (named_append c rs (r ∷ [])) (one_more (named rs c) (covers r c) (lack c)))
      ∙ count_or m (is_new e t rs) (λ c. covers r c && new_to e t rs c) (λ c l p q. apart (named rs c) (covers r c) (lack c) p q)
      ∙ ap (λ (x : ℕ). count m (is_new e t rs) + x) (count_range r.first (new_to e t rs) m r.count fits)

  -- the same of copies: those of the range are copies if it is of kind 0
  copies_at : (x y l a k : Bool) → (((x || (y || false)) && l) && cond x a (cond y k true)) ≡ (((x && l) && a) || (y && ((l && not x) && k)))
  copies_at true true true a k = by_bool a (λ q. rw q) (λ q. rw q)
  copies_at true false true a k = by_bool a (λ q. rw q) (λ q. rw q)
  copies_at true true false a k = refl
  copies_at true false false a k = refl
  copies_at false true true a k = refl
  copies_at false true false a k = refl
  copies_at false false l a k = refl

  kind_is : (x y : Bool) (k h : ℕ) → eqb (cond x k (cond y h 0)) 0 ≡ cond x (eqb k 0) (cond y (eqb h 0) true)
  kind_is true y k h = refl
  kind_is false true k h = refl
  kind_is false false k h = refl

  apart_copies : (x y l a k : Bool) → ((x && l) && a) ≡ true → (y && ((l && not x) && k)) ≡ true → ⊥
  apart_copies x y l a k p q =
      apart x y l (and_split (x && l) a p).0 (and_join y (l && not x) (and_split y ((l && not x) && k) q).0 (and_split (l && not x) k (and_split y ((l && not x) && k) q).1).0)

  none_of : (n : ℕ) (f : ℕ → Bool) (k : ℕ) → count n (λ j. f j && eqb k 0) ≡ copies_of k (count n f)
  none_of n f k =
      by_bool (eqb k 0)
      (λ q. rw q (count_ext n (λ j. f j && true) f (λ j l. by_bool (f j) (λ y. rw y) (λ y. rw y))))
      (λ q. rw q (count_none n (λ j. f j && false) (λ j l. by_bool (f j) (λ y. rw y) (λ y. rw y))))

  copies_more : count m (is_new_copy e t (rs ++ r ∷ [])) ≡ count m (is_new_copy e t rs) + copies_of r.kind (count r.count (λ j. new_to e t rs (r.first + j)))
  copies_more =
      count_ext m (is_new_copy e t (rs ++ r ∷ [])) (λ c. is_new_copy e t rs c || (covers r c && (new_to e t rs c && eqb r.kind 0)))
      (λ c l.
      rw (named_append c rs (r ∷ []), kind_append c rs (r ∷ []), kind_is (named rs c) (covers r c) (kind_for rs c) r.kind)
      (copies_at (named rs c) (covers r c) (lack c) (eqb (kind_for rs c) 0) (eqb r.kind 0)))
      ∙ count_or m (is_new_copy e t rs) (λ c. covers r c && (new_to e t rs c && eqb r.kind 0))
      (λ c l p q. apart_copies (named rs c) (covers r c) (lack c) (eqb (kind_for rs c) 0) (eqb r.kind 0) p q)
      ∙ ap (λ (x : ℕ). count m (is_new_copy e t rs) + x)
      (count_range r.first (λ c. new_to e t rs c && eqb r.kind 0) m r.count fits ∙ none_of r.count (λ j. new_to e t rs (r.first + j)) r.kind)

  -- one range more
  pub counted_more : (new more x : ℕ) → Counted m e t rs new more → x ≡ count r.count (λ j. new_to e t rs (r.first + j))
      → Counted m e t (rs ++ r ∷ []) (new + x) (more + copies_of r.kind x)
  counted_more new more x c q = record {
    cells = (λ i. c.cells i + q i) ∙ sym new_more;
    copies = (λ i. c.copies i + copies_of r.kind (q i)) ∙ sym copies_more;
  }

pub counted_none : (m e : ℕ) (t : List ℕ) → Counted m e t [] 0 0
counted_none m e t = record { cells = sym (count_none m _ (λ c l. refl)); copies = sym (count_none m _ (λ c l. refl)) }
