-- The numbers by which the questions refuse are those of the documents' questions. Assumes nothing.
use Prim.Native.Nat.{ℕ, zero, suc, ◌+◌}
use mathlib.Core.Bool.{Bool, true, false, not, ◌&&◌, ◌||◌}
use mathlib.Core.List.{List, [], ◌∷◌}
use mathlib.Core.Path.{◌≡◌, refl, ap, subst}
use native.Mathlib.Omega.{arith}
use lib.Dec.{leb, ltb, eqb}
use lib.ListN.{length}
use Rattle.words.specs.Scan.{all}
use Rattle.words.specs.Journal.{pending}
use Rattle.ranges.specs.declared.Range.{Range}
use Rattle.ranges.specs.Ranges.{list_ok}
use Rattle.model.specs.State.{State}
use Rattle.model.specs.Answer.{ask, or_else}
use Rattle.model.specs.Calls.{Effect, refuse, change, or_refuse, create_checks}
use Rattle.model.specs.Holdings.{Room, named, holding_at, is_held, held_via, is_via, is_some, rule_of, live_entries, copies_in_use, is_live, is_innermost, range_ok, kind_numbered, parent_holds, parent_same, rule_fits, parent_plain, changed_cells, given_cells}
use Rattle.model.specs.Holdings.{add_range, add_ranges, newly_held, new_bodies, range_checks, list_checks, add_checks, delete_checks, advance_checks, commit_checks}
use Rattle.model.specs.Restore.{restore_checks, look_checks}
use Rattle.store.specs.Outcome.{Buffers}
use Rattle.store.specs.Checks.{shape_check, table_check, make_check, open_check, store_check, lent_of}
use Rattle.demands.specs.Demands.{lengths_right, header_right, table_right, is_question}

-- ---- questions: 0 goes on, and every other number is that of a question

pub record Fine (q : ℕ) : Type 0 where
  pub number : (n : ℕ) → q ≡ suc n → is_question (suc n) ≡ true

pub fine_none : Fine 0
fine_none = record { number = λ n e. absurd (omega arith) }

fine_number : (n : ℕ) → is_question n ≡ true → Fine n
fine_number n e = record { number = λ k p. subst (λ (x : ℕ). is_question x ≡ true) p e }

fine_ask : (x : Bool) (n rest : ℕ) → is_question n ≡ true → Fine rest → Fine (ask x n rest)
fine_ask true n rest f g = g
fine_ask false n rest f g = fine_number n f

fine_else : (m n : ℕ) → Fine m → Fine n → Fine (or_else m n)
fine_else zero n f g = g
fine_else (suc m) n f g = f

module _ (b : Buffers) where
  shape_fine : Fine (shape_check (lent_of b))
  unfolding shape_check
  shape_fine = fine_ask (lengths_right b) 1 _ refl (fine_ask (header_right b) 2 0 refl fine_none)

  table_fine : Fine (table_check (lent_of b))
  unfolding table_check
  table_fine = fine_ask (table_right b) 4 0 refl fine_none

  pub make_fine : Fine (make_check (lent_of b))
  unfolding make_check
  make_fine = fine_ask (lengths_right b) 1 0 refl fine_none

  pub open_fine : Fine (open_check (lent_of b))
  unfolding open_check
  open_fine = fine_else _ _ shape_fine table_fine

  pub store_fine : Fine (store_check (lent_of b))
  unfolding store_check
  store_fine = fine_else _ _ shape_fine (fine_ask (eqb (pending b.table) 0) 3 _ refl table_fine)

-- ---- effects

pub record FineEffect (f : Effect) : Type 0 where
  pub number : (n : ℕ) → f ≡ refuse n → is_question n ≡ true

abbrev refusal_of : ℕ → Effect → ℕ
refusal_of k (refuse n) = n
refusal_of k (change x w h new) = k

abbrev Changes : Effect → Type 0
Changes (refuse n) = ⊥
Changes (change x w h new) = Unit {0}

changes_fine : (x w h : ℕ) (new : State) → FineEffect (change x w h new)
changes_fine x w h new = record { number = λ n e. absurd (subst Changes e tt) }

pub fine_refuse : (q x w h : ℕ) (new : State) → Fine q → FineEffect (or_refuse q (change x w h new))
fine_refuse zero x w h new f = changes_fine x w h new
fine_refuse (suc q) x w h new f = record { number = λ n e. subst (λ (k : ℕ). is_question k ≡ true) (ap (refusal_of 0) e) (f.number q refl) }

-- ---- a range's questions, a list's, and each call's

range_fine : (m : ℕ) (memory : List ℕ) (r : Range) (s : State) (rest : ℕ) → Fine rest → Fine (range_checks m memory r s rest)
range_fine m memory r s rest f =
    fine_ask (leb r.kind 2 && leb r.label 1) 7 _ refl
    (fine_ask (range_ok m r.first r.count) 8 _ refl
    (fine_ask (not (is_via (kind_numbered r.kind r.rule)) || parent_holds r.first r.count s) 11 _ refl
    (fine_ask (not (is_via (kind_numbered r.kind r.rule)) || parent_same memory r.first r.count s) 12 _ refl
    (fine_ask (not (is_some (rule_of (kind_numbered r.kind r.rule))) || rule_fits memory r.rule r.first r.count s) 18 _ refl
    (fine_ask (not (is_via (kind_numbered r.kind r.rule)) || parent_plain r.first r.count s) 19 _ refl f)))))

list_fine : (m : ℕ) (memory : List ℕ) (rs : List Range) (s : State) (rest : ℕ) → Fine rest → Fine (list_checks m memory rs s rest)
list_fine m memory [] s rest f = f
list_fine m memory (r ∷ rs) s rest f = range_fine m memory r s _ (list_fine m memory rs (add_range memory r s) rest f)

module _ (room : Room) (memory : List ℕ) (s : State) where
  pub create_fine : Fine (create_checks s)
  create_fine = fine_ask (ltb (length s.domains) 8) 9 _ refl (fine_ask (ltb s.next 4_294_967_295) 10 0 refl fine_none)

  pub add_fine : (h : ℕ) (rs : List Range) → Fine (add_checks room memory h rs s)
  add_fine h rs =
      fine_ask (is_live h s) 5 _ refl
      (fine_ask (is_innermost h s) 6 _ refl
      (fine_ask (list_ok rs) 20 _ refl
      (list_fine room.cells memory rs s _
      (fine_ask (leb (live_entries room.cells s + newly_held room.cells s (add_ranges memory rs s)) room.slots) 16 _ refl
      (fine_ask (leb (copies_in_use room.cells s + new_bodies room.cells s (add_ranges memory rs s)) room.bodies) 17 0 refl fine_none)))))

  pub delete_fine : (m h first n : ℕ) → Fine (delete_checks m h first n s)
  delete_fine m h first n =
      fine_ask (is_live h s) 5 _ refl
      (fine_ask (range_ok m first n) 8 _ refl
      (fine_ask (all n (λ j. is_held (holding_at s.domains (named h s) (first + j)))) 13 _ refl
      (fine_ask (all n (λ j. not (held_via (holding_at s.domains (suc (named h s)) (first + j))))) 14 0 refl fine_none)))

  pub advance_fine : (h : ℕ) → Fine (advance_checks room memory h s)
  advance_fine h =
      fine_ask (is_live h s) 5 _ refl
      (fine_ask (is_innermost h s) 6 _ refl
      (fine_ask (leb (live_entries room.cells s + given_cells room.cells memory s) room.slots) 16 _ refl
      (fine_ask (leb (copies_in_use room.cells s + changed_cells room.cells memory s) room.bodies) 17 0 refl fine_none)))

  pub commit_fine : (h : ℕ) → Fine (commit_checks h s)
  commit_fine h = fine_ask (is_live h s) 5 _ refl (fine_ask (is_innermost h s) 6 0 refl fine_none)

  pub restore_fine : (h : ℕ) → Fine (restore_checks h s)
  restore_fine h = fine_ask (is_live h s) 5 0 refl fine_none

  pub look_fine : (m h c : ℕ) → Fine (look_checks m h c s)
  look_fine m h c = fine_ask (is_live h s) 5 _ refl (fine_ask (range_ok m c 1) 8 0 refl fine_none)
