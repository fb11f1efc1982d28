-- A call that replaces no word leaves the state as it is: add, delete, advance and restore. Assumes nothing.
use Prim.Native.Nat.{ℕ, ◌+◌, ◌-◌, ◌*◌, ◌≤◌, ◌<◌}
use mathlib.Core.Bool.{Bool, true, false, cond, not, ◌&&◌, true≢false, false≢true}
use mathlib.Core.List.{List, [], ◌∷◌}
use mathlib.Core.Option.{Option, none, some}
use mathlib.Core.Path.{◌≡◌, refl, sym, ap, subst, ◌∙◌}
use native.Mathlib.Omega.{arith}
use borrow.Author.Tests.{leb-true, eqb-true, not-false}
use lib.Dec.{leb, eqb}
use lib.ListN.{length}
use lib.Seq.{take_all}
use Rattle.words.specs.Scan.{count}
use Rattle.words.specs.Cells.{cell_bytes}
use Rattle.words.proofs.Scan.{by_bool, by_le, and_split, true≢}
use Rattle.words.proofs.Nth.{count_below}
use Rattle.ranges.specs.declared.Range.{Range}
use Rattle.ranges.specs.Ranges.{kind_for, rule_for, label_for}
use Rattle.ranges.specs.Ranges.{named as named_by}
use Rattle.model.specs.State.{Label, read_only, read_write, Kind, Holding, Domain, State}
use Rattle.model.specs.Answer.{ask}
use Rattle.model.specs.Holdings.{Room, holding_at, inner_holding, outer_holding, is_held, is_writable, held_changed, held_read_only, is_live, on_innermost, on_parent, holding, label_numbered, kind_numbered, raised, added, given_value, add_ranges, newly_held, relabelled, add_checks, delete_checks, advanced, given, changed_cells}
use Rattle.model.specs.Holdings.{advance as advanceState}
use Rattle.model.specs.Restore.{restored, ended_domains, freed_entries, restore_words}
use Rattle.model.specs.Session.{Within}
use Rattle.model.proofs.Asking.{ask_yes, ask_rest}
use Rattle.model.proofs.Ranged.{ranges_state, newly_after, relabelled_after, asked_cell, AddAsked, add_asked}

-- ---- counts of none

none_counted : (n : ℕ) (f : ℕ → Bool) → count n f ≡ 0 → (j : ℕ) → j < n → f j ≡ false
none_counted n f e j l = by_bool (f j) (λ t. absurd (let z = count_below f j n l t in omega arith)) (λ t. t)

-- ---- the innermost domain unchanged

inner_same : (f : Domain → Domain) (ds : List Domain) → ((d : Domain) → ((c : ℕ) → d.holds c ≡ holding_at ds (length ds) c) → f d ≡ d)
    → on_innermost f ds ≡ ds
inner_same f [] k = refl
inner_same f (d ∷ []) k = ap (λ (x : Domain). x ∷ []) (k d (λ c. refl))
inner_same f (d ∷ e ∷ ds) k = ap {B = List Domain} (λ l. d ∷ l) (inner_same f (e ∷ ds) k)

same_holdings : (f : ℕ → Option Holding) (d : Domain) → ((c : ℕ) → f c ≡ d.holds c) → holding f d ≡ d
same_holdings f d e = λ i. record { handle = d.handle; holds = λ c. e c i }

same_domains : (s : State) (ds : List Domain) → ds ≡ s.domains → ◌≡◌ {A = State} (record { next = s.next; domains = ds }) s
same_domains s ds e = λ i. record { next = s.next; domains = e i }

-- ---- add

-- held, and not read-only where the label is read-write
added_same : (l : Label) (k : Kind) (v : List ℕ) (o : Option Holding) → is_held o ≡ true → (is_writable l ≡ true → held_read_only o ≡ false) → added l k v o ≡ o
added_same l k v none h r = absurd (false≢true h)
added_same l k v (some o) h r = ap (λ (a : Label). some (record { label = a; kind = o.kind; value = o.value })) (go l o.label r)
  where
    go : (a b : Label) → (is_writable a ≡ true → not (is_writable b) ≡ false) → raised a b ≡ b
    go read_only b f = refl
    go read_write read_only f = absurd (true≢false (f refl))
    go read_write read_write f = refl

writable_numbered : (l : ℕ) → is_writable (label_numbered l) ≡ eqb l 1
writable_numbered l = go (eqb l 1)
  where
    go : (w : Bool) → is_writable (cond w read_write read_only) ≡ w
    go true = refl
    go false = refl

-- no cell of memory is newly held and none has its label raised: and the questions leave no cell outside memory
pub add_idle : (room : Room) (memory : List ℕ) (h : ℕ) (rs : List Range) (s : State) → add_checks room memory h rs s ≡ 0
    → newly_held room.cells s (add_ranges memory rs s) + relabelled room.cells s (add_ranges memory rs s) ≡ 0 → add_ranges memory rs s ≡ s
add_idle room memory h rs s q e =
    ranges_state memory rs s
    ∙ same_domains s _ (inner_same _ s.domains (λ d at. same_holdings _ d (λ c. one c (named_by rs c) (d.holds c) refl (at c))))
  where
    y : AddAsked room memory h rs s
    y = add_asked room memory h rs s q

    none-new : count room.cells (λ c. named_by rs c && not (is_held (inner_holding s c))) ≡ 0
    none-new = omega (arith, newly_after room.cells memory rs s y.live)

    none-raised : count room.cells (λ c. held_read_only (inner_holding s c) && eqb (label_for rs c) 1) ≡ 0
    none-raised = omega (arith, relabelled_after room.cells memory rs s y.live)

    both : (a b : Bool) → (a && b) ≡ false → b ≡ true → a ≡ false
    both true b f t = absurd (true≢ t f)
    both false b f t = refl

    one : (c : ℕ) (n : Bool) (o : Option Holding) → named_by rs c ≡ n → o ≡ inner_holding s c
        → cond n (added (label_numbered (label_for rs c)) (kind_numbered (kind_for rs c) (rule_for rs c)) (given_value (kind_numbered (kind_for rs c) (rule_for rs c)) memory (outer_holding s c) c) o) o ≡ o
    one c false o i a = refl
    one c true o i a =
        let below = (asked_cell room.cells memory rs s _ c y.live y.ranges i).within in
        let held : not (is_held (inner_holding s c)) ≡ false =
        subst (λ (b : Bool). (b && not (is_held (inner_holding s c))) ≡ false) i
        (none_counted room.cells (λ x. named_by rs x && not (is_held (inner_holding s x))) none-new c below) in
        added_same _ _ _ o (ap is_held a ∙ not-false (is_held (inner_holding s c)) held)
        (λ w. ap held_read_only a
        ∙ both _ (eqb (label_for rs c) 1) (none_counted room.cells (λ x. held_read_only (inner_holding s x) && eqb (label_for rs x) 1) none-raised c below)
        (sym (writable_numbered (label_for rs c)) ∙ w))

-- ---- delete: it frees a cell at least

pub delete_some : (m h first n : ℕ) (s : State) → delete_checks m h first n s ≡ 0 → 1 ≤ n
delete_some m h first n s q = go (is_live h s) (leb (first + n) m) _ q
  where
    go : (a b : Bool) (rest : ℕ) → ask a 5 (ask (leb 1 n && b) 8 rest) ≡ 0 → 1 ≤ n
    go a b rest q =
        let q8 = ask_rest a 5 (ask (leb 1 n && b) 8 rest) (omega arith) q in
        leb-true 1 n (and_split (leb 1 n) b (ask_yes (leb 1 n && b) 8 rest (omega arith) q8)).0

-- ---- advance

parent_same_lem : (f : Domain → Domain → Domain) (ds : List Domain)
    → ((o i : Domain) → ((c : ℕ) → i.holds c ≡ holding_at ds (length ds) c) → f o i ≡ o) → on_parent f ds ≡ ds
parent_same_lem f [] k = refl
parent_same_lem f (d ∷ []) k = refl
parent_same_lem f (d ∷ e ∷ []) k = ap (λ (x : Domain). x ∷ e ∷ []) (k d e (λ c. refl))
parent_same_lem f (d ∷ e ∷ g ∷ ds) k = ap {B = List Domain} (λ l. d ∷ l) (parent_same_lem f (e ∷ g ∷ ds) k)

advanced_same : (bytes : List ℕ) (o : Option Holding) → held_changed bytes o ≡ false → advanced bytes o ≡ o
advanced_same bytes o e = rw e

given_same : (bytes : List ℕ) (o i : Option Holding) → held_changed bytes i ≡ false → given bytes o i ≡ o
given_same bytes o i e = rw e

pub advance_idle : (cells : ℕ) (memory : List ℕ) (s : State) → Within cells s → changed_cells cells memory s ≡ 0 → advanceState memory s ≡ s
advance_idle cells memory s w e =
    same_domains s _
    (ap (on_innermost (λ d. holding (λ c. advanced (cell_bytes memory c) (d.holds c)) d))
    (parent_same_lem _ s.domains (λ o i at. same_holdings _ o (λ c. given_same (cell_bytes memory c) (o.holds c) (i.holds c) (ap (held_changed (cell_bytes memory c)) (at c) ∙ one c))))
    ∙ inner_same _ s.domains (λ d at. same_holdings _ d (λ c. advanced_same (cell_bytes memory c) (d.holds c) (ap (held_changed (cell_bytes memory c)) (at c) ∙ one c))))
  where
    one : (c : ℕ) → held_changed (cell_bytes memory c) (holding_at s.domains (length s.domains) c) ≡ false
    one c =
        by_le cells c (λ l. ap (held_changed (cell_bytes memory c)) (w (length s.domains) c l))
        (λ l. none_counted cells (λ x. held_changed (cell_bytes memory x) (holding_at s.domains (length s.domains) x)) e c l)

-- ---- restore

pub restore_idle : (m d : ℕ) (s : State) → restore_words m d s ≡ 0 → restored d s ≡ s
restore_idle m d s e = same_domains s _ (take_all d s.domains (none_ended (by_bool (eqb (ended_domains d s) 0) (λ t. eqb-true _ 0 t) (λ t. absurd (more (rw t at e))))))
  where
    none_ended : length s.domains - d ≡ 0 → length s.domains ≤ d
    none_ended z = omega arith

    more : 2 * freed_entries m d s + (1 + ended_domains d s) ≡ 0 → ⊥
    more z = omega arith
