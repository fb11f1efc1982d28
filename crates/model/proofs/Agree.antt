-- The history's lines do to its domains what the calls do to the state's: handles, cells, labels and values stay the same. Assumes nothing.
use Prim.Native.Nat.{ℕ, zero, suc, ◌<◌}
use mathlib.Core.Bool.{Bool, true, false, cond, not, ◌&&◌}
use mathlib.Core.List.{List, [], ◌∷◌, ◌++◌}
use mathlib.Core.Option.{Option, none, some}
use mathlib.Core.Path.{◌≡◌, refl, sym, ap, ap₂, ◌∙◌}
use native.Mathlib.Omega.{arith}
use borrow.Author.Tests.{eqb-true}
use lib.Dec.{eqb, leb}
use lib.ListN.{length, get_or, take}
use Rattle.words.specs.Cells.{cell_bytes, same_cell}
use Rattle.words.proofs.Scan.{by_bool, all_at, all_ext, and_split}
use Rattle.patterns.specs.Pattern.{max_rule, pattern}
use Rattle.model.specs.State.{Label, read_only, read_write, Kind, copy, via_parent, by_rule, Holding, Domain, State}
use Rattle.model.specs.Holdings.{deeper, depth_in, named, holding_at, inner_holding, outer_holding, is_held, value_or, on_depth, on_innermost, on_commit, holding, in_range, raised, added, given_value, add_to, parent_same, rule_fits, is_writable, held_changed, advanced, given, advance, on_parent, merged}
use Rattle.model.specs.History.{Kept, Tracked, inner, depth_among, named_among, turned, at_depth, at_innermost, into_parent, entered, add_tracked, delete_around, may_write, differing, kept_out, give_tracked, around_innermost, renewed, advance_tracked, advance_line, joined, commit_tracked, write_line, exclude_after, exclude_inside}
use Rattle.model.specs.Session.{SameCell, SameDomains, none_left, same}
use Rattle.model.proofs.Ranges.{new_cell}

-- ---- handles

deeper_inner : (d : ℕ) → deeper d ≡ inner d
deeper_inner zero = refl
deeper_inner (suc d) = refl

pub agree_depth : {ds : List Domain} {qs : List Tracked} (h : ℕ) → SameDomains ds qs → depth_in h ds ≡ depth_among h qs
agree_depth h none_left = refl
agree_depth h (same {d = d} {q = q} {ds = ds} {qs = qs} e f a) =
    ap (λ (n : ℕ). cond (eqb n h) 1 (deeper (depth_in h ds))) e
    ∙ ap (λ (n : ℕ). cond (eqb q.handle h) 1 n) (deeper_inner (depth_in h ds) ∙ ap inner (agree_depth h a))

pub agree_length : {ds : List Domain} {qs : List Tracked} → SameDomains ds qs → length ds ≡ length qs
agree_length none_left = refl
agree_length (same e f a) = ap suc (agree_length a)

pub agree_named : (h : ℕ) (s : State) (qs : List Tracked) → SameDomains s.domains qs → named h s ≡ named_among h qs
agree_named h s qs a =
    ap (λ (n : ℕ). cond (eqb h 0) n (depth_in h s.domains)) (agree_length a) ∙ ap (λ (n : ℕ). cond (eqb h 0) (length qs) n) (agree_depth h a)

-- ---- create

pub agree_create : (d : Domain) (q : Tracked) {ds : List Domain} {qs : List Tracked} → d.handle ≡ q.handle
    → ((c : ℕ) → SameCell (d.holds c) (q.cells c)) → SameDomains ds qs → SameDomains (ds ++ (d ∷ [])) (qs ++ (q ∷ []))
agree_create d q e f none_left = same e f none_left
agree_create d q e f (same e' f' a) = same e' f' (agree_create d q e f a)

-- ---- the innermost domain

-- the innermost is the one at the depth that is the number of domains
pub at_length : {A : Type 0} (f : A → A) (qs : List A) → at_depth (length qs) f qs ≡ at_innermost f qs
at_length f [] = refl
at_length f (q ∷ []) = refl
at_length {A} f (q ∷ r ∷ qs) = ap {B = List A} (λ l. q ∷ l) (at_length f (r ∷ qs))

pub agree_innermost : {ds : List Domain} {qs : List Tracked} (f : Domain → Domain) (g : Tracked → Tracked)
    → ((d : Domain) → (f d).handle ≡ d.handle) → ((q : Tracked) → (g q).handle ≡ q.handle)
    → ((d : Domain) (q : Tracked) → ((c : ℕ) → d.holds c ≡ holding_at ds (length ds) c) → ((c : ℕ) → SameCell (d.holds c) (q.cells c))
    → (c : ℕ) → SameCell ((f d).holds c) ((g q).cells c))
    → SameDomains ds qs → SameDomains (on_innermost f ds) (at_innermost g qs)
agree_innermost f g hf hg k none_left = none_left
agree_innermost f g hf hg k (same {d = d} {q = q} e h none_left) = same (hf d ∙ e ∙ sym (hg q)) (k d q (λ c. refl) h) none_left
agree_innermost f g hf hg k (same e h (same e' h' a)) = same e h (agree_innermost f g hf hg k (same e' h' a))

-- ---- add

label_same : (l a b : Label) → a ≡ b → raised l a ≡ turned l b
label_same read_only a b e = e
label_same read_write a b e = refl

-- a cell that is added: bytes is what memory has there
added_same : (l : Label) (k : Kind) (v bytes : List ℕ) (o : Option Holding) (p : Option Kept)
    → (o ≡ none → (j : ℕ) → j < 64 → get_or v j 0 ≡ get_or bytes j 0) → SameCell o p → SameCell (added l k v o) (entered l bytes p)
added_same l k v bytes none none f e = (refl, f refl)
added_same l k v bytes none (some p) f e = absurd e
added_same l k v bytes (some h) none f e = absurd e
added_same l k v bytes (some h) (some p) f e = (label_same l h.label p.label e.0, e.1)

pub bytes_same : (a b : List ℕ) → same_cell a b ≡ true → (i : ℕ) → i < 64 → get_or a i 0 ≡ get_or b i 0
unfolding same_cell
bytes_same a b e i l = eqb-true (get_or a i 0) (get_or b i 0) (all_at 64 (λ (k : ℕ). eqb (get_or a k 0) (get_or b k 0)) e i l)

-- what questions 12 and 18 leave of a kind: memory has the value of every cell newly held
abbrev pub Matched : List ℕ → (first n : ℕ) → Kind → State → Type 0
Matched memory first n copy s = Unit {0}
Matched memory first n via_parent s = parent_same memory first n s ≡ true
Matched memory first n (by_rule r) s = rule_fits memory r first n s ≡ true

-- so what a cell newly held is given is what memory has
given_same : (memory : List ℕ) (first n c : ℕ) (k : Kind) (s : State) → Matched memory first n k s → in_range first n c ≡ true
    → inner_holding s c ≡ none → (j : ℕ) → j < 64 → get_or (given_value k memory (outer_holding s c) c) j 0 ≡ get_or (cell_bytes memory c) j 0
given_same memory first n c copy s q r e j l = refl
given_same memory first n c via_parent s q r e j l =
    bytes_same (value_or (cell_bytes memory c) (outer_holding s c)) (cell_bytes memory c)
    (new_cell first n c (λ i. is_held (inner_holding s i)) (λ i. same_cell (value_or (cell_bytes memory i) (outer_holding s i)) (cell_bytes memory i)) q r (ap is_held e)) j l
given_same memory first n c (by_rule rule) s q r e j l =
    bytes_same (pattern rule) (cell_bytes memory c)
    (new_cell first n c (λ i. is_held (inner_holding s i)) (λ i. same_cell (pattern rule) (cell_bytes memory i)) (and_split (leb rule max_rule) _ q).1 r (ap is_held e)) j l

pub agree_add : (memory : List ℕ) (first n : ℕ) (k : Kind) (l : Label) (s : State) (qs : List Tracked)
    → Matched memory first n k s → SameDomains s.domains qs
    → SameDomains (add_to memory first n k l s).domains (at_innermost (add_tracked memory first n l) qs)
agree_add memory first n k l s qs q a =
    agree_innermost _ (add_tracked memory first n l) (λ d. refl) (λ t. refl) (λ d t e f c. one c d t (in_range first n c) refl (e c) (f c)) a
  where
    given : ℕ → List ℕ
    given c = given_value k memory (outer_holding s c) c

    one : (c : ℕ) (d : Domain) (t : Tracked) (r : Bool) → in_range first n c ≡ r → d.holds c ≡ inner_holding s c
        → SameCell (d.holds c) (t.cells c)
        → SameCell (cond r (added l k (given c) (d.holds c)) (d.holds c)) (cond r (entered l (cell_bytes memory c) (t.cells c)) (t.cells c))
    one c d t false r e f = f
    one c d t true r e f =
        added_same l k (given c) (cell_bytes memory c) (d.holds c) (t.cells c) (λ z. given_same memory first n c k s q r (sym e ∙ z)) f

-- ---- delete

dropped_same : (r : Bool) (o : Option Holding) (p : Option Kept) → SameCell o p → SameCell (cond r none o) (cond r none p)
dropped_same true o p e = tt
dropped_same false o p e = e

pub agree_delete : {ds : List Domain} {qs : List Tracked} (first n d : ℕ) → SameDomains ds qs
    → SameDomains (on_depth d (λ x. holding (λ c. cond (in_range first n c) none (x.holds c)) x) ds) (delete_around first n d qs)
agree_delete first n d none_left = none_left
agree_delete first n zero (same e f a) = same e f a
agree_delete first n (suc zero) (same {d = d} {q = q} e f a) = same e (λ c. dropped_same (in_range first n c) (d.holds c) (q.cells c) (f c)) a
agree_delete first n (suc (suc d)) (same e f a) = same e f (agree_delete first n (suc d) a)

-- ---- advance

-- a read-write cell that did not change has memory's bytes already
advanced_one : (bytes v w : List ℕ) (k : Kind) (a b : Label) → a ≡ b → ((j : ℕ) → j < 64 → get_or v j 0 ≡ get_or w j 0)
    → SameCell (advanced bytes (some (record { label = a; kind = k; value = v }))) (renewed bytes (some (record { label = b; bytes = w })))
advanced_one bytes v w k read_only read_only e f = (refl, f)
advanced_one bytes v w k read_write read_write e f = by_bool (same_cell v bytes) (λ y. rw y (refl, bytes_same v bytes y)) (λ y. rw y (refl, λ j l. refl))
advanced_one bytes v w k read_only read_write e f = absurd (let z : ◌≡◌ {A = ℕ} 0 1 = cc in omega arith)
advanced_one bytes v w k read_write read_only e f = absurd (let z : ◌≡◌ {A = ℕ} 0 1 = cc in omega arith)

advanced_same : (bytes : List ℕ) (o : Option Holding) (p : Option Kept) → SameCell o p → SameCell (advanced bytes o) (renewed bytes p)
advanced_same bytes none none e = tt
advanced_same bytes none (some p) e = absurd e
advanced_same bytes (some h) none e = absurd e
advanced_same bytes (some h) (some p) e = advanced_one bytes h.value p.bytes h.kind h.label p.label e.0 e.1

-- whether a cell differs from memory hangs on its bytes alone
differing_same : (bytes : List ℕ) (o : Option Holding) (p : Option Kept) → SameCell o p → held_changed bytes o ≡ differing bytes p
unfolding same_cell
differing_same bytes none none e = refl
differing_same bytes none (some p) e = absurd e
differing_same bytes (some h) none e = absurd e
differing_same bytes (some h) (some p) e =
    ap (λ (l : Label). is_writable l && not (same_cell h.value bytes)) e.0
    ∙ ap₂ (λ (a b : Bool). a && not b) (writable-label p.label)
    (all_ext 64 (λ k. eqb (get_or h.value k 0) (get_or bytes k 0)) (λ k. eqb (get_or p.bytes k 0) (get_or bytes k 0))
    (λ k l. ap (λ (v : ℕ). eqb v (get_or bytes k 0)) (e.1 k l)))
  where
    writable-label : (l : Label) → is_writable l ≡ may_write l
    writable-label read_only = refl
    writable-label read_write = refl

given_out : (bytes : List ℕ) (o i : Option Holding) (p k : Option Kept) → SameCell o p → SameCell i k → SameCell (given bytes o i) (kept_out bytes p k)
given_out bytes none i none k e f =
    let same = differing_same bytes i k f in
    by_bool (differing bytes k) (λ y. rw (same, y) f) (λ y. rw (same, y) tt)
given_out bytes none i (some p) k e f = absurd e
given_out bytes (some o) i none k e f = absurd e
given_out bytes (some o) i (some p) k e f = by_bool (held_changed bytes i) (λ y. rw y e) (λ y. rw y e)

agree_parent : {ds : List Domain} {qs : List Tracked} (memory : List ℕ) → SameDomains ds qs
    → SameDomains (on_parent (λ o i. holding (λ c. given (cell_bytes memory c) (o.holds c) (i.holds c)) o) ds) (around_innermost (give_tracked memory) qs)
agree_parent memory none_left = none_left
agree_parent memory (same e f none_left) = same e f none_left
agree_parent memory (same {d = d} {q = q} e f (same {d = d'} {q = q'} e' f' none_left)) =
    same e (λ c. given_out (cell_bytes memory c) (d.holds c) (d'.holds c) (q.cells c) (q'.cells c) (f c) (f' c)) (same e' f' none_left)
agree_parent memory (same e f (same e' f' (same e'' f'' a))) = same e f (agree_parent memory (same e' f' (same e'' f'' a)))

pub agree_advance : (memory : List ℕ) (s : State) (qs : List Tracked) → SameDomains s.domains qs
    → SameDomains (advance memory s).domains (advance_line memory qs)
agree_advance memory s qs a =
    agree_innermost _ (advance_tracked memory) (λ d. refl) (λ t. refl) (λ d t e f c. advanced_same (cell_bytes memory c) (d.holds c) (t.cells c) (f c))
    (agree_parent memory a)

-- ---- commit

merged_same : (o i : Option Holding) (p k : Option Kept) → SameCell o p → SameCell i k → SameCell (merged o i) (joined p k)
merged_same none i none k e f = f
merged_same none i (some p) k e f = absurd e
merged_same (some o) i none k e f = absurd e
merged_same (some o) none (some p) none e f = e
merged_same (some o) none (some p) (some k) e f = absurd f
merged_same (some o) (some i) (some p) none e f = absurd f
merged_same (some o) (some i) (some p) (some k) e f = (
  ap (λ (l : Label). raised l o.label) f.0 ∙ label_same k.label o.label p.label e.0,
  e.1,
)

pub agree_commit : {ds : List Domain} {qs : List Tracked} → SameDomains ds qs
    → SameDomains (on_commit (λ o i. holding (λ c. merged (o.holds c) (i.holds c)) o) ds) (into_parent commit_tracked qs)
agree_commit none_left = none_left
agree_commit (same e f none_left) = none_left
agree_commit (same {d = d} {q = q} e f (same {d = d'} {q = q'} e' f' none_left)) =
    same e (λ c. merged_same (d.holds c) (d'.holds c) (q.cells c) (q'.cells c) (f c) (f' c)) none_left
agree_commit (same e f (same e' f' (same e'' f'' a))) = same e f (agree_commit (same e' f' (same e'' f'' a)))

-- ---- restore, and what changes no cells

pub agree_take : {ds : List Domain} {qs : List Tracked} (d : ℕ) → SameDomains ds qs → SameDomains (take d ds) (take d qs)
agree_take zero a = none_left
agree_take (suc d) none_left = none_left
agree_take (suc d) (same e f a) = same e f (agree_take d a)

agree_exclude : {ds : List Domain} {qs : List Tracked} (d : ℕ) → SameDomains ds qs → SameDomains ds (exclude_after d qs)
agree_exclude d none_left = none_left
agree_exclude zero (same e f a) = same e f (agree_exclude zero a)
agree_exclude (suc d) (same e f a) = same e f (agree_exclude d a)

pub agree_inside : {ds : List Domain} {qs : List Tracked} (d : ℕ) → SameDomains ds qs → SameDomains ds (exclude_inside d qs)
agree_inside zero a = a
agree_inside (suc d) a = agree_exclude (suc d) a

pub agree_write : {ds : List Domain} {qs : List Tracked} (places : List ℕ) → SameDomains ds qs → SameDomains ds (write_line places qs)
agree_write places none_left = none_left
agree_write places (same e f a) = same e f (agree_write places a)
