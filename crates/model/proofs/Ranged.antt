-- Laws of a list of ranges: the state that it leaves, cell by cell, and what its questions leave of a cell that it names. Assumes nothing.
use Prim.Native.Nat.{ℕ, zero, suc, ◌-◌, ◌≤◌, ◌<◌}
use mathlib.Core.Bool.{Bool, true, false, cond, not, ◌&&◌, ◌||◌, true≢false, false≢true}
use mathlib.Core.List.{List, [], ◌∷◌, ◌++◌}
use mathlib.Core.Option.{Option, none, some}
use mathlib.Core.Path.{◌≡◌, refl, sym, ap, subst, ◌∙◌}
use native.Mathlib.Nat.{not-suc-le-zero}
use native.Mathlib.Omega.{arith}
use borrow.Author.Tests.{leb-true, ltb-true, eqb-true, not-true}
use lib.Dec.{leb, eqb, eqb-suc-zero}
use lib.ListN.{length}
use Rattle.words.specs.Scan.{count}
use Rattle.words.specs.Cells.{cell_bytes, same_cell}
use Rattle.words.proofs.Scan.{by_bool, and_split, count_ext}
use Rattle.ranges.specs.declared.Range.{Range}
use Rattle.ranges.specs.Ranges.{covers, kind_for, rule_for, label_for, list_ok, one_range}
use Rattle.ranges.specs.Ranges.{named as named_by}
use Rattle.patterns.specs.Pattern.{max_rule, pattern}
use Rattle.model.specs.State.{Label, read_only, read_write, Kind, Holding, Domain, State}
use Rattle.model.specs.Answer.{ask}
use Rattle.model.specs.Holdings.{Room, deeper, depth_in, named, is_live, is_innermost, range_ok, holding_at, inner_holding, outer_holding, is_held, is_writable, held_writable, held_read_only, is_via, has_body, held_in_body, rule_of, is_some, held_by_rule, value_or, on_innermost, holding, label_numbered, kind_numbered, raised, added, given_value, add_range, add_ranges, parent_holds, parent_same, rule_fits, parent_plain, range_checks, list_checks, newly_held, new_bodies, relabelled, room_checks, add_checks, add_effect, plain_effect}
use Rattle.model.proofs.Asking.{ask_yes, ask_rest}
use Rattle.model.proofs.Ranges.{range_both, range_facts, new_cell}

-- ---- a list after another

pub checks_append : (m : ℕ) (memory : List ℕ) (ps qs : List Range) (s : State) (rest : ℕ)
    → list_checks m memory (ps ++ qs) s rest ≡ list_checks m memory ps s (list_checks m memory qs (add_ranges memory ps s) rest)
checks_append m memory [] qs s rest = refl
checks_append m memory (r ∷ ps) qs s rest = ap (range_checks m memory r s) (checks_append m memory ps qs (add_range memory r s) rest)

-- ---- a change of the innermost domain's holdings: the number of domains, the handles, and what the domains hold after it

pub inner_length : (f : Domain → Domain) (ds : List Domain) → length (on_innermost f ds) ≡ length ds
inner_length f [] = refl
inner_length f (x ∷ []) = refl
inner_length f (x ∷ y ∷ ys) = ap suc (inner_length f (y ∷ ys))

inner_depth : (f : Domain → Domain) (h : ℕ) (ds : List Domain) → ((d : Domain) → (f d).handle ≡ d.handle) → depth_in h (on_innermost f ds) ≡ depth_in h ds
inner_depth f h [] k = refl
inner_depth f h (x ∷ []) k = ap (λ (n : ℕ). cond (eqb n h) 1 0) (k x)
inner_depth f h (x ∷ y ∷ ys) k = ap (λ (n : ℕ). cond (eqb x.handle h) 1 (deeper n)) (inner_depth f h (y ∷ ys) k)

-- the domains around it hold what they held
around : (f : Domain → Domain) (ds : List Domain) (d c : ℕ) → d < length ds → holding_at (on_innermost f ds) d c ≡ holding_at ds d c
around f [] d c l = refl
around f (x ∷ []) zero c l = refl
around f (x ∷ []) (suc d) c l = absurd (omega arith)
around f (x ∷ y ∷ ys) zero c l = refl
around f (x ∷ y ∷ ys) (suc zero) c l = refl
around f (x ∷ y ∷ ys) (suc (suc d)) c l = around f (y ∷ ys) (suc d) c (omega arith)

outer_on : (f : Domain → Domain) (ds : List Domain) (c : ℕ) → holding_at (on_innermost f ds) (length (on_innermost f ds) - 1) c ≡ holding_at ds (length ds - 1) c
outer_on f [] c = refl
outer_on f (x ∷ xs) c =
    ap (λ (n : ℕ). holding_at (on_innermost f (x ∷ xs)) (n - 1) c) (inner_length f (x ∷ xs))
    ∙ around f (x ∷ xs) (length (x ∷ xs) - 1) c (omega arith)

-- and it holds what it is given, by the cell and by what it held of it
abbrev pub cellwise : (ℕ → Option Holding → Option Holding) → Domain → Domain
cellwise g d = holding (λ c. g c (d.holds c)) d

inner_at : (g : ℕ → Option Holding → Option Holding) (ds : List Domain) (c : ℕ) → 1 ≤ length ds
    → holding_at (on_innermost (cellwise g) ds) (length ds) c ≡ g c (holding_at ds (length ds) c)
inner_at g [] c l = absurd (not-suc-le-zero l)
inner_at g (x ∷ []) c l = refl
inner_at g (x ∷ y ∷ ys) c l = inner_at g (y ∷ ys) c (omega arith)

inner_on : (g : ℕ → Option Holding → Option Holding) (ds : List Domain) (c : ℕ) → 1 ≤ length ds
    → holding_at (on_innermost (cellwise g) ds) (length (on_innermost (cellwise g) ds)) c ≡ g c (holding_at ds (length ds) c)
inner_on g ds c l = ap (λ (n : ℕ). holding_at (on_innermost (cellwise g) ds) n c) (inner_length (cellwise g) ds) ∙ inner_at g ds c l

inner_id : (ds : List Domain) → on_innermost (λ d. d) ds ≡ ds
inner_id [] = refl
inner_id (x ∷ []) = refl
inner_id (x ∷ y ∷ ys) = ap {B = List Domain} (λ l. x ∷ l) (inner_id (y ∷ ys))

-- one change and then another
inner_twice : (f g : ℕ → Option Holding → Option Holding) (ds : List Domain)
    → on_innermost (cellwise g) (on_innermost (cellwise f) ds) ≡ on_innermost (cellwise (λ c o. g c (f c o))) ds
inner_twice f g [] = refl
inner_twice f g (x ∷ []) = refl
inner_twice f g (x ∷ y ∷ []) = refl
inner_twice f g (x ∷ y ∷ z ∷ zs) = ap {B = List Domain} (λ l. x ∷ l) (inner_twice f g (y ∷ z ∷ zs))

-- ---- the state after a list: a cell that it names is held with the kind of the first record that names it, and read-write if one of them says so

-- what a list makes of a cell of which the innermost domain holds o and its parent p
abbrev pub list_added : List ℕ → List Range → (c : ℕ) → (p o : Option Holding) → Option Holding
list_added memory rs c p o =
    cond (named_by rs c) (added (label_numbered (label_for rs c)) (kind_numbered (kind_for rs c) (rule_for rs c)) (given_value (kind_numbered (kind_for rs c) (rule_for rs c)) memory p c) o) o

-- and what one record makes of it
abbrev pub range_added : List ℕ → Range → (c : ℕ) → (p o : Option Holding) → Option Holding
range_added memory r c p o =
    cond (covers r c) (added (label_numbered r.label) (kind_numbered r.kind r.rule) (given_value (kind_numbered r.kind r.rule) memory p c) o) o

pub label_unnamed : (rs : List Range) (c : ℕ) → named_by rs c ≡ false → label_for rs c ≡ 0
label_unnamed [] c e = refl
label_unnamed (r ∷ rs) c e = go (covers r c) (label_unnamed rs c) e
  where
    go : (b : Bool) → (named_by rs c ≡ false → label_for rs c ≡ 0) → (b || named_by rs c) ≡ false → cond (b && eqb r.label 1) 1 (label_for rs c) ≡ 0
    go true k e = absurd (true≢false e)
    go false k e = k e

-- a label raised once and again; w is whether the first is read-write
raised_twice : (w : Bool) (a b : Label) → raised a (raised (cond w read_write read_only) b) ≡ raised (cond w read_write a) b
raised_twice true read_only b = refl
raised_twice true read_write b = refl
raised_twice false a b = refl

raised_new : (w : Bool) (a : Label) → raised a (cond w read_write read_only) ≡ cond w read_write a
raised_new true read_only = refl
raised_new true read_write = refl
raised_new false read_only = refl
raised_new false read_write = refl

added_twice : (w : Bool) (a : Label) (k k' : Kind) (v v' : List ℕ) (o : Option Holding)
    → added a k' v' (added (cond w read_write read_only) k v o) ≡ added (cond w read_write a) k v o
added_twice w a k k' v v' none = ap (λ (l : Label). some (record { label = l; kind = k; value = v })) (raised_new w a)
added_twice w a k k' v v' (some h) = ap (λ (l : Label). some (record { label = l; kind = h.kind; value = h.value })) (raised_twice w a h.label)

-- a record that names the cell, and then others, of which one names it or none
added_then : (n w : Bool) (a : Label) (k k' : Kind) (v v' : List ℕ) (o : Option Holding) → (n ≡ false → a ≡ read_only)
    → cond n (added a k' v' (added (cond w read_write read_only) k v o)) (added (cond w read_write read_only) k v o) ≡ added (cond w read_write a) k v o
added_then true w a k k' v v' o f = added_twice w a k k' v v' o
added_then false w a k k' v v' o f = ap (λ (b : Label). added (cond w read_write b) k v o) (sym (f refl))

label_first : (w : Bool) (l : ℕ) → cond w read_write (label_numbered l) ≡ label_numbered (cond w 1 l)
label_first true l = refl
label_first false l = refl

added_next : (memory : List ℕ) (r : Range) (rs : List Range) (c : ℕ) (p o : Option Holding)
    → list_added memory rs c p (range_added memory r c p o) ≡ list_added memory (r ∷ rs) c p o
added_next memory r rs c p o = by_bool (covers r c) (λ e. rw e first) (λ e. rw e)
  where
    first : cond (named_by rs c)
        (added (label_numbered (label_for rs c)) (kind_numbered (kind_for rs c) (rule_for rs c)) (given_value (kind_numbered (kind_for rs c) (rule_for rs c)) memory p c)
        (added (label_numbered r.label) (kind_numbered r.kind r.rule) (given_value (kind_numbered r.kind r.rule) memory p c) o))
        (added (label_numbered r.label) (kind_numbered r.kind r.rule) (given_value (kind_numbered r.kind r.rule) memory p c) o)
        ≡ added (label_numbered (cond (eqb r.label 1) 1 (label_for rs c))) (kind_numbered r.kind r.rule) (given_value (kind_numbered r.kind r.rule) memory p c) o
    first =
        added_then (named_by rs c) (eqb r.label 1) (label_numbered (label_for rs c)) _ _ _ _ o (λ e. ap label_numbered (label_unnamed rs c e))
        ∙ ap (λ (l : Label). added l (kind_numbered r.kind r.rule) (given_value (kind_numbered r.kind r.rule) memory p c) o) (label_first (eqb r.label 1) (label_for rs c))

-- the whole state
abbrev pub after_ranges : List ℕ → List Range → State → State
after_ranges memory rs s = record {
  next = s.next;
  domains = on_innermost (λ d. holding (λ c. list_added memory rs c (outer_holding s c) (d.holds c)) d) s.domains;
}

pub ranges_state : (memory : List ℕ) (rs : List Range) (s : State) → add_ranges memory rs s ≡ after_ranges memory rs s
ranges_state memory [] s = λ i. record { next = s.next; domains = sym (inner_id s.domains) i }
ranges_state memory (r ∷ rs) s = ranges_state memory rs (add_range memory r s) ∙ (λ i. record { next = s.next; domains = both i })
  where
    -- the parent holds what it held
    cell : (c : ℕ) (o : Option Holding)
        → list_added memory rs c (outer_holding (add_range memory r s) c) (range_added memory r c (outer_holding s c) o) ≡ list_added memory (r ∷ rs) c (outer_holding s c) o
    cell c o =
        ap (λ (p : Option Holding). list_added memory rs c p (range_added memory r c (outer_holding s c) o)) (outer_on _ s.domains c)
        ∙ added_next memory r rs c (outer_holding s c) o

    both : (after_ranges memory rs (add_range memory r s)).domains ≡ (after_ranges memory (r ∷ rs) s).domains
    both =
        inner_twice (λ c o. range_added memory r c (outer_holding s c) o) (λ c o. list_added memory rs c (outer_holding (add_range memory r s) c) o) s.domains
        ∙ (λ i. on_innermost (cellwise (λ c o. cell c o i)) s.domains)

module _ (memory : List ℕ) (rs : List Range) (s : State) where
  pub ranges_length : length (add_ranges memory rs s).domains ≡ length s.domains
  ranges_length = ap (λ (t : State). length t.domains) (ranges_state memory rs s) ∙ inner_length _ s.domains

  -- handles name what they named
  pub ranges_named : (h : ℕ) → named h (add_ranges memory rs s) ≡ named h s
  ranges_named h =
      ap (named h) (ranges_state memory rs s)
      ∙ (λ i. cond (eqb h 0) (inner_length (cellwise after) s.domains i) (inner_depth (cellwise after) h s.domains (λ d. refl) i))
    where
      after : ℕ → Option Holding → Option Holding
      after c o = list_added memory rs c (outer_holding s c) o

  pub outer_after : (c : ℕ) → outer_holding (add_ranges memory rs s) c ≡ outer_holding s c
  outer_after c = ap (λ (t : State). outer_holding t c) (ranges_state memory rs s) ∙ outer_on _ s.domains c

-- what a list makes of a cell, seen by the tests
held_added : (n : Bool) (l : Label) (k : Kind) (v : List ℕ) (o : Option Holding) → is_held (cond n (added l k v o) o) ≡ (is_held o || n)
held_added true l k v none = refl
held_added true l k v (some h) = refl
held_added false l k v none = refl
held_added false l k v (some h) = refl

newly_added : (n : Bool) (l : Label) (k : Kind) (v : List ℕ) (o : Option Holding) → (not (is_held o) && is_held (cond n (added l k v o) o)) ≡ (n && not (is_held o))
newly_added true l k v none = refl
newly_added true l k v (some h) = refl
newly_added false l k v none = refl
newly_added false l k v (some h) = refl

body_numbered : (k u : ℕ) → has_body (kind_numbered k u) ≡ eqb k 0
body_numbered zero u = refl
body_numbered (suc zero) u = refl
body_numbered (suc (suc k)) u = sym (eqb-suc-zero (suc k))

body_added : (n : Bool) (l : Label) (k u : ℕ) (v : List ℕ) (o : Option Holding)
    → (not (is_held o) && held_in_body (cond n (added l (kind_numbered k u) v o) o)) ≡ ((n && not (is_held o)) && eqb k 0)
body_added true l k u v none = body_numbered k u
body_added true l k u v (some h) = refl
body_added false l k u v none = refl
body_added false l k u v (some h) = refl

raised_writable : (w : Bool) → is_writable (raised (cond w read_write read_only) read_only) ≡ w
raised_writable true = refl
raised_writable false = refl

raised_added : (n : Bool) (l : ℕ) (k : Kind) (v : List ℕ) (o : Option Holding) → (n ≡ false → l ≡ 0)
    → (held_read_only o && held_writable (cond n (added (label_numbered l) k v o) o)) ≡ (held_read_only o && eqb l 1)
raised_added n l k v none f = refl
raised_added n l k v (some h) f = go n h.label f
  where
    go : (n : Bool) (a : Label) → (n ≡ false → l ≡ 0)
        → (not (is_writable a) && held_writable (cond n (some (record { label = raised (label_numbered l) a; kind = h.kind; value = h.value })) (some (record { label = a; kind = h.kind; value = h.value }))))
        ≡ (not (is_writable a) && eqb l 1)
    go n read_write f = refl
    go true read_only f = raised_writable (eqb l 1)
    go false read_only f = ap (λ (x : ℕ). eqb x 1) (sym (f refl))

module _ (memory : List ℕ) (rs : List Range) (s : State) (live : 1 ≤ length s.domains) where
  pub inner_after : (c : ℕ) → inner_holding (add_ranges memory rs s) c ≡ list_added memory rs c (outer_holding s c) (inner_holding s c)
  inner_after c = ap (λ (t : State). inner_holding t c) (ranges_state memory rs s) ∙ inner_on (λ c o. list_added memory rs c (outer_holding s c) o) s.domains c live

  pub held_after : (c : ℕ) → is_held (inner_holding (add_ranges memory rs s) c) ≡ (is_held (inner_holding s c) || named_by rs c)
  held_after c = ap is_held (inner_after c) ∙ held_added (named_by rs c) _ _ _ (inner_holding s c)

module _ (m : ℕ) (memory : List ℕ) (rs : List Range) (s : State) (live : 1 ≤ length s.domains) where
  pub newly_after : newly_held m s (add_ranges memory rs s) ≡ count m (λ c. named_by rs c && not (is_held (inner_holding s c)))
  newly_after = count_ext m _ _ (λ c l.
      ap (λ (o : Option Holding). not (is_held (inner_holding s c)) && is_held o) (inner_after memory rs s live c)
      ∙ newly_added (named_by rs c) _ _ _ (inner_holding s c))

  pub bodies_after : new_bodies m s (add_ranges memory rs s) ≡ count m (λ c. (named_by rs c && not (is_held (inner_holding s c))) && eqb (kind_for rs c) 0)
  bodies_after = count_ext m _ _ (λ c l.
      ap (λ (o : Option Holding). not (is_held (inner_holding s c)) && held_in_body o) (inner_after memory rs s live c)
      ∙ body_added (named_by rs c) _ (kind_for rs c) (rule_for rs c) _ (inner_holding s c))

  pub relabelled_after : relabelled m s (add_ranges memory rs s) ≡ count m (λ c. held_read_only (inner_holding s c) && eqb (label_for rs c) 1)
  relabelled_after = count_ext m _ _ (λ c l.
      ap (λ (o : Option Holding). held_read_only (inner_holding s c) && held_writable o) (inner_after memory rs s live c)
      ∙ raised_added (named_by rs c) (label_for rs c) _ _ (inner_holding s c) (label_unnamed rs c))

-- ---- what the questions leave

-- those on one record, all answered yes
pub record RangeAsked (m : ℕ) (memory : List ℕ) (r : Range) (s : State) (rest : ℕ) : Type 0 where
  pub numbers : (leb r.kind 2 && leb r.label 1) ≡ true
  pub lies : range_ok m r.first r.count ≡ true
  pub holds : (not (is_via (kind_numbered r.kind r.rule)) || parent_holds r.first r.count s) ≡ true
  pub same : (not (is_via (kind_numbered r.kind r.rule)) || parent_same memory r.first r.count s) ≡ true
  pub rules : (not (is_some (rule_of (kind_numbered r.kind r.rule))) || rule_fits memory r.rule r.first r.count s) ≡ true
  pub plain : (not (is_via (kind_numbered r.kind r.rule)) || parent_plain r.first r.count s) ≡ true
  pub onward : rest ≡ 0

pub range_asked : (m : ℕ) (memory : List ℕ) (r : Range) (s : State) (rest : ℕ) → range_checks m memory r s rest ≡ 0 → RangeAsked m memory r s rest
range_asked m memory r s rest q =
    let y = six _ _ _ _ _ _ q in
    record { numbers = y.0; lies = y.1; holds = y.2; same = y.3; rules = y.4; plain = y.5; onward = y.6 }
  where
    six : (a b c d e f : Bool) → ask a 7 (ask b 8 (ask c 11 (ask d 12 (ask e 18 (ask f 19 rest))))) ≡ 0
        → (a ≡ true) × (b ≡ true) × (c ≡ true) × (d ≡ true) × (e ≡ true) × (f ≡ true) × (rest ≡ 0)
    six true true true true true true q = (refl, refl, refl, refl, refl, refl, q)
    six true true true true true false q = absurd (omega arith)
    six true true true true false f q = absurd (omega arith)
    six true true true false e f q = absurd (omega arith)
    six true true false d e f q = absurd (omega arith)
    six true false c d e f q = absurd (omega arith)
    six false b c d e f q = absurd (omega arith)

pub list_rest : (m : ℕ) (memory : List ℕ) (rs : List Range) (s : State) (rest : ℕ) → list_checks m memory rs s rest ≡ 0 → rest ≡ 0
list_rest m memory [] s rest q = q
list_rest m memory (r ∷ rs) s rest q = list_rest m memory rs (add_range memory r s) rest (range_asked m memory r s _ q).onward

-- of a cell that the list names: it lies in memory and has a kind, and where the innermost domain does not hold it before the list, the answers that
-- its kind asks for
pub record Asked (m : ℕ) (memory : List ℕ) (rs : List Range) (s : State) (c : ℕ) : Type 0 where
  pub within : c < m
  pub kind : kind_for rs c ≤ 2
  pub rests : is_held (inner_holding s c) ≡ false → kind_for rs c ≡ 1 → is_held (outer_holding s c) ≡ true
  pub alike : is_held (inner_holding s c) ≡ false → kind_for rs c ≡ 1 → same_cell (value_or (cell_bytes memory c) (outer_holding s c)) (cell_bytes memory c) ≡ true
  pub plain : is_held (inner_holding s c) ≡ false → kind_for rs c ≡ 1 → held_by_rule (outer_holding s c) ≡ false
  pub rule : is_held (inner_holding s c) ≡ false → kind_for rs c ≡ 2 → rule_for rs c ≤ max_rule
  pub fits : is_held (inner_holding s c) ≡ false → kind_for rs c ≡ 2 → same_cell (pattern (rule_for rs c)) (cell_bytes memory c) ≡ true

via_asked : (k u : ℕ) (b : Bool) → k ≡ 1 → (not (is_via (kind_numbered k u)) || b) ≡ true → b ≡ true
via_asked k u b e q = subst (λ (x : ℕ). (not (is_via (kind_numbered x u)) || b) ≡ true) e q

rule_asked : (k u : ℕ) (b : Bool) → k ≡ 2 → (not (is_some (rule_of (kind_numbered k u))) || b) ≡ true → b ≡ true
rule_asked k u b e q = subst (λ (x : ℕ). (not (is_some (rule_of (kind_numbered x u))) || b) ≡ true) e q

-- a record that names it
asked_here : (m : ℕ) (memory : List ℕ) (r : Range) (rs : List Range) (s : State) (c rest : ℕ) → RangeAsked m memory r s rest → covers r c ≡ true
    → Asked m memory (r ∷ rs) s c
asked_here m memory r rs s c rest y e = record {
  within = omega (arith, range_both r.first r.count c e, range_facts m r.first r.count y.lies);
  kind = rw kind_is (leb-true r.kind 2 (and_split _ _ y.numbers).0);
  rests = λ h k. new_cell _ _ c (λ i. is_held (inner_holding s i)) (λ i. is_held (outer_holding s i)) (via k y.holds) e h;
  alike = λ h k. new_cell _ _ c (λ i. is_held (inner_holding s i)) (λ i. same_cell (value_or (cell_bytes memory i) (outer_holding s i)) (cell_bytes memory i)) (via k y.same) e h;
  plain = λ h k. not-true _ (new_cell _ _ c (λ i. is_held (inner_holding s i)) (λ i. not (held_by_rule (outer_holding s i))) (via k y.plain) e h);
  rule = λ h k. rw rule-is (leb-true r.rule max_rule (and_split (leb r.rule max_rule) _ (by_rule_lem k)).0);
  fits = λ h k. rw rule-is (new_cell _ _ c (λ i. is_held (inner_holding s i)) (λ i. same_cell (pattern r.rule) (cell_bytes memory i)) (and_split (leb r.rule max_rule) _ (by_rule_lem k)).1 e h);
}
  where
    kind_is : kind_for (r ∷ rs) c ≡ r.kind
    kind_is = rw e

    rule-is : rule_for (r ∷ rs) c ≡ r.rule
    rule-is = rw e

    via : {b : Bool} → kind_for (r ∷ rs) c ≡ 1 → (not (is_via (kind_numbered r.kind r.rule)) || b) ≡ true → b ≡ true
    via k q = via_asked r.kind r.rule _ (sym kind_is ∙ k) q

    by_rule_lem : kind_for (r ∷ rs) c ≡ 2 → rule_fits memory r.rule r.first r.count s ≡ true
    by_rule_lem k = rule_asked r.kind r.rule _ (sym kind_is ∙ k) y.rules

-- a record that does not leaves the cell to the others
asked_later : (m : ℕ) (memory : List ℕ) (r : Range) (rs : List Range) (s : State) (c : ℕ) → 1 ≤ length s.domains → covers r c ≡ false
    → Asked m memory rs (add_range memory r s) c → Asked m memory (r ∷ rs) s c
asked_later m memory r rs s c live e y = record {
  within = y.within;
  kind = rw kind_is y.kind;
  rests = λ h k. ap is_held (sym outer-is) ∙ y.rests (ap is_held inner-is ∙ h) (sym kind_is ∙ k);
  alike = λ h k. ap (λ (o : Option Holding). same_cell (value_or (cell_bytes memory c) o) (cell_bytes memory c)) (sym outer-is) ∙ y.alike (ap is_held inner-is ∙ h) (sym kind_is ∙ k);
  plain = λ h k. ap held_by_rule (sym outer-is) ∙ y.plain (ap is_held inner-is ∙ h) (sym kind_is ∙ k);
  rule = λ h k. rw rule-is (y.rule (ap is_held inner-is ∙ h) (sym kind_is ∙ k));
  fits = λ h k. rw rule-is (y.fits (ap is_held inner-is ∙ h) (sym kind_is ∙ k));
}
  where
    kind_is : kind_for (r ∷ rs) c ≡ kind_for rs c
    kind_is = rw e

    rule-is : rule_for (r ∷ rs) c ≡ rule_for rs c
    rule-is = rw e

    inner-is : inner_holding (add_range memory r s) c ≡ inner_holding s c
    inner-is = inner_on (λ c o. range_added memory r c (outer_holding s c) o) s.domains c live ∙ rw e

    outer-is : outer_holding (add_range memory r s) c ≡ outer_holding s c
    outer-is = outer_on _ s.domains c

pub asked_cell : (m : ℕ) (memory : List ℕ) (rs : List Range) (s : State) (rest c : ℕ) → 1 ≤ length s.domains → list_checks m memory rs s rest ≡ 0
    → named_by rs c ≡ true → Asked m memory rs s c
asked_cell m memory [] s rest c live q e = absurd (false≢true e)
asked_cell m memory (r ∷ rs) s rest c live q e =
    let y = range_asked m memory r s _ q in
    by_bool (covers r c)
    (λ t. asked_here m memory r rs s c _ y t)
    (λ t. asked_later m memory r rs s c live t
    (asked_cell m memory rs (add_range memory r s) rest c (omega (arith, ranges_length memory (r ∷ []) s)) y.onward (rw t at e)))

-- those of the whole call: 5 and 6, 20, those on the ranges, and those on room
pub record AddAsked (room : Room) (memory : List ℕ) (h : ℕ) (rs : List Range) (s : State) : Type 0 where
  pub live : 1 ≤ length s.domains
  pub innermost : named h s ≡ length s.domains
  pub few : list_ok rs ≡ true
  pub ranges : list_checks room.cells memory rs s (room_checks room s (add_ranges memory rs s)) ≡ 0
  pub fits : room_checks room s (add_ranges memory rs s) ≡ 0

pub add_asked : (room : Room) (memory : List ℕ) (h : ℕ) (rs : List Range) (s : State) → add_checks room memory h rs s ≡ 0 → AddAsked room memory h rs s
add_asked room memory h rs s q =
    let q6 = ask_rest (is_live h s) 5 _ (omega arith) q in
    let q20 = ask_rest (is_innermost h s) 6 _ (omega arith) q6 in
    let some-live : 0 < named h s = ltb-true 0 (named h s) (ask_yes (is_live h s) 5 _ (omega arith) q) in
    let last : named h s ≡ length s.domains = eqb-true _ _ (ask_yes (is_innermost h s) 6 _ (omega arith) q6) in
    let on-ranges = ask_rest (list_ok rs) 20 _ (omega arith) q20 in
    record {
      live = omega arith;
      innermost = last;
      few = ask_yes (list_ok rs) 20 _ (omega arith) q20;
      ranges = on-ranges;
      fits = list_rest room.cells memory rs s _ on-ranges;
    }

-- ---- the plain add

-- it is the list of one record
pub one_range_lem : (room : Room) (memory : List ℕ) (h first n k u l : ℕ) (s : State)
    → add_effect room memory h (one_range first n k u l) s ≡ plain_effect room memory h first n k u l s
one_range_lem room memory h first n k u l s = refl
