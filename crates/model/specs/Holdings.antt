-- Document 01, "The calls": what add, delete, advance and commit mean for the state and memory, with their questions and step counts.
use Rattle.std.specs.Prelude.{ℕ, zero, suc, ◌+◌, ◌*◌, ◌-◌, Bool, true, false, cond, not, ◌&&◌, ◌||◌, List, [], ◌∷◌, leb, ltb, eqb, length}
use Rattle.std.proofs.Math.Option.{Option, none, some}
use Rattle.words.specs.Layout.{cell_size}
use Rattle.words.specs.Scan.{all, count}
use Rattle.words.specs.Cells.{cell_bytes, same_cell}
use Rattle.ranges.specs.declared.Range.{Range}
use Rattle.ranges.specs.Ranges.{list_ok}
pub use Rattle.ranges.specs.Ranges.{in_range}
use Rattle.patterns.specs.Pattern.{max_rule, pattern}
use Rattle.model.specs.State.{Label, read_only, read_write, Kind, copy, via_parent, by_rule, Holding, Domain, State}
use Rattle.model.specs.Answer.{ask}
use Rattle.model.specs.Calls.{Effect, change, or_refuse}

-- ---- domains and handles

-- the depth of the domain with handle h, 1 at the outermost; 0 where there is none
abbrev pub deeper : ℕ → ℕ
deeper zero = zero
deeper (suc d) = suc (suc d)

abbrev pub depth_in : ℕ → List Domain → ℕ
depth_in h [] = 0
depth_in h (d ∷ ds) = cond (eqb d.handle h) 1 (deeper (depth_in h ds))

-- the innermost domain; nobody, at depth 0, where none is live
abbrev pub innermost : State → ℕ
innermost s = length s.domains

-- the parent and the child of the domain at depth d (document 01: the next domain out, the next domain in)
abbrev pub parent : ℕ → ℕ
parent d = d - 1

abbrev pub child : ℕ → ℕ
child d = suc d

-- has it no parent?
abbrev pub is_outermost : ℕ → Bool
is_outermost d = leb d 1

-- is the domain at depth k the one at depth d, or inside it?
abbrev pub is_within : (d k : ℕ) → Bool
is_within d k = leb d k

-- "Handle 0 in any later call means the innermost domain"
abbrev pub named : ℕ → State → ℕ
named h s = cond (eqb h 0) (innermost s) (depth_in h s.domains)

-- what the domain at a depth holds of a cell: nothing at depth 0 and past the innermost
abbrev pub holding_at : List Domain → ℕ → ℕ → Option Holding
holding_at [] d c = none
holding_at (x ∷ xs) zero c = none
holding_at (x ∷ xs) (suc zero) c = x.holds c
holding_at (x ∷ xs) (suc (suc d)) c = holding_at xs (suc d) c

-- what the innermost domain holds of it, and what its parent holds
abbrev pub inner_holding : State → ℕ → Option Holding
inner_holding s c = holding_at s.domains (innermost s) c

abbrev pub outer_holding : State → ℕ → Option Holding
outer_holding s c = holding_at s.domains (parent (innermost s)) c

abbrev pub is_held : Option Holding → Bool
is_held none = false
is_held (some h) = true

abbrev pub is_writable : Label → Bool
is_writable read_only = false
is_writable read_write = true

-- held read-write, held read-only, held via parent
abbrev pub held_writable : Option Holding → Bool
held_writable none = false
held_writable (some h) = is_writable h.label

abbrev pub held_read_only : Option Holding → Bool
held_read_only o = is_held o && not (held_writable o)

abbrev pub is_via : Kind → Bool
is_via copy = false
is_via via_parent = true
is_via (by_rule r) = false

abbrev pub held_via : Option Holding → Bool
held_via none = false
held_via (some h) = is_via h.kind

-- the kinds whose value lies in a body of its own: "no two copies share a body"
abbrev pub has_body : Kind → Bool
has_body copy = true
has_body via_parent = false
has_body (by_rule r) = false

abbrev pub held_in_body : Option Holding → Bool
held_in_body none = false
held_in_body (some h) = has_body h.kind

-- the rule that a kind follows, if it follows one; the same of what is held
abbrev pub rule_of : Kind → Option ℕ
rule_of copy = none
rule_of via_parent = none
rule_of (by_rule r) = some r

abbrev pub held_rule : Option Holding → Option ℕ
held_rule none = none
held_rule (some h) = rule_of h.kind

abbrev pub is_some : Option ℕ → Bool
is_some none = false
is_some (some r) = true

abbrev pub held_by_rule : Option Holding → Bool
held_by_rule o = is_some (held_rule o)

-- the value held, and what there is otherwise
abbrev pub value_or : List ℕ → Option Holding → List ℕ
value_or v none = v
value_or v (some h) = h.value

-- ---- changes of one domain in the list: of the one at a depth, of the innermost, and of the innermost's parent

abbrev pub on_depth : ℕ → (Domain → Domain) → List Domain → List Domain
on_depth d f [] = []
on_depth zero f (x ∷ xs) = x ∷ xs
on_depth (suc zero) f (x ∷ xs) = f x ∷ xs
on_depth (suc (suc d)) f (x ∷ xs) = x ∷ on_depth (suc d) f xs

abbrev pub on_innermost : (Domain → Domain) → List Domain → List Domain
on_innermost f [] = []
on_innermost f (x ∷ []) = f x ∷ []
on_innermost f (x ∷ y ∷ ys) = x ∷ on_innermost f (y ∷ ys)

-- the innermost's parent, if any, is changed by what the innermost holds
abbrev pub on_parent : (Domain → Domain → Domain) → List Domain → List Domain
on_parent f [] = []
on_parent f (x ∷ []) = x ∷ []
on_parent f (x ∷ y ∷ []) = f x y ∷ y ∷ []
on_parent f (x ∷ y ∷ z ∷ zs) = x ∷ on_parent f (y ∷ z ∷ zs)

-- the same, and the innermost leaves
abbrev pub on_commit : (Domain → Domain → Domain) → List Domain → List Domain
on_commit f [] = []
on_commit f (x ∷ []) = []
on_commit f (x ∷ y ∷ []) = f x y ∷ []
on_commit f (x ∷ y ∷ z ∷ zs) = x ∷ on_commit f (y ∷ z ∷ zs)

-- the domain with other holdings
abbrev pub holding : (ℕ → Option Holding) → Domain → Domain
holding f d = record { handle = d.handle; holds = f }

-- ---- the questions that several calls are put

-- the numbers of cells, entry slots and bodies: m, E and B
pub record Room : Type 0 where
  pub cells : ℕ
  pub slots : ℕ
  pub bodies : ℕ

-- 5: "Does the handle name a live domain?"   6: "Is it the innermost?"
abbrev pub is_live : ℕ → State → Bool
is_live h s = ltb 0 (named h s)

abbrev pub is_innermost : ℕ → State → Bool
is_innermost h s = eqb (named h s) (innermost s)

-- 8: "Is the count at least 1 and first + count at most m?"
abbrev pub range_ok : (m first n : ℕ) → Bool
range_ok m first n = leb 1 n && leb (first + n) m

-- each of these questions before the `rest`: 5; 5 and 6; 8
abbrev pub ask_live : (h : ℕ) → State → (rest : ℕ) → ℕ
ask_live h s rest = ask (is_live h s) 5 rest

abbrev pub ask_innermost : (h : ℕ) → State → (rest : ℕ) → ℕ
ask_innermost h s rest = ask_live h s (ask (is_innermost h s) 6 rest)

abbrev pub ask_range : (m first n rest : ℕ) → ℕ
ask_range m first n rest = ask (range_ok m first n) 8 rest

-- ---- what is in use, counted in the state

-- how many cells of m these domains hold so that f, each cell once for every domain that holds it
abbrev pub count_held : (m : ℕ) (f : Option Holding → Bool) → List Domain → ℕ
count_held m f [] = 0
count_held m f (d ∷ ds) = count m (λ c. f (d.holds c)) + count_held m f ds

-- "live entries" (question 16): one for each domain and each cell that it holds
abbrev pub live_entries : (m : ℕ) → State → ℕ
live_entries m s = count_held m is_held s.domains

-- "copies in use" (question 17): the holdings that have a body
abbrev pub copies_in_use : (m : ℕ) → State → ℕ
copies_in_use m s = count_held m held_in_body s.domains

-- ---- add

abbrev pub label_numbered : ℕ → Label
label_numbered l = cond (eqb l 1) read_write read_only

-- "Add gains kind 2 .. with a rule number that other kinds ignore"
abbrev pub kind_numbered : (k rule : ℕ) → Kind
kind_numbered zero r = copy
kind_numbered (suc zero) r = via_parent
kind_numbered (suc (suc k)) r = by_rule r

-- "becomes read-write if the new label is read-write; it never goes back"
abbrev pub raised : Label → Label → Label
raised read_only old = old
raised read_write old = read_write

-- "A cell not yet held is held with memory's bytes, or via parent", or by a rule. "A cell already held keeps its kind and value"
abbrev pub added : Label → Kind → (value : List ℕ) → Option Holding → Option Holding
added l k v none = some (record { label = l; kind = k; value = v })
added l k v (some h) = some (record { label = raised l h.label; kind = h.kind; value = h.value })

-- the value of a cell newly held: memory's bytes, or what the parent holds, or the bytes of its rule
abbrev pub given_value : Kind → List ℕ → Option Holding → ℕ → List ℕ
given_value copy memory o c = cell_bytes memory c
given_value via_parent memory o c = value_or (cell_bytes memory c) o
given_value (by_rule r) memory o c = pattern r

-- s with n cells from `first` on added to its innermost domain
abbrev pub add_to : List ℕ → (first n : ℕ) → Kind → Label → State → State
add_to memory first n k l s = record {
  next = s.next;
  domains = on_innermost (λ d. holding (λ c. cond (in_range first n c) (added l k (given_value k memory (outer_holding s c) c) (d.holds c)) (d.holds c)) d) s.domains;
}

-- the same of a record, by its numbers; and of a list of them: "Ranges act in list order, so a later one finds cells that an earlier one has just
-- taken"
abbrev pub add_range : List ℕ → Range → State → State
add_range memory r s = add_to memory r.first r.count (kind_numbered r.kind r.rule) (label_numbered r.label) s

abbrev pub add_ranges : List ℕ → List Range → State → State
add_ranges memory [] s = s
add_ranges memory (r ∷ rs) s = add_ranges memory rs (add_range memory r s)

-- 11: "Does the next domain out hold every newly held cell?"
abbrev pub parent_holds : (first n : ℕ) → State → Bool
parent_holds first n s =
    all n (λ j. is_held (inner_holding s (first + j)) || is_held (outer_holding s (first + j)))

-- 12: "Does memory equal that domain's value in each of them?"
abbrev pub parent_same : List ℕ → (first n : ℕ) → State → Bool
parent_same memory first n s =
    all n (λ j. is_held (inner_holding s (first + j))
    || same_cell (value_or (cell_bytes memory (first + j)) (outer_holding s (first + j))) (cell_bytes memory (first + j)))

-- 18: "rule above 3, or memory unlike the rule in a newly held cell"
abbrev pub rule_fits : List ℕ → (rule first n : ℕ) → State → Bool
rule_fits memory r first n s =
    leb r max_rule && all n (λ j. is_held (inner_holding s (first + j)) || same_cell (pattern r) (cell_bytes memory (first + j)))

-- 19: "via parent on a newly held cell whose value out there comes from a rule"
abbrev pub parent_plain : (first n : ℕ) → State → Bool
parent_plain first n s = all n (λ j. is_held (inner_holding s (first + j)) || not (held_by_rule (outer_holding s (first + j))))

-- the questions on a range, in this order, each for all its cells before the next
abbrev pub range_checks : (m : ℕ) → List ℕ → Range → State → (rest : ℕ) → ℕ
range_checks m memory r s rest =
    let kind = kind_numbered r.kind r.rule in
    ask (leb r.kind 2 && leb r.label 1) 7
    (ask_range m r.first r.count
    (ask (not (is_via kind) || parent_holds r.first r.count s) 11
    (ask (not (is_via kind) || parent_same memory r.first r.count s) 12
    (ask (not (is_some (rule_of kind)) || rule_fits memory r.rule r.first r.count s) 18
    (ask (not (is_via kind) || parent_plain r.first r.count s) 19 rest)))))

-- "The questions on a range are put range by range", each on the state as the ranges before it leave it
abbrev pub list_checks : (m : ℕ) → List ℕ → List Range → State → (rest : ℕ) → ℕ
list_checks m memory [] s rest = rest
list_checks m memory (r ∷ rs) s rest = range_checks m memory r s (list_checks m memory rs (add_range memory r s) rest)

-- of m cells, from one state to another: those that the innermost domain newly holds, those of them that it holds in a body, and those whose label
-- rises
abbrev pub newly_held : (m : ℕ) → (before after : State) → ℕ
newly_held m s t = count m (λ c. not (is_held (inner_holding s c)) && is_held (inner_holding t c))

abbrev pub new_bodies : (m : ℕ) → (before after : State) → ℕ
new_bodies m s t = count m (λ c. not (is_held (inner_holding s c)) && held_in_body (inner_holding t c))

abbrev pub relabelled : (m : ℕ) → (before after : State) → ℕ
relabelled m s t = count m (λ c. held_read_only (inner_holding s c) && held_writable (inner_holding t c))

-- "those on room once for the whole list": 16 and 17
abbrev pub room_checks : Room → (before after : State) → ℕ
room_checks room s t =
    ask (leb (live_entries room.cells s + newly_held room.cells s t) room.slots) 16
    (ask (leb (copies_in_use room.cells s + new_bodies room.cells s t) room.bodies) 17 0)

-- 20, "after question 6: fewer than 1 or more than 64 records"
abbrev pub add_checks : Room → List ℕ → (h : ℕ) → List Range → State → ℕ
add_checks room memory h rs s =
    ask_innermost h s
    (ask (list_ok rs) 20
    (list_checks room.cells memory rs s
    (room_checks room s (add_ranges memory rs s))))

abbrev pub add_effect : Room → List ℕ → (h : ℕ) → List Range → State → Effect
add_effect room memory h rs s =
    let m = room.cells in
    let t = add_ranges memory rs s in
    or_refuse (add_checks room memory h rs s) (change (cell_size * new_bodies m s t) (2 * (newly_held m s t + relabelled m s t)) 0 t)

-- the plain add's effect is that of the list of its one range; here it is written out, as document 01 and A.1 put its questions
abbrev pub plain_effect : Room → List ℕ → (h first n k u l : ℕ) → State → Effect
plain_effect room memory h first n k u l s =
    let m = room.cells in
    let kind = kind_numbered k u in
    let t = add_to memory first n kind (label_numbered l) s in
    or_refuse
    (ask_innermost h s
    (ask (leb k 2 && leb l 1) 7
    (ask_range m first n
    (ask (not (is_via kind) || parent_holds first n s) 11
    (ask (not (is_via kind) || parent_same memory first n s) 12
    (ask (not (is_some (rule_of kind)) || rule_fits memory u first n s) 18
    (ask (not (is_via kind) || parent_plain first n s) 19
    (ask (leb (live_entries m s + newly_held m s t) room.slots) 16
    (ask (leb (copies_in_use m s + new_bodies m s t) room.bodies) 17 0)))))))))
    (change (cell_size * new_bodies m s t) (2 * (newly_held m s t + relabelled m s t)) 0 t)

-- ---- delete: "frees the named cells of the named domain only"

abbrev pub delete_from : (d first n : ℕ) → State → State
delete_from d first n s = record {
  next = s.next;
  domains = on_depth d (λ x. holding (λ c. cond (in_range first n c) none (x.holds c)) x) s.domains;
}

abbrev pub delete_checks : (m h first n : ℕ) → State → ℕ
delete_checks m h first n s =
    ask_live h s
    (ask_range m first n
    (ask (all n (λ j. is_held (holding_at s.domains (named h s) (first + j)))) 13
    (ask (all n (λ j. not (held_via (holding_at s.domains (child (named h s)) (first + j))))) 14 0)))

abbrev pub delete_effect : (m h first n : ℕ) → State → Effect
delete_effect m h first n s = or_refuse (delete_checks m h first n s) (change 0 (2 * n) 0 (delete_from (named h s) first n s))

-- ---- advance: "gives every read-write cell of the innermost domain memory's bytes, as a copy. Read-only cells keep theirs"; by document 02 "Copy only
-- cells whose memory differs from the held value; the others keep kind and body", and it "gives the next domain out each changed read-write cell that
-- this one lacks, with the old kind, value and label, and keeps the new value itself"

-- held read-write, and memory, which has these bytes, differs from its value
abbrev pub held_changed : (bytes : List ℕ) → Option Holding → Bool
held_changed bytes none = false
held_changed bytes (some h) = is_writable h.label && not (same_cell h.value bytes)

abbrev pub advanced : (bytes : List ℕ) → Option Holding → Option Holding
advanced bytes o = cond (held_changed bytes o) (some (record { label = read_write; kind = copy; value = bytes })) o

-- of a cell, by what the next domain out and the innermost hold of it: is it given outwards? What does the next domain out hold then?
abbrev pub is_given : (bytes : List ℕ) → (outer inner : Option Holding) → Bool
is_given bytes outer inner = held_changed bytes inner && not (is_held outer)

abbrev pub given : (bytes : List ℕ) → (outer inner : Option Holding) → Option Holding
given bytes outer inner = cond (is_given bytes outer inner) inner outer

abbrev pub advance : List ℕ → State → State
advance memory s = record {
  next = s.next;
  domains = on_innermost (λ d. holding (λ c. advanced (cell_bytes memory c) (d.holds c)) d)
      (on_parent (λ o i. holding (λ c. given (cell_bytes memory c) (o.holds c) (i.holds c)) o) s.domains);
}

-- the changed read-write cells of the innermost domain, of m cells; and those of them that are given outwards, where it has a parent
abbrev pub changed_cells : (m : ℕ) → List ℕ → State → ℕ
changed_cells m memory s = count m (λ c. held_changed (cell_bytes memory c) (inner_holding s c))

abbrev pub given_cells : (m : ℕ) → List ℕ → State → ℕ
given_cells m memory s =
    count m (λ c. not (is_outermost (innermost s)) && is_given (cell_bytes memory c) (outer_holding s c) (inner_holding s c))

-- 16, "counting one more entry for each cell given outwards"; 17: "Question 17 counts those k cells". Number 15 is retired
abbrev pub advance_checks : Room → List ℕ → (h : ℕ) → State → ℕ
advance_checks room memory h s =
    ask_innermost h s
    (ask (leb (live_entries room.cells s + given_cells room.cells memory s) room.slots) 16
    (ask (leb (copies_in_use room.cells s + changed_cells room.cells memory s) room.bodies) 17 0))

-- where none changed nothing is stored, so that the call is done at every budget
abbrev pub advance_effect : Room → List ℕ → (h : ℕ) → State → Effect
advance_effect room memory h s =
    let k = changed_cells room.cells memory s in
    let g = given_cells room.cells memory s in
    or_refuse (advance_checks room memory h s) (change (cell_size * k) (2 * (k + g)) 0 (advance memory s))

-- ---- commit

-- "A cell that the next domain out lacks moves there. One that both hold keeps the outer value .., and the outer label becomes read-write if
-- the inner was": outer, then inner
abbrev pub merged : Option Holding → Option Holding → Option Holding
merged none i = i
merged (some o) none = some o
merged (some o) (some i) = some (record { label = raised i.label o.label; kind = o.kind; value = o.value })

abbrev pub commit : State → State
commit s = record {
  next = s.next;
  domains = on_commit (λ o i. holding (λ c. merged (o.holds c) (i.holds c)) o) s.domains;
}

-- the entries that change: those of the innermost domain, which move or are freed, and those of its parent whose label rises
abbrev pub inner_cells : ℕ → State → ℕ
inner_cells m s = count m (λ c. is_held (inner_holding s c))

abbrev pub raised_cells : ℕ → State → ℕ
raised_cells m s =
    count m (λ c. held_read_only (outer_holding s c) && held_writable (inner_holding s c))

abbrev pub commit_checks : (h : ℕ) → State → ℕ
commit_checks h s = ask_innermost h s 0

abbrev pub commit_effect : (m h : ℕ) → State → Effect
commit_effect m h s = or_refuse (commit_checks h s) (change 0 (2 + 2 * (inner_cells m s + raised_cells m s)) 0 (commit s))
