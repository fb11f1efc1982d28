-- Document 02, A.3: "a lent list of records, each with first cell, count, kind, rule and label", and what it asks for a cell. "Ranges act in list
-- order, so a later one finds cells that an earlier one has just taken": so the first record that names a cell fixes its kind and rule, and later
-- ones can only make it read-write.
use Rattle.std.specs.Prelude.{ℕ, ◌+◌, Bool, false, cond, ◌&&◌, ◌||◌, List, [], ◌∷◌, length, ◌==◌, nat_le, nat_lt}
use Rattle.ranges.specs.declared.Range.{Range}

-- is cell c one of first, .., first + n - 1?
abbrev pub in_range : (first n c : ℕ) → Bool
in_range first n c = nat_le first c && nat_lt c (first + n)

-- is it one of a record's cells?
abbrev pub covers : Range → ℕ → Bool
covers r c = in_range r.first r.count c

-- does a record of the list name it?
abbrev pub named : List Range → ℕ → Bool
named [] c = false
named (r ∷ rs) c = covers r c || named rs c

-- the kind and the rule of the first record that names it
abbrev pub kind_for : List Range → ℕ → ℕ
kind_for [] c = 0
kind_for (r ∷ rs) c = cond (covers r c) r.kind (kind_for rs c)

abbrev pub rule_for : List Range → ℕ → ℕ
rule_for [] c = 0
rule_for (r ∷ rs) c = cond (covers r c) r.rule (rule_for rs c)

-- 1 where a record that names it has the label read-write, else 0
abbrev pub label_for : List Range → ℕ → ℕ
label_for [] c = 0
label_for (r ∷ rs) c = cond (covers r c && r.label == 1) 1 (label_for rs c)

-- "fewer than 1 or more than 64 records" (question 20)
abbrev pub max_ranges : ℕ
max_ranges = 64

abbrev pub list_ok : List Range → Bool
list_ok rs = nat_le 1 (length rs) && nat_le (length rs) max_ranges

-- the list of one record: the plain add's
abbrev pub one_range : (first n kind rule label : ℕ) → List Range
one_range first n k u l = record { first = first; count = n; kind = k; rule = u; label = l } ∷ []
