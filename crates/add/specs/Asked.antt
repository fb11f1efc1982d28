-- Add's questions on a range, of what they have before them.
use Rattle.std.specs.Prelude.{ℕ, ◌+◌, ◌≤◌, Bool, List, length}
use Rattle.words.specs.Layout.{cells_of, slots_of}
use Rattle.words.specs.Scan.{all, count}
use Rattle.ranges.specs.declared.Range.{Range}
use Rattle.table.specs.Entry.{live}
use Rattle.add.specs.Walking.{fresh_to, backed, follows, range_number, parent_check, rule_check, value_check, part_check}
use Rattle.add.specs.declared.asked.Asking.{Asking}
use Rattle.add.specs.declared.part.Part.{Part}

-- the words of the table, its slots, and the depth of the domain that is added to
abbrev pub table_of : Asking → List ℕ
table_of q = q.table.entries.words.now

abbrev pub slots_in : Asking → ℕ
slots_in q = slots_of (length (table_of q))

abbrev pub depth_in : Asking → ℕ
depth_in q = live (table_of q)

-- which cells are new to a range behind the ranges rs
abbrev pub newly : Asking → List Range → ℕ → Bool
newly q rs = fresh_to q.held.now (depth_in q) rs

-- a part lies in memory
abbrev pub Lies : Asking → Part → Type 0
Lies q p = p.range.first + p.range.count ≤ cells_of (length q.memory.now)

-- how many of its cells are new, and does the parent hold all of these?
abbrev pub new_count : Asking → Part → ℕ
new_count q p = count p.range.count (λ j. newly q p.seen.now (p.range.first + j))

abbrev pub all_backed : Asking → Part → Bool
all_backed q p = all p.range.count (λ j. backed q.held.now (depth_in q) (newly q p.seen.now) (p.range.first + j))

-- have they these 64 bytes in memory?
abbrev pub all_follow : Asking → (v : List ℕ) → Part → Bool
all_follow q v p = all p.range.count (λ j. follows q.memory.now v (newly q p.seen.now) (p.range.first + j))

-- 12 and 19; 11, 12 and 19; 18; those by the kind; and all those on a part
abbrev pub same_number : Asking → Part → ℕ
same_number q p = range_number q.memory.now q.bodies.now (slots_in q) (table_of q) (depth_in q) (newly q p.seen.now) p.range.first p.range.count

abbrev pub parent_number : Asking → Part → ℕ
parent_number q p = parent_check q.memory.now q.bodies.now (slots_in q) (table_of q) (newly q p.seen.now) p.range.first p.range.count

abbrev pub rule_number : Asking → Part → ℕ
rule_number q p = rule_check q.memory.now (newly q p.seen.now) p.range.first p.range.count p.range.rule

abbrev pub values_number : Asking → Part → ℕ → ℕ
values_number q p k = value_check q.memory.now q.bodies.now (slots_in q) (table_of q) (newly q p.seen.now) p.range.first p.range.count k p.range.rule

abbrev pub part_number : Asking → Part → ℕ
part_number q p =
    part_check q.memory.now q.bodies.now (slots_in q) (table_of q) (newly q p.seen.now) p.range.first p.range.count p.range.kind p.range.rule p.range.label
