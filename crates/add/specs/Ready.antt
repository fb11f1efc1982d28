-- What add's questions leave, once none refuses it.
use Rattle.std.specs.Prelude.{ℕ, ◌+◌, ◌≤◌, ◌<◌, ◌≡◌, true, false, List, length}
use Rattle.words.specs.Layout.{cells_of, bodies_of, slots_of}
use Rattle.words.specs.Scan.{count}
use Rattle.ranges.specs.declared.Range.{Range}
use Rattle.ranges.specs.Ranges.{named, kind_for, rule_for}
use Rattle.patterns.specs.Pattern.{max_rule}
use Rattle.table.specs.Entry.{live, innermost, parent, parent_has}
use Rattle.search.specs.Search.{ruled_in}
use Rattle.search.specs.Free.{used_slots, copies}
use Rattle.store.specs.Checks.{store_check, lent}
use Rattle.add.specs.Add.{is_new, is_new_copy}

-- what the questions leave, for the list rs
pub record Ready (memory bodies t : List ℕ) (rs : List Range) : Type 0 where
  pub store : store_check (lent (length memory) (length bodies) t) ≡ 0
  pub inner : 1 ≤ live t
  pub within : (c : ℕ) → named rs c ≡ true → c < cells_of (length memory)
  pub kind : (c : ℕ) → named rs c ≡ true → kind_for rs c ≤ 2
  pub rests : (c : ℕ) → is_new (slots_of (length t)) t rs c ≡ true → kind_for rs c ≡ 1 → parent_has (slots_of (length t)) t (innermost t) c ≡ true
  pub plain : (c : ℕ) → is_new (slots_of (length t)) t rs c ≡ true → kind_for rs c ≡ 1 → ruled_in (slots_of (length t)) t (parent (innermost t)) c ≡ false
  pub rule : (c : ℕ) → is_new (slots_of (length t)) t rs c ≡ true → kind_for rs c ≡ 2 → rule_for rs c ≤ max_rule
  pub slots : used_slots (slots_of (length t)) t + count (cells_of (length memory)) (is_new (slots_of (length t)) t rs) ≤ slots_of (length t)
  pub places : copies (slots_of (length t)) t + count (cells_of (length memory)) (is_new_copy (slots_of (length t)) t rs) ≤ bodies_of (length bodies)
