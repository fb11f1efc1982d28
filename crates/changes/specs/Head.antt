-- The words of the head that change.
use Rattle.std.specs.Prelude.{ℕ, List, map, take}
use Rattle.words.specs.Stores.{Store, ◌≔◌}
use Rattle.changes.specs.declared.head_words.Head.{Head}

-- as the stores that they are, in their order
abbrev pub word_store : ℕ × ℕ → Store
word_store w = w.0 ≔ w.1

abbrev pub head_stores : Head → List Store
head_stores h = map word_store (take h.count h.words)

-- and how many they are
abbrev pub head_count : Head → ℕ
head_count h = h.count
