-- Changes of many entries at once, entry by entry.
use Rattle.std.specs.Prelude.{ℕ, Bool, true, false, List, [], ◌∷◌}
use Rattle.words.specs.Layout.{first_at, second_at}
use Rattle.words.specs.Stores.{Store, ◌≔◌, gather}

-- an entry is kept as it is, or gets two new words
pub data Change : Type 0 where
  keep : Change
  put : (first second : ℕ) → Change

abbrev pub is_changed : Change → Bool
is_changed keep = false
is_changed (put w v) = true

abbrev pub new_first : Change → ℕ → ℕ
new_first keep w = w
new_first (put w v) _ = w

abbrev pub new_second : Change → ℕ → ℕ
new_second keep v = v
new_second (put w v) _ = v

-- "p is 2 for each entry taken, changed or freed": both words, also where one of them stays equal
abbrev pub entry_stores : (e i : ℕ) → Change → List Store
entry_stores e i keep = []
entry_stores e i (put w v) = (first_at e i ≔ w) ∷ (second_at e i ≔ v) ∷ []

-- the changes of all entries, in the order of their word numbers
abbrev pub entry_changes : (e : ℕ) → (ℕ → Change) → List Store
entry_changes e f = gather e (λ i. entry_stores e i (f i))
