-- Restore's stores by the parts that the code makes one after another.
use Rattle.std.specs.Prelude.{ℕ, ◌+◌, ◌*◌, ◌≤◌, cond, List, [], ◌∷◌, ◌++◌, ◌≡◌, length, take}
use Rattle.words.specs.Layout.{live_at, cell_size}
use Rattle.words.specs.Stores.{Store, ◌≔◌, stores, gather}
use Rattle.words.specs.Cells.{cell_plan}
use Rattle.table.specs.Changes.{entry_changes}
use Rattle.search.specs.Search.{held_from, bytes_from}
use Rattle.restore.specs.Restore.{cleared_handles, restore_change}

-- the bytes of cell c: none where nobody from depth d inwards holds it
abbrev pub back_plan : (e : ℕ) → List ℕ → (d : ℕ) → (bodies : List ℕ) → (c : ℕ) → List Store
back_plan e t d bodies c = cond (held_from e t d c) (cell_plan (bytes_from e t bodies d c) 0 c) []

-- the bytes of n cells from `from` on
abbrev pub group_plan : (e : ℕ) → List ℕ → (d : ℕ) → (bodies : List ℕ) → (from n : ℕ) → List Store
group_plan e t d bodies from n = gather n (λ j. back_plan e t d bodies (from + j))

-- bytes of at most n cells are stored in memory, at most k of them, which leaves `after`; r is how many they are uncut
pub record PutBack (bytes : List Store) (n k : ℕ) (memory : List ℕ) (r : ℕ) (after : List ℕ) : Type 0 where
  pub made : r ≡ length bytes
  pub few : r ≤ cell_size * n
  pub stored : after ≡ stores (take k bytes) memory

-- the words of the head, where n domains live and those inside depth d end
abbrev pub head_words : (d n : ℕ) → List Store
head_words d n = (live_at ≔ d) ∷ cleared_handles d n

-- and all the words then
abbrev pub ending_words : (e : ℕ) → List ℕ → (d n : ℕ) → List Store
ending_words e t d n = head_words d n ++ entry_changes e (restore_change e t d)
