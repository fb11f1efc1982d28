-- Cells and bodies: 64 bytes each, starting at 64 times their number.
use Rattle.std.specs.Prelude.{ℕ, ◌+◌, ◌≤◌, Bool, List, ◌≡◌, eqb, length, get_or, take, drop}
use Rattle.words.specs.Scan.{all}
use Rattle.words.specs.Layout.{cell_size, cell_at}
use Rattle.words.specs.Stores.{Store, ◌≔◌, stores, tab}

-- the bytes of cell or body c
abbrev pub cell_bytes : List ℕ → ℕ → List ℕ
cell_bytes s c = take cell_size (drop (cell_at c) s)

-- does the list have cell or body c?
abbrev pub HasCell : List ℕ → ℕ → Type 0
HasCell s c = cell_at c + cell_size ≤ length s

-- do two cells' bytes agree?
unfoldable pub same_cell : List ℕ → List ℕ → Bool
same_cell a b = all cell_size (λ k. eqb (get_or a k 0) (get_or b k 0))

-- copy the 64 bytes of s over the first 64, rising
unfoldable pub copy_plan : List ℕ → List Store
copy_plan s = tab cell_size (λ j. j ≔ get_or s j 0)

-- x is d with the first n of the 64 bytes of s copied over it
abbrev pub Copied : (s d : List ℕ) (n : ℕ) (x : List ℕ) → Type 0
Copied s d n x = x ≡ stores (take n (copy_plan s)) d

-- copy cell `from` of s over cell `to`, rising
unfoldable pub cell_plan : List ℕ → ℕ → ℕ → List Store
cell_plan s from to = tab cell_size (λ j. cell_at to + j ≔ get_or s (cell_at from + j) 0)
