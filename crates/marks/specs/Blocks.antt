-- Marks of cells, a byte each, kept in blocks of 64 that are taken as cells are marked: they cost what the table has and not what memory has.
-- In front stands the directory, in numbers of two bytes: how many blocks are taken, then for each group of 64 cells the number of its block, 0
-- where it has none. The blocks stand behind it. Block 0 belongs to no group and is blank.
use Rattle.std.specs.Prelude.{ℕ, zero, suc, ◌+◌, ◌-◌, ◌*◌, ◌/◌, ◌%◌, ◌^◌, ◌<◌, ◌≤◌, min, Bool, cond, not, List, ◌≡◌, ltb, leb, eqb, length, get_or, set, replicate}
use Rattle.std.specs.Int.Bits.{bit_and}
use Rattle.words.specs.Layout.{max_cells, group_size, group_at, group_of, in_group}
use Rattle.words.specs.Scan.{count}

-- ---- a mark: the set of the depths that hold the cell, depth d as bit d - 1

-- does a mark have depth d? It has no depth 0, which free entries have
abbrev pub has : ℕ → ℕ → Bool
has d mark = eqb (2 * mark / 2 ^ d % 2) 1

-- a mark with one depth more
abbrev pub with_depth : ℕ → ℕ → ℕ
with_depth d mark = mark + 2 ^ d / 2

-- ---- none made yet

abbrev pub Blank : List ℕ → Type 0
Blank marks = (k : ℕ) → get_or marks k 0 ≡ 0

unfoldable pub zeros : ℕ → List ℕ
zeros n = replicate n 0

-- ---- the directory

-- its k-th number, the low byte first
unfoldable pub number : List ℕ → ℕ → ℕ
number seen k = get_or seen (2 * k) 0 + 256 * get_or seen (2 * k + 1) 0

-- and with another k-th number
unfoldable pub put_number : List ℕ → ℕ → ℕ → List ℕ
put_number seen k x = set (set seen (2 * k) (x % 256)) (2 * k + 1) (x / 256)

-- how many blocks are taken, and the block of group g
abbrev pub taken : List ℕ → ℕ
taken seen = number seen 0

abbrev pub block_of : List ℕ → ℕ → ℕ
block_of seen g = number seen (1 + g)

abbrev pub owns : List ℕ → ℕ → Bool
owns seen g = not (eqb (block_of seen g) 0)

-- as many groups as the largest memory has
abbrev pub max_groups : ℕ
max_groups = 1_024

-- as many as a memory of m cells has
abbrev pub groups_for : ℕ → ℕ
groups_for m = group_of (min m max_cells + (group_size - 1))

-- ---- the blocks

-- where the directory ends, and block k begins
abbrev pub directory_end : ℕ
directory_end = 2_112

abbrev pub block_at : ℕ → ℕ
block_at k = directory_end + group_at k

unfoldable pub place_of : List ℕ → ℕ → ℕ
place_of seen c = block_at (block_of seen (group_of c)) + in_group c

-- the mark of cell c
unfoldable pub mark_of : List ℕ → ℕ → ℕ
mark_of seen c = cond (ltb c max_cells) (get_or seen (place_of seen c) 0) 0

-- how many cells have a mark that can be read: all, if there is a directory
unfoldable pub cells_in : List ℕ → ℕ
cells_in seen = cond (leb directory_end (length seen)) max_cells 0

-- no block belongs to two groups, the blocks taken are the first ones, and all others are blank
pub record Kept (seen : List ℕ) : Type 0 where
  pub own : (g h : ℕ) → g < max_groups → h < max_groups → 1 ≤ block_of seen g → block_of seen g ≡ block_of seen h → g ≡ h
  pub low : (g : ℕ) → g < max_groups → block_of seen g ≤ taken seen
  pub counted : taken seen ≡ count max_groups (owns seen)
  pub room : block_at (taken seen + 1) ≤ length seen
  pub front : (k : ℕ) → k < group_size → get_or seen (directory_end + k) 0 ≡ 0
  pub behind : (k : ℕ) → block_at (taken seen + 1) ≤ k → get_or seen k 0 ≡ 0

-- no group outside a memory of m cells has a block
abbrev pub Outside : ℕ → List ℕ → Type 0
Outside m seen = (g : ℕ) → groups_for m ≤ g → g < max_groups → block_of seen g ≡ 0

-- ---- a cell is marked

-- once group g has a block
unfoldable pub with_block : List ℕ → ℕ → List ℕ
with_block seen g = cond (eqb (block_of seen g) 0) (put_number (put_number seen (1 + g) (taken seen + 1)) 0 (taken seen + 1)) seen

-- the marks once depth d holds cell c: its group has a block, and its mark has the depth
unfoldable pub mark_cell : (d c : ℕ) → List ℕ → List ℕ
mark_cell d c seen =
    let got = with_block seen (group_of c) in
    set got (place_of got c) (with_depth d (mark_of seen c))

-- there is a block left for group g, if it has none
abbrev pub Spare : List ℕ → ℕ → Type 0
Spare seen g = block_of seen g ≡ 0 → block_at (taken seen + 2) ≤ length seen

-- there are blocks for the cells of n entries, in a memory of m cells
abbrev pub Room : ℕ → ℕ → List ℕ → Type 0
Room n m seen = block_at (min n (groups_for m) + 1) ≤ length seen

-- so many blocks are enough for them
abbrev pub Enough : ℕ → ℕ → ℕ → Type 0
Enough k n m = min n (groups_for m) ≤ k

-- as many bytes as the marks of the largest memory take
abbrev pub most_bytes : ℕ
most_bytes = block_at (max_groups + 1)

-- so many bytes are enough for them, and no more than there may be
abbrev pub EnoughBytes : ℕ → ℕ → ℕ → Type 0
EnoughBytes bytes n m = (bytes ≤ most_bytes) × (block_at (min n (groups_for m) + 1) ≤ bytes)

-- cell c has mark v, and every other the mark that it had
abbrev pub OneMark : (before : List ℕ) (c v : ℕ) (after : List ℕ) → Type 0
OneMark before c v after = (k : ℕ) → mark_of after k ≡ cond (eqb k c) v (mark_of before k)

-- ---- a run of cells: so many, whose marks are told as one number, a byte each and the first cell's lowest

abbrev pub run_size : ℕ
run_size = 8

abbrev pub run_of : ℕ → ℕ
run_of c = c / run_size

-- n bytes of a list from place k on
unfoldable pub packed : List ℕ → (k n : ℕ) → ℕ
packed l k zero = 0
packed l k (suc n) = packed l (suc k) n * 256 + get_or l k 0

-- a mask n times side by side
unfoldable pub spread : (mask n : ℕ) → ℕ
spread mask zero = 0
spread mask (suc n) = spread mask n * 256 + mask

-- what the marks of n cells from c on have of a mask
unfoldable pub run_held : List ℕ → (mask c n : ℕ) → ℕ
run_held seen mask c zero = 0
run_held seen mask c (suc n) = run_held seen mask (suc c) n * 256 + bit_and (mark_of seen c) mask
