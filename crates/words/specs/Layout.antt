-- Document 01, "Three lent buffers": where everything stands. Other files use these names; the numbers stand here alone.
use Rattle.std.specs.Prelude.{ℕ, ◌+◌, ◌-◌, ◌*◌, ◌/◌, ◌%◌}

-- ---- cells and bodies

-- so many bytes each
abbrev pub cell_size : ℕ
cell_size = 64

-- the first byte of cell c of memory, or of body c of the bodies
abbrev pub cell_at : ℕ → ℕ
cell_at c = cell_size * c

-- how many cells a buffer of so many bytes has
abbrev pub cells_of : ℕ → ℕ
cells_of bytes = bytes / cell_size

-- and how many bodies
abbrev pub bodies_of : ℕ → ℕ
bodies_of bytes = bytes / cell_size

abbrev pub max_cells : ℕ
max_cells = 65_536

abbrev pub max_bodies : ℕ
max_bodies = 4_096

-- ---- the table: e is its number of entry slots (document 01: entry places, E)

abbrev pub max_slots : ℕ
max_slots = 4_096

abbrev pub table_words : ℕ → ℕ
table_words e = 36 + 6 * e

-- how many entry slots a table of so many words has
abbrev pub slots_of : ℕ → ℕ
slots_of words = (words - 36) / 6

-- word 0 of every store
abbrev pub magic : ℕ
magic = 0xCD51_1E01

-- the number of each word of the head
abbrev pub magic_at : ℕ
magic_at = 0

abbrev pub cells_at : ℕ
cells_at = 1

abbrev pub slots_at : ℕ
slots_at = 2

abbrev pub bodies_at : ℕ
bodies_at = 3

abbrev pub live_at : ℕ
live_at = 4

abbrev pub next_at : ℕ
next_at = 5

abbrev pub pending_at : ℕ
pending_at = 6

abbrev pub zero_at : ℕ
zero_at = 7

-- the handle of live domain k, counted from 0 at the outermost
abbrev pub handle_at : ℕ → ℕ
handle_at k = 8 + k

abbrev pub max_live : ℕ
max_live = 8

-- the two words of entry i
abbrev pub first_at : ℕ → ℕ → ℕ
first_at e i = 16 + 2 * i

abbrev pub second_at : ℕ → ℕ → ℕ
second_at e i = 17 + 2 * i

-- the last word in front of the pairs
abbrev pub last_at : ℕ → ℕ
last_at e = 15 + 2 * e

-- where the entries end and the pairs begin
abbrev pub pairs_at : ℕ → ℕ
pairs_at e = 16 + 2 * e

-- how many pairs there is room for
abbrev pub max_pairs : ℕ → ℕ
max_pairs e = 2 * e + 10

-- ---- groups: a run of 64-bit numbers has a bit for each cell or slot, so that these stand in groups of 64; none of this is document 01's

abbrev pub group_size : ℕ
group_size = 64

-- the first of group k
abbrev pub group_at : ℕ → ℕ
group_at k = group_size * k

-- the group of the i-th, and its place in it
abbrev pub group_of : ℕ → ℕ
group_of i = i / group_size

abbrev pub in_group : ℕ → ℕ
in_group i = i % group_size
