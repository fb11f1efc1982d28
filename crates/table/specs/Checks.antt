-- Document 01, questions 1 and 2: the three lengths, and words 0 to 3 and 7.
use Rattle.std.specs.Prelude.{ℕ, Bool, ◌&&◌, List, length, get_or, leb, eqb}
use Rattle.words.specs.Layout.{cell_at, cells_of, bodies_of, max_cells, max_bodies, max_slots, table_words, slots_of, magic, magic_at, cells_at, slots_at, bodies_at, zero_at}

-- "from 1 to most"
abbrev pub between1 : ℕ → ℕ → Bool
between1 n most = leb 1 n && leb n most

-- question 1: memory exactly 64 × m bytes, bodies 64 × B, the table 36 + 6E words
unfoldable pub lengths_ok : ℕ → ℕ → ℕ → Bool
lengths_ok memory bodies table =
    (between1 (cells_of memory) max_cells && eqb memory (cell_at (cells_of memory)))
    && ((between1 (bodies_of bodies) max_bodies && eqb bodies (cell_at (bodies_of bodies)))
    && (between1 (slots_of table) max_slots && eqb table (table_words (slots_of table))))

-- question 2, for buffers with so many bytes
unfoldable pub header_ok : ℕ → ℕ → List ℕ → Bool
header_ok memory bodies t =
    eqb (get_or t magic_at 0) magic
    && (eqb (get_or t cells_at 0) (cells_of memory)
    && (eqb (get_or t slots_at 0) (slots_of (length t))
    && (eqb (get_or t bodies_at 0) (bodies_of bodies) && eqb (get_or t zero_at 0) 0)))
