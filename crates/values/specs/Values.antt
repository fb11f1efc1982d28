-- Memory compared with what is held.
use Rattle.std.specs.Prelude.{ℕ, Bool, not, ◌&&◌, List, eqb}
use Rattle.words.specs.Cells.{cell_bytes, same_cell}
use Rattle.table.specs.Entry.{word1, depth_of, writable_of, cell_of}
use Rattle.search.specs.Search.{value_in}

-- "cells whose memory differs from the held value": has memory the value that the domain at depth d holds of cell c, through the chain for via
-- parent, by its rule for a pattern?
abbrev pub unchanged : (memory bodies : List ℕ) (e : ℕ) (t : List ℕ) (d c : ℕ) → Bool
unchanged memory bodies e t d c = same_cell (value_in e t bodies d c) (cell_bytes memory c)

-- an entry with first word w is read-write and of depth d
abbrev pub writes : (d w : ℕ) → Bool
writes d w = eqb (depth_of w) d && eqb (writable_of w) 1

-- entry i is a read-write one of the domain at depth d, and memory has other bytes than its value
abbrev pub entry_changed : (memory bodies : List ℕ) (e : ℕ) (t : List ℕ) (d : ℕ) → ℕ → Bool
entry_changed memory bodies e t d i = writes d (word1 e t i) && not (unchanged memory bodies e t d (cell_of (word1 e t i)))
