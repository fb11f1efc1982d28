-- What delete's code asks of an entry, and what it leaves of a table.
use Rattle.std.specs.Prelude.{ℕ, Bool, ◌&&◌, eqb}
use Rattle.table.specs.Entry.{depth_of, cell_of, is_via}
use Rattle.model.specs.Holdings.{in_range}

-- is an entry with first word w of depth d and of one of n cells from `first` on?
abbrev pub in_cells : (d first n w : ℕ) → Bool
in_cells d first n w = eqb (depth_of w) d && in_range first n (cell_of w)

-- is it via parent as well?
abbrev pub via_word : (d first n w : ℕ) → Bool
via_word d first n w = is_via w && in_cells d first n w
