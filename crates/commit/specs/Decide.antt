-- What commit's code asks of an entry's first word and of the mark of its cell.
use Rattle.std.specs.Prelude.{ℕ, ◌≤◌, Bool, not, ◌&&◌, ◌||◌, List, ◌≡◌, eqb}
use Rattle.table.specs.Entry.{depth_of, writable_of, has_parent, parent, holds_in, writes_in}
use Rattle.table.specs.Marks.{mark_of, has}

-- with d the innermost depth and w an entry's first word: it is innermost and moves out, `outer` saying whether the parent holds its cell
abbrev pub moves : (d w : ℕ) → (outer : Bool) → Bool
moves d w outer = eqb (depth_of w) d && (has_parent d && not outer)

-- can it change, whatever the marks tell?
abbrev pub concerned : (d w : ℕ) → Bool
concerned d w = eqb (depth_of w) d || (has_parent d && (eqb (depth_of w) (parent d) && eqb (writable_of w) 0))

-- the marks tell of the innermost depth d which cells it holds read-write, and of its parent, where it has one, which it holds
pub record TellsBoth (e : ℕ) (t : List ℕ) (d : ℕ) (seen : List ℕ) : Type 0 where
  pub inner : 2 ≤ d → (c : ℕ) → has d (mark_of seen c) ≡ writes_in e t d c
  pub outer : 2 ≤ d → (c : ℕ) → has (parent d) (mark_of seen c) ≡ holds_in e t (parent d) c
