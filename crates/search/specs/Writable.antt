-- Which cells a domain holds read-write, told by the marks of all entries once its read-only entries have taken their depth out.
use Rattle.std.specs.Prelude.{◌≡◌, ℕ, ◌-◌, ◌/◌, ◌^◌, cond, ◌&&◌, List, ◌==◌, ◌≢◌}
use Rattle.table.specs.Entry.{depth_of, cell_of, writable_of, writes_in}
use Rattle.marks.specs.Blocks.{mark_of, OneMark}
use Rattle.table.specs.Marks.{has, mark_at}

-- a mark with one depth less
abbrev pub without_depth : ℕ → ℕ → ℕ
without_depth d mark = mark - 2 ^ d / 2

-- the depth that an entry with first word w takes out of its cell's mark: d, if it is of depth d and read-only; else 0, which takes nothing
unfoldable pub taken_by : ℕ → ℕ → ℕ
taken_by d w = cond (depth_of w == d && writable_of w == 0) d 0

-- the marks after that entry
abbrev pub KeepsCell : (d w : ℕ) (before after : List ℕ) → Type 0
KeepsCell d w before after = OneMark before (cell_of w) (without_depth (taken_by d w) (mark_at before w)) after

-- the marks `after` tell of depth d which cells it holds read-write, and of every other depth what the marks `before` tell
pub record TellWritable (e : ℕ) (t : List ℕ) (d : ℕ) (before after : List ℕ) : Type 0 where
  pub others : (k c : ℕ) → (k ≢ d) → has k (mark_of after c) ≡ has k (mark_of before c)
  pub writes : (c : ℕ) → has d (mark_of after c) ≡ writes_in e t d c
