-- What is taken of a list and staged, of what the taking reads.
use Rattle.std.specs.Prelude.{ℕ, ◌≤◌, ◌<◌, List, length}
use Rattle.words.specs.Layout.{cells_of, bodies_of, slots_of}
use Rattle.words.specs.Scan.{count}
use Rattle.ranges.specs.declared.Range.{Range}
use Rattle.ranges.specs.Lists.{Asks}
use Rattle.search.specs.Free.{end_of}
use Rattle.table.specs.Entry.{kind_number, label_number}
use Rattle.add.specs.Add.{is_new}
use Rattle.add.specs.Walking.{Stand, Standing, Copied}
use Rattle.add.specs.declared.taking.Taking.{Taking}
use Rattle.add.specs.declared.cells.Asked.{Asked}

-- the words of the table, its slots, how many bodies there are, and the ranges
abbrev pub words_lent : Taking → List ℕ
words_lent w = w.entries.words.now

abbrev pub slots_lent : Taking → ℕ
slots_lent w = slots_of (length (words_lent w))

abbrev pub places : Taking → ℕ
places w = bodies_of w.room

abbrev pub ranges_lent : Taking → List Range
ranges_lent w = w.list.ranges.now

-- no entry from here on changes
abbrev pub last_taken : Taking → ℕ
last_taken w = end_of (slots_lent w) (count (cells_of (length w.memory.now)) (is_new (slots_lent w) (words_lent w) (ranges_lent w))) w.entries.top

-- where taking stands, and which bytes it has copied on the way
abbrev pub Stands : Taking → (bodies : List ℕ) → Stand → (words bits : List ℕ) → Type 0
Stands w bodies s words bits = Standing w.memory.now bodies (words_lent w) (ranges_lent w) s words bits

abbrev pub Copies : Taking → (budget : ℕ) → (v s : Stand) → (bodies bodies' : List ℕ) → Type 0
Copies w budget v s bodies bodies' = Copied w.memory.now (words_lent w) (ranges_lent w) budget v s bodies bodies'

-- the list asks this of each cell from `at` to before `end`, which lie in memory
pub record AsksEach (w : Taking) (at end : ℕ) (a : Asked) : Type 0 where
  pub some : at < end
  pub high : end ≤ cells_of (length w.memory.now)
  pub asks : (c : ℕ) → at ≤ c → c < end → Asks (ranges_lent w) c (kind_number a.kind) a.rule (label_number a.label)
