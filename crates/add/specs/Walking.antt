-- Add's questions and changes as its code goes through them: over marks, one for each cell and one for each body, and over the ranges of the list.
-- d is the depth of the domain that is added to.
use Rattle.std.specs.Prelude.{ℕ, zero, suc, ◌+◌, ◌-◌, ◌*◌, ◌≤◌, ◌<◌, ◌≡◌, Bool, true, false, cond, not, ◌&&◌, ◌||◌, List, [], Result, Ok, Err, ltb, leb, eqb, length, take}
use Rattle.words.specs.Layout.{cell_at, cells_of, bodies_of, slots_of, max_cells, max_bodies, cell_size}
use Rattle.words.specs.Scan.{all, count, nth}
use Rattle.words.specs.Cells.{cell_bytes, same_cell, cell_plan}
use Rattle.words.specs.Stores.{Store, gather, stores}
use Rattle.ranges.specs.declared.Range.{Range}
use Rattle.ranges.specs.Ranges.{covers, named}
use Rattle.ranges.specs.Lists.{range_of}
use Rattle.patterns.specs.Pattern.{max_rule, pattern}
use Rattle.table.specs.Entry.{word1, word2, entry_word, second_word, is_pattern, innermost, parent, parent_has, holds_in}
use Rattle.marks.specs.Blocks.{cells_in}
use Rattle.table.specs.Marks.{mark_of, has, EndsAt}
use Rattle.table.specs.Changes.{Change, keep, put}
use Rattle.search.specs.Search.{source_in, value_in, ruled_in}
use Rattle.search.specs.Free.{slot_free, body_free, used_slots, copies, free_from, end_of, unmarked, unmarked_from}
use Rattle.changes.specs.Staged.{RoomFor, Restaged, Stages}
use Rattle.model.specs.Answer.{ask}
use Rattle.model.specs.Holdings.{ask_range}
use Rattle.store.specs.declared.answers.Refusal.{Refusal}
use Rattle.store.specs.declared.answers.Refusal.TheVariants.{MemoryDiffers}
use Rattle.add.specs.Add.{is_new, is_new_copy, raise_change, taken_first, taken_second, body_for, add_bytes, add_words}
use Rattle.add.specs.Ready.{Ready}
use Rattle.add.specs.declared.part.Part.{Part}
use Rattle.add.specs.declared.cursors.Cursors.{Cursors}

-- ---- which cells are new to a range that stands behind the ranges rs: those that the domain lacks and none of rs names

-- does the mark of cell c lack depth d?
abbrev pub lacks : List ℕ → (d c : ℕ) → Bool
lacks held d c = not (has d (mark_of held c))

-- by the words, and by the marks
abbrev pub new_to : ℕ → List ℕ → List Range → ℕ → Bool
new_to e t rs c = not (holds_in e t (innermost t) c) && not (named rs c)

abbrev pub fresh_to : List ℕ → ℕ → List Range → ℕ → Bool
fresh_to held d rs c = lacks held d c && not (named rs c)

-- ---- a range taken out of the list, and the first ones of the ranges before it, which alone need be asked

pub record PartOf (rs : List Range) (i : ℕ) (p : Part) : Type 0 where
  pub range : p.range ≡ range_of rs i
  pub seen : (length p.seen.now ≤ i) × (p.seen.now ≡ take (length p.seen.now) rs)
  pub same : (c : ℕ) → covers (range_of rs i) c ≡ true → named p.seen.now c ≡ named (take i rs) c

-- ---- the questions, `new` telling which cells are new

-- 11, 12 and 19, which are put for via parent
unfoldable pub parent_check : List ℕ → List ℕ → ℕ → List ℕ → (new : ℕ → Bool) → (base n : ℕ) → ℕ
parent_check memory bodies e t new base n =
    ask (all n (λ j. not (new (base + j)) || parent_has e t (innermost t) (base + j))) 11
    (ask (all n (λ j. not (new (base + j)) || same_cell (value_in e t bodies (parent (innermost t)) (base + j)) (cell_bytes memory (base + j)))) 12
    (ask (all n (λ j. not (new (base + j)) || not (ruled_in e t (parent (innermost t)) (base + j)))) 19 0))

-- 18, which is put for a rule
unfoldable pub rule_check : List ℕ → (new : ℕ → Bool) → (base n r : ℕ) → ℕ
rule_check memory new base n r =
    ask (leb r max_rule && all n (λ j. not (new (base + j)) || same_cell (pattern r) (cell_bytes memory (base + j)))) 18 0

-- those on values, by the kind; a copy is put none
abbrev pub value_check : List ℕ → List ℕ → ℕ → List ℕ → (new : ℕ → Bool) → (base n k r : ℕ) → ℕ
value_check memory bodies e t new base n zero r = 0
value_check memory bodies e t new base n (suc zero) r = parent_check memory bodies e t new base n
value_check memory bodies e t new base n (suc (suc k)) r = rule_check memory new base n r

-- all those on a range
abbrev pub part_check : List ℕ → List ℕ → ℕ → List ℕ → (new : ℕ → Bool) → (base n k r l : ℕ) → ℕ
part_check memory bodies e t new base n k r l =
    ask (leb k 2 && leb l 1) 7 (ask_range (cells_of (length memory)) base n (value_check memory bodies e t new base n k r))

-- 16 and 17, for so many new cells and so many of them copies
unfoldable pub room_check : ℕ → List ℕ → (b new more : ℕ) → ℕ
room_check e t b new more = ask (leb (used_slots e t + new) e) 16 (ask (leb (copies e t + more) b) 17 0)

-- 11, 12 and 19 of one cell: where it is new, the parent has it, by the marks; memory has its value; and that comes from no rule
abbrev pub backed : List ℕ → (d : ℕ) → (new : ℕ → Bool) → (c : ℕ) → Bool
backed held d new c = not (new c) || not (lacks held (parent d) c)

abbrev pub alike : List ℕ → List ℕ → ℕ → List ℕ → (d : ℕ) → (new : ℕ → Bool) → (c : ℕ) → Bool
alike memory bodies e t d new c = not (new c) || same_cell (value_in e t bodies (parent d) c) (cell_bytes memory c)

abbrev pub unruled : ℕ → List ℕ → (d : ℕ) → (new : ℕ → Bool) → (c : ℕ) → Bool
unruled e t d new c = not (new c) || not (ruled_in e t (parent d) c)

-- 12 of one cell that may be new, and whether its value comes from a rule; and 12 and 19 of a range, each for all its cells before the next
abbrev pub told_by : (same ruled : Bool) → Result Bool Refusal
told_by same ruled = cond same (Ok ruled) (Err MemoryDiffers)

abbrev pub cell_told : List ℕ → List ℕ → ℕ → List ℕ → (d : ℕ) → (new : ℕ → Bool) → (c : ℕ) → Result Bool Refusal
cell_told memory bodies e t d new c = told_by (alike memory bodies e t d new c) (not (unruled e t d new c))

unfoldable pub range_number : List ℕ → List ℕ → ℕ → List ℕ → (d : ℕ) → (new : ℕ → Bool) → (base n : ℕ) → ℕ
range_number memory bodies e t d new base n =
    ask (all n (λ j. alike memory bodies e t d new (base + j))) 12 (ask (all n (λ j. unruled e t d new (base + j))) 19 0)

-- has memory the 64 bytes of v in cell c, where it is new?
abbrev pub follows : List ℕ → List ℕ → (new : ℕ → Bool) → (c : ℕ) → Bool
follows memory v new c = not (new c) || same_cell v (cell_bytes memory c)

-- the entry behind cell c of the domain at depth d, and a copy's body
pub record Source (e : ℕ) (t bodies : List ℕ) (d c : ℕ) : Type 0 where
  pub slot : source_in e t d c < e
  pub fits : is_pattern (word1 e t (source_in e t d c)) ≡ false → cell_at (word2 e t (source_in e t d c)) + cell_size ≤ length bodies

-- marks of cells tell which domains hold which cells, and marks of bodies which bodies are in use
abbrev pub CellsTold : ℕ → List ℕ → List ℕ → Type 0
CellsTold e t held = (d c : ℕ) → 1 ≤ d → has d (mark_of held c) ≡ holds_in e t d c

abbrev pub BodiesTold : ℕ → List ℕ → List ℕ → Type 0
BodiesTold e t used = (k : ℕ) → unmarked used k ≡ body_free e t k

-- so many copies among so many new cells of one kind
abbrev pub copies_of : (k n : ℕ) → ℕ
copies_of k n = cond (eqb k 0) n 0

-- what is counted of the list: its newly held cells, and those of them by copy
pub record Counted (m e : ℕ) (t : List ℕ) (rs : List Range) (new more : ℕ) : Type 0 where
  pub cells : new ≡ count m (is_new e t rs)
  pub copies : more ≡ count m (is_new_copy e t rs)

-- ---- the bytes and words: cells are taken in their order, each with the next free slot and, as a copy, the next free body

-- the next body for a cell of this kind: without a mark if it is a copy; else the place stays
abbrev pub body_beyond : List ℕ → (b k from : ℕ) → ℕ
body_beyond used b k from = cond (eqb k 0) (unmarked_from b used from) from

-- the bytes of cell c, and of the cells before it
abbrev pub bytes_at : (b : ℕ) → (memory t : List ℕ) → List Range → ℕ → List Store
bytes_at b memory t rs c =
    cond (is_new_copy (slots_of (length t)) t rs c) (cell_plan memory c (body_for (slots_of (length t)) b t rs c)) []

-- the r-th free slot takes the r-th new cell of m
unfoldable pub take_change : (m e b : ℕ) → List ℕ → List Range → ℕ → Change
take_change m e b t rs i =
    let c = nth m (is_new e t rs) (count i (slot_free e t)) in
    cond (slot_free e t i)
    (cond (ltb (count i (slot_free e t)) (count m (is_new e t rs))) (put (taken_first t rs c) (taken_second rs (body_for e b t rs c) c)) keep) keep

-- and the labels of the first n entries rise
unfoldable pub list_change : (m e b : ℕ) → List ℕ → List Range → (n i : ℕ) → Change
list_change m e b t rs n i =
    cond (slot_free e t i) (take_change m e b t rs i) (cond (ltb i n) (raise_change (innermost t) rs (word1 e t i) (word2 e t i)) keep)

-- what taking asks: no question refuses the list, and the marks are right
pub record Takeable (memory bodies t held used : List ℕ) (rs : List Range) : Type 0 where
  pub ready : Ready memory bodies t rs
  pub holders : CellsTold (slots_of (length t)) t held
  pub in_use : BodiesTold (slots_of (length t)) t used
  pub cells : max_cells ≤ cells_in held
  pub places : length used ≡ max_bodies

-- there is room to stage all that changes, `top` being how far entries in use reach: the lowest free slots are taken, one for each new cell
pub record RoomToTake (memory t : List ℕ) (rs : List Range) (words bits : List ℕ) : Type 0 where
  pub top : ℕ
  pub ends : EndsAt (slots_of (length t)) t top
  pub room : RoomFor (end_of (slots_of (length t)) (count (cells_of (length memory)) (is_new (slots_of (length t)) t rs)) top) words bits

-- what is lent to take the cells has as many bytes of bodies as this, whatever they are
abbrev pub AbleToTake : (memory : List ℕ) (n : ℕ) (t held used : List ℕ) (rs : List Range) → Type 0
AbleToTake memory n t held used rs = (bodies : List ℕ) → length bodies ≡ n → Takeable memory bodies t held used rs

-- where taking stands: at a cell, with the cursors w
pub record Stand : Type 0 where
  pub at : ℕ
  pub slot : ℕ
  pub body : ℕ
  pub made : ℕ

abbrev pub stand : ℕ → Cursors → Stand
stand c w = record { at = c; slot = w.slot; body = w.body; made = w.made }

-- the cells before w.at are taken, and their entries staged
pub record Standing (memory bodies t : List ℕ) (rs : List Range) (w : Stand) (words bits : List ℕ) : Type 0 where
  pub cell : w.at ≤ cells_of (length memory)
  pub slot : w.slot ≤ slots_of (length t)
  pub slots : count w.slot (slot_free (slots_of (length t)) t) ≡ count w.at (is_new (slots_of (length t)) t rs)
  pub body : w.body ≤ bodies_of (length bodies)
  pub copies : count w.body (body_free (slots_of (length t)) t) ≡ count w.at (is_new_copy (slots_of (length t)) t rs)
  pub made : w.made ≤ cell_size * w.at
  pub staged : Stages w.slot (take_change (cells_of (length memory)) (slots_of (length t)) (bodies_of (length bodies)) t rs) words bits

-- the bytes of the cells from v.at to before w.at, which are stored as far as the budget goes
pub record Copied (memory t : List ℕ) (rs : List Range) (budget : ℕ) (v w : Stand) (bodies bodies' : List ℕ) : Type 0 where
  pub on : v.at ≤ w.at
  pub made : w.made ≡ v.made + length (gather (w.at - v.at) (λ j. bytes_at (bodies_of (length bodies)) memory t rs (v.at + j)))
  pub bytes : bodies' ≡ stores (take (budget - v.made) (gather (w.at - v.at) (λ j. bytes_at (bodies_of (length bodies)) memory t rs (v.at + j)))) bodies

-- where taking stands once cell w .at is taken, as kind k
abbrev pub took_cell : (e b : ℕ) → (t used : List ℕ) → (k : ℕ) → Stand → Stand
took_cell e b t used k w = record {
  at = w.at + 1;
  slot = free_from e t w.slot + 1;
  body = cond (eqb k 0) (unmarked_from b used w.body + 1) w.body;
  made = w.made + cond (eqb k 0) cell_size 0;
}

abbrev pub passed_cell : Stand → Stand
passed_cell w = record { at = w.at + 1; slot = w.slot; body = w.body; made = w.made }

-- its bytes, and its entry staged where it is new
abbrev pub cell_bytes_of : (b : ℕ) → (memory used : List ℕ) → (k : ℕ) → Stand → List Store
cell_bytes_of b memory used k w = cond (eqb k 0) (cell_plan memory w.at (unmarked_from b used w.body)) []

pub record TookEntry (new : Bool) (e b : ℕ) (t used : List ℕ) (k r l : ℕ) (w : Stand) (words bits words' bits' : List ℕ) : Type 0 where
  pub put : new ≡ true → Restaged words bits (free_from e t w.slot)
      (put (entry_word (innermost t) k l w.at) (second_word k r (body_beyond used b k w.body))) words' bits'
  pub kept : new ≡ false → (words' ≡ words) × (bits' ≡ bits)

-- there is a slot for it, with room to stage it, and a body if it is a copy
pub record RoomForCell (e b : ℕ) (t used : List ℕ) (k : ℕ) (w : Stand) (words bits : List ℕ) : Type 0 where
  pub slot : free_from e t w.slot < e
  pub room : RoomFor (free_from e t w.slot + 1) words bits
  pub body : k ≡ 0 → unmarked_from b used w.body < b

-- ---- the labels

-- the change c of entry i is staged, if it is one
pub record Restages (i : ℕ) (c : Change) (words bits words' bits' : List ℕ) : Type 0 where
  pub put : (w v : ℕ) → c ≡ put w v → Restaged words bits i (put w v) words' bits'
  pub kept : c ≡ keep → (words' ≡ words) × (bits' ≡ bits)

-- all labels rise, behind whatever new entries
pub record Lifts (e : ℕ) (t : List ℕ) (rs : List Range) (words bits words' bits' : List ℕ) : Type 0 where
  pub of : (m b : ℕ) → Stages e (list_change m e b t rs 0) words bits → Stages e (list_change m e b t rs e) words' bits'

-- ---- the call

abbrev pub bytes_of : (memory bodies t : List ℕ) → List Range → List Store
bytes_of memory bodies t rs = add_bytes (bodies_of (length bodies)) memory t rs

abbrev pub words_of : (memory bodies t : List ℕ) → List Range → List Store
words_of memory bodies t rs = add_words (cells_of (length memory)) (bodies_of (length bodies)) t rs
