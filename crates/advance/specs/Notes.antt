-- What the parts of advance's code pass on to each other: which cells advance, as bits; the list of the entries that advance, in the order of
-- their cells; what is staged for them; and what is given outwards.
use Rattle.std.specs.Prelude.{ℕ, ◌+◌, ◌*◌, ◌≤◌, ◌<◌, Bool, true, false, cond, not, ◌&&◌, ◌≡◌, List, leb, ltb, length, get_or, set}
use Rattle.words.specs.Layout.{cells_of, bodies_of, slots_of, pairs_at, max_slots, max_live, group_at, group_of, in_group}
use Rattle.words.specs.Scan.{count, nth}
use Rattle.words.specs.Stores.{tab}
use Rattle.table.specs.Entry.{live, word1, word2, depth_of, cell_of, outward, innermost, parent}
use Rattle.marks.specs.Blocks.{block_of, block_at, max_groups, Kept}
use Rattle.table.specs.Marks.{Marks, Marked, IsCopy, EndsAt, cell_in, has, mark_at}
use Rattle.table.specs.Rule.{rule_ok}
use Rattle.table.specs.Changes.{Change, keep, put}
use Rattle.search.specs.Free.{slot_free, used_slots, copies, lowest_free, free_from, unmarked}
use Rattle.values.specs.Values.{entry_changed}
use Rattle.changes.specs.Staged.{with_bit, is_set, Restaged, Stages}
use Rattle.model.specs.Answer.{ask}
use Rattle.store.specs.Outcome.{Buffers, Call, perform, change_plan}
use Rattle.store.specs.Checks.{store_check, lent_of}
use Rattle.advance.specs.Advance.{advances, parent_lacks, gives, turns, turn_with, advance_bytes, advance_words}

-- ---- the questions, asked of the entries

-- does entry i advance, and is its cell given outwards?
abbrev pub entry_given : (memory bodies : List ℕ) (e : ℕ) → List ℕ → ℕ → Bool
entry_given memory bodies e t i = entry_changed memory bodies e t (innermost t) i && parent_lacks e t (innermost t) (cell_of (word1 e t i))

-- questions 16 and 17, asked of e entries
abbrev pub entries_check : (memory bodies : List ℕ) (e : ℕ) → List ℕ → ℕ
entries_check memory bodies e t =
    ask (leb (used_slots e t + count e (entry_given memory bodies e t)) e) 16
    (ask (leb (copies e t + count e (entry_changed memory bodies e t (innermost t))) (bodies_of (length bodies))) 17 0)

-- by marks of the cells: does the parent of the domain at depth d lack the cell of an entry with first word w? Is that cell given outwards, where the
-- cells that advance are those of which f holds?
abbrev pub lacks_it : (seen : List ℕ) (d w : ℕ) → Bool
lacks_it seen d w = not (has (parent d) (mark_at seen w))

abbrev pub gives_it : (seen : List ℕ) (d : ℕ) (f : ℕ → Bool) (w : ℕ) → Bool
gives_it seen d f w = turns d f w && lacks_it seen d w

-- what comparing them asks, where n domains are live and the marks of all entries are in `seen`
pub record Comparable (memory bodies : List ℕ) (e : ℕ) (t : List ℕ) (top n : ℕ) (seen : List ℕ) : Type 0 where
  pub slots : e ≤ max_slots
  pub words : pairs_at e ≤ length t
  pub right : rule_ok (cells_of (length memory)) e (bodies_of (length bodies)) t ≡ true
  pub ends : EndsAt e t top
  pub low : 1 ≤ n
  pub marked : Marked e t e seen
  pub kept : Kept seen

-- ---- which cells advance: a group of cells has a number whose bits are theirs

-- the groups from the g-th to the one before the h-th have no bit
abbrev pub NoBits : List ℕ → ℕ → ℕ → Type 0
NoBits groups g h = (k : ℕ) → g ≤ k → k < h → get_or groups k 0 ≡ 0

-- such numbers stand at the groups' blocks, as the marks' directory tells them: here they are in the order of the groups
unfoldable pub by_group : (seen numbers : List ℕ) → List ℕ
by_group seen numbers = tab max_groups (λ g. get_or numbers (block_of seen g) 0)

-- has cell c a bit?
abbrev pub has_bit : (seen bits : List ℕ) → ℕ → Bool
has_bit seen bits = is_set (by_group seen bits)

-- the directory is right, there is a number for each of its blocks, and block 0, which no group has, has no bit
pub record BlockBits (seen bits : List ℕ) : Type 0 where
  pub kept : Kept seen
  pub room : length seen ≤ block_at (length bits)
  pub front : get_or bits 0 0 ≡ 0

-- the numbers after an entry with first word w, whose cell's group has its number at k: one that advances sets its cell's bit
abbrev pub mark_turning : (goes : Bool) (w k : ℕ) → List ℕ → List ℕ
mark_turning goes w k bits = set bits k (with_bit goes (in_group (cell_of w)) (get_or bits k 0))

-- the bits set are those of the cells of the first k entries that advance, which `goes` tells
pub record TurnedBits (e : ℕ) (t : List ℕ) (goes : ℕ → Bool) (k : ℕ) (groups : List ℕ) : Type 0 where
  pub clear : (c : ℕ) → is_set groups c ≡ false → (j : ℕ) → j < k → goes j ≡ true → cell_in e t j ≡ c → ⊥
  pub found : (c : ℕ) → is_set groups c ≡ true → (j : ℕ) × (j < k) × (goes j ≡ true) × (cell_in e t j ≡ c)

-- of all entries, by the words of each, at the blocks of the groups; block 0 has no bit
pub record ChangedBits (memory bodies : List ℕ) (e : ℕ) (t : List ℕ) (n : ℕ) (seen bits : List ℕ) : Type 0 where
  pub turned : TurnedBits e t (entry_changed memory bodies e t n) e (by_group seen bits)
  pub front : get_or bits 0 0 ≡ 0

-- the bits set are those of the cells that advance
pub record CellBits (f : ℕ → Bool) (groups : List ℕ) : Type 0 where
  pub each : (c : ℕ) → is_set groups c ≡ f c

-- ---- a call that no question refuses

-- it can be carried out, and the bodies in use are marked
pub record Ready (b : Buffers) (used : List ℕ) : Type 0 where
  pub stands : store_check (lent_of b) ≡ 0
  pub lives : 1 ≤ live b.table
  pub slots : used_slots (slots_of (length b.table)) b.table + count (cells_of (length b.memory)) (gives b) ≤ slots_of (length b.table)
  pub room : copies (slots_of (length b.table)) b.table + count (cells_of (length b.memory)) (advances b) ≤ bodies_of (length b.bodies)
  pub marks : Marks (IsCopy (slots_of (length b.table)) b.table) (word2 (slots_of (length b.table)) b.table) 1 (slots_of (length b.table)) used

-- the cells that advance have their bits, at the blocks of their groups; `given` of them are given outwards; the cells held are marked; and no entry
-- from `top` on is in use
pub record Told (b : Buffers) (top given : ℕ) (seen bits : List ℕ) : Type 0 where
  pub cells : CellBits (advances b) (by_group seen bits)
  pub blocks : BlockBits seen bits
  pub ends : EndsAt (slots_of (length b.table)) b.table top
  pub marked : Marked (slots_of (length b.table)) b.table (slots_of (length b.table)) seen
  pub number : given ≡ count (cells_of (length b.memory)) (gives b)

-- it is carried out
abbrev pub performed : Buffers → Call
performed b = perform (change_plan (pairs_at (slots_of (length b.table))) (advance_bytes b) (advance_words b)) 0

-- ---- the list of the entries that advance, in the order of their cells

-- each cell with a bit, in one of the first g groups, has noted at its group how many bits there are up to the group's end
pub record Ends (groups : List ℕ) (g : ℕ) (ends : List ℕ) : Type 0 where
  pub noted : (c : ℕ) → group_of c < g → is_set groups c ≡ true → get_or ends (group_of c) 0 ≡ count (group_at (group_of c + 1)) (is_set groups)

-- the list after slot i, whose entry has first word w, where n domains are live and the cells that advance are those of which f holds: one that
-- advances stands at the rank of its cell
unfoldable pub list_slot : (n : ℕ) (f : ℕ → Bool) (w i : ℕ) → List ℕ → List ℕ
list_slot n f w i places = cond (turns n f w) (set places (count (cell_of w) f) i) places

-- how many cells advance before that of entry i
abbrev pub rank_of : ℕ → List ℕ → (f : ℕ → Bool) → ℕ → ℕ
rank_of e t f i = count (cell_in e t i) f

-- of the first k entries, those that advance are listed
pub record ListedSlots (e : ℕ) (t : List ℕ) (n : ℕ) (f : ℕ → Bool) (k : ℕ) (places : List ℕ) : Type 0 where
  pub place : (i : ℕ) → i < k → turns n f (word1 e t i) ≡ true → get_or places (rank_of e t f i) 0 ≡ i

-- the list has the n entries that advance, each at the rank of its cell
pub record InOrder (e : ℕ) (t : List ℕ) (f : ℕ → Bool) (n : ℕ) (places : List ℕ) : Type 0 where
  pub slot : (r : ℕ) → r < n → get_or places r 0 < e
  pub goes : (r : ℕ) → r < n → turns (innermost t) f (word1 e t (get_or places r 0)) ≡ true
  pub rank : (r : ℕ) → r < n → rank_of e t f (get_or places r 0) ≡ r
  pub place : (i : ℕ) → i < e → turns (innermost t) f (word1 e t i) ≡ true → get_or places (rank_of e t f i) 0 ≡ i

-- ---- what is staged

-- there is room to stage changes of the first n entries of the list: a bit for each of them, and two words for every bit
abbrev pub RoomForListed : ℕ → (places words bits : List ℕ) → Type 0
RoomForListed n places words bits = ((r : ℕ) → r < n → get_or places r 0 < group_at (length bits)) × (2 * group_at (length bits) ≤ length words)

-- the change of entry i once the first r entries of the list are staged: of b bodies, each takes the lowest unmarked one that is left
unfoldable pub change_to : (e b : ℕ) → (t used : List ℕ) → (f : ℕ → Bool) → (r i : ℕ) → Change
change_to e b t used f r i = cond (ltb (rank_of e t f i) r) (turn_with e t f (lowest_free b (unmarked used) f) i) keep

-- ---- what is given outwards

-- by the marks: does the parent lack the cell of the k-th entry of the list?
abbrev pub lacks_at : (e : ℕ) (t seen places : List ℕ) → ℕ → Bool
lacks_at e t seen places k = lacks_it seen (innermost t) (word1 e t (get_or places k 0))

-- for each of the n entries listed whose cell the parent lacks there is a free slot, with room to stage it; `given` tells whether there is any
pub record Givable (e : ℕ) (t : List ℕ) (n given : ℕ) (places seen words bits : List ℕ) : Type 0 where
  pub kept : Kept seen
  pub low : 1 ≤ live t
  pub high : live t ≤ max_live
  pub slot : (r : ℕ) → r < n → get_or places r 0 < e
  pub depth : (r : ℕ) → r < n → depth_of (word1 e t (get_or places r 0)) ≡ live t
  pub enough : (given ≡ 0 → ⊥) → count n (lacks_at e t seen places) ≤ count e (slot_free e t)
  pub room : (given ≡ 0 → ⊥) → (k : ℕ) → k < count n (lacks_at e t seen places) → nth e (slot_free e t) k < group_at (length bits)
  pub long : 2 * group_at (length bits) ≤ length words

-- the cell of entry i goes to the next free slot, or is passed over; `next` is where the search for the one after it begins
pub record GivenOne (e : ℕ) (t : List ℕ) (lacks : Bool) (i at next : ℕ) (words bits words' bits' : List ℕ) : Type 0 where
  pub put : lacks ≡ true → Restaged words bits (free_from e t at) (put (outward (word1 e t i)) (word2 e t i)) words' bits'
  pub on : lacks ≡ true → next ≡ free_from e t at + 1
  pub kept : lacks ≡ false → (next ≡ at) × (words' ≡ words) × (bits' ≡ bits)

-- the change of entry i once the first r of the n entries listed are passed: the k-th free slot takes the k-th of them whose cell the parent lacks; any
-- other has its change by `other`
unfoldable pub give_to : (e : ℕ) (t seen places : List ℕ) (n r : ℕ) (other : ℕ → Change) → ℕ → Change
give_to e t seen places n r other i =
    let j = get_or places (nth n (lacks_at e t seen places) (count i (slot_free e t))) 0 in
    cond (slot_free e t i && ltb (count i (slot_free e t)) (count r (lacks_at e t seen places))) (put (outward (word1 e t j)) (word2 e t j)) (other i)

-- what was staged stays, and what is given outwards is staged besides
pub record GivenListed (e : ℕ) (t : List ℕ) (n given : ℕ) (places seen words bits words' bits' : List ℕ) : Type 0 where
  pub none : given ≡ 0 → (words' ≡ words) × (bits' ≡ bits)
  pub some : (given ≡ 0 → ⊥) → (other : ℕ → Change) → Stages e other words bits → Stages e (give_to e t seen places n n other) words' bits'

-- what a call that gives cells outwards has before it: the marks of the cells held, how many it gives, and room to stage the slots that they take
pub record Outwards (b : Buffers) (given : ℕ) (seen bits : List ℕ) : Type 0 where
  pub kept : Kept seen
  pub marked : Marked (slots_of (length b.table)) b.table (slots_of (length b.table)) seen
  pub number : given ≡ count (cells_of (length b.memory)) (gives b)
  pub room : (k : ℕ) → k < given → nth (slots_of (length b.table)) (slot_free (slots_of (length b.table)) b.table) k < group_at (length bits)
