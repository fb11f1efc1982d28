-- Marks made in one pass over the entries. Of cells they are read by `mark_of` alone (marks/specs/Blocks).
-- A mark at k equal to `tag` says that some entry passed so far is wanted and has the key k.
use Rattle.std.specs.Prelude.{ℕ, ◌+◌, ◌<◌, ◌≤◌, Bool, true, false, cond, not, ◌&&◌, ◌||◌, ◌≡◌, List, ltb, leb, eqb, length, get_or, set}
use Rattle.words.specs.Layout.{slots_of, max_slots, max_bodies, max_live}
use Rattle.words.specs.Scan.{all, count}
use Rattle.words.specs.Journal.{pending}
use Rattle.table.specs.Entry.{word1, word2, depth_of, via_of, pattern_of, unused_of, cell_of, is_pattern, owns_body, parent}
use Rattle.table.specs.Rule.{entry_ok, parent_ok}
use Rattle.marks.specs.Blocks.{taken, Kept, Outside, Room, mark_cell}
pub use Rattle.marks.specs.Blocks.{mark_of, has, Blank}
unfoldable pub use Rattle.marks.specs.Blocks.{zeros}

module _ (Wanted : ℕ → Type 0) (key : ℕ → ℕ) (tag : ℕ) where
  pub record Marks (n : ℕ) (seen : List ℕ) : Type 0 where
    pub clear : (k : ℕ) → (get_or seen k 0 ≡ tag → ⊥) → (j : ℕ) → j < n → Wanted j → key j ≡ k → ⊥
    pub found : (k : ℕ) → get_or seen k 0 ≡ tag → (j : ℕ) × (j < n) × Wanted j × (key j ≡ k)

-- no two wanted entries have one key
abbrev pub Distinct : (ℕ → Type 0) → (ℕ → ℕ) → ℕ → Type 0
Distinct Wanted key n = (i : ℕ) → i < n → (j : ℕ) → j < i → Wanted i → Wanted j → key j ≡ key i → ⊥

-- ---- the cells: the mark of a cell is the set of the depths passed so far that have it

abbrev pub cell_in : ℕ → List ℕ → ℕ → ℕ
cell_in e t i = cell_of (word1 e t i)

-- the mark of the cell of an entry with first word w
abbrev pub mark_at : List ℕ → ℕ → ℕ
mark_at seen w = mark_of seen (cell_of w)

-- the marks after that entry
abbrev pub mark_entry : ℕ → List ℕ → List ℕ
mark_entry w seen = mark_cell (depth_of w) (cell_of w) seen

-- what marks tell of an entry with first word w: it is no via parent entry, or its parent has its cell
abbrev pub parent_told : ℕ → List ℕ → Bool
parent_told w seen = eqb (via_of w) 0 || has (parent (depth_of w)) (mark_at seen w)

-- these entries are marked
pub record MarkedAmong (e : ℕ) (t : List ℕ) (Among : ℕ → Type 0) (seen : List ℕ) : Type 0 where
  pub clear : (d k : ℕ) → 1 ≤ d → has d (mark_of seen k) ≡ false → (j : ℕ) → Among j → depth_of (word1 e t j) ≡ d → cell_in e t j ≡ k → ⊥
  pub found : (d k : ℕ) → has d (mark_of seen k) ≡ true → (j : ℕ) × Among j × (depth_of (word1 e t j) ≡ d) × (cell_in e t j ≡ k)

-- no depth has a cell twice among these entries
abbrev pub OnceAmong : ℕ → List ℕ → (ℕ → Type 0) → Type 0
OnceAmong e t Among = (i : ℕ) → Among i → (j : ℕ) → Among j → j < i → 1 ≤ depth_of (word1 e t i) → depth_of (word1 e t j) ≡ depth_of (word1 e t i) → cell_in e t j ≡ cell_in e t i → ⊥

-- the first n entries are marked
abbrev pub Marked : ℕ → List ℕ → ℕ → List ℕ → Type 0
Marked e t n seen = MarkedAmong e t (λ j. j < n) seen

-- no depth has a cell twice among the first n entries
abbrev pub CellsOnce : ℕ → List ℕ → ℕ → Type 0
CellsOnce e t n = (i : ℕ) → i < n → (j : ℕ) → j < i → 1 ≤ depth_of (word1 e t i) → depth_of (word1 e t j) ≡ depth_of (word1 e t i) → cell_in e t j ≡ cell_in e t i → ⊥

-- Entries that follow a rule are marked last, once every via parent entry was asked for its parent: so the marks that it asks tell of no rule.
-- Of the first n entries those that follow none; and those of all e entries, but of the n-th and those after it the ones that follow a rule
abbrev pub PlainBelow : ℕ → List ℕ → ℕ → ℕ → Type 0
PlainBelow e t n j = (j < n) × (pattern_of (word1 e t j) ≡ 0)

abbrev pub AllBut : ℕ → List ℕ → ℕ → ℕ → Type 0
AllBut e t n j = (j < e) × (pattern_of (word1 e t j) ≡ 1 → j < n)

-- how many of the first n entries follow a rule
abbrev pub rules_below : ℕ → List ℕ → ℕ → ℕ
rules_below e t n = count n (λ i. is_pattern (word1 e t i))

-- no depth has a cell twice, and via parent entries rest on their parents
pub record CellsOk (e : ℕ) (t : List ℕ) : Type 0 where
  pub once : CellsOnce e t e
  pub rests : all e (parent_ok e t) ≡ true

-- the cell of every via parent entry has a mark
abbrev pub ViasMarkable : ℕ → List ℕ → ℕ → Type 0
ViasMarkable e t marks = (i : ℕ) → i < e → (via_of (word1 e t i) ≡ 0 → ⊥) → cell_in e t i < marks

-- via parent entries are not outermost
abbrev pub ViaInner : ℕ → List ℕ → Type 0
ViaInner e t = (i : ℕ) → i < e → (via_of (word1 e t i) ≡ 0 → ⊥) → 2 ≤ depth_of (word1 e t i)

-- ---- the copies, by body: the mark of a body in use is 1

abbrev pub IsCopy : ℕ → List ℕ → ℕ → Type 0
IsCopy e t i = owns_body (word1 e t i) ≡ true

-- the marks after an entry with words w and v
unfoldable pub mark_body : ℕ → ℕ → List ℕ → List ℕ
mark_body w v used = cond (owns_body w) (set used v 1) used

-- may that entry stand: no copy before it has its body
unfoldable pub body_fits : ℕ → ℕ → List ℕ → Bool
body_fits w v used = cond (owns_body w) (not (eqb (get_or used v 0) 1)) true

-- ---- the pass over the entries, in a table for m cells, e entry slots and b bodies

-- a first word of one of `live` depths and of one of m cells, with no other bit below its kind
abbrev pub placed : ℕ → ℕ → ℕ → Bool
placed m live w = leb 1 (depth_of w) && (leb (depth_of w) live && (eqb (unused_of w) 0 && ltb (cell_of w) m))

-- the entries from the n-th to the one before the k-th are free
abbrev pub FreeRun : ℕ → List ℕ → ℕ → ℕ → Type 0
FreeRun e t n k = (i : ℕ) → n ≤ i → i < k → (word1 e t i ≡ 0) × (word2 e t i ≡ 0)

-- the entries from the n-th on are free
abbrev pub EndsAt : ℕ → List ℕ → ℕ → Type 0
EndsAt e t n = (n ≤ e) × FreeRun e t n e

-- how many entries question 4 passes: those up to the last in use; all e of them where pairs are pending
abbrev pub Reaches : ℕ → List ℕ → ℕ → Type 0
Reaches e t n = EndsAt e t n × ((pending t ≡ 0 → ⊥) → n ≡ e)

-- of a table of any length this is said where its number of entries is allowed
abbrev pub Reached : List ℕ → ℕ → Type 0
Reached t n = 1 ≤ slots_of (length t) → slots_of (length t) ≤ max_slots → Reaches (slots_of (length t)) t n

-- the first n entries are right, by themselves and, but for those that follow a rule, beside each other, and marked
pub record Passed (m e b : ℕ) (t : List ℕ) (n : ℕ) (seen used : List ℕ) : Type 0 where
  pub right : (i : ℕ) → i < n → entry_ok m e b t i ≡ true
  pub once : OnceAmong e t (PlainBelow e t n)
  pub single : Distinct (IsCopy e t) (word2 e t) n
  pub cells : MarkedAmong e t (PlainBelow e t n) seen
  pub copies : Marks (IsCopy e t) (word2 e t) 1 n used
  pub kept : Kept seen
  pub few : taken seen + rules_below e t n ≤ n
  pub outside : Outside m seen

-- where so many are via parent, none is, if that is 0
abbrev pub NoVias : ℕ → List ℕ → ℕ → ℕ → Type 0
NoVias e t n vias = vias ≡ 0 → (i : ℕ) → i < n → via_of (word1 e t i) ≡ 0

-- all entries are passed, of which `top` were looked at: those are enough blocks, and the numbers of via parent entries and of rules are told
pub record PassedAll (m e b : ℕ) (t : List ℕ) (top vias rules : ℕ) (seen used : List ℕ) : Type 0 where
  pub passed : Passed m e b t e seen used
  pub alone : NoVias e t e vias
  pub counted : rules ≡ rules_below e t e
  pub few : taken seen + rules_below e t e ≤ top

-- do the marks tell of every entry that it is no via parent entry, or that its parent has its cell?
abbrev pub all_told : ℕ → List ℕ → List ℕ → Bool
all_told e t seen = all e (λ i. parent_told (word1 e t i) seen)

-- every entry that follows a rule is of a depth that there may be and of one of m cells
abbrev pub RulesPlaced : (m e : ℕ) → List ℕ → Type 0
RulesPlaced m e t = (i : ℕ) → i < e → is_pattern (word1 e t i) ≡ true → (1 ≤ depth_of (word1 e t i)) × (depth_of (word1 e t i) ≤ max_live) × (cell_of (word1 e t i) < m)

-- of e entries, of which `top` are to be passed again, the first n are, and those of them that follow a rule are marked too; there is room to
-- mark the others, of a memory of m cells
pub record RulesMarked (e : ℕ) (t : List ℕ) (top n : ℕ) (seen : List ℕ) : Type 0 where
  pub m : ℕ
  pub placed : RulesPlaced m e t
  pub room : Room top m seen
  pub once : OnceAmong e t (AllBut e t n)
  pub cells : MarkedAmong e t (AllBut e t n) seen
  pub kept : Kept seen
  pub few : taken seen + rules_below e t top ≤ top + rules_below e t n
  pub outside : Outside m seen

-- the marks of all entries: of their cells, and of their copies' bodies
pub record AllMarked (e : ℕ) (t : List ℕ) (seen used : List ℕ) : Type 0 where
  pub cells : Marked e t e seen
  pub copies : Marks (IsCopy e t) (word2 e t) 1 e used
  pub kept : Kept seen

-- room for the marks of n entries of a memory of m cells, and of b bodies, none made yet
abbrev pub BlankRoom : (n m b : ℕ) (seen used : List ℕ) → Type 0
BlankRoom n m b seen used = Room n m seen × (b ≤ length used) × Blank seen × Blank used

-- what a call is lent for question 4: room for the marks of n entries of a memory of m cells, and of every body, none made yet; and n is how many
-- entries question 4 passes
pub record RoomForMarks (t : List ℕ) (m n : ℕ) (seen used : List ℕ) : Type 0 where
  pub room : Room n m seen
  pub bodies : length used ≡ max_bodies
  pub no_cells : Blank seen
  pub no_bodies : Blank used
  pub reached : Reached t n
