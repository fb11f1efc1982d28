-- A staged change: which entries get which two new words, and which words of the head get which values.
use Rattle.std.specs.Prelude.{ℕ, ◌+◌, ◌*◌, ◌/◌, ◌%◌, ◌^◌, ◌≤◌, ◌<◌, Bool, true, false, cond, Option, None, Some, List, ◌≡◌, eqb, ltb, length, get_or, set, take}
use Rattle.std.specs.Int.Bits.{bit_or}
use Rattle.words.specs.Layout.{pairs_at, max_pairs, handle_at, max_live, group_size, group_at, group_of, in_group}
use Rattle.words.specs.Stores.{Store, ◌≔◌, stores, tab, gather}
use Rattle.words.specs.Journal.{journal}
use Rattle.table.specs.Changes.{Change, keep, put, is_changed, entry_stores}

-- ---- bits

-- bit j of a word
abbrev pub bit_at : ℕ → ℕ → Bool
bit_at w j = eqb (w / 2 ^ j % 2) 1

-- j is the lowest of a word's bits that are set
pub record Lowest (w j : ℕ) : Type 0 where
  pub within : j < group_size
  pub here : bit_at w j ≡ true
  pub before : (i : ℕ) → i < j → bit_at w i ≡ false

-- r is the word w without its bit j
pub record Without (w j r : ℕ) : Type 0 where
  pub here : bit_at r j ≡ false
  pub others : (i : ℕ) → (i ≡ j → ⊥) → bit_at r i ≡ bit_at w i

-- a word with bit j set too, if b
unfoldable pub with_bit : Bool → ℕ → ℕ → ℕ
with_bit b j w = cond b (bit_or w (2 ^ j)) w

-- bit i of a run of 64-bit words, lowest bit of the first word first
abbrev pub is_set : List ℕ → ℕ → Bool
is_set bits i = bit_at (get_or bits (group_of i) 0) (in_group i)

-- there is room to stage changes of the first n entries: a bit for each of them, and two words for every bit
abbrev pub RoomFor : ℕ → (words bits : List ℕ) → Type 0
RoomFor n words bits = (n ≤ group_at (length bits)) × (2 * group_at (length bits) ≤ length words)

-- every bit that is set is one of the first e
abbrev pub Inside : ℕ → List ℕ → Type 0
Inside e bits = (i : ℕ) → is_set bits i ≡ true → i < e

-- ---- entries

-- the staged words with those of a change of entry i
abbrev pub with_words : Change → ℕ → List ℕ → List ℕ
with_words keep i words = words
with_words (put w v) i words = set (set words (2 * i) w) (2 * i + 1) v

-- the change of entry i where its bit is b
abbrev pub entry_of : Bool → List ℕ → ℕ → Change
entry_of b words i = cond b (put (get_or words (2 * i) 0) (get_or words (2 * i + 1) 0)) keep

-- what is staged for entry i
unfoldable pub staged : (words bits : List ℕ) → ℕ → Change
staged words bits i = entry_of (is_set bits i) words i

-- f with its value at i replaced by c
abbrev pub but : (ℕ → Change) → ℕ → Change → ℕ → Change
but f i c j = cond (eqb j i) c (f j)

-- what is staged afterwards is what was staged before, but c for entry i
pub record Restaged (words bits : List ℕ) (i : ℕ) (c : Change) (words' bits' : List ℕ) : Type 0 where
  pub each : (j : ℕ) → staged words' bits' j ≡ but (staged words bits) i c j

-- f below n, and nothing from n on
abbrev pub below : ℕ → (ℕ → Change) → ℕ → Change
below n f i = cond (ltb i n) (f i) keep

-- what is staged is f below n, and nothing from n on
pub record Stages (n : ℕ) (f : ℕ → Change) (words bits : List ℕ) : Type 0 where
  pub each : (i : ℕ) → staged words bits i ≡ below n f i

-- what a call says of an entry: its two new words, or nothing where it is kept
abbrev pub change_of : Option (ℕ × ℕ) → Change
change_of None = keep
change_of (Some words) = put words.0 words.1

-- what a pass over the first n of e entries is told is the change f: `says` tells of one entry what becomes of it, and `stays` lets the pass leave
-- out those from a up to b
pub record Tells (n e : ℕ) (says : ℕ → Option (ℕ × ℕ) → Type 0) (stays : ℕ → ℕ → Type 0) (f : ℕ → Change) : Type 0 where
  pub each : (i : ℕ) → i < n → (r : Option (ℕ × ℕ)) → says i r → change_of r ≡ f i
  pub left_out : (a b : ℕ) → a ≤ b → b ≤ n → stays a b → (i : ℕ) → a ≤ i → i < b → f i ≡ keep
  pub behind : (i : ℕ) → n ≤ i → i < e → f i ≡ keep

-- the same in the middle of a pass over the slots of group k: their bits are gathered in w and are not stored yet
pub record Gathers (k n : ℕ) (f : ℕ → Change) (words bits : List ℕ) (w : ℕ) : Type 0 where
  pub within : k < length bits
  pub stages : Stages n f words (set bits k w)

-- ---- the head

-- how many words of it a pair may name: words 4, 5 and 8 to 15
abbrev pub head_room : ℕ
head_room = 10

-- ---- what one word of bits adds: the stores of entry base + j, and those of the 64 entries from `base` on

abbrev pub group_stores : (e base w : ℕ) → (words : List ℕ) → ℕ → List Store
group_stores e base w words j = entry_stores e (base + j) (entry_of (bit_at w j) words (base + j))

unfoldable pub group : (e base w : ℕ) → (words : List ℕ) → List Store
group e base w words = gather group_size (group_stores e base w words)

-- ---- what the writer leaves

-- the words ws are stored by the journal of a table t of e slots, at most k steps of it, which leaves u; r are its steps uncut
pub record Journaled (e : ℕ) (ws : List Store) (k : ℕ) (t : List ℕ) (r : ℕ) (u : List ℕ) : Type 0 where
  pub made : r ≡ length (journal (pairs_at e) ws)
  pub few : r ≤ 3 * max_pairs e + 2
  pub words : u ≡ stores (take k (journal (pairs_at e) ws)) t
