-- A lent list of ranges in the order of the cells, and the parts of memory that it falls into.
use Rattle.std.specs.Prelude.{◌≡◌, ℕ, ◌+◌, ◌%◌, ◌<◌, ◌≤◌, max, Bool, true, false, cond, List, length, take, nat_lt, slice_index, slice_index_or, Option, None, Some}
use Rattle.ranges.specs.declared.Range.{Range}
use Rattle.ranges.specs.declared.segments.Segment.{Segment}
use Rattle.ranges.specs.Ranges.{covers, named, kind_for, rule_for, label_for, max_ranges}

-- the cell behind a range's last one
abbrev pub range_end : Range → ℕ
range_end r = r.first + r.count

-- what stands past the end of a list, and the i-th of its ranges
abbrev pub no_range : Range
no_range = record { first = 0; count = 0; kind = 0; rule = 0; label = 0 }

abbrev pub range_of : List Range → ℕ → Range
range_of rs i = slice_index_or rs i no_range

-- range p names no cell that range q names
abbrev pub Apart : Range → Range → Type 0
Apart p q = (c : ℕ) → covers q c ≡ true → covers p c ≡ false

-- every range lies in a memory of m cells, and none is empty
abbrev pub Within : ℕ → List Range → Type 0
Within m rs = (i : ℕ) → i < length rs → range_end (range_of rs i) ≤ m

abbrev pub NoneEmpty : List Range → Type 0
NoneEmpty rs = (i : ℕ) → i < length rs → 1 ≤ (range_of rs i).count

-- ---- the list in the order of the cells

-- the range that the k-th key of an order names
abbrev pub number_by : List ℕ → ℕ → ℕ
number_by order k = slice_index order k % max_ranges

-- the first n keys name n ranges, and all of them: what is so of each that a key names is so of all n
abbrev pub Names : ℕ → List ℕ → Type 0
Names n order =
    ((k : ℕ) → k < n → number_by order k < n)
    × ((p : ℕ → Bool) → ((k : ℕ) → k < n → p (number_by order k) ≡ true) → (i : ℕ) → i < n → p i ≡ true)

-- and there are so many keys
abbrev pub Orders : ℕ → List ℕ → Type 0
Orders n order = (n ≤ length order) × Names n order

-- so ordered, every range ends before the next one begins: of the first n, and of all
abbrev pub RisingTo : ℕ → List Range → List ℕ → Type 0
RisingTo n rs order = (i j : ℕ) → i < j → j < n → range_end (range_of rs (number_by order i)) ≤ (range_of rs (number_by order j)).first

abbrev pub RisingBy : List Range → List ℕ → Type 0
RisingBy rs order = RisingTo (length rs) rs order

-- of a list that rises in this order the first k ranges end before cell c, and the others begin there or behind
abbrev pub Passed : List Range → List ℕ → (k c : ℕ) → Type 0
Passed rs order k c =
    ((i : ℕ) → i < k → i < length rs → range_end (range_of rs (number_by order i)) ≤ c)
    × ((i : ℕ) → k ≤ i → i < length rs → c ≤ (range_of rs (number_by order i)).first)

-- the first keys name all ranges of a list, which so ordered rises and of which so many are passed
abbrev pub RisingFrom : List Range → List ℕ → (k c : ℕ) → Type 0
RisingFrom rs order k c = Orders (length rs) order × RisingBy rs order × Passed rs order k c

-- and there are no keys but these
abbrev pub RisesFrom : List Range → List ℕ → (k c : ℕ) → Type 0
RisesFrom rs order k c = (length order ≡ length rs) × RisingFrom rs order k c

-- ---- segments

-- the first cell from `from` on that a range names, if there is one
abbrev pub lowest_from : Range → ℕ → Option ℕ
lowest_from r from = cond (nat_lt (max r.first from) (range_end r)) (Some (max r.first from)) None

-- the first cell behind `at` at which it begins or ends
abbrev pub turn_behind : Range → ℕ → Option ℕ
turn_behind r at = cond (nat_lt at r.first) (Some r.first) (cond (nat_lt at (range_end r)) (Some (range_end r)) None)

-- m is the least of a and of what h gives of the ranges
pub record LeastOf (h : Range → Option ℕ) (rs : List Range) (a m : ℕ) : Type 0 where
  pub high : m ≤ a
  pub below : (i y : ℕ) → i < length rs → h (range_of rs i) ≡ Some y → m ≤ y
  pub is : m < a → (i : ℕ) × (i < length rs) × (h (range_of rs i) ≡ Some m)

-- x is the lowest cell from cell `from` of m on that the list names, or m
pub record NextNamed (m : ℕ) (rs : List Range) (from x : ℕ) : Type 0 where
  pub low : from ≤ x
  pub high : x ≤ m
  pub none : (c : ℕ) → from ≤ c → c < x → named rs c ≡ false
  pub some : x < m → named rs x ≡ true

-- the first range that names cell c is the k-th, or k is how many there are
pub record FirstNaming (rs : List Range) (c k : ℕ) : Type 0 where
  pub high : k ≤ length rs
  pub none : named (take k rs) c ≡ false
  pub some : k < length rs → covers (range_of rs k) c ≡ true

-- a range names each of the cells from `at` to before `end`, or none of them
abbrev pub AllOrNone : Range → ℕ → ℕ → Type 0
AllOrNone r at end = (c : ℕ) → at ≤ c → c < end → covers r c ≡ covers r at

-- the list asks this for cell c
pub record Asks (rs : List Range) (c k u l : ℕ) : Type 0 where
  pub named : named rs c ≡ true
  pub kind : kind_for rs c ≡ k
  pub rule : rule_for rs c ≡ u
  pub label : label_for rs c ≡ l

-- the next cells that the list names, from cell `from` of m on, for each of which it asks the same
pub record Next (m : ℕ) (rs : List Range) (from : ℕ) (s : Segment) : Type 0 where
  pub low : from ≤ s.at
  pub none : (c : ℕ) → from ≤ c → c < s.at → named rs c ≡ false
  pub some : s.at < s.end
  pub high : s.end ≤ m
  pub asks : (c : ℕ) → s.at ≤ c → c < s.end → Asks rs c s.range.kind s.range.rule (cond s.writable 1 0)

-- none is left
abbrev pub NoneLeft : List Range → ℕ → Type 0
NoneLeft rs from = (c : ℕ) → from ≤ c → named rs c ≡ false
