-- Document 01, "Three lent buffers": the words of an entry, and which entry is found for a depth and a cell.
-- e is the table's number of entry slots, t its words.
use Rattle.std.specs.Prelude.{◌≡◌, ℕ, zero, suc, ◌+◌, ◌-◌, ◌*◌, ◌/◌, ◌%◌, ◌<◌, Bool, not, ◌&&◌, List, Result, MatchResult, get_or, ltb, leb, eqb}
use Rattle.words.specs.Layout.{live_at, next_at, handle_at, first_at, second_at}
use Rattle.words.specs.Scan.{first}
use Rattle.table.specs.declared.fields.Kind.{Kind}
use Rattle.table.specs.declared.fields.Kind.TheVariants.{Copy, ViaParent, ByRule}
use Rattle.table.specs.declared.fields.Label.{Label}
use Rattle.table.specs.declared.fields.Label.TheVariants.{ReadOnly, ReadWrite}
use Rattle.table.specs.declared.fields.UnknownNumber.{UnknownNumber}

-- how many domains are live, the next handle, and the handle of live domain k, counted from 0 at the outermost
abbrev pub live : List ℕ → ℕ
live t = get_or t live_at 0

abbrev pub next_handle : List ℕ → ℕ
next_handle t = get_or t next_at 0

abbrev pub handle : List ℕ → ℕ → ℕ
handle t k = get_or t (handle_at k) 0

-- the two words of entry i
abbrev pub word1 : ℕ → List ℕ → ℕ → ℕ
word1 e t i = get_or t (first_at e i) 0

abbrev pub word2 : ℕ → List ℕ → ℕ → ℕ
word2 e t i = get_or t (second_at e i) 0

-- bits 28 to 31 of the first word: the domain's depth, 1 at the outermost, 0 in a free entry
abbrev pub depth_of : ℕ → ℕ
depth_of w = w / 268_435_456

-- bit 27: 1 for read-write
abbrev pub writable_of : ℕ → ℕ
writable_of w = w / 134_217_728 % 2

-- bit 26: 1 for via parent
abbrev pub via_of : ℕ → ℕ
via_of w = w / 67_108_864 % 2

-- bit 25: 1 for by rule
abbrev pub pattern_of : ℕ → ℕ
pattern_of w = w / 33_554_432 % 2

-- bits 16 to 24, which are zero
abbrev pub unused_of : ℕ → ℕ
unused_of w = w / 65_536 % 512

-- bits 0 to 15: the cell
abbrev pub cell_of : ℕ → ℕ
cell_of w = w % 65_536

-- all bits below the depth, and all below the kind
abbrev pub below_depth : ℕ → ℕ
below_depth w = w % 268_435_456

abbrev pub below_kind : ℕ → ℕ
below_kind w = w % 33_554_432

abbrev pub is_writable : ℕ → Bool
is_writable w = eqb (writable_of w) 1

abbrev pub is_via : ℕ → Bool
is_via w = eqb (via_of w) 1

abbrev pub is_pattern : ℕ → Bool
is_pattern w = eqb (pattern_of w) 1

-- is the second word a body? It is that of an entry in use that is a copy
abbrev pub owns_body : ℕ → Bool
owns_body w = not (eqb w 0) && (eqb (via_of w) 0 && eqb (pattern_of w) 0)

-- the numbers by which a range names a kind and a label
abbrev pub kind_number : Kind → ℕ
kind_number Copy = 0
kind_number ViaParent = 1
kind_number ByRule = 2

abbrev pub label_number : Label → ℕ
label_number ReadOnly = 0
label_number ReadWrite = 1

-- the kind or the label with this number, or a number that none has
abbrev pub NamesKind : ℕ → Result Kind UnknownNumber → Type 0
NamesKind n r = MatchResult r (λ kind. kind_number kind ≡ n) (λ e. (e.0 ≡ n) × (2 < n))

abbrev pub NamesLabel : ℕ → Result Label UnknownNumber → Type 0
NamesLabel n r = MatchResult r (λ label. label_number label ≡ n) (λ e. (e.0 ≡ n) × (1 < n))

-- the bits of a kind by its number: 0 copy, 1 via parent, 2 by rule
abbrev pub kind_bits : ℕ → ℕ
kind_bits zero = 0
kind_bits (suc zero) = 67_108_864
kind_bits (suc (suc k)) = 33_554_432

-- the first word of an entry of this depth, kind, label and cell
abbrev pub entry_word : (depth kind label cell : ℕ) → ℕ
entry_word d k l c = 268_435_456 * d + 134_217_728 * l + kind_bits k + c

-- its second word: a copy's body, or the rule; via parent has 0
abbrev pub second_word : (kind rule body : ℕ) → ℕ
second_word zero r v = v
second_word (suc zero) r v = 0
second_word (suc (suc k)) r v = r

-- a first word with the label read-write, one depth further out, and with no bit of its kind, as a copy's
abbrev pub writable : ℕ → ℕ
writable w = w + 134_217_728

abbrev pub outward : ℕ → ℕ
outward w = w - 268_435_456

abbrev pub as_copy : ℕ → ℕ
as_copy w = 134_217_728 * (w / 134_217_728) + below_kind w

-- ---- the domains: a chain, each inside the one before it, and named by its depth

-- the innermost domain; nobody, at depth 0, where none is live
abbrev pub innermost : List ℕ → ℕ
innermost t = live t

-- the parent and the child of the domain at depth d (document 01: the next domain out, the next domain in)
abbrev pub parent : ℕ → ℕ
parent d = d - 1

abbrev pub child : ℕ → ℕ
child d = suc d

-- has it a parent?
abbrev pub has_parent : ℕ → Bool
has_parent d = leb 2 d

-- is the domain at depth k inside it (a descendant)?
abbrev pub is_inside : (d k : ℕ) → Bool
is_inside d k = ltb d k

-- it and the domains inside it: how many they are
abbrev pub domains_from : List ℕ → ℕ → ℕ
domains_from t d = suc (live t) - d

-- the number of the word with its handle
abbrev pub handle_at_depth : ℕ → ℕ
handle_at_depth d = handle_at (parent d)

-- ---- which entry is found for a depth and a cell

-- does an entry's first word name this depth and this cell?
abbrev pub names : ℕ → ℕ → ℕ → Bool
names d c w = eqb (depth_of w) d && eqb (cell_of w) c

-- the first entry of depth d and cell c, or e where there is none
unfoldable pub find_in : ℕ → List ℕ → ℕ → ℕ → ℕ
find_in e t d c = first e (λ i. names d c (word1 e t i))

-- does the domain at depth d hold cell c?
unfoldable pub holds_in : ℕ → List ℕ → ℕ → ℕ → Bool
holds_in e t d c = ltb (find_in e t d c) e

-- does it hold the cell read-write?
abbrev pub writes_in : ℕ → List ℕ → ℕ → ℕ → Bool
writes_in e t d c = holds_in e t d c && eqb (writable_of (word1 e t (find_in e t d c))) 1

-- does its parent, if it has one, hold the cell?
abbrev pub parent_has : ℕ → List ℕ → ℕ → ℕ → Bool
parent_has e t d c = has_parent d && holds_in e t (parent d) c
