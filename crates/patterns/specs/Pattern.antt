-- Document 02, A.1: the rules by which the 64 bytes of a cell are made afresh.
use Rattle.std.specs.Prelude.{ℕ, zero, suc, ◌%◌, List}
use Rattle.words.specs.Layout.{cell_size}
use Rattle.words.specs.Stores.{tab}

-- the rules are 0 to 3
abbrev pub max_rule : ℕ
max_rule = 3

-- "the bytes 0, 0, 128, 63 (decimal), a scale of one"
abbrev pub scale_byte : ℕ → ℕ
scale_byte zero = 0
scale_byte (suc zero) = 0
scale_byte (suc (suc zero)) = 128
scale_byte (suc (suc (suc k))) = 63

-- byte i of a cell: "Rule 0 is all zeros, rule 1 all 255, rule 2 has byte i equal to i, and rule 3 repeats the bytes" of a scale
unfoldable pub pattern_byte : (rule i : ℕ) → ℕ
pattern_byte zero i = 0
pattern_byte (suc zero) i = 255
pattern_byte (suc (suc zero)) i = i
pattern_byte (suc (suc (suc r))) i = scale_byte (i % 4)

-- the 64 bytes of a rule
unfoldable pub pattern : (rule : ℕ) → List ℕ
pattern rule = tab cell_size (pattern_byte rule)
