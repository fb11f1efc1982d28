-- Laws of the 64 bytes of a rule. Assumes nothing.
use mathlib.Core.Path.{◌≡◌}
use Prim.Native.Nat.{ℕ, ◌<◌}
use lib.ListN.{length, get_or}
use Rattle.words.specs.Layout.{cell_size}
use Rattle.words.proofs.Plans.{length_tab, get_or_tab}
use Rattle.patterns.specs.Pattern.{pattern_byte, pattern}

pub pattern_length : (rule : ℕ) → length (pattern rule) ≡ cell_size
unfolding pattern
pattern_length rule = length_tab (pattern_byte rule) cell_size

pub pattern_at : (rule j : ℕ) → j < cell_size → get_or (pattern rule) j 0 ≡ pattern_byte rule j
unfolding pattern
pattern_at rule j l = get_or_tab (pattern_byte rule) cell_size j 0 l
