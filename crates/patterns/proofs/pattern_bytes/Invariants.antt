-- `patterns::pattern_bytes` meets its contract. The loop's invariant: the bytes passed are the rule's. Assumes nothing.
use Prim.Native.Nat.{ℕ, ◌<◌}
use mathlib.Core.Path.{◌≡◌}
use lib.ListN.{get_or}
use Rattle.patterns.specs.Pattern.{pattern_byte}
use Rattle.patterns.proofs.pattern_bytes.Given as goal

abbrev pub invariant-loop-i : goal.invariant-loop-i
invariant-loop-i l = (k : ℕ) → k < l.i → get_or l.byte-items k 0 ≡ pattern_byte l.rule k
