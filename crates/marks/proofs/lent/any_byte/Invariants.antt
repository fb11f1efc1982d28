-- `marks::lent::any_byte` meets its contract. The loop's invariant: unless `any` says so, the bytes passed are 0. Assumes nothing.
use Prim.Native.Nat.{ℕ, ◌<◌}
use mathlib.Core.Bool.{false}
use mathlib.Core.Path.{◌≡◌}
use lib.ListN.{get_or}
use Rattle.marks.proofs.lent.any_byte.Given as goal

abbrev pub invariant-loop-byte : goal.invariant-loop-byte
invariant-loop-byte l = l.any ≡ false → (k : ℕ) → k < l.byte-index → get_or l.part k 0 ≡ 0
