-- `words::put_quarter` meets its contract. The loop's invariant: what was copied up to `at` is copied up to `at + j`. Assumes nothing.
use Prim.Native.Nat.{ℕ, ◌+◌, ◌<◌}
use mathlib.Core.Path.{◌≡◌}
use mathlib.Core.List.{List}
use lib.ListN.{get_or}
use Rattle.words.specs.Cells.{Copied}
use Rattle.words.proofs.put_quarter.Given as goal

abbrev pub invariant-loop-j : goal.invariant-loop-j
invariant-loop-j l = (s d : List ℕ) → ((k : ℕ) → k < 16 → get_or l.quarter k 0 ≡ get_or s (l.at + k) 0) → Copied s d l.at l.initial.dst → Copied s d (l.at + l.j) l.dst
