-- `head_where_end` meets its contract. The loop's invariant: the words staged are those of the head with the domains passed. Assumes nothing.
use Prim.Native.Nat.{◌+◌, ◌-◌}
use mathlib.Core.Path.{◌≡◌}
use Rattle.changes.specs.Head.{head_stores, head_count}
use Rattle.restore.specs.Parts.{head_words}
use Rattle.restore.proofs.head_where_end.Given as goal

abbrev pub invariant-loop-k : goal.invariant-loop-k
invariant-loop-k l = (head_count l.head ≡ 1 + (l.k - l.depth)) × (head_stores l.head ≡ head_words l.depth l.k)
