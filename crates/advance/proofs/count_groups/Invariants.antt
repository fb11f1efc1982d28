-- `advance::count_groups` meets its contract. The loop's invariant: the bits of the groups passed are counted, and their numbers noted at their blocks. Assumes nothing.
use Prim.Native.Nat.{◌-◌, ◌≤◌}
use mathlib.Core.Path.{◌≡◌}
use lib.ListN.{length}
use Rattle.words.specs.Layout.{group_at}
use Rattle.words.specs.Scan.{count}
use Rattle.advance.specs.Notes.{by_group, has_bit, Ends}
use Rattle.advance.proofs.count_groups.Given as goal

abbrev pub invariant-loop-g : goal.invariant-loop-g
invariant-loop-g l = (l.g ≤ l.groups) × (length l.ends ≡ length l.initial.ends) × (l.n ≡ count (group_at l.g) (has_bit l.seen l.bits)) × Ends (by_group l.seen l.bits) l.g (by_group l.seen l.ends)

abbrev pub decreases-loop-g : goal.decreases-loop-g
decreases-loop-g l = l.groups - l.g
