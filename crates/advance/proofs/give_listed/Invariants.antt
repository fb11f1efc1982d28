-- `advance::give_listed` meets its contract. The loop's invariant: whatever was staged, the cells of the entries passed that the parent lacks are now, too; and as many free slots are passed as such cells. Assumes nothing.
use Prim.Native.Nat.{ℕ, ◌≤◌}
use mathlib.Core.Path.{◌≡◌}
use Rattle.words.specs.Scan.{count}
use Rattle.table.specs.Changes.{Change}
use Rattle.search.specs.Free.{slot_free}
use Rattle.changes.specs.Staged.{Stages}
use Rattle.advance.specs.Notes.{lacks_at, give_to}
use Rattle.advance.proofs.give_listed.Given as goal

abbrev pub invariant-loop-r : goal.invariant-loop-r
invariant-loop-r g l = (l.at ≤ l.fn.entries.slots) × (count l.at (slot_free l.fn.entries.slots l.fn.entries.words.now) ≡ count l.r (lacks_at l.fn.entries.slots l.fn.entries.words.now l.seen l.places))
    × ((other : ℕ → Change) → Stages l.fn.entries.slots other l.initial.staged.words l.initial.staged.changed → Stages l.fn.entries.slots (give_to l.fn.entries.slots l.fn.entries.words.now l.seen l.places l.n l.r other) l.staged.words l.staged.changed)
