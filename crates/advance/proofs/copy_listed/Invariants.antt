-- The bytes of the cells passed are stored, cut at the budget; their entries are staged; and as many unmarked bodies are passed as cells. Assumes nothing.
use Prim.Native.Nat.{◌≤◌}
use mathlib.Core.Path.{◌≡◌}
use lib.ListN.{length, get_or, take}
use Rattle.words.specs.Layout.{bodies_of}
use Rattle.words.specs.Scan.{count, nth}
use Rattle.words.specs.Stores.{stores, gather}
use Rattle.words.specs.Cells.{cell_plan}
use Rattle.table.specs.Marks.{cell_in}
use Rattle.search.specs.Free.{unmarked}
use Rattle.changes.specs.Staged.{Stages}
use Rattle.store.specs.Outcome.{buffers}
use Rattle.advance.specs.Advance.{advances}
use Rattle.advance.specs.Notes.{change_to}
use Rattle.advance.proofs.copy_listed.Given as goal

abbrev pub invariant-loop-r : goal.invariant-loop-r
invariant-loop-r g l = (l.at ≤ bodies_of (length l.initial.bodies)) × (count l.at (unmarked l.used) ≡ l.r)
    × (length l.bodies ≡ length l.initial.bodies)
    × (l.bodies ≡ stores (take l.budget (gather l.r (λ k. cell_plan l.memory (cell_in l.fn.entries.slots l.fn.entries.words.now (get_or l.places k 0)) (nth (bodies_of (length l.initial.bodies)) (unmarked l.used) k)))) l.initial.bodies)
    × Stages l.fn.entries.slots (change_to l.fn.entries.slots (bodies_of (length l.initial.bodies)) l.fn.entries.words.now l.used (advances (buffers l.memory l.initial.bodies l.fn.entries.words.now)) l.r) l.staged.words l.staged.changed
