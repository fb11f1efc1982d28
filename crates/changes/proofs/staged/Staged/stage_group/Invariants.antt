-- `stage_group` meets its contract. The loop's invariant: what is told of the entries passed is staged, their bits gathered. Assumes nothing.
use Prim.Native.Nat.{ℕ, ◌*◌, ◌<◌}
use mathlib.Core.Path.{◌≡◌}
use Rattle.std.specs.Prelude.{Option}
use Rattle.table.specs.Changes.{Change}
use Rattle.changes.specs.Staged.{change_of, Stages, Gathers}
use Rattle.changes.proofs.staged.Staged.stage_group.Given as goal

abbrev pub invariant-loop-i : goal.invariant-loop-i
invariant-loop-i g l =
    (f : ℕ → Change) → ((i : ℕ) → i < l.end → (r : Option (ℕ × ℕ)) → goal.C-post g l.change i r → change_of r ≡ f i)
    → Stages (64 * l.k) f l.initial.self.words l.initial.self.changed → Gathers l.k l.i f l.self.words l.self.changed l.bits
