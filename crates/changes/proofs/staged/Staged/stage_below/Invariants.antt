-- `stage_below` meets its contract. The loop's invariant: what is told of the entries of the groups passed is staged. Assumes nothing.
use Prim.Native.Nat.{ℕ, ◌*◌, min}
use mathlib.Core.Bool.{true}
use Rattle.table.specs.Changes.{Change}
use Rattle.changes.specs.Staged.{Tells, Stages}
use Rattle.changes.proofs.staged.Staged.stage_below.Given as goal

abbrev pub invariant-loop-k : goal.invariant-loop-k
invariant-loop-k g l =
    (f : ℕ → Change) (e : ℕ) → Tells l.top e (λ i r. goal.C-post g l.change i r) (λ a b. goal.S-post g l.all_stay a b true) f
    → Stages 0 f l.initial.self.words l.initial.self.changed → Stages (min l.top (64 * l.k)) f l.self.words l.self.changed
