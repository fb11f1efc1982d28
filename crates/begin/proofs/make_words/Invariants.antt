-- `begin::make_words` meets its contract. The loop's invariant: the stores of the words passed are made. Assumes nothing.
use mathlib.Core.Path.{◌≡◌}
use Prim.Native.Nat.{◌-◌}
use lib.ListN.{take}
use Rattle.words.specs.Stores.{stores}
use Rattle.store.proofs.Making.{middle_plan}
use Rattle.begin.proofs.make_words.Given as goal

abbrev pub invariant-loop-i : goal.invariant-loop-i
invariant-loop-i l = l.table ≡ stores (take (l.i - 1) (middle_plan l.cells l.slots l.bodies l.initial.table)) l.initial.table
