-- What the taking reads tells, whatever the bodies hold. Assumes nothing.
use Prim.Native.Nat.{ℕ, ◌≤◌}
use mathlib.Core.List.{List}
use mathlib.Core.Path.{◌≡◌}
use Rattle.std.proofs.Common.{replicate}
use lib.ListN.{length, length-replicate}
use Rattle.words.specs.Layout.{cells_of, bodies_of, slots_of, max_live, max_cells, max_bodies, max_slots}
use Rattle.ranges.specs.declared.Range.{Range}
use Rattle.marks.specs.Blocks.{cells_in}
use Rattle.table.specs.Entry.{live}
use Rattle.store.proofs.Raw.{raw_rule}
use Rattle.store.proofs.Checks.{store_lengths}
use Rattle.add.specs.Walking.{Takeable, AbleToTake, CellsTold}

module _ (memory : List ℕ) (n : ℕ) (t held used : List ℕ) (rs : List Range) (able : AbleToTake memory n t held used rs) where
  some : Takeable memory (replicate n 0) t held used rs
  some = able (replicate n 0) (length-replicate n 0)

  pub deep : live t ≤ max_live
  deep = (raw_rule memory (replicate n 0) t some.ready.store).live

  pub inner : 1 ≤ live t
  inner = some.ready.inner

  pub small : cells_of (length memory) ≤ max_cells
  small = (store_lengths _ _ t some.ready.store).cells_high

  pub slots_few : slots_of (length t) ≤ max_slots
  slots_few = (store_lengths _ _ t some.ready.store).slots_high

  pub few : bodies_of n ≤ max_bodies
  few = let f = store_lengths _ _ t some.ready.store in rw length-replicate at f.bodies_high

  pub readable : max_cells ≤ cells_in held
  readable = some.cells

  pub long : length used ≡ max_bodies
  long = some.places

  pub told : CellsTold (slots_of (length t)) t held
  told = some.holders
