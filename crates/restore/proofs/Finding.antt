-- Cells put back by what is held: from the value that the search answers to the bytes of restore. Assumes nothing.
use Prim.Native.Nat.{ℕ, ◌+◌, ◌-◌, ◌*◌, min}
use mathlib.Core.Bool.{false}
use mathlib.Core.List.{List, []}
use mathlib.Core.Path.{◌≡◌, refl, sym, ap, subst, ◌∙◌}
use native.Mathlib.Omega.{arith}
use borrow.Rule.Slice.PartMut.{put_mid, mid_of}
use lib.ListN.{length, take}
use lib.Seq.{take_all}
use Rattle.std.specs.Prelude.{Some, None}
use Rattle.words.specs.Layout.{cell_at, bodies_of, slots_of}
use Rattle.words.specs.Stores.{Store, stores, gather}
use Rattle.words.specs.Cells.{copy_plan, cell_plan}
use Rattle.words.proofs.Plans.{stores_none, length_cell_plan}
use Rattle.words.proofs.Cells.{copy_part}
use Rattle.words.proofs.Gather.{gather_skip}
use Rattle.table.proofs.Rule.{Rule, ok_facts}
use Rattle.search.specs.Search.{held_from, bytes_from, HasSource}
use Rattle.search.specs.Holders.{value_bytes, BodyWithin, value_from}
use Rattle.search.specs.declared.holders.Held.{Held}
use Rattle.search.proofs.Behind.{from_slot}
use Rattle.search.proofs.Holding.{none_held, value_facts, held_bytes, held_within}
use Rattle.restore.specs.Restore.{restore_bytes}
use Rattle.restore.specs.declared.holdings.Holdings.{Holdings}
use Rattle.restore.specs.Marks.{Holders, FirstDepth, Unheld}
use Rattle.restore.specs.Parts.{back_plan, PutBack}
use Rattle.restore.proofs.Marking.{holders_none, value_first}

-- ---- one cell

-- the stores in the cell's part of memory are those of the cell's plan in the whole
pub put_bytes : (bytes memory y : List ℕ) (cell at k : ℕ) → length bytes ≡ 64 → at ≡ cell_at cell
    → y ≡ stores (take k (copy_plan bytes)) (mid_of at (at + 64 - at) memory) → put_mid at (at + 64 - at) memory y ≡ stores (take k (cell_plan bytes 0 cell)) memory
put_bytes bytes memory y cell at k long q =
    subst (λ (x : ℕ). y ≡ stores (take k (copy_plan bytes)) (mid_of x (x + 64 - x) memory) → put_mid x (x + 64 - x) memory y ≡ stores (take k (cell_plan bytes 0 cell)) memory) (sym q)
    (λ h.
    let whole : take 64 bytes ≡ bytes = take_all 64 bytes (omega arith) in
    copy_part bytes memory y 0 cell k (h ∙ ap (λ (l : List ℕ). stores (take k (copy_plan l)) (mid_of (cell_at cell) (cell_at cell + 64 - cell_at cell) memory)) (sym whole)))

-- ---- what is held

module _ {N : ℕ} (s : Holdings N) where
  abbrev e : ℕ
  e = s.table.now.entries.slots

  abbrev t : List ℕ
  t = s.table.now.entries.words.now

  abbrev plan : ℕ → List Store
  plan = back_plan s.table.now.entries.slots s.table.now.entries.words.now s.depth s.bodies.now

  rule : Rule s.cells e (bodies_of (length s.bodies.now)) t
  rule = ok_facts s.cells e (bodies_of (length s.bodies.now)) t s.right

  -- ---- a cell, by the domains that hold it

  module _ (c held : ℕ) (tell : Holders s.table.now.entries.slots s.table.now.entries.words.now s.depth c held) where
    nobody : held_from e t s.depth c ≡ false → (memory : List ℕ) (k : ℕ) → PutBack (plan c) 1 k memory 0 memory
    nobody h memory k = rw h (record { made = refl; few = omega arith; stored = stores_none k memory })

    unheld : held ≡ 0 → held_from e t s.depth c ≡ false
    unheld = holders_none e t s.depth c held tell s.deep rule.live

    -- no domain is told
    pub put_none : held ≡ 0 → (memory : List ℕ) (k : ℕ)
        → PutBack (back_plan s.table.now.entries.slots s.table.now.entries.words.now s.depth s.bodies.now c) 1 k memory 0 memory
    put_none z = nobody (unheld z)

    -- no bytes of it then
    plan_none : held ≡ 0 → plan c ≡ []
    plan_none z = rw (unheld z)

    -- the search begins at the first that is
    module _ (r : ℕ) (f : FirstDepth held r) where
      pub put_source : HasSource s.table.now.entries.slots s.table.now.entries.words.now r c
      put_source = from_slot s.cells e (bodies_of (length s.bodies.now)) t rule r c f.low

      same : value_from e t r c ≡ value_from e t s.depth c
      same = value_first s.cells e (bodies_of (length s.bodies.now)) t rule s.depth c held s.deep tell r f

      pub put_nowhere : None ≡ value_from s.table.now.entries.slots s.table.now.entries.words.now r c → (memory : List ℕ) (k : ℕ)
          → PutBack (back_plan s.table.now.entries.slots s.table.now.entries.words.now s.depth s.bodies.now c) 1 k memory 0 memory
      put_nowhere q = nobody (none_held e t s.depth c (sym (q ∙ same)))

      module _ (h : Held) (q : Some h ≡ value_from s.table.now.entries.slots s.table.now.entries.words.now r c) where
        pub put_within : BodyWithin s.bodies.now h.value
        put_within = held_within s.cells e s.bodies.now t rule s.depth c s.deep h (sym (q ∙ same))

        -- it is put back with the bytes that its first holder has
        pub put_found : (memory after : List ℕ) (k : ℕ) → after ≡ stores (take k (cell_plan (value_bytes s.bodies.now h.value) 0 c)) memory
            → PutBack (back_plan s.table.now.entries.slots s.table.now.entries.words.now s.depth s.bodies.now c) 1 k memory 64 after
        put_found memory after k put =
            let there = sym (q ∙ same) in
            rw ((value_facts e t s.depth c h there).held)
            (record {
              made = sym (length_cell_plan (bytes_from e t s.bodies.now s.depth c) 0 c);
              few = omega arith;
              stored = put ∙ ap (λ (x : List ℕ). stores (take k (cell_plan x 0 c)) memory) (held_bytes e t s.depth c s.bodies.now h there);
            })

  -- ---- all cells

  -- the runs passed over have no bytes
  pub put_passed : (from n r : ℕ) → Unheld s.mask s.marks.now.directory.seen.now from n r
      → gather (min s.cells (8 * from)) (back_plan s.table.now.entries.slots s.table.now.entries.words.now s.depth s.bodies.now)
      ≡ gather (min s.cells (8 * r)) (back_plan s.table.now.entries.slots s.table.now.entries.words.now s.depth s.bodies.now)
  put_passed from n r u =
      sym (gather_skip plan (min s.cells (8 * from)) (min s.cells (8 * r)) (omega (arith, u.low))
      (λ c a b. plan_none c _ (s.told c) (u.none c (omega (arith, a, b)) (omega (arith, a, b)))))

-- the bytes of all cells of a table by its words and its number of slots
pub bytes_are : (m d e : ℕ) (bodies words t : List ℕ) → words ≡ t → e ≡ slots_of (length t) → gather m (back_plan e words d bodies) ≡ restore_bytes m d bodies t
unfolding restore_bytes
bytes_are m d e bodies words t p q = rw (p, q)
