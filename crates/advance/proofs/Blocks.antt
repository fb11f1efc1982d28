-- Numbers that stand at the blocks of the marks, seen in the order of the groups of cells: what a store at the block of one group does to those
-- of all. By the directory's rule no block belongs to two groups. Assumes nothing.
use Prim.Native.Nat.{ℕ, ◌+◌, ◌/◌, ◌%◌, ◌^◌, ◌≤◌, ◌<◌}
use mathlib.Core.Bool.{Bool, true}
use mathlib.Core.List.{List}
use mathlib.Core.Path.{◌≡◌, refl, sym, ap, ◌∙◌}
use native.Mathlib.Omega.{arith}
use borrow.Author.Tests.{eqb-true, eqb-false}
use lib.Count.{ones}
use lib.Dec.{eqb}
use lib.ListN.{length, get_or, set, length-set, get_or-eq_default}
use lib.Seq.{get_or-set_same, get_or-set_other, set-get_or, ext_get_or}
use Rattle.words.specs.Layout.{max_cells, group_at, group_of, in_group}
use Rattle.words.specs.Scan.{count}
use Rattle.words.proofs.Scan.{by_bool, by_le, is_true, true≢}
use Rattle.words.proofs.Plans.{length_tab, get_or_tab}
use Rattle.table.specs.Entry.{word1, depth_of, cell_of}
use Rattle.marks.specs.Blocks.{block_of, block_at, max_groups, mark_of, Kept}
use Rattle.table.specs.Marks.{Blank, Marked, cell_in, has}
use Rattle.marks.proofs.Blocks.{marked_own}
use Rattle.marks.proofs.Digits.{has_none}
use Rattle.table.proofs.Marks.{split}
use Rattle.changes.specs.Staged.{with_bit, is_set}
use Rattle.changes.proofs.Bits.{bit_kept}
use Rattle.advance.specs.Notes.{NoBits, by_group, BlockBits, mark_turning, Ends}
use Rattle.advance.proofs.Bits.{count_next, group_some, group_known, ends_rank}

module _ (seen numbers : List ℕ) where
  pub by_length : length (by_group seen numbers) ≡ max_groups
  unfolding by_group
  by_length = length_tab (λ g. get_or numbers (block_of seen g) 0) max_groups

  pub by_at : (g : ℕ) → g < max_groups → get_or (by_group seen numbers) g 0 ≡ get_or numbers (block_of seen g) 0
  unfolding by_group
  by_at g l = get_or_tab (λ g. get_or numbers (block_of seen g) 0) max_groups g 0 l

  pub by_blank : Blank numbers → Blank (by_group seen numbers)
  by_blank blank g =
      by_le max_groups g
      (λ far. get_or-eq_default (by_group seen numbers) 0 (omega (arith, by_length, far)))
      (λ near. by_at g near ∙ blank (block_of seen g))

  -- a cell with a bit is one of the largest memory's
  pub bit_cell : (c : ℕ) → is_set (by_group seen numbers) c ≡ true → c < max_cells
  bit_cell c h = omega (arith, group_known (by_group seen numbers) c h, by_length)

module _ (seen : List ℕ) (kept : Kept seen) where
  -- there is a number for the block of every group
  pub block_fits : (numbers : List ℕ) → length seen ≤ block_at (length numbers) → (g : ℕ) → g < max_groups → block_of seen g < length numbers
  block_fits numbers room g l = omega (arith, kept.low g l, kept.room, room)

  -- a store at the block of a group
  module _ (numbers : List ℕ) (g v : ℕ) (l : g < max_groups) (fits : block_of seen g < length numbers) where
    set_same : get_or (by_group seen (set numbers (block_of seen g) v)) g 0 ≡ v
    set_same = by_at seen (set numbers (block_of seen g) v) g l ∙ get_or-set_same numbers (block_of seen g) v 0 fits

    set_other : (k : ℕ) → k < max_groups → (block_of seen k ≡ block_of seen g → ⊥) → get_or (by_group seen (set numbers (block_of seen g) v)) k 0 ≡ get_or (by_group seen numbers) k 0
    set_other k b ne =
        by_at seen (set numbers (block_of seen g) v) k b
        ∙ get_or-set_other numbers (block_of seen g) (block_of seen k) v 0 ne
        ∙ sym (by_at seen numbers k b)

    by_set : 1 ≤ block_of seen g → by_group seen (set numbers (block_of seen g) v) ≡ set (by_group seen numbers) g v
    by_set own =
        ext_get_or 0 (by_group seen (set numbers (block_of seen g) v)) (set (by_group seen numbers) g v)
        (by_length seen (set numbers (block_of seen g) v) ∙ sym (length-set (by_group seen numbers) g v ∙ by_length seen numbers))
        (λ k b.
        let inside : k < max_groups = omega (arith, b, by_length seen (set numbers (block_of seen g) v)) in
        by_bool (eqb k g)
        (λ z.
        let q = eqb-true k g z in
        ap (λ (x : ℕ). get_or (by_group seen (set numbers (block_of seen g) v)) x 0) q ∙ set_same
        ∙ sym (ap (λ (x : ℕ). get_or (set (by_group seen numbers) g v) x 0) q ∙ get_or-set_same (by_group seen numbers) g v 0 (omega (arith, by_length seen numbers, l))))
        (λ z.
        let ne = eqb-false k g z in
        set_other k inside (λ q. ne (sym (kept.own g k l inside own (sym q)))) ∙ sym (get_or-set_other (by_group seen numbers) g k v 0 ne)))

  -- ---- the pass over the entries

  module _ (goes : Bool) (w : ℕ) (bits : List ℕ) (own : goes ≡ true → 1 ≤ block_of seen (group_of (cell_of w))) where
    abbrev at : ℕ
    at = block_of seen (group_of (cell_of w))

    pub by_turning : block_of seen (group_of (cell_of w)) < length bits
        → by_group seen (mark_turning goes w (block_of seen (group_of (cell_of w))) bits) ≡ mark_turning goes w (group_of (cell_of w)) (by_group seen bits)
    by_turning fits =
        by_bool goes
        (λ y.
        by_set bits (group_of (cell_of w)) (with_bit goes (in_group (cell_of w)) (get_or bits at 0)) (omega arith) fits (own y)
        ∙ ap (λ (x : ℕ). set (by_group seen bits) (group_of (cell_of w)) (with_bit goes (in_group (cell_of w)) x)) (sym (by_at seen bits (group_of (cell_of w)) (omega arith))))
        (λ y.
        rw (y, bit_kept (get_or bits at 0) (in_group (cell_of w)), set-get_or bits at 0, bit_kept (get_or (by_group seen bits) (group_of (cell_of w)) 0) (in_group (cell_of w)), set-get_or (by_group seen bits) (group_of (cell_of w)) 0))

    -- block 0 gets no bit
    pub front_turning : get_or bits 0 0 ≡ 0 → get_or (mark_turning goes w (block_of seen (group_of (cell_of w))) bits) 0 0 ≡ 0
    front_turning none =
        by_bool goes
        (λ y. get_or-set_other bits at 0 (with_bit goes (in_group (cell_of w)) (get_or bits at 0)) 0 (λ q. let low = own y in omega arith) ∙ none)
        (λ y. rw (y, bit_kept (get_or bits at 0) (in_group (cell_of w)), set-get_or bits at 0) none)

  -- the cell of an entry of a live domain is marked, so that its group has a block
  pub turning_own : (e : ℕ) (t : List ℕ) → Marked e t e seen → (n i : ℕ) → 1 ≤ n → i < e → depth_of (word1 e t i) ≡ n → 1 ≤ block_of seen (group_of (cell_in e t i))
  turning_own e t marked n i low l depth =
      let there = is_true (has n (mark_of seen (cell_in e t i))) (λ z. marked.clear n (cell_in e t i) low z i l depth refl) in
      marked_own seen kept (cell_in e t i) (omega arith)
      (by_bool (eqb (mark_of seen (cell_in e t i)) 0)
      (λ z. absurd (true≢ there (ap (has n) (eqb-true (mark_of seen (cell_in e t i)) 0 z) ∙ has_none n)))
      (λ z. let some = eqb-false (mark_of seen (cell_in e t i)) 0 z in omega (arith, some)))

-- ---- the walk over the groups

module _ (seen bits : List ℕ) (b : BlockBits seen bits) where
  -- a group without a block has no bit
  pub blank_bits : (g h : ℕ) → h ≤ max_groups → ((k : ℕ) → g ≤ k → k < h → block_of seen k ≡ 0) → NoBits (by_group seen bits) g h
  blank_bits g h high none k l m = by_at seen bits k (omega arith) ∙ ap (λ (x : ℕ). get_or bits x 0) (none k l m) ∙ b.front

  -- a group with one has a block
  bits_own : (c : ℕ) → is_set (by_group seen bits) c ≡ true → 1 ≤ block_of seen (group_of c)
  bits_own c h =
      by_bool (eqb (block_of seen (group_of c)) 0)
      (λ z.
      let q = eqb-true (block_of seen (group_of c)) 0 z in
      absurd (group_some (by_group seen bits) c h (by_at seen bits (group_of c) (omega (arith, bit_cell seen bits c h)) ∙ ap (λ (x : ℕ). get_or bits x 0) q ∙ b.front)))
      (λ z. let ne = eqb-false (block_of seen (group_of c)) 0 z in omega (arith, ne))

  -- up to the end of a group
  pub count_more : (g : ℕ) → g < max_groups → get_or bits (block_of seen g) 0 < 2 ^ 64
      → count (group_at g) (is_set (by_group seen bits)) + ones (get_or bits (block_of seen g) 0) ≡ count (group_at (g + 1)) (is_set (by_group seen bits))
  count_more g l small =
      let q = by_at seen bits g l in
      omega (arith, ap ones q, count_next (by_group seen bits) g (omega (arith, q, small)))

  -- the rank of a cell with a bit, by what is noted at its group's block
  pub rank_noted : (ends : List ℕ) (c : ℕ) → get_or bits (block_of seen (group_of c)) 0 < 2 ^ 64 → Ends (by_group seen bits) max_groups (by_group seen ends)
      → is_set (by_group seen bits) c ≡ true
      → get_or ends (block_of seen (group_of c)) 0 ≡ count c (is_set (by_group seen bits)) + ones (get_or bits (block_of seen (group_of c)) 0 / 2 ^ (c % 64))
  rank_noted ends c small noted h =
      let l : group_of c < max_groups = omega (arith, bit_cell seen bits c h) in
      let q = by_at seen bits (group_of c) l in
      sym (by_at seen ends (group_of c) l)
      ∙ ends_rank (by_group seen bits) max_groups (by_group seen ends) c (omega (arith, q, small)) noted l h
      ∙ ap (λ (x : ℕ). count c (is_set (by_group seen bits)) + ones (x / 2 ^ (c % 64))) q

  -- one group more is noted
  pub ends_more : (g v : ℕ) (ends : List ℕ) → g < max_groups → block_of seen g < length ends → v ≡ count (group_at (g + 1)) (is_set (by_group seen bits))
      → Ends (by_group seen bits) g (by_group seen ends) → Ends (by_group seen bits) (g + 1) (by_group seen (set ends (block_of seen g) v))
  ends_more g v ends l fits is old = record {
    noted = λ c h some.
        split g (group_of c) h
        (λ p.
        ap (λ (x : ℕ). get_or (by_group seen (set ends (block_of seen g) v)) x 0) p ∙ set_same seen b.kept ends g v l fits
        ∙ is ∙ ap (λ (x : ℕ). count (group_at (x + 1)) (is_set (by_group seen bits))) (sym p))
        (λ p.
        set_other seen b.kept ends g v l fits (group_of c) (omega arith) (λ q.
        let one = b.kept.own (group_of c) g (omega arith) l (bits_own c some) q in
        omega arith)
        ∙ old.noted c p some);
  }
