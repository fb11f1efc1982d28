-- Laws of cells and bodies: what a comparison tells, stores beside a cell, and a copy by way of two parts. Assumes nothing.
use Prim.Native.Nat.{ℕ, ◌+◌, ◌-◌, ◌*◌, ◌≤◌, ◌<◌}
use mathlib.Core.Bool.{true}
use mathlib.Core.List.{List, map}
use mathlib.Core.Logic.{◌⊎◌, ⊎_elim}
use mathlib.Core.Path.{◌≡◌, sym, ap, ◌∙◌}
use native.Mathlib.Omega.{arith}
use borrow.Author.Tests.{eqb-true}
use borrow.Rule.Slice.PartMut.{put_mid, mid_of}
use lib.Dec.{eqb}
use lib.ListN.{length, get_or, take, drop, length-take, length-drop}
use lib.Seq.{ext_get_or, get_or-take, get_or-drop, take_all}
use Rattle.words.specs.Layout.{cell_at}
use Rattle.words.specs.Stores.{tab, Store, ◌≔◌, stores}
use Rattle.words.specs.Cells.{cell_bytes, same_cell, copy_plan, cell_plan}
use Rattle.words.proofs.Scan.{all_at}
use Rattle.words.proofs.Plans.{shift, stores_part, each_take, each_tab, take_map, map_tab_from, tab_below, Each, each_map, length_stores, get_or_stores}

-- a cell that lies in its buffer has 64 bytes
pub cell_bytes_length : (s : List ℕ) (c : ℕ) → cell_at c + 64 ≤ length s → length (cell_bytes s c) ≡ 64
cell_bytes_length s c h = simp (length-take, length-drop) (omega arith)

-- outside cell c
abbrev pub Outside : ℕ → Store → Type 0
Outside c s = (s.at < cell_at c) ⊎ (cell_at c + 64 ≤ s.at)

-- stores there keep its bytes
pub cell_kept : (ps : List Store) (l : List ℕ) (c : ℕ) → Each (Outside c) ps → cell_bytes (stores ps l) c ≡ cell_bytes l c
cell_kept ps l c out =
    ext_get_or 0 (cell_bytes (stores ps l) c) (cell_bytes l c)
    (simp (length-take, length-drop, length_stores))
    (λ j h.
    let small : j < 64 = short (stores ps l) j h in
    rw (get_or-take 64 (drop (cell_at c) (stores ps l)) j 0 small, get_or-take 64 (drop (cell_at c) l) j 0 small, get_or-drop (cell_at c) (stores ps l) j 0, get_or-drop (cell_at c) l j 0)
    (get_or_stores ps l (cell_at c + j)
    (each_map (Outside c) (λ s. cell_at c + j ≡ s.at → ⊥) ps (λ s f q. ⊎_elim (λ a. omega arith) (λ a. omega arith) f) out)))
  where
    short : (l : List ℕ) (j : ℕ) → j < length (cell_bytes l c) → j < 64
    short l j h = let z = rw length-take at h in omega arith

-- 64 bytes are their own first cell
pub first_cell : (v : List ℕ) → length v ≡ 64 → cell_bytes v 0 ≡ v
first_cell v q = take_all 64 v (omega arith)

-- a part from k to k + 64, as the code has it
pub part_from : (s : List ℕ) (k : ℕ) → take (k + 64 - k) (drop k s) ≡ take 64 (drop k s)
part_from s k =
    let e : k + 64 - k ≡ 64 = omega arith in
    rw e

-- 64 bytes that agree are the same bytes
pub same_cell_is : (a b : List ℕ) → length a ≡ 64 → length b ≡ 64 → same_cell a b ≡ true → a ≡ b
unfolding same_cell
same_cell_is a b la lb h =
    ext_get_or 0 a b (la ∙ sym lb) (λ i l. eqb-true _ _ (all_at 64 (λ (k : ℕ). eqb (get_or a k 0) (get_or b k 0)) h i (omega arith)))

-- a cell copied by way of the two parts, `&s[64 * from..64 * from + 64]` and `&mut d[64 * to..64 * to + 64]`
pub copy_part : (s d y : List ℕ) (from to k : ℕ)
    → y ≡ stores (take k (copy_plan (take (cell_at from + 64 - cell_at from) (drop (cell_at from) s)))) (mid_of (cell_at to) (cell_at to + 64 - cell_at to) d)
    → put_mid (cell_at to) (cell_at to + 64 - cell_at to) d y ≡ stores (take k (cell_plan s from to)) d
unfolding copy_plan cell_plan
copy_part s d y from to k e =
    let z : 64 * from + 64 - 64 * from ≡ 64 = omega arith in
    let a : ℕ = 64 * to in
    let n : ℕ = 64 * to + 64 - 64 * to in
    let plan : ℕ → Store = λ j. j ≔ get_or (take (64 * from + 64 - 64 * from) (drop (64 * from) s)) j 0 in
    let same : map (shift a) (tab 64 plan) ≡ tab 64 (λ j. 64 * to + j ≔ get_or s (64 * from + j) 0) =
    map_tab_from (shift a) plan 0 64
    ∙ tab_below (λ j. shift a (plan j)) (λ j. 64 * to + j ≔ get_or s (64 * from + j) 0) 64 (λ j l. rw (get_or-take (64 * from + 64 - 64 * from) (drop (64 * from) s) j 0 (omega arith), get_or-drop)) in
    ap (put_mid a n d) e
    ∙ stores_part a n d (take k (tab 64 plan)) (each_take (λ s. s.at < n) k (tab 64 plan) (each_tab (λ s. s.at < n) plan 64 (λ j l. omega arith)))
    ∙ rw (← take_map, same)
