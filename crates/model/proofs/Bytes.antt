-- States and histories byte by byte: what their domains hold of byte x, and what the calls and the history's lines do to it. Assumes nothing.
use Prim.Native.Nat.{ℕ, zero, suc, ◌+◌, ◌<◌}
use mathlib.Core.Bool.{Bool, true, false, cond, ◌||◌, true≢false}
use mathlib.Core.List.{List, [], ◌∷◌, map}
use mathlib.Core.Option.{Option, none, some}
use mathlib.Core.Path.{◌≡◌, refl, sym, ap, ◌∙◌}
use native.Mathlib.Omega.{arith}
use lib.ListN.{length, get_or, drop}
use lib.Seq.{get_or-take, get_or-drop}
use Rattle.words.specs.Layout.{cell_at}
use Rattle.words.specs.Cells.{cell_bytes, same_cell}
use Rattle.words.proofs.Scan.{by_bool}
use Rattle.words.proofs.Plans.{get_or_tab}
use Rattle.model.specs.State.{Label, read_only, read_write, Holding, Domain, State}
use Rattle.model.specs.Holdings.{value_or}
use Rattle.model.specs.Restore.{cell_of_byte, place_in_cell, or_inner, first_held, restored_byte, restored_memory}
use Rattle.model.specs.History.{Kept, Tracked, may_write, kept_writable, turned, entered, add_tracked, bytes_of, delete_tracked, kept_out, give_tracked, renewed, advance_tracked, joined, commit_tracked, any_writable}
use Rattle.model.specs.Session.{SameCell, SameDomains, none_left, same}
use Rattle.model.proofs.Agree.{bytes_same}
use Rattle.model.proofs.Byte.{Hold, free, ro, wr, add_h, adv_h, merge_h, back, back_at, any_wr, good, good_behind, good_given}

-- ---- byte x is byte x % 64 of cell x / 64

pub place_below : (x : ℕ) → place_in_cell x < 64
place_below x = omega arith

pub cell_byte : (memory : List ℕ) (x : ℕ) → get_or (cell_bytes memory (cell_of_byte x)) (place_in_cell x) 0 ≡ get_or memory x 0
cell_byte memory x =
    let l : place_in_cell x < 64 = omega arith in
    let e : cell_at (cell_of_byte x) + place_in_cell x ≡ x = omega arith in
    get_or-take 64 (drop (cell_at (cell_of_byte x)) memory) (place_in_cell x) 0 l
    ∙ get_or-drop (cell_at (cell_of_byte x)) memory (place_in_cell x) 0
    ∙ ap (λ (i : ℕ). get_or memory i 0) e

-- ---- what is held of one byte

abbrev pub labelled : Label → ℕ → Hold
labelled read_only v = ro v
labelled read_write v = wr v

abbrev pub held_byte : Option Holding → ℕ → Hold
held_byte none j = free
held_byte (some h) j = labelled h.label (get_or h.value j 0)

abbrev pub kept_byte : Option Kept → ℕ → Hold
kept_byte none j = free
kept_byte (some k) j = labelled k.label (get_or k.bytes j 0)

abbrev pub byte_of : ℕ → Domain → Hold
byte_of x d = held_byte (d.holds (cell_of_byte x)) (place_in_cell x)

abbrev pub byte_in : ℕ → Tracked → Hold
byte_in x q = kept_byte (q.cells (cell_of_byte x)) (place_in_cell x)

-- of byte x, by a state's domains and by a history's, outermost first
abbrev pub held_at : ℕ → List Domain → List Hold
held_at x ds = map (byte_of x) ds

abbrev pub kept_at : ℕ → List Tracked → List Hold
kept_at x qs = map (byte_in x) qs

same_byte : (o : Option Holding) (p : Option Kept) (j : ℕ) → j < 64 → SameCell o p → held_byte o j ≡ kept_byte p j
same_byte none none j l e = refl
same_byte none (some p) j l e = absurd e
same_byte (some h) none j l e = absurd e
same_byte (some h) (some p) j l e =
    ap (λ (a : Label). labelled a (get_or h.value j 0)) e.0 ∙ ap (λ (v : ℕ). labelled p.label v) (e.1 j l)

pub agree_bytes : {ds : List Domain} {qs : List Tracked} (x : ℕ) → SameDomains ds qs → held_at x ds ≡ kept_at x qs
agree_bytes x none_left = refl
agree_bytes x (same {d = d} {q = q} e f a) =
    let h : byte_of x d ≡ byte_in x q =
    same_byte (d.holds (cell_of_byte x)) (q.cells (cell_of_byte x)) (place_in_cell x) (place_below x) (f (cell_of_byte x)) in
    λ i. h i ∷ agree_bytes x a i

-- ---- restore: the byte that it leaves is the first holder's

back_labelled : (m v : ℕ) (l : Label) (hs : List Hold) → v ≡ back m (labelled l v ∷ hs)
back_labelled m v read_only hs = refl
back_labelled m v read_write hs = refl

first_one : (v : List ℕ) (j : ℕ) (o r : Option Holding) (hs : List Hold) → get_or (value_or v r) j 0 ≡ back (get_or v j 0) hs
    → get_or (value_or v (or_inner o r)) j 0 ≡ back (get_or v j 0) (held_byte o j ∷ hs)
first_one v j none r hs e = e
first_one v j (some h) r hs e = back_labelled (get_or v j 0) (get_or h.value j 0) h.label hs

first_byte : (v : List ℕ) (c j : ℕ) (ds : List Domain) → get_or (value_or v (first_held ds c)) j 0 ≡ back (get_or v j 0) (map (λ d. held_byte (d.holds c) j) ds)
first_byte v c j [] = refl
first_byte v c j (d ∷ ds) = first_one v j (d.holds c) (first_held ds c) (map (λ d. held_byte (d.holds c) j) ds) (first_byte v c j ds)

back_byte : (memory : List ℕ) (i x : ℕ) (ds : List Domain)
    → get_or (value_or (cell_bytes memory (cell_of_byte x)) (first_held (drop i ds) (cell_of_byte x))) (place_in_cell x) 0 ≡ back_at i (get_or memory x 0) (held_at x ds)
back_byte memory zero x [] = cell_byte memory x
back_byte memory zero x (d ∷ ds) =
    first_byte (cell_bytes memory (cell_of_byte x)) (cell_of_byte x) (place_in_cell x) (d ∷ ds)
    ∙ ap (λ (m : ℕ). back m (held_at x (d ∷ ds))) (cell_byte memory x)
back_byte memory (suc i) x [] = cell_byte memory x
back_byte memory (suc i) x (d ∷ ds) = back_byte memory i x ds

pub restored_byte_lem : (i x : ℕ) (s : State) (memory : List ℕ) → x < length memory
    → get_or (restored_memory (suc i) s memory) x 0 ≡ back_at i (get_or memory x 0) (held_at x s.domains)
unfolding restored_memory
restored_byte_lem i x s memory l = get_or_tab (restored_byte (suc i) s memory) (length memory) x 0 l ∙ back_byte memory i x s.domains

-- ---- the history's lines at one byte

entered_byte : (l : Label) (bytes : List ℕ) (p : Option Kept) (j : ℕ) → kept_byte (entered l bytes p) j ≡ add_h true (may_write l) (get_or bytes j 0) (kept_byte p j)
entered_byte read_only bytes none j = refl
entered_byte read_write bytes none j = refl
entered_byte l bytes (some k) j = go l k.label (get_or k.bytes j 0)
  where
    go : (l a : Label) (v : ℕ) → labelled (turned l a) v ≡ add_h true (may_write l) (get_or bytes j 0) (labelled a v)
    go read_only read_only v = refl
    go read_only read_write v = refl
    go read_write read_only v = refl
    go read_write read_write v = refl

pub add_byte : (memory : List ℕ) (first n : ℕ) (l : Label) (x : ℕ) (q : Tracked)
    → byte_in x (add_tracked memory first n l q) ≡ add_h (bytes_of first n x) (may_write l) (get_or memory x 0) (byte_in x q)
add_byte memory first n l x q =
    go (bytes_of first n x)
    ∙ ap (λ (v : ℕ). add_h (bytes_of first n x) (may_write l) v (byte_in x q)) (cell_byte memory x)
  where
    go : (r : Bool) → kept_byte (cond r (entered l (cell_bytes memory (cell_of_byte x)) (q.cells (cell_of_byte x))) (q.cells (cell_of_byte x))) (place_in_cell x)
        ≡ add_h r (may_write l) (get_or (cell_bytes memory (cell_of_byte x)) (place_in_cell x) 0) (byte_in x q)
    go true = entered_byte l (cell_bytes memory (cell_of_byte x)) (q.cells (cell_of_byte x)) (place_in_cell x)
    go false = refl

pub delete_byte : (first n x : ℕ) (q : Tracked) → bytes_of first n x ≡ false → byte_in x (delete_tracked first n q) ≡ byte_in x q
delete_byte first n x q e = go (bytes_of first n x) e
  where
    go : (r : Bool) → r ≡ false → kept_byte (cond r none (q.cells (cell_of_byte x))) (place_in_cell x) ≡ byte_in x q
    go true e = absurd (true≢false e)
    go false e = refl

renewed_byte : (bytes : List ℕ) (p : Option Kept) (j : ℕ) → kept_byte (renewed bytes p) j ≡ adv_h (get_or bytes j 0) (kept_byte p j)
renewed_byte bytes none j = refl
renewed_byte bytes (some k) j = go k.label
  where
    go : (a : Label) → labelled a (get_or (cond (may_write a) bytes k.bytes) j 0) ≡ adv_h (get_or bytes j 0) (labelled a (get_or k.bytes j 0))
    go read_only = refl
    go read_write = refl

pub advance_byte : (memory : List ℕ) (x : ℕ) (q : Tracked) → byte_in x (advance_tracked memory q) ≡ adv_h (get_or memory x 0) (byte_in x q)
advance_byte memory x q =
    renewed_byte (cell_bytes memory (cell_of_byte x)) (q.cells (cell_of_byte x)) (place_in_cell x) ∙ ap (λ (v : ℕ). adv_h v (byte_in x q)) (cell_byte memory x)

-- the innermost and its parent: a changed cell that the parent lacks goes there with its old byte; one that did not change has memory's already
give_one : (b : Bool) (p : ℕ) (bytes kept : List ℕ) (a : Label) (j : ℕ) → j < 64 → good b p (get_or bytes j 0) (free ∷ labelled a (get_or kept j 0) ∷ [])
    → good b p (get_or bytes j 0) (kept_byte (kept_out bytes none (some (record { label = a; bytes = kept }))) j
    ∷ kept_byte (renewed bytes (some (record { label = a; bytes = kept }))) j ∷ [])
give_one b p bytes kept read_only j l g = g
give_one b p bytes kept read_write j l g =
    by_bool (same_cell kept bytes)
    (λ y. rw y (sym (bytes_same kept bytes y j l) ∙ g))
    (λ y. rw y (good_given b p (get_or bytes j 0) (get_or kept j 0) g))

give_pair : (b : Bool) (p : ℕ) (bytes : List ℕ) (o i : Option Kept) (j : ℕ) → j < 64 → good b p (get_or bytes j 0) (kept_byte o j ∷ kept_byte i j ∷ [])
    → good b p (get_or bytes j 0) (kept_byte (kept_out bytes o i) j ∷ kept_byte (renewed bytes i) j ∷ [])
give_pair b p bytes none none j l g = g
give_pair b p bytes none (some k) j l g = give_one b p bytes k.bytes k.label j l g
give_pair b p bytes (some o) i j l g = go o.label g
  where
    go : (a : Label) → good b p (get_or bytes j 0) (labelled a (get_or o.bytes j 0) ∷ kept_byte i j ∷ [])
        → good b p (get_or bytes j 0) (labelled a (get_or o.bytes j 0) ∷ kept_byte (renewed bytes i) j ∷ [])
    go read_only g = (g.0, rw (renewed_byte bytes i j) (good_behind p (get_or bytes j 0) (kept_byte i j) g.1))
    go read_write g = g

pub give_byte : (b : Bool) (p x : ℕ) (memory : List ℕ) (o i : Tracked) → good b p (get_or memory x 0) (byte_in x o ∷ byte_in x i ∷ [])
    → good b p (get_or memory x 0) (byte_in x (give_tracked memory o i) ∷ byte_in x (advance_tracked memory i) ∷ [])
give_byte b p x memory o i g =
    let c = cell_of_byte x in
    rw (← cell_byte memory x)
    (give_pair b p (cell_bytes memory c) (o.cells c) (i.cells c) (place_in_cell x) (place_below x) (rw (cell_byte memory x) g))

joined_byte : (o i : Option Kept) (j : ℕ) → kept_byte (joined o i) j ≡ merge_h (kept_byte o j) (kept_byte i j)
joined_byte none i j = refl
joined_byte (some o) none j = go o.label (get_or o.bytes j 0)
  where
    go : (a : Label) (v : ℕ) → labelled a v ≡ merge_h (labelled a v) free
    go read_only v = refl
    go read_write v = refl
joined_byte (some o) (some i) j = go o.label i.label (get_or o.bytes j 0) (get_or i.bytes j 0)
  where
    go : (a b : Label) (v w : ℕ) → labelled (turned b a) v ≡ merge_h (labelled a v) (labelled b w)
    go read_only read_only v w = refl
    go read_only read_write v w = refl
    go read_write read_only v w = refl
    go read_write read_write v w = refl

pub commit_byte : (x : ℕ) (o i : Tracked) → byte_in x (commit_tracked o i) ≡ merge_h (byte_in x o) (byte_in x i)
commit_byte x o i = joined_byte (o.cells (cell_of_byte x)) (i.cells (cell_of_byte x)) (place_in_cell x)

writable_byte : (p : Option Kept) (j : ℕ) (hs : List Hold) → any_wr (kept_byte p j ∷ hs) ≡ (kept_writable p || any_wr hs)
writable_byte none j hs = refl
writable_byte (some k) j hs = go k.label (get_or k.bytes j 0)
  where
    go : (a : Label) (v : ℕ) → any_wr (labelled a v ∷ hs) ≡ (may_write a || any_wr hs)
    go read_only v = refl
    go read_write v = refl

pub any_writable_lem : (x : ℕ) (qs : List Tracked) → any_wr (kept_at x qs) ≡ any_writable (cell_of_byte x) qs
any_writable_lem x [] = refl
any_writable_lem x (q ∷ qs) =
    writable_byte (q.cells (cell_of_byte x)) (place_in_cell x) (kept_at x qs)
    ∙ ap (λ (b : Bool). kept_writable (q.cells (cell_of_byte x)) || b) (any_writable_lem x qs)
