-- The invariant over a history's domains at one byte x, with m the byte that memory has there, and every line keeps it. Assumes nothing.
use Prim.Native.Nat.{ℕ, zero, suc, ◌<◌}
use mathlib.Core.Bool.{Bool, true, false, cond, not, ◌&&◌, true≢false}
use mathlib.Core.List.{List, [], ◌∷◌, ◌++◌, map-append}
use mathlib.Core.Logic.{◌⊎◌, inl, inr}
use mathlib.Core.Option.{some}
use mathlib.Core.Path.{◌≡◌, refl, ap, subst, ◌∙◌, sym}
use borrow.Author.Tests.{eq-eqb}
use lib.Dec.{eqb}
use lib.ListN.{length, get_or, take}
use Rattle.words.proofs.Scan.{or_split, count_none}
use Rattle.words.proofs.Plans.{take_map}
use Rattle.model.specs.State.{Label}
use Rattle.model.specs.History.{Tracked, may_write, at_innermost, into_parent, new_domain, add_tracked, bytes_of, delete_around, advance_tracked, advance_line, commit_tracked, is_in, any_writable, write_line, exclude_after, differs, mismatches, tracked_at, count_of}
use Rattle.model.specs.Restore.{cell_of_byte}
use Rattle.model.specs.Session.{AllZero}
use Rattle.model.proofs.Byte.{Hold, add_h, merge_h, back_at, any_wr, good, map_at_innermost, map_into_parent, good_back, good_restore, good_mix, good_create, good_write, good_add, good_commit, good_under, good_own, good_by}
use Rattle.model.proofs.Bytes.{byte_in, kept_at, add_byte, delete_byte, advance_byte, give_byte, commit_byte, any_writable_lem}

abbrev pub Inv : ℕ → ℕ → List Tracked → Type 0
Inv x m [] = Unit {0}
Inv x m (q ∷ qs) = (q.excluded ≡ false → q.unprotected x ≡ false → good false (get_or q.snapshot x 0) m (kept_at x (q ∷ qs))) × Inv x m qs

-- ---- create

pub inv_create : (x h : ℕ) (memory : List ℕ) (qs : List Tracked) → Inv x (get_or memory x 0) qs → Inv x (get_or memory x 0) (qs ++ (new_domain h memory ∷ []))
inv_create x h memory [] v = (λ e s. refl, tt)
inv_create x h memory (q ∷ qs) v = (
  λ e s. good_by (get_or q.snapshot x 0) (get_or memory x 0) (map-append (byte_in x) (q ∷ qs) (new_domain h memory ∷ []))
      (good_create false (get_or q.snapshot x 0) (get_or memory x 0) (kept_at x (q ∷ qs)) (v.0 e s)),
  inv_create x h memory qs v.1,
)

-- ---- add

pub inv_add : (x first n : ℕ) (l : Label) (memory : List ℕ) (qs : List Tracked) → Inv x (get_or memory x 0) qs
    → Inv x (get_or memory x 0) (at_innermost (add_tracked memory first n l) qs)
inv_add x first n l memory [] v = tt
inv_add x first n l memory (q ∷ []) v = (
  λ e s. good_by (get_or q.snapshot x 0) (get_or memory x 0)
      (map_at_innermost (byte_in x) (add_tracked memory first n l) (add_h (bytes_of first n x) (may_write l) (get_or memory x 0)) (add_byte memory first n l x) (q ∷ []))
      (good_add false (bytes_of first n x) (may_write l) (get_or q.snapshot x 0) (get_or memory x 0) (kept_at x (q ∷ [])) (v.0 e s)),
  tt,
)
inv_add x first n l memory (q ∷ r ∷ qs) v = (
  λ e s. good_by (get_or q.snapshot x 0) (get_or memory x 0)
      (map_at_innermost (byte_in x) (add_tracked memory first n l) (add_h (bytes_of first n x) (may_write l) (get_or memory x 0)) (add_byte memory first n l x) (q ∷ r ∷ qs))
      (good_add false (bytes_of first n x) (may_write l) (get_or q.snapshot x 0) (get_or memory x 0) (kept_at x (q ∷ r ∷ qs)) (v.0 e s)),
  inv_add x first n l memory (r ∷ qs) v.1,
)

-- ---- delete

kept_delete : (x first n d : ℕ) (qs : List Tracked) → bytes_of first n x ≡ false → kept_at x (delete_around first n d qs) ≡ kept_at x qs
kept_delete x first n d [] e = refl
kept_delete x first n zero (q ∷ qs) e = refl
kept_delete x first n (suc zero) (q ∷ qs) e = ap (λ (h : Hold). h ∷ kept_at x qs) (delete_byte first n x q e)
kept_delete x first n (suc (suc d)) (q ∷ qs) e = ap {B = List Hold} (λ hs. byte_in x q ∷ hs) (kept_delete x first n (suc d) qs e)

pub inv_delete : (x m first n d : ℕ) (qs : List Tracked) → Inv x m qs → Inv x m (delete_around first n d qs)
inv_delete x m first n d [] v = tt
inv_delete x m first n zero (q ∷ qs) v = v
inv_delete x m first n (suc zero) (q ∷ qs) v = (
  λ e s. let o = or_split (bytes_of first n x) (q.unprotected x) s in
      good_by (get_or q.snapshot x 0) m (kept_delete x first n 1 (q ∷ qs) o.0) (v.0 e o.1),
  v.1,
)
inv_delete x m first n (suc (suc d)) (q ∷ qs) v = (
  λ e s. let o = or_split (bytes_of first n x) (q.unprotected x) s in
      good_by (get_or q.snapshot x 0) m (kept_delete x first n (suc (suc d)) (q ∷ qs) o.0) (v.0 e o.1),
  inv_delete x m first n (suc d) qs v.1,
)

-- ---- advance

line_cons : (memory : List ℕ) (q r t : Tracked) (qs : List Tracked) → advance_line memory (q ∷ r ∷ t ∷ qs) ≡ q ∷ advance_line memory (r ∷ t ∷ qs)
line_cons memory q r t [] = refl
line_cons memory q r t (u ∷ qs) = refl

-- a domain around the innermost: its snapshot stays, and what changed is held by the next domain out
line_good : (x : ℕ) (memory : List ℕ) (p : ℕ) (q r : Tracked) (qs : List Tracked) (b : Bool) → good b p (get_or memory x 0) (kept_at x (q ∷ r ∷ qs))
    → good b p (get_or memory x 0) (kept_at x (advance_line memory (q ∷ r ∷ qs)))
line_good x memory p q r [] b g = give_byte b p x memory q r g
line_good x memory p q r (t ∷ qs) b g =
    subst (λ (l : List Tracked). good b p (get_or memory x 0) (kept_at x l)) (sym (line_cons memory q r t qs))
    (good_under p (get_or memory x 0) (byte_in x q) (kept_at x (r ∷ t ∷ qs)) (kept_at x (advance_line memory (r ∷ t ∷ qs))) (line_good x memory p r t qs) b g)

own_good : (x : ℕ) (memory : List ℕ) (q : Tracked) → Inv x (get_or memory x 0) (q ∷ []) → Inv x (get_or memory x 0) (advance_tracked memory q ∷ [])
own_good x memory q v = (
  λ e s. good_by (get_or memory x 0) (get_or memory x 0) (ap (λ (h : Hold). h ∷ []) (advance_byte memory x q))
      (good_own (get_or q.snapshot x 0) (get_or memory x 0) (byte_in x q) (v.0 e s)),
  tt,
)

pub inv_advance : (x : ℕ) (memory : List ℕ) (qs : List Tracked) → Inv x (get_or memory x 0) qs → Inv x (get_or memory x 0) (advance_line memory qs)
inv_advance x memory [] v = tt
inv_advance x memory (q ∷ []) v = own_good x memory q v
inv_advance x memory (q ∷ r ∷ []) v =
    (λ e s. line_good x memory (get_or q.snapshot x 0) q r [] false (v.0 e s), own_good x memory r v.1)
inv_advance x memory (q ∷ r ∷ t ∷ qs) v =
    subst (Inv x (get_or memory x 0)) (sym (line_cons memory q r t qs))
    (λ e s. further e s, inv_advance x memory (r ∷ t ∷ qs) v.1)
  where
    further : q.excluded ≡ false → q.unprotected x ≡ false → good false (get_or q.snapshot x 0) (get_or memory x 0) (kept_at x (q ∷ advance_line memory (r ∷ t ∷ qs)))
    further e s =
        subst (λ (l : List Tracked). good false (get_or q.snapshot x 0) (get_or memory x 0) (kept_at x l)) (line_cons memory q r t qs)
        (line_good x memory (get_or q.snapshot x 0) q r (t ∷ qs) false (v.0 e s))

-- ---- commit

pub inv_commit : (x m : ℕ) (qs : List Tracked) → Inv x m qs → Inv x m (into_parent commit_tracked qs)
inv_commit x m [] v = tt
inv_commit x m (q ∷ []) v = tt
inv_commit x m (q ∷ r ∷ []) v = (
  λ e s. good_by (get_or q.snapshot x 0) m (map_into_parent (byte_in x) commit_tracked merge_h (commit_byte x) (q ∷ r ∷ []))
      (good_commit false (get_or q.snapshot x 0) m (byte_in x q) (byte_in x r) [] (v.0 e s)),
  tt,
)
inv_commit x m (q ∷ r ∷ t ∷ qs) v = (
  λ e s. good_by (get_or q.snapshot x 0) m (map_into_parent (byte_in x) commit_tracked merge_h (commit_byte x) (q ∷ r ∷ t ∷ qs))
      (good_commit false (get_or q.snapshot x 0) m (byte_in x q) (byte_in x r) (kept_at x (t ∷ qs)) (v.0 e s)),
  inv_commit x m (r ∷ t ∷ qs) v.1,
)

-- ---- restore, of the domain at depth i + 1

pub inv_restore : (x m i : ℕ) (qs : List Tracked) → Inv x m qs → Inv x (back_at i m (kept_at x qs)) (take (suc i) qs)
inv_restore x m i [] v = tt
inv_restore x m zero (q ∷ qs) v = (λ e s. good_restore false (get_or q.snapshot x 0) m zero (kept_at x (q ∷ qs)) (v.0 e s), tt)
inv_restore x m (suc i) (q ∷ qs) v = (
  λ e s. good_by (get_or q.snapshot x 0) (back_at i m (kept_at x qs)) (sym (take_map (byte_in x) (suc (suc i)) (q ∷ qs)))
      (good_restore false (get_or q.snapshot x 0) m (suc i) (kept_at x (q ∷ qs)) (v.0 e s)),
  inv_restore x m i qs v.1,
)

-- stopped: the domains inside are excluded, and memory's byte is the old one or the one to be put back

kept_exclude : (x d : ℕ) (qs : List Tracked) → kept_at x (exclude_after d qs) ≡ kept_at x qs
kept_exclude x d [] = refl
kept_exclude x zero (q ∷ qs) = ap {B = List Hold} (λ hs. byte_in x q ∷ hs) (kept_exclude x zero qs)
kept_exclude x (suc d) (q ∷ qs) = ap {B = List Hold} (λ hs. byte_in x q ∷ hs) (kept_exclude x d qs)

inv_excluded : (x m : ℕ) (qs : List Tracked) → Inv x m (exclude_after zero qs)
inv_excluded x m [] = tt
inv_excluded x m (q ∷ qs) = (λ e s. absurd (true≢false e), inv_excluded x m qs)

pub inv_stopped : (x m n i : ℕ) (qs : List Tracked) → (n ≡ m) ⊎ (n ≡ back_at i m (kept_at x qs)) → Inv x m qs → Inv x n (exclude_after (suc i) qs)
inv_stopped x m n i [] d v = tt
inv_stopped x m n zero (q ∷ qs) d v = (
  λ e s. good_by (get_or q.snapshot x 0) n (kept_exclude x 1 (q ∷ qs))
      (good_mix false (get_or q.snapshot x 0) m n zero (kept_at x (q ∷ qs)) (v.0 e s) d),
  inv_excluded x n qs,
)
inv_stopped x m n (suc i) (q ∷ qs) d v = (
  λ e s. good_by (get_or q.snapshot x 0) n (kept_exclude x (suc (suc i)) (q ∷ qs))
      (good_mix false (get_or q.snapshot x 0) m n (suc i) (kept_at x (q ∷ qs)) (v.0 e s) d),
  inv_stopped x m n i qs d v.1,
)

-- ---- program writes

kept_write : (x : ℕ) (places : List ℕ) (qs : List Tracked) → kept_at x (write_line places qs) ≡ kept_at x qs
kept_write x places [] = refl
kept_write x places (q ∷ qs) = ap {B = List Hold} (λ hs. byte_in x q ∷ hs) (kept_write x places qs)

-- a byte that a write leaves protected: not written, or held read-write from the domain inwards
write_one : (r w : Bool) → (r && not w) ≡ false → (r ≡ false) ⊎ (w ≡ true)
write_one false w e = inl refl
write_one true true e = inr refl
write_one true false e = absurd (true≢false e)

write_good : (p m n : ℕ) (r w : Bool) (hs : List Hold) → any_wr hs ≡ w → (r ≡ false → n ≡ m) → (r ≡ false) ⊎ (w ≡ true) → good false p m hs
    → good false p n hs
write_good p m n r w hs a k (inl e) g = rw (k e) g
write_good p m n r w hs a k (inr e) g = good_write false p m n hs (a ∙ e) g

pub inv_write : (x m n : ℕ) (places : List ℕ) (qs : List Tracked) → (is_in x places ≡ false → n ≡ m) → Inv x m qs → Inv x n (write_line places qs)
inv_write x m n places [] k v = tt
inv_write x m n places (q ∷ qs) k v = (
  λ e s. let o = or_split (is_in x places && not (any_writable (cell_of_byte x) (q ∷ qs))) (q.unprotected x) s in
      good_by (get_or q.snapshot x 0) n (kept_write x places (q ∷ qs))
      (write_good (get_or q.snapshot x 0) m n (is_in x places) (any_writable (cell_of_byte x) (q ∷ qs)) (kept_at x (q ∷ qs)) (any_writable_lem x (q ∷ qs)) k
      (write_one (is_in x places) (any_writable (cell_of_byte x) (q ∷ qs)) o.0) (v.0 e o.1)),
  inv_write x m n places qs k v.1,
)

-- ---- the count

differs_one : (s : Bool) (a b : ℕ) → (s ≡ false → a ≡ b) → (not s && not (eqb a b)) ≡ false
differs_one true a b e = refl
differs_one false a b e = rw (eq-eqb a b (e refl))

pub count_domain : (memory : List ℕ) (q : Tracked)
    → ((x : ℕ) → x < length memory → q.excluded ≡ false → q.unprotected x ≡ false → get_or memory x 0 ≡ get_or q.snapshot x 0)
    → AllZero (count_of memory (some q))
count_domain memory q f = go q.excluded refl
  where
    go : (b : Bool) → q.excluded ≡ b → AllZero (cond b [] (mismatches memory q ∷ []))
    go true e = tt
    go false e = (
      count_none (length memory) (differs memory q) (λ x l. differs_one (q.unprotected x) (get_or memory x 0) (get_or q.snapshot x 0) (f x l e)),
      tt,
    )

-- a restore of the domain at depth i + 1, from memory to `after`
pub count_restored : (memory after : List ℕ) (i : ℕ) (qs : List Tracked)
    → ((x : ℕ) → x < length after → get_or after x 0 ≡ back_at i (get_or memory x 0) (kept_at x qs))
    → ((x : ℕ) → x < length after → Inv x (get_or memory x 0) qs) → AllZero (count_of after (tracked_at (suc i) qs))
count_restored memory after i [] e v = tt
count_restored memory after zero (q ∷ qs) e v =
    count_domain after q (λ x l k s. e x l ∙ good_back (get_or q.snapshot x 0) (get_or memory x 0) (kept_at x (q ∷ qs)) ((v x l).0 k s))
count_restored memory after (suc i) (q ∷ qs) e v = count_restored memory after i qs e (λ x l. (v x l).1)
