-- Laws of the check of names: what passed names tell, how they come to pass, and the check pair by pair. Assumes nothing.
use mathlib.Core.Path.{◌≡◌, refl}
use mathlib.Core.Bool.{true, ◌&&◌, ◌||◌}
use mathlib.Core.List.{List, [], ◌∷◌}
use Prim.Native.Nat.{ℕ, ◌+◌, ◌*◌, ◌<◌, ◌≤◌}
use native.Mathlib.Numerals.{add-one}
use native.Mathlib.Omega.{arith}
use borrow.Author.Tests.{leb-true, ltb-true, eqb-true, lt-ltb, le-leb}
use lib.Dec.{leb, ltb, eqb}
use lib.ListN.{get_or, drop, drop_of_length-le}
use lib.Seq.{drop-cons}
use Rattle.words.specs.Layout.{pending_at, live_at, next_at, handle_at}
use Rattle.words.specs.Stores.{Store, ◌≔◌}
use Rattle.words.specs.Journal.{pairs, pair_at, pending, name_ok, names_ok}
use Rattle.words.proofs.Scan.{by_bool, and_split, and_join}
use Rattle.words.proofs.Plans.{Each, Rising, each_map, get_or_tab}
use Rattle.words.proofs.Pairs.{length_pairs}

-- ---- one name

-- a word that may be named lies in front of the pairs and is not word 6
pub name_fine : (first w : ℕ) → pending_at < first → name_ok first w ≡ true → (w < first) × (w ≡ pending_at → ⊥)
unfolding name_ok
name_fine first w front e =
    by_bool (eqb w live_at)
    (λ a. let z : w ≡ 4 = eqb-true w 4 a in (omega arith, λ q. omega arith))
    (λ a. by_bool (eqb w next_at)
    (λ b. let z : w ≡ 5 = eqb-true w 5 b in (omega arith, λ q. omega arith))
    (λ b.
    let s = and_split (leb 8 w) (ltb w first) (rw (a, b) at e) in
    let low : 8 ≤ w = leb-true 8 w s.0 in
    let high : w < first = ltb-true w first s.1 in
    (high, λ q. omega arith)))

pub name_live : (first : ℕ) → name_ok first live_at ≡ true
unfolding name_ok
name_live first = refl

pub name_next : (first : ℕ) → name_ok first next_at ≡ true
unfolding name_ok
name_next first = refl

-- every word from the first handle up to the pairs may be named
pub name_from : (first w : ℕ) → handle_at 0 ≤ w → w < first → name_ok first w ≡ true
unfolding name_ok
name_from first w l h = by_bool (eqb w live_at || eqb w next_at) (λ e. rw e) (λ e. rw (e, le-leb 8 w l, lt-ltb w first h))

-- ---- the names of some changes

names_parts : (first last : ℕ) (w : Store) (ws : List Store) → names_ok first last (w ∷ ws) ≡ true
    → (name_ok first w.at ≡ true) × (last < w.at) × (names_ok first w.at ws ≡ true)
unfolding names_ok
names_parts first last w ws e =
    let s = and_split (name_ok first w.at) (ltb last w.at && names_ok first w.at ws) e in
    let r = and_split (ltb last w.at) (names_ok first w.at ws) s.1 in
    (s.0, ltb-true last w.at r.0, r.1)

pub names_each : (first last : ℕ) (ws : List Store) → names_ok first last ws ≡ true → Each (λ s. name_ok first s.at ≡ true) ws
names_each first last [] e = tt
names_each first last (w ∷ ws) e =
    let r = names_parts first last w ws e in
    (r.0, names_each first w.at ws r.2)

pub names_above : (first last : ℕ) (ws : List Store) → names_ok first last ws ≡ true → Each (λ s. last < s.at) ws
names_above first last [] e = tt
names_above first last (w ∷ ws) e =
    let r = names_parts first last w ws e in
    let l : last < w.at = r.1 in
    (l, each_map (λ s. w.at < s.at) (λ s. last < s.at) ws (λ s h. omega arith) (names_above first w.at ws r.2))

pub names_rising : (first last : ℕ) (ws : List Store) → names_ok first last ws ≡ true → Rising ws
names_rising first last [] e = tt
names_rising first last (w ∷ ws) e =
    let r = names_parts first last w ws e in
    (names_above first w.at ws r.2, names_rising first w.at ws r.2)

pub names_fine : (first last : ℕ) (ws : List Store) → pending_at < first → names_ok first last ws ≡ true
    → Each (λ s. (s.at < first) × (s.at ≡ pending_at → ⊥)) ws
names_fine first last ws front e =
    each_map (λ s. name_ok first s.at ≡ true) (λ s. (s.at < first) × (s.at ≡ pending_at → ⊥)) ws
    (λ s h. name_fine first s.at front h) (names_each first last ws e)

pub names_below : (first last : ℕ) (ws : List Store) → pending_at < first → names_ok first last ws ≡ true → Each (λ s. s.at < first) ws
names_below first last ws front e =
    each_map (λ s. (s.at < first) × (s.at ≡ pending_at → ⊥)) (λ s. s.at < first) ws (λ s h. h.0) (names_fine first last ws front e)

-- and the other way round
pub names_make : (first last : ℕ) (ws : List Store) → Each (λ s. name_ok first s.at ≡ true) ws → Each (λ s. last < s.at) ws → Rising ws
    → names_ok first last ws ≡ true
unfolding names_ok
names_make first last [] h l r = refl
names_make first last (w ∷ ws) h l r =
    and_join (name_ok first w.at) (ltb last w.at && names_ok first w.at ws) h.0
    (and_join (ltb last w.at) (names_ok first w.at ws) (lt-ltb last w.at l.0) (names_make first w.at ws h.1 r.0 r.1))

-- ---- the names of pairs

-- where no pair is pending the pairs are as they should be
pub names_none : (first : ℕ) (t : List ℕ) → pending t ≡ 0 → names_ok first 0 (pairs t first (pending t)) ≡ true
unfolding names_ok pairs
names_none first t e = rw e

-- the loop over the pairs: what is left to check from the j-th on
pub names_step : (t : List ℕ) (first p j last : ℕ) → j < p
    → names_ok first last (drop j (pairs t first p))
    ≡ (name_ok first (get_or t (first + 2 * j) 0) && (ltb last (get_or t (first + 2 * j) 0) && names_ok first (get_or t (first + 2 * j) 0) (drop (j + 1) (pairs t first p))))
unfolding names_ok pairs
names_step t first p j last h =
    rw (add-one, drop-cons (pairs t first p) j (0 ≔ 0) (rw length_pairs h), get_or_tab (pair_at t first) p j (0 ≔ 0) h)

pub names_end : (t : List ℕ) (first p last : ℕ) → names_ok first last (drop p (pairs t first p)) ≡ true
unfolding names_ok
names_end t first p last = rw (drop_of_length-le (pairs t first p) {i = p} (rw length_pairs (omega arith)))
