-- Which depth a handle names: at most the innermost, and the same one while the domain lives. Assumes nothing.
use Prim.Native.Nat.{ℕ, zero, suc, ◌≤◌}
use mathlib.Core.List.{List, [], ◌∷◌}
use mathlib.Core.Path.{◌≡◌, refl, ap}
use native.Mathlib.Omega.{arith}
use lib.Dec.{eqb}
use lib.ListN.{length, take}
use lib.Seq.{length-take-le}
use Rattle.words.proofs.Scan.{by_bool}
use Rattle.model.specs.State.{Domain, State}
use Rattle.model.specs.Holdings.{deeper, depth_in, innermost, named}
use Rattle.model.specs.Restore.{restored}

depth_le : (h : ℕ) (ds : List Domain) → depth_in h ds ≤ length ds
depth_le h [] = omega arith
depth_le h (d ∷ ds) =
    let l = depth_le h ds in
    by_bool (eqb d.handle h) (λ e. rw e (omega arith)) (λ e. rw e (inner-le (depth_in h ds) (length ds) l))
  where
    inner-le : (a b : ℕ) → a ≤ b → deeper a ≤ suc b
    inner-le zero b l = omega arith
    inner-le (suc a) b l = omega arith

pub named_le : (h : ℕ) (s : State) → named h s ≤ innermost s
named_le h s = by_bool (eqb h 0) (λ e. rw e (omega arith)) (λ e. rw e (depth_le h s.domains))

-- ---- after a restore of the domain at depth d, which ends those inside it

depth_stays : (h d : ℕ) (ds : List Domain) → depth_in h ds ≤ d → depth_in h (take d ds) ≡ depth_in h ds
depth_stays h zero ds l = omega arith
depth_stays h (suc d) [] l = refl
depth_stays h (suc d) (x ∷ xs) l =
    by_bool (eqb x.handle h) (λ e. rw e) (λ e. rw e (ap deeper (depth_stays h d xs (outer-le (depth_in h xs) d (rw e at l)))))
  where
    outer-le : (a b : ℕ) → deeper a ≤ suc b → a ≤ b
    outer-le zero b l = omega arith
    outer-le (suc a) b l = omega arith

-- the handles of the domain and of those around it name what they named, and so does 0 where it was the innermost
pub named_stays : (h d : ℕ) (s : State) → named h s ≤ d → d ≤ innermost s → named h (restored d s) ≡ named h s
named_stays h d s l high =
    by_bool (eqb h 0)
    (λ e. let n = rw e at l in let k = length-take-le d s.domains high in rw e (omega arith))
    (λ e. rw e (depth_stays h d s.domains (rw e at l)))
