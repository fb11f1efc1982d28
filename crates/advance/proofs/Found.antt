-- What a search answers that finds a place. Assumes nothing.
use Prim.Native.Nat.{ℕ, ◌<◌}
use mathlib.Core.Path.{◌≡◌, refl, subst}
use native.Mathlib.Omega.{arith}
use Rattle.std.specs.Prelude.{Option, Some, None, IsSome}
use Rattle.search.specs.Search.{Found}

pub found_some : (n at : ℕ) (r : Option ℕ) → Found n at r → at < n → IsSome r
found_some n at None q l = absurd (omega (arith, q, l))
found_some n at (Some i) q l = refl

pub found_is : (n at : ℕ) (r : Option ℕ) → Found n at r → (x : ℕ) → r ≡ Some x → x ≡ at
found_is n at r f x e = (subst (λ (o : Option ℕ). Found n at o) e f).1
