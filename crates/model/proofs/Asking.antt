-- Laws of one question after another. Assumes nothing.
use Prim.Native.Nat.{ℕ, zero, suc, ◌<◌}
use mathlib.Core.Bool.{Bool, true, false}
use mathlib.Core.Path.{◌≡◌, refl, sym}
use native.Mathlib.Omega.{arith}
use borrow.Author.Tests.{eqb-false}
use Rattle.model.specs.Answer.{ask, or_else}

pub ask_yes : (b : Bool) (n rest : ℕ) → 0 < n → ask b n rest ≡ 0 → b ≡ true
ask_yes true n rest h e = refl
ask_yes false n rest h e = absurd (omega arith)

pub ask_go : (b : Bool) (n rest : ℕ) → b ≡ true → ask b n rest ≡ rest
ask_go true n rest e = refl
ask_go false n rest e = absurd (eqb-false 0 0 (sym e) refl)

pub ask_stop : (b : Bool) (n rest : ℕ) → b ≡ false → ask b n rest ≡ n
ask_stop true n rest e = absurd (eqb-false 0 0 e refl)
ask_stop false n rest e = refl

-- the rest of a chain of questions whose first was answered by yes
pub ask_rest : (b : Bool) (n rest : ℕ) → 0 < n → ask b n rest ≡ 0 → rest ≡ 0
ask_rest true n rest h e = e
ask_rest false n rest h e = absurd (omega arith)

pub or_else_go : (m n : ℕ) → m ≡ 0 → or_else m n ≡ n
or_else_go zero n e = refl
or_else_go (suc m) n e = absurd (omega arith)

pub or_else_stop : (m n : ℕ) → (m ≡ 0 → ⊥) → or_else m n ≡ m
or_else_stop zero n e = absurd (e refl)
or_else_stop (suc m) n e = refl

pub or_else_ask : (m : ℕ) (b : Bool) (n rest : ℕ) → 0 < n → or_else m (ask b n rest) ≡ or_else (or_else m (ask b n 0)) rest
or_else_ask zero true n rest h = refl
or_else_ask zero false zero rest h = absurd (omega arith)
or_else_ask zero false (suc n) rest h = refl
or_else_ask (suc m) b n rest h = refl

pub or_else_both : (m n : ℕ) → or_else m n ≡ 0 → (m ≡ 0) × (n ≡ 0)
or_else_both zero n e = (refl, e)
or_else_both (suc m) n e = absurd (omega arith)
