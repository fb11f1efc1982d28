-- What a call that is not refused has passed, and what it leaves. Assumes nothing.
use Prim.Native.Nat.{ℕ, zero, suc}
use mathlib.Core.Path.{◌≡◌, refl}
use native.Mathlib.Omega.{arith}
use Rattle.model.specs.State.{State}
use Rattle.model.specs.Calls.{change, or_refuse}

-- every question was answered yes, and bytes, words and state are those of the call
pub record Passed (q b w b' w' : ℕ) (t new : State) : Type 0 where
  pub yes_to_all : q ≡ 0
  pub bytes : b ≡ b'
  pub words : w ≡ w'
  pub leaves : t ≡ new

pub passed : (q b w h b' w' h' : ℕ) (t new : State) → or_refuse q (change b w h t) ≡ change b' w' h' new → Passed q b w b' w' t new
passed zero b w h b' w' h' t new e = record { yes_to_all = refl; bytes = cc; words = cc; leaves = cc }
passed (suc q) b w h b' w' h' t new e = absurd (let z : ◌≡◌ {A = ℕ} 0 1 = cc in omega arith)
