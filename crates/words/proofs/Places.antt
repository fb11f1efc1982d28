-- Laws of the layout: which words lie in front of the pairs. Others cite these, so that a change of the layout is proved again here
-- and nowhere else. Assumes nothing.
use Prim.Native.Nat.{ℕ, zero, suc, ◌+◌, ◌-◌, ◌/◌, ◌%◌, ◌≤◌, ◌<◌}
use mathlib.Core.Bool.{false}
use mathlib.Core.Path.{◌≡◌, refl, subst}
use native.Mathlib.Omega.{arith}
use Rattle.words.specs.Layout.{bodies_at, pending_at, zero_at, live_at, next_at, handle_at, max_live, first_at, second_at, pairs_at}
use Rattle.words.specs.Journal.{name_ok}
use Rattle.words.proofs.Scan.{by_le}

-- the entries' words
module _ (e i : ℕ) where
  pub first_at_below : i < e → first_at e i < pairs_at e
  first_at_below h = omega arith

  pub second_at_below : i < e → second_at e i < pairs_at e
  second_at_below h = omega arith

-- and the count of pending pairs
pub pending_at_below : (e : ℕ) → pending_at < pairs_at e
pending_at_below e = omega arith

-- ---- which words no pair may name: words 0 to 3, 6 and 7

pub unnamed_low : (first i : ℕ) → i ≤ bodies_at → name_ok first i ≡ false
unfolding name_ok
unnamed_low first zero l = refl
unnamed_low first (suc zero) l = refl
unnamed_low first (suc (suc zero)) l = refl
unnamed_low first (suc (suc (suc zero))) l = refl
unnamed_low first (suc (suc (suc (suc i)))) l = absurd (omega arith)

unnamed_pending : (first : ℕ) → name_ok first pending_at ≡ false
unfolding name_ok
unnamed_pending first = refl

pub unnamed_zero : (first : ℕ) → name_ok first zero_at ≡ false
unfolding name_ok
unnamed_zero first = refl

-- each word in front of the pairs is one of these, or word 4, word 5, a handle, or one of an entry's two
pub data FrontWord (e i : ℕ) : Type 0 where
  unnamed : name_ok (pairs_at e) i ≡ false → FrontWord e i
  a_live : i ≡ live_at → FrontWord e i
  a_next : i ≡ next_at → FrontWord e i
  a_handle : (k : ℕ) → k < max_live → i ≡ handle_at k → FrontWord e i
  a_first : (j : ℕ) → j < e → i ≡ first_at e j → FrontWord e i
  a_second : (j : ℕ) → j < e → i ≡ second_at e j → FrontWord e i

entry_word_lem : (e i : ℕ) → first_at e 0 ≤ i → i < pairs_at e → FrontWord e i
entry_word_lem e i low l =
    by_le ((i - first_at e 0) % 2) 0
    (λ z. a_first ((i - first_at e 0) / 2) (omega arith) (omega arith))
    (λ z. a_second ((i - first_at e 0) / 2) (omega arith) (omega arith))

-- words 4 to 7, and those behind them
past_sizes : (e k : ℕ) → live_at + k < pairs_at e → FrontWord e (live_at + k)
past_sizes e zero l = a_live (omega arith)
past_sizes e (suc zero) l = a_next (omega arith)
past_sizes e (suc (suc zero)) l = unnamed (unnamed_pending (pairs_at e))
past_sizes e (suc (suc (suc zero))) l = unnamed (unnamed_zero (pairs_at e))
past_sizes e (suc (suc (suc (suc k)))) l =
    by_le (suc k) max_live (λ h. a_handle k h (omega arith)) (λ h. entry_word_lem e (live_at + suc (suc (suc (suc k)))) (omega arith) l)

pub front_word : (e i : ℕ) → i < pairs_at e → FrontWord e i
front_word e i l =
    by_le i bodies_at
    (λ h. unnamed (unnamed_low (pairs_at e) i h))
    (λ h.
    let at : live_at + (i - live_at) ≡ i = omega arith in
    subst (FrontWord e) at (past_sizes e (i - live_at) (omega arith)))
