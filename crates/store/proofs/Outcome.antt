-- What holds of every call by its shape: a refusal changes nothing, and one more of the budget makes at most one store more.
-- Assumes nothing.
use Prim.Native.Nat.{ℕ, zero, suc, ◌≤◌}
use mathlib.Core.List.{List, [], ◌∷◌, map}
use mathlib.Core.Logic.{◌⊎◌, inl, inr}
use mathlib.Core.Path.{◌≡◌, refl, sym}
use native.Mathlib.Omega.{arith}
use borrow.Author.Tests.{le-leb}
use lib.ListN.{length, get_or, take, length-map}
use lib.Seq.{take_all}
use Rattle.words.specs.Stores.{Store, ◌≔◌, store, stores}
use Rattle.words.proofs.Scan.{by_le}
use Rattle.words.proofs.Plans.{run_take_suc, take_map}
use Rattle.model.specs.Answer.{Report, done, refused, ended}
use Rattle.store.specs.Outcome.{Buffers, buffers, Step, in_table, step, steps, Call, refuse, perform, unless, leaves, outcome}

-- ---- a refusal has its number, zero steps, no handle and every buffer as lent, whatever the budget

pub refusal : (n k : ℕ) (b : Buffers) → outcome (refuse n) k b ≡ leaves (refused n) b
unfolding outcome
refusal n k b = refl

pub refuses : (q n : ℕ) (c : Call) (k : ℕ) (b : Buffers) → q ≡ n → (q ≡ 0 → ⊥) → leaves (refused q) b ≡ outcome (unless n c) k b
unfolding outcome
refuses q zero c k b e h = absurd (h e)
refuses q (suc n) c k b e h = rw e

-- ---- done, where the budget suffices

pub ended_done : (need h k : ℕ) → need ≤ k → ended need h k ≡ done need h
unfolding ended
ended_done need h k l = rw (le-leb need k l)

-- ---- one more of the budget makes at most one store more, in one word or byte

pub one_store : (c : Call) (k : ℕ) (b : Buffers)
    → ((outcome c (suc k) b).buffers ≡ (outcome c k b).buffers)
    ⊎ ((s : Step) × ((outcome c (suc k) b).buffers ≡ step s (outcome c k b).buffers))
unfolding outcome
one_store (refuse n) k b = inl refl
one_store (perform plan h) k b =
    by_le (length plan) k
    (λ l. inl (rw (take_all (suc k) plan (omega arith), take_all k plan l)))
    (λ l. inr (get_or plan k (in_table (0 ≔ 0)), run_take_suc step k plan b (in_table (0 ≔ 0)) l))

-- ---- plans of one buffer

pub steps_in_table : (ps : List Store) (m b t : List ℕ) → steps (map in_table ps) (buffers m b t) ≡ buffers m b (stores ps t)
steps_in_table [] m b t = refl
steps_in_table (p ∷ ps) m b t = steps_in_table ps m b (store p t)

-- a call on the table alone, from what its code did
pub performed : (plan : List Store) (h need k : ℕ) (m b t t' : List ℕ) (r : Report) → length plan ≡ need → t' ≡ stores (take k plan) t
    → r ≡ ended need h k → leaves r (buffers m b t') ≡ outcome (perform (map in_table plan) h) k (buffers m b t)
unfolding outcome
performed plan h need k m b t t' r n e q =
    rw (q, e, ← n, take_map, steps_in_table, length-map)

-- the table that it leaves
pub table_after : (plan : List Store) (h k : ℕ) (m b t : List ℕ)
    → outcome (perform (map in_table plan) h) k (buffers m b t) ≡ leaves (ended (length plan) h k) (buffers m b (stores (take k plan) t))
table_after plan h k m b t = sym (performed plan h (length plan) k m b t (stores (take k plan) t) (ended (length plan) h k) refl refl refl)
