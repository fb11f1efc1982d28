-- Stores as data: a store is an index and a new value; a plan is a list of stores in the order in which they are made.
-- Document 01, "Steps and cuts": a step stores one table word, one body byte or one memory byte.
use Rattle.std.specs.Prelude.{ℕ, zero, suc, List, [], ◌∷◌, ◌++◌, set}

-- the elements f at, f (at + 1), .., n of them
abbrev pub tab_from : {A : Type 0} → (ℕ → A) → ℕ → ℕ → List A
tab_from f at zero = []
tab_from f at (suc n) = f at ∷ tab_from f (suc at) n

-- the n elements f 0, f 1, .., f (n - 1)
abbrev pub tab : {A : Type 0} → ℕ → (ℕ → A) → List A
tab n f = tab_from f 0 n

-- f 0, then f 1, .., then f (n - 1), one list after the other
abbrev pub gather : {A : Type 0} → ℕ → (ℕ → List A) → List A
gather zero f = []
gather (suc n) f = gather n f ++ f n

-- carry out a list of steps, first to last
abbrev pub run : {A S : Type 0} → (A → S → S) → List A → S → S
run f [] s = s
run f (x ∷ xs) s = run f xs (f x s)

-- a store of one element of a list
pub record Store : Type 0 where
  pub at : ℕ
  pub val : ℕ

infix 40 ◌≔◌
abbrev pub ◌≔◌ : ℕ → ℕ → Store
i ≔ v = record { at = i; val = v }

abbrev pub store : Store → List ℕ → List ℕ
store s l = set l s.at s.val

-- all the stores of a plan, and the list that they leave
abbrev pub stores : List Store → List ℕ → List ℕ
stores = run store
