-- One byte of memory, seen through the live domains, outermost first: what the calls do to it, and the invariant behind demand 3. Nothing here
-- knows of cells, handles or histories. Assumes nothing.
use mathlib.Core.Path.{◌≡◌, refl, sym, ◌∙◌, subst}
use mathlib.Core.Bool.{Bool, true, false, false≢true}
use mathlib.Core.List.{List, [], ◌∷◌, ◌++◌, map}
use mathlib.Core.Logic.{◌⊎◌, inl, inr}
use Prim.Native.Nat.{ℕ, zero, suc}
use lib.ListN.{take}
use Rattle.model.specs.History.{at_innermost, into_parent}

-- what one domain holds of one byte: nothing, or its value, read-only or read-write
pub data Hold : Type 0 where
  free : Hold
  ro wr : ℕ → Hold

-- ---- lists, outermost first

module _ {A B : Type 0} (k : A → B) where
  pub map_at_innermost : (f : A → A) (g : B → B) → ((a : A) → k (f a) ≡ g (k a)) → (l : List A) → map k (at_innermost f l) ≡ at_innermost g (map k l)
  map_at_innermost f g e [] = refl
  map_at_innermost f g e (a ∷ []) = rw (e a)
  map_at_innermost f g e (a ∷ b ∷ l) = rw (map_at_innermost f g e (b ∷ l))

  pub map_into_parent : (f : A → A → A) (g : B → B → B) → ((a b : A) → k (f a b) ≡ g (k a) (k b)) → (l : List A)
      → map k (into_parent f l) ≡ into_parent g (map k l)
  map_into_parent f g e [] = refl
  map_into_parent f g e (a ∷ []) = refl
  map_into_parent f g e (a ∷ b ∷ []) = rw (e a b)
  map_into_parent f g e (a ∷ b ∷ c ∷ l) = rw (map_into_parent f g e (b ∷ c ∷ l))

-- ---- what the calls do to one byte

-- add: named or not, read-write or not, the value that a new holding gets
abbrev pub add_h : Bool → Bool → ℕ → Hold → Hold
add_h false l v h = h
add_h true false v free = ro v
add_h true true v free = wr v
add_h true false v (ro w) = ro w
add_h true true v (ro w) = wr w
add_h true l v (wr w) = wr w

-- advance
abbrev pub adv_h : ℕ → Hold → Hold
adv_h m free = free
adv_h m (ro v) = ro v
adv_h m (wr v) = wr m

-- commit: outer, inner
abbrev pub merge_h : Hold → Hold → Hold
merge_h free k = k
merge_h (ro v) free = ro v
merge_h (ro v) (ro w) = ro v
merge_h (ro v) (wr w) = wr v
merge_h (wr v) k = wr v

-- restore: memory's byte, or that of the outermost holder of the list
abbrev pub back : ℕ → List Hold → ℕ
back m [] = m
back m (free ∷ hs) = back m hs
back m (ro v ∷ hs) = v
back m (wr v ∷ hs) = v

-- the same from the domain at depth i + 1 inwards
abbrev pub back_at : ℕ → ℕ → List Hold → ℕ
back_at i m [] = m
back_at zero m (h ∷ hs) = back m (h ∷ hs)
back_at (suc i) m (h ∷ hs) = back_at i m hs

abbrev pub any_wr : List Hold → Bool
any_wr [] = false
any_wr (free ∷ hs) = any_wr hs
any_wr (ro v ∷ hs) = any_wr hs
any_wr (wr v ∷ hs) = true

-- ---- THE INVARIANT at one byte of one domain: p its snapshot's byte, m memory's, over the holders from it inwards. Holders up to the first
-- read-write one have the snapshot's byte, save a read-write one whose parent holds too (b: the domain before this list's first holds); where
-- nobody holds read-write, memory has it.

abbrev pub WrOk : Bool → ℕ → ℕ → Type 0
WrOk false v p = v ≡ p
WrOk true v p = Unit {0}

abbrev pub good : Bool → ℕ → ℕ → List Hold → Type 0
good b p m [] = m ≡ p
good b p m (free ∷ hs) = good false p m hs
good b p m (ro v ∷ hs) = (v ≡ p) × good true p m hs
good b p m (wr v ∷ hs) = WrOk b v p

wr_ok : (b : Bool) (v p : ℕ) → v ≡ p → WrOk b v p
wr_ok false v p e = e
wr_ok true v p e = tt

weak : (b : Bool) (p m : ℕ) (hs : List Hold) → good false p m hs → good b p m hs
weak b p m [] g = g
weak b p m (free ∷ hs) g = g
weak b p m (ro v ∷ hs) g = g
weak b p m (wr v ∷ hs) g = wr_ok b v p g

good_at : (b : Bool) (p m n : ℕ) (hs : List Hold) → good b p m hs → n ≡ p → good b p n hs
good_at b p m n [] g e = e
good_at b p m n (free ∷ hs) g e = good_at false p m n hs g e
good_at b p m n (ro v ∷ hs) g e = (g.0, good_at true p m n hs g.1 e)
good_at b p m n (wr v ∷ hs) g e = g

-- a byte that the domain's restore puts back is the snapshot's
pub good_back : (p m : ℕ) (hs : List Hold) → good false p m hs → back m hs ≡ p
good_back p m [] g = g
good_back p m (free ∷ hs) g = good_back p m hs g
good_back p m (ro v ∷ hs) g = g.0
good_back p m (wr v ∷ hs) g = g

-- a restore done, of the domain at depth i + 1
pub good_restore : (b : Bool) (p m i : ℕ) (hs : List Hold) → good b p m hs → good b p (back_at i m hs) (take (suc i) hs)
good_restore b p m i [] g = g
good_restore b p m zero (free ∷ hs) g = good_back p m hs g
good_restore b p m zero (ro v ∷ hs) g = (g.0, g.0)
good_restore b p m zero (wr v ∷ hs) g = g
good_restore b p m (suc i) (free ∷ hs) g = good_restore false p m i hs g
good_restore b p m (suc i) (ro v ∷ hs) g = (g.0, good_restore true p m i hs g.1)
good_restore b p m (suc i) (wr v ∷ hs) g = g

-- a restore stopped: memory's byte is the old one or the one to be put back
good_half : (b : Bool) (p m i : ℕ) (hs : List Hold) → good b p m hs → good b p (back_at i m hs) hs
good_half b p m i [] g = g
good_half b p m zero (free ∷ hs) g = good_at false p m (back m hs) hs g (good_back p m hs g)
good_half b p m zero (ro v ∷ hs) g = (g.0, good_at true p m v hs g.1 g.0)
good_half b p m zero (wr v ∷ hs) g = g
good_half b p m (suc i) (free ∷ hs) g = good_half false p m i hs g
good_half b p m (suc i) (ro v ∷ hs) g = (g.0, good_half true p m i hs g.1)
good_half b p m (suc i) (wr v ∷ hs) g = g

pub good_mix : (b : Bool) (p m n i : ℕ) (hs : List Hold) → good b p m hs → (n ≡ m) ⊎ (n ≡ back_at i m hs) → good b p n hs
good_mix b p m n i hs g (inl e) = rw e g
good_mix b p m n i hs g (inr e) = rw e (good_half b p m i hs g)

pub good_create : (b : Bool) (p m : ℕ) (hs : List Hold) → good b p m hs → good b p m (hs ++ (free ∷ []))
good_create b p m [] g = g
good_create b p m (free ∷ hs) g = good_create false p m hs g
good_create b p m (ro v ∷ hs) g = (g.0, good_create true p m hs g.1)
good_create b p m (wr v ∷ hs) g = g

-- a program write where somebody from the domain inwards holds read-write
pub good_write : (b : Bool) (p m n : ℕ) (hs : List Hold) → any_wr hs ≡ true → good b p m hs → good b p n hs
good_write b p m n [] e g = absurd (false≢true e)
good_write b p m n (free ∷ hs) e g = good_write false p m n hs e g
good_write b p m n (ro v ∷ hs) e g = (g.0, good_write true p m n hs e g.1)
good_write b p m n (wr v ∷ hs) e g = g

add_h_good : (b r l : Bool) (p m : ℕ) (h : Hold) → good b p m (h ∷ []) → good b p m (add_h r l m h ∷ [])
add_h_good b false l p m h g = g
add_h_good b true false p m free g = (g, g)
add_h_good b true true p m free g = wr_ok b m p g
add_h_good b true false p m (ro v) g = g
add_h_good b true true p m (ro v) g = wr_ok b v p g.0
add_h_good b true false p m (wr v) g = g
add_h_good b true true p m (wr v) g = g

pub good_add : (b r l : Bool) (p m : ℕ) (hs : List Hold) → good b p m hs → good b p m (at_innermost (add_h r l m) hs)
good_add b r l p m [] g = g
good_add b r l p m (h ∷ []) g = add_h_good b r l p m h g
good_add b r l p m (free ∷ k ∷ hs) g = good_add false r l p m (k ∷ hs) g
good_add b r l p m (ro v ∷ k ∷ hs) g = (g.0, good_add true r l p m (k ∷ hs) g.1)
good_add b r l p m (wr v ∷ k ∷ hs) g = g

pub good_commit : (b : Bool) (p m : ℕ) (h k : Hold) (hs : List Hold) → good b p m (h ∷ k ∷ hs) → good b p m (into_parent merge_h (h ∷ k ∷ hs))
good_commit b p m free k [] g = weak b p m (k ∷ []) g
good_commit b p m (ro v) free [] g = g
good_commit b p m (ro v) (ro w) [] g = (g.0, g.1.1)
good_commit b p m (ro v) (wr w) [] g = wr_ok b v p g.0
good_commit b p m (wr v) k [] g = g
good_commit b p m free k (j ∷ hs) g = good_commit false p m k j hs g
good_commit b p m (ro v) k (j ∷ hs) g = (g.0, good_commit true p m k j hs g.1)
good_commit b p m (wr v) k (j ∷ hs) g = g

-- a change further in, which keeps the invariant there, keeps it
pub good_under : (p m : ℕ) (h : Hold) (hs ks : List Hold) → ((b : Bool) → good b p m hs → good b p m ks) → (b : Bool) → good b p m (h ∷ hs)
    → good b p m (h ∷ ks)
good_under p m free hs ks f b g = f false g
good_under p m (ro v) hs ks f b g = (g.0, f true g.1)
good_under p m (wr v) hs ks f b g = g

-- the innermost takes memory's byte: where its parent holds too, and where that gets what it held
pub good_behind : (p m : ℕ) (h : Hold) → good true p m (h ∷ []) → good true p m (adv_h m h ∷ [])
good_behind p m free g = g
good_behind p m (ro v) g = g
good_behind p m (wr v) g = tt

pub good_given : (b : Bool) (p m v : ℕ) → good b p m (free ∷ wr v ∷ []) → good b p m (wr v ∷ wr m ∷ [])
good_given b p m v g = wr_ok b v p g

-- the advancing domain itself: its new snapshot is memory
pub good_own : (p m : ℕ) (h : Hold) → good false p m (h ∷ []) → good false m m (adv_h m h ∷ [])
good_own p m free g = refl
good_own p m (ro v) g = (g.0 ∙ sym g.1, refl)
good_own p m (wr v) g = refl

-- the holders rewritten
pub good_by : (p m : ℕ) {hs ks : List Hold} → hs ≡ ks → good false p m ks → good false p m hs
good_by p m e g = subst (good false p m) (sym e) g
