-- Laws of bytes put back part by part. Assumes nothing.
use Prim.Native.Nat.{ℕ, ◌+◌, ◌-◌, ◌≤◌}
use mathlib.Core.List.{List, ◌++◌}
use mathlib.Core.Path.{◌≡◌, sym, ap, subst, ◌∙◌}
use native.Mathlib.Omega.{arith}
use lib.ListN.{length, take, length-append}
use Rattle.words.specs.Stores.{Store, store, stores, gather}
use Rattle.words.proofs.Gather.{gather_more, gather_split}
use Rattle.words.proofs.Plans.{run_take_append}
use Rattle.restore.specs.Parts.{PutBack}

-- one part more, on what remains of the budget
pub put_more : {ps bs : List Store} {n o k r s : ℕ} {m u v : List ℕ} → PutBack ps n k m r u → PutBack bs o (k - r) u s v → PutBack (ps ++ bs) (n + o) k m (r + s) v
put_more {ps} {bs} {n} {o} {k} {r} {s} {m} {u} {v} p q = record {
  made = rw (length-append, p.made, q.made);
  few = omega (arith, p.few, q.few);
  stored = q.stored ∙ rw (p.stored, p.made) (sym (run_take_append store k ps bs m));
}

-- the same bytes, of no more cells
pub put_as : {ps qs : List Store} {n o k r : ℕ} {m u : List ℕ} → ps ≡ qs → n ≤ o → PutBack ps n k m r u → PutBack qs o k m r u
put_as {ps} {qs} {n} {o} {k} {r} {m} {u} q l p = record { made = p.made ∙ ap length q; few = omega (arith, p.few); stored = p.stored ∙ ap (λ (x : List Store). stores (take k x) m) q }

module _ (f : ℕ → List Store) {k r s : ℕ} {m u v : List ℕ} where
  -- one cell
  pub put_cell_more : (i : ℕ) → PutBack (gather i f) i k m r u → PutBack (f i) 1 (k - r) u s v → PutBack (gather (i + 1) f) (i + 1) k m (r + s) v
  put_cell_more i p q = subst (λ (x : List Store). PutBack x (i + 1) k m (r + s) v) (sym (gather_more f i)) (put_more p q)

  -- a run of cells
  pub put_run_more : (a n o : ℕ) → PutBack (gather a f) a k m r u → PutBack (gather n (λ j. f (a + j))) o (k - r) u s v → PutBack (gather (a + n) f) (a + o) k m (r + s) v
  put_run_more a n o p q = subst (λ (x : List Store). PutBack x (a + o) k m (r + s) v) (sym (gather_split f a n)) (put_more p q)
