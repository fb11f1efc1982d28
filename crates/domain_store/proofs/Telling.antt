-- From a call's contract to what its function of C gives back. Assumes nothing.
use Prim.Native.Nat.{ℕ, ◌+◌, ◌<◌}
use mathlib.Core.List.{List}
use mathlib.Core.Path.{◌≡◌, sym, ap, subst, ◌∙◌}
use native.Mathlib.Omega.{arith}
use borrow.Author.Tests.{eqb-true, eqb-false}
use lib.Dec.{eqb}
use lib.ListN.{length, get_or, set}
use lib.Seq.{get_or-set_same, get_or-set_other}
use Rattle.words.proofs.Scan.{by_bool}
use Rattle.words.proofs.Plans.{tab_below}
use Rattle.model.specs.Answer.{Report}
use Rattle.model.specs.Calls.{Listed}
use Rattle.store.specs.Outcome.{Buffers, Outcome, leaves}
use Rattle.look.specs.Look.{Placed, Refused, Memory, Bodies, Rule, PlaceWithin}
use Rattle.look.proofs.Placing.{memory_within, bodies_within}
use Rattle.domain_store.specs.Boundary.{number_of, returned, returned_by, eight, listed_in_c, listed_by, looked_in_c, looked_by, OffsetWithin}

pub told : (n s : ℕ) (r : Report) (b : Buffers) (o : Outcome) → n ≡ number_of r.status r.refusal → s ≡ r.steps → leaves r b ≡ o → returned n s b ≡ returned_by o
told n s r b o e f g = (λ i. returned (e i) (f i) b) ∙ ap returned_by g

-- the handle that create names
pub named : (h : ℕ) (r : Report) (b : Buffers) (o : Outcome) → h ≡ r.handle → leaves r b ≡ o → h ≡ o.report.handle
named h r b o e g = e ∙ ap (λ (x : Outcome). x.report.handle) g

-- the eight handles, copied one after the other
pub copied : (from to : List ℕ) (k : ℕ) → k < length to → ((j : ℕ) → j < k → get_or to j 0 ≡ get_or from j 0)
    → (j : ℕ) → j < k + 1 → get_or (set to k (get_or from k 0)) j 0 ≡ get_or from j 0
copied from to k l h j b =
    by_bool (eqb j k)
    (λ z.
    let q = eqb-true j k z in
    subst (λ (x : ℕ). get_or (set to k (get_or from k 0)) x 0 ≡ get_or from x 0) (sym q) (get_or-set_same to k (get_or from k 0) 0 l))
    (λ z. get_or-set_other to k j (get_or from k 0) 0 (eqb-false j k z) ∙ h j (let n = eqb-false j k z in omega arith))

-- what a listing tells: its number and its count, and the handles that were copied
module _ (r : Report) (k : ℕ) (hs : List ℕ) (l : Listed) (g : record { report = r; count = k; handles = hs } ≡ l) where
  pub listed : (n : ℕ) → n ≡ number_of r.status r.refusal → listed_in_c n k ≡ listed_by l
  listed n e = (λ i. listed_in_c (e i) k) ∙ ap listed_by g

  pub handles_listed : (to : List ℕ) → ((j : ℕ) → j < 8 → get_or to j 0 ≡ get_or hs j 0) → eight to ≡ eight l.handles
  handles_listed to h = tab_below _ (λ j. get_or hs j 0) 8 h ∙ ap (λ (x : Listed). eight x.handles) g

-- a place that was found, by its case: refused, in memory, in bodies, by a rule
module _ (b : Buffers) (x q : Placed) (same : x ≡ q) (within : PlaceWithin x b) where
  pub in_none : (n : ℕ) → x ≡ Refused n → (looked_in_c n 0 0 0 ≡ looked_by q) × OffsetWithin 0 0 0 b
  in_none n e = (ap looked_by (sym e ∙ same), (λ z. absurd (omega arith), λ z. absurd (omega arith), λ z. absurd (omega arith)))

  pub in_memory : (at : ℕ) → x ≡ Memory at → (looked_in_c 0 1 at 0 ≡ looked_by q) × OffsetWithin 1 at 0 b
  in_memory at e = (ap looked_by (sym e ∙ same), (λ z. memory_within b x at e within, λ z. absurd (omega arith), λ z. absurd (omega arith)))

  pub in_bodies_lem : (at : ℕ) → x ≡ Bodies at → (looked_in_c 0 2 at 0 ≡ looked_by q) × OffsetWithin 2 at 0 b
  in_bodies_lem at e = (ap looked_by (sym e ∙ same), (λ z. absurd (omega arith), λ z. bodies_within b x at e within, λ z. absurd (omega arith)))

  pub in_rule : (r : ℕ) → x ≡ Rule r → (looked_in_c 0 3 0 r ≡ looked_by q) × OffsetWithin 3 0 r b
  in_rule r e =
      (ap looked_by (sym e ∙ same), (λ z. absurd (omega arith), λ z. absurd (omega arith), λ z. subst (λ (y : Placed). PlaceWithin y b) e within))
