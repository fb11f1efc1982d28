-- What openings leave after a cut, of every call: by the shape of its plan. Assumes nothing.
use Prim.Native.Nat.{ℕ, ◌<◌}
use mathlib.Core.List.{List, [], ◌∷◌}
use mathlib.Core.Path.{◌≡◌, refl, sym, ap, subst, ◌∙◌}
use lib.ListN.{length}
use Rattle.words.specs.Layout.{cells_of}
use Rattle.words.specs.Journal.{pending}
use Rattle.model.specs.Answer.{is_done, is_stopped, View}
use Rattle.model.specs.History.{Request}
use Rattle.model.proofs.Told.{Halted}
use Rattle.store.specs.Outcome.{Buffers, Outcome, outcome}
use Rattle.store.specs.State.{standing}
use Rattle.store.specs.Calls.{open_call, after_openings, opening_after}
use Rattle.store.specs.Means.{Reopens}
use Rattle.store.proofs.Checks.{store_opens}
use Rattle.store.proofs.Standing.{is_standing}
use Rattle.store.proofs.Reopened.{shape_reopens}
use Rattle.demands.specs.Session.{call_on}
use Rattle.demands.specs.Demands.{asked, opens, Reopened}
use Rattle.demands.proofs.Seen.{call_passed}
use Rattle.demands.proofs.Steps.{open_seen, still_opens}
use Rattle.demands.proofs.Calls.{facts}
use Rattle.demands.proofs.Ready.{call_opens}

-- each keeps state and memory, whether it is done or stopped
pub opening_keeps : (k : ℕ) (b : Buffers) → opens b ≡ 0
    → (standing (outcome (open_call b) k b).buffers ≡ standing b) × ((outcome (open_call b) k b).buffers.memory ≡ b.memory)
opening_keeps k b e =
    let v = open_seen k b e in (ap (λ (v : View). v.state) v ∙ sym (is_standing b e), ap (λ (v : View). v.memory) v)

openings_keep : (ks : List ℕ) (b : Buffers) → opens b ≡ 0
    → (standing (after_openings ks b) ≡ standing b) × ((after_openings ks b).memory ≡ b.memory) × (opens (after_openings ks b) ≡ 0)
openings_keep [] b fine = (refl, refl, fine)
openings_keep (k ∷ ks) b fine =
    let one = opening_keeps k b fine in
    let rest = openings_keep ks (outcome (open_call b) k b).buffers (still_opens (cells_of (length b.memory)) k b fine) in
    (rest.0 ∙ one.0, rest.1 ∙ one.1, rest.2)

-- ---- every call

module _ (k j : ℕ) (ks : List ℕ) (b : Buffers) where
  passed : (c : Request) → (call_on c k b).report.status ≡ is_stopped → asked b ≡ 0
  passed c e = call_passed c k b (λ r. subst Halted (sym e ∙ r) tt)

  all_open : (c : Request) → (call_on c k b).report.status ≡ is_stopped → (i : ℕ) → opens (call_on c i b).buffers ≡ 0
  all_open c e i = call_opens c i b (store_opens (length b.memory) (length b.bodies) b.table (passed c e))

  pub reopened : (c : Request) → (call_on c k b).report.status ≡ is_stopped → (opening_after ks j (call_on c k b).buffers).report.status ≡ is_done
      → Reopened c b (call_on c k b).buffers (opening_after ks j (call_on c k b).buffers).buffers
  reopened c e d =
      let p = (facts c b).planned in
      let left : Buffers = (call_on c k b).buffers in
      let fine = all_open c e k in
      let same = openings_keep ks left fine in
      let last = opening_keeps j (after_openings ks left) same.2 in
      let shaped = p.shaped k (ap (λ (o : Outcome). o.report.status) (sym (p.is k)) ∙ e) in
      let all : Reopens p.call b =
      shape_reopens p.call b shaped (passed c e) (λ i. subst (λ (o : Outcome). opens o.buffers ≡ 0) (p.is i) (all_open c e i)) in
      record {
        state = last.0 ∙ same.0;
        memory = last.1 ∙ same.1;
        unmade = subst (λ (o : Outcome). pending o.buffers.table ≡ 0 → (opening_after ks j o.buffers).buffers ≡ o.buffers) (sym (p.is k))
            (λ z. ap (λ (o : Outcome). o.buffers) (all.not_made k j ks z));
        made = λ waits i f.
            subst (λ (o : Outcome). 0 < pending o.buffers.table → (opening_after ks j o.buffers).report.status ≡ is_done
            → (opening_after ks j o.buffers).buffers ≡ (call_on c i b).buffers) (sym (p.is k))
            (λ w g. all.made k i j ks w (ap (λ (o : Outcome). o.report.status) (sym (p.is i)) ∙ f) g ∙ ap (λ (o : Outcome). o.buffers) (sym (p.is i)))
            waits d;
      }
