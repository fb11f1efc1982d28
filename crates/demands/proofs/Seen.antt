-- What every call leaves to be seen is one equation with the model's meanings, whatever the call: where questions 1 to 4 are answered yes, the
-- report, the state and memory are those of `view_of`; where one is answered no, the call is refused with its number and changes nothing.
-- Assumes nothing.
use Prim.Native.Nat.{ℕ, suc}
use mathlib.Core.Path.{◌≡◌, refl, ap, ◌∙◌}
use Rattle.model.specs.State.{State}
use Rattle.model.specs.Answer.{is_refused, Report, refused, View}
use Rattle.model.specs.Calls.{Effect, refuse, change, viewed_with}
use Rattle.model.specs.History.{Request}
use Rattle.model.specs.Session.{effect_of, memory_at, view_of}
use Rattle.store.specs.Outcome.{Buffers}
use Rattle.store.specs.State.{state_of}
use Rattle.store.specs.Means.{room_of, or_refused}
use Rattle.store.proofs.Means.{visible_of, by_check}
use Rattle.demands.specs.Session.{call_on}
use Rattle.demands.specs.Demands.{asked}
use Rattle.demands.proofs.Calls.{facts}

pub call_means_lem : (c : Request) (k : ℕ) (b : Buffers) → asked b ≡ 0 → visible_of (call_on c k b) ≡ view_of (room_of b) c k (state_of b) b.memory
call_means_lem c k b e = (facts c b).shows k ∙ ap (λ (q : ℕ). or_refused q b (view_of (room_of b) c k (state_of b) b.memory)) e

-- refused by one of questions 1 to 4
pub call_refusal : (c : Request) (k n : ℕ) (b : Buffers) → asked b ≡ suc n → (call_on c k b).report ≡ refused (suc n)
call_refusal c k n b e = ap (λ (v : View). v.report) ((facts c b).shows k ∙ ap (λ (q : ℕ). or_refused q b (view_of (room_of b) c k (state_of b) b.memory)) e)

-- so a call that is not refused passed them
pub call_passed : (c : Request) (k : ℕ) (b : Buffers) → ((call_on c k b).report.status ≡ is_refused → ⊥) → asked b ≡ 0
call_passed c k b f =
    by_check (λ q. asked b ≡ q → asked b ≡ 0) (asked b)
    (λ n e _. absurd (f (ap (λ (r : Report). r.status) (call_refusal c k n b e))))
    (λ e _. e)
    refl

-- it has an effect, then, and shows it
pub record Shown (c : Request) (k : ℕ) (b : Buffers) : Type 0 where
  pub bytes : ℕ
  pub words : ℕ
  pub handle : ℕ
  pub new : State
  pub effect : effect_of (room_of b) b.memory c (state_of b) ≡ change bytes words handle new
  pub shows : visible_of (call_on c k b) ≡ viewed_with (change bytes words handle new) k (state_of b) b.memory (memory_at k c (state_of b) b.memory)

pub call_shown : (c : Request) (k : ℕ) (b : Buffers) → ((call_on c k b).report.status ≡ is_refused → ⊥) → Shown c k b
call_shown c k b f = go (effect_of (room_of b) b.memory c (state_of b)) refl
  where
    shows : (e : Effect) → effect_of (room_of b) b.memory c (state_of b) ≡ e
        → visible_of (call_on c k b) ≡ viewed_with e k (state_of b) b.memory (memory_at k c (state_of b) b.memory)
    shows e q =
        call_means_lem c k b (call_passed c k b f)
        ∙ ap (λ (x : Effect). viewed_with x k (state_of b) b.memory (memory_at k c (state_of b) b.memory)) q

    go : (e : Effect) → effect_of (room_of b) b.memory c (state_of b) ≡ e → Shown c k b
    go (refuse n) q = absurd (f (ap (λ (v : View). v.report.status) (shows (refuse n) q)))
    go (change x w h new) q = record { bytes = x; words = w; handle = h; new = new; effect = q; shows = shows (change x w h new) q }
