-- One store a step, in every call. Assumes nothing.
use Prim.Native.Nat.{ℕ, ◌≤◌, ◌<◌}
use mathlib.Core.List.{List, []}
use mathlib.Core.Path.{◌≡◌, refl, sym, ap, subst}
use borrow.Author.Tests.{le-leb, lt-leb}
use lib.ListN.{length}
use lib.Seq.{take-nil}
use Rattle.model.specs.Answer.{is_done, is_stopped, ended}
use Rattle.model.specs.History.{Request}
use Rattle.model.proofs.Told.{Finished, Halted}
use Rattle.store.specs.Outcome.{Buffers, Step, steps, Outcome, outcome, Call, refuse, perform}
use Rattle.store.proofs.Outcome.{one_store}
use Rattle.store.proofs.Reopened.{done_enough, stopped_short}
use Rattle.demands.specs.Session.{call_on}
use Rattle.demands.specs.Demands.{Stepped}
use Rattle.demands.proofs.Calls.{facts}

done_steps : (need h k : ℕ) → (ended need h k).status ≡ is_done → ((ended need h k).steps ≡ need) × (need ≤ k)
unfolding ended
done_steps need h k e = let l = done_enough need h k e in (rw (le-leb need k l), l)

stopped_steps : (need h k : ℕ) → (ended need h k).status ≡ is_stopped → ((ended need h k).steps ≡ k) × (k < need)
unfolding ended
stopped_steps need h k e = let l = stopped_short need h k e in (rw (lt-leb need k l), l)

pub stepped : (c : Call) (b : Buffers) → Stepped (λ k. outcome c k b) b
unfolding outcome
stepped (refuse n) b = record {
  plan = [];
  made = λ k. sym (ap (λ (ss : List Step). steps ss b) (take-nil k));
  done_all = λ k e. absurd (subst Finished (sym e) tt);
  stopped_short = λ k e. absurd (subst Halted (sym e) tt);
  one_more = λ k. one_store (refuse n) k b;
}
stepped (perform plan h) b = record {
  plan = plan;
  made = λ k. refl;
  done_all = λ k e. done_steps (length plan) h k e;
  stopped_short = λ k e. stopped_steps (length plan) h k e;
  one_more = λ k. one_store (perform plan h) k b;
}

pub call_stepped : (c : Request) (b : Buffers) → Stepped (λ k. call_on c k b) b
call_stepped c b =
    let p = (facts c b).planned in
    subst (λ (at : ℕ → Outcome). Stepped at b) (λ i k. sym (p.is k) i) (stepped p.call b)
