-- How many steps a call makes at most, and that a budget of so many never stops it. Assumes nothing.
use Prim.Native.Nat.{ℕ, ◌+◌, ◌*◌, ◌≤◌}
use mathlib.Core.Path.{◌≡◌, sym, subst, ◌∙◌}
use native.Mathlib.Omega.{arith}
use borrow.Author.Tests.{le-leb, lt-leb}
use lib.ListN.{length, length-map}
use Rattle.words.specs.Layout.{cells_of, bodies_of, slots_of, pairs_at}
use Rattle.words.specs.Journal.{open_plan}
use Rattle.words.proofs.Scan.{by_bool, by_le}
use Rattle.table.proofs.Checks.{lengths_facts}
use Rattle.table.specs.Checks.{lengths_ok}
use Rattle.model.specs.Answer.{is_stopped, Report, done, refused, ended}
use Rattle.model.specs.History.{Request}
use Rattle.model.specs.Session.{Input, make, call, opening, write}
use Rattle.model.proofs.Told.{Halted}
use Rattle.store.specs.Outcome.{Buffers, in_table, Outcome, outcome, Call, refuse, perform}
use Rattle.store.specs.Checks.{make_check, open_check, lent_of}
use Rattle.store.specs.State.{slots}
use Rattle.store.specs.Calls.{make_plan, make_call, open_call}
use Rattle.store.proofs.Making.{make_length}
use Rattle.store.proofs.Means.{long, open_length}
use Rattle.store.proofs.Bounds.{make_bound, open_bound}
use Rattle.demands.specs.Session.{call_on, input_on}
use Rattle.demands.specs.Demands.{step_bound, budget_of}
use Rattle.demands.proofs.Planned.{Needs, needs_unless, at_most}
use Rattle.demands.proofs.Calls.{facts}

-- ---- by the length of the plan

-- the steps made are at most n, and where the budget is n or more the call is not stopped
pub record Bounded (n k : ℕ) (r : Report) : Type 0 where
  pub few : r.steps ≤ n
  pub whole : n ≤ k → r.status ≡ is_stopped → ⊥

no_steps : (n k : ℕ) → Bounded n k (done 0 0)
no_steps n k = record { few = omega arith; whole = λ l e. subst Halted (sym e) tt }

no_call : (n k q : ℕ) → Bounded n k (refused q)
no_call n k q = record { few = omega arith; whole = λ l e. subst Halted (sym e) tt }

ended_bounded : (n need h k : ℕ) → need ≤ n → Bounded n k (ended need h k)
unfolding ended
ended_bounded n need h k l =
    by_le need k
    (λ g. rw (le-leb need k g) (record { few = l; whole = λ m e. subst Halted (sym e) tt }))
    (λ g. rw (lt-leb need k g) (record { few = omega arith; whole = λ m e. omega arith }))

bounded : (n : ℕ) (c : Call) (k : ℕ) (b : Buffers) → Needs n c → Bounded n k (outcome c k b).report
unfolding outcome
bounded n (refuse q) k b f = no_call n k q
bounded n (perform plan h) k b f = ended_bounded n (length plan) h k f

-- ---- make and open

module _ (b : Buffers) where
  make_needs : Needs (70 * slots_of (length b.table) + 32) (make_call b)
  unfolding make_call make_check
  make_needs =
      by_bool (lengths_ok (length b.memory) (length b.bodies) (length b.table))
      (λ t.
      rw t
      (at_most
      (length-map (make_plan (cells_of (length b.memory)) (slots_of (length b.table)) (bodies_of (length b.bodies))) (λ x. in_table x)
      ∙ make_length (cells_of (length b.memory)) (slots_of (length b.table)) (bodies_of (length b.bodies)) b.table (long (length b.memory) (length b.bodies) b.table t))
      (make_bound (slots_of (length b.table)) (lengths_facts (length b.memory) (length b.bodies) (length b.table) t).slots_low)))
      (λ t. rw t tt)

  open_needs : Needs (2 * slots_of (length b.table) + 11) (open_call b)
  unfolding open_call
  open_needs =
      needs_unless (2 * slots_of (length b.table) + 11) (open_check (lent_of b)) _
      (λ q.
      at_most (length-map (open_plan (pairs_at (slots_of (length b.table))) b.table) (λ x. in_table x) ∙ open_length (pairs_at (slots_of (length b.table))) b.table)
      (open_bound (length b.memory) (length b.bodies) b.table q))

-- ---- every call

call_bounded : (c : Request) (k : ℕ) (b : Buffers) → Bounded (70 * slots b + 32) k (call_on c k b).report
call_bounded c k b =
    let p = (facts c b).planned in
    subst (λ (o : Outcome). Bounded (70 * slots b + 32) k o.report) (sym (p.is k))
    (bounded _ p.call k b p.needs)

pub input_bounded : (i : Input) (b : Buffers) → Bounded (step_bound i (slots b)) (budget_of i) (input_on i b).report
input_bounded (make k) b = bounded _ (make_call b) k b (make_needs b)
input_bounded (call c k) b = call_bounded c k b
input_bounded (opening k) b = bounded _ (open_call b) k b (open_needs b)
input_bounded (write ws) b = no_steps 0 0
