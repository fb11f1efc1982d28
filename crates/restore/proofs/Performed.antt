-- From what restore's parts did to the outcome of the call, and what the questions let the code rely on. Assumes nothing.
use Prim.Native.Nat.{ℕ, ◌+◌, ◌-◌}
use mathlib.Core.Bool.{true}
use mathlib.Core.List.{List}
use mathlib.Core.Path.{◌≡◌, sym, ◌∙◌}
use Rattle.std.specs.Prelude.{Result, IsErrAnd}
use lib.ListN.{length, take}
use Rattle.changes.specs.Staged.{Journaled}
use Rattle.words.specs.Layout.{cells_of, bodies_of, slots_of, pairs_at}
use Rattle.words.specs.Stores.{stores}
use Rattle.words.specs.Journal.{journal}
use Rattle.table.specs.Rule.{rule_ok}
use Rattle.table.proofs.Rule.{ok_make}
use Rattle.search.specs.Domain.{depth_named}
use Rattle.model.specs.Answer.{Report, ended}
use Rattle.model.proofs.Asking.{or_else_go, or_else_stop}
use Rattle.store.specs.declared.answers.Ended.{Ended}
use Rattle.store.specs.declared.answers.Refusal.{Refusal}
use Rattle.store.specs.Answer.{question, report}
use Rattle.store.specs.Outcome.{buffers, outcome, leaves}
use Rattle.store.specs.Checks.{store_check, ask_live_in, lent}
use Rattle.store.proofs.Outcome.{refuses}
use Rattle.store.proofs.Raw.{check_rule}
use Rattle.store.proofs.Refused.{question_no, answer_refused}
use Rattle.restore.specs.Restore.{restore_check, restore_bytes, restore_words, restore_call}
use Rattle.restore.specs.Parts.{PutBack}
use Rattle.restore.proofs.Plan.{plan_performed}

-- ---- the questions

-- the rule of a table that passes questions 1 to 4
pub rule_passed : (memory bodies : ℕ) (t : List ℕ) → store_check (lent memory bodies t) ≡ 0 → rule_ok (cells_of memory) (slots_of (length t)) (bodies_of bodies) t ≡ true
rule_passed memory bodies t passed = ok_make (cells_of memory) (slots_of (length t)) (bodies_of bodies) t (check_rule memory bodies t passed)

-- all of them, where each is answered yes
pub restore_passed : (memory bodies : ℕ) (t : List ℕ) (h : ℕ) → 0 ≡ store_check (lent memory bodies t) → 0 ≡ ask_live_in t h 0 → restore_check (lent memory bodies t) h ≡ 0
unfolding restore_check
restore_passed memory bodies t h passed live = or_else_go _ _ (sym passed) ∙ sym live

-- ---- the call

module _ (m b t : List ℕ) (h k : ℕ) where
  -- a refusal that a `?` hands on
  module _ (r : Result Ended Refusal) (why : Refusal) (back : IsErrAnd r (λ w. w ≡ why)) where
    refused_by : question why ≡ restore_check (lent (length m) (length b) t) h → leaves (report r) (buffers m b t) ≡ outcome (restore_call h (buffers m b t)) k (buffers m b t)
    unfolding restore_call
    refused_by q =
        answer_refused r why back (refuses (question why) (restore_check (lent (length m) (length b) t) h) _ k (buffers m b t) q (question_no why))

    -- by questions 1 to 4
    pub refused_before : question why ≡ store_check (lent (length m) (length b) t) → leaves (report r) (buffers m b t) ≡ outcome (restore_call h (buffers m b t)) k (buffers m b t)
    unfolding restore_check
    refused_before q = refused_by (q ∙ sym (or_else_stop _ _ (λ z. question_no why (q ∙ z))))

    -- by question 5
    pub refused_domain : 0 ≡ store_check (lent (length m) (length b) t) → question why ≡ ask_live_in t h 0
        → leaves (report r) (buffers m b t) ≡ outcome (restore_call h (buffers m b t)) k (buffers m b t)
    unfolding restore_check
    refused_domain passed q = refused_by (q ∙ sym (or_else_go _ _ (sym passed)))

  -- d is the depth found, and `left` what remains of the budget for the words
  pub restore_performed : (d n nb nw left : ℕ) (m' t' : List ℕ) (r : Report) → restore_check (lent (length m) (length b) t) h ≡ 0 → d ≡ depth_named t h
      → PutBack (restore_bytes (cells_of (length m)) d b t) n k m nb m'
      → left ≡ k - nb → Journaled (slots_of (length t)) (restore_words d t) left t nw t'
      → r ≡ ended (nb + nw) 0 k → leaves r (buffers m' b t') ≡ outcome (restore_call h (buffers m b t)) k (buffers m b t)
  unfolding restore_call
  restore_performed d n nb nw left m' t' r passed named put rest written q =
      let need : nb + nw ≡ length (restore_bytes (cells_of (length m)) d b t) + length (journal (pairs_at (slots_of (length t))) (restore_words d t)) =
      rw (put.made, written.made) in
      let words : t' ≡ stores (take (k - length (restore_bytes (cells_of (length m)) d b t)) (journal (pairs_at (slots_of (length t))) (restore_words d t))) t =
      written.words ∙ rw (rest, put.made) in
      rw (passed, ← named)
      (plan_performed (pairs_at (slots_of (length t))) (nb + nw) 0 k (restore_bytes (cells_of (length m)) d b t) (restore_words d t) m b t m' t' r need put.stored words q)
