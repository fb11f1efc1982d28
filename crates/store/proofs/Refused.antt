-- Laws of questions put one after the other, each with a `?` behind it. Assumes nothing.
use Prim.Native.Nat.{ℕ, ◌<◌}
use mathlib.Core.Bool.{Bool, true, false}
use mathlib.Core.List.{List}
use mathlib.Core.Path.{◌≡◌, refl, sym, ◌∙◌}
use native.Mathlib.Omega.{arith}
use Rattle.std.specs.Prelude.{Result, IsErrAnd}
use Rattle.std.proofs.lemmas.Result.{err_from_is_err_and}
use Rattle.model.specs.Answer.{refused, ask, or_else}
use Rattle.model.specs.Calls.{list_refused}
use Rattle.model.proofs.Asking.{ask_yes, ask_go, or_else_go, or_else_stop}
use Rattle.store.specs.declared.answers.Ended.{Ended}
use Rattle.store.specs.declared.answers.Listing.{Listing}
use Rattle.store.specs.declared.answers.Refusal.{Refusal}
use Rattle.store.specs.Answer.{question, number_in, report, listing}
use Rattle.store.specs.Checks.{ask_innermost_in}
use Rattle.store.specs.Outcome.{Buffers, Outcome, leaves}
use Rattle.store.proofs.Named.{innermost_no, innermost_then}

-- a refusal has a number
pub question_no : (why : Refusal) → question why ≡ 0 → ⊥
question_no why e = grind arith

-- What a `?` hands on has the number of the refusal that it was given.
module _ {A : Type 0} (r : Result A Refusal) (why : Refusal) (back : IsErrAnd r (λ w. w ≡ why)) where
  pub handed_on : number_in r ≡ question why
  handed_on = let p = err_from_is_err_and r back in rw (p.1, p.2)

  -- some question was answered no, so that those behind it are not asked
  pub refused_before : (n rest : ℕ) → question why ≡ n → number_in r ≡ or_else n rest
  refused_before n rest e = handed_on ∙ e ∙ sym (or_else_stop n rest (λ z. question_no why (e ∙ z)))

  -- the same of one question by itself, and of 5 and 6 by themselves
  pub ask_before : (b : Bool) (n rest : ℕ) → question why ≡ ask b n 0 → number_in r ≡ ask b n rest
  ask_before true n rest e = absurd (question_no why e)
  ask_before false n rest e = handed_on ∙ e

  pub innermost_before : (t : List ℕ) (h rest : ℕ) → question why ≡ ask_innermost_in t h 0 → number_in r ≡ ask_innermost_in t h rest
  innermost_before t h rest e = handed_on ∙ innermost_no t h (question why) rest e (question_no why)

  -- those before were answered yes
  pub refused_behind : (n rest : ℕ) → 0 ≡ n → question why ≡ rest → number_in r ≡ or_else n rest
  refused_behind n rest z e = handed_on ∙ e ∙ sym (or_else_go n rest (sym z))

-- questions that were answered yes leave those behind them
pub ask_behind : (b : Bool) (n rest : ℕ) → 0 < n → 0 ≡ ask b n 0 → ask b n rest ≡ rest
ask_behind b n rest l e = ask_go b n rest (ask_yes b n 0 l (sym e))

pub innermost_behind : (t : List ℕ) (h rest : ℕ) → 0 ≡ ask_innermost_in t h 0 → ask_innermost_in t h rest ≡ rest
innermost_behind t h rest e = sym (innermost_then t h 0 rest e refl)

-- a call whose questions a `?` ends answers the refusal's report
pub answer_refused : (r : Result Ended Refusal) (why : Refusal) → IsErrAnd r (λ w. w ≡ why) → {b : Buffers} {o : Outcome} → leaves (refused (question why)) b ≡ o → leaves (report r) b ≡ o
answer_refused r why back {b} e = let p = err_from_is_err_and r back in rw (p.1, p.2) e

pub listing_refused : (r : Result Listing Refusal) (why : Refusal) → IsErrAnd r (λ w. w ≡ why) → listing r ≡ list_refused (question why)
listing_refused r why back = let p = err_from_is_err_and r back in rw (p.1, p.2)

-- what a `using` names where questions are put
pub ruleset asking = (handed_on, refused_before, refused_behind, ask_before, innermost_before, or_else_go, ask_behind, innermost_behind)
