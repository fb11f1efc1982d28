-- The list of stores of each call: how long it is at most, and that it has the shape of which store/proofs/Reopened speaks. Assumes nothing.
use Prim.Native.Nat.{ℕ, zero, suc, ◌+◌, ◌*◌, ◌≤◌}
use mathlib.Core.List.{List, []}
use mathlib.Core.Path.{◌≡◌, refl, sym, ap, subst, ◌∙◌}
use native.Mathlib.Omega.{arith}
use lib.Dec.{leb-zero}
use lib.ListN.{length}
use lib.Seq.{take-nil}
use Rattle.words.specs.Layout.{cells_of, bodies_of, pairs_at}
use Rattle.words.specs.Stores.{Store}
use Rattle.ranges.specs.declared.Range.{Range}
use Rattle.table.specs.Entry.{next_handle}
use Rattle.search.specs.Domain.{depth_named}
use Rattle.search.proofs.Domain.{depth_small}
use Rattle.model.specs.Answer.{is_stopped, Report, done, refused, ended, or_else, steps_of}
use Rattle.model.proofs.Told.{Halted}
use Rattle.store.specs.Outcome.{Buffers, Step, Call, refuse, perform, change_plan, unless, Outcome, leaves, outcome}
use Rattle.store.specs.Checks.{store_check, create_check, lent_of}
use Rattle.store.specs.State.{slots}
use Rattle.store.specs.Calls.{create_words, create_call}
use Rattle.store.proofs.Checks.{or_else_both}
use Rattle.store.proofs.Bounds.{change_bound}
use Rattle.store.proofs.Changes.{change_length}
use Rattle.store.proofs.Created.{create_words_lem}
use Rattle.store.proofs.Reopened.{Shaped, changes_shaped}
use Rattle.add.specs.Add.{add_check, add_bytes, add_words, add_call}
use Rattle.add.proofs.Readied.{add_ready}
use Rattle.add.proofs.Added.{add_bound}
use Rattle.delete.specs.Delete.{delete_check, delete_words, delete_call}
use Rattle.delete.proofs.Deleted.{check_store as delete-store, check_passed as delete-passed, delete_steps, delete_bound}
use Rattle.advance.specs.Advance.{advance_check, advance_bytes, advance_words, advance_call}
use Rattle.advance.proofs.Advanced.{advance_bound}
use Rattle.commit.specs.Commit.{commit_check, commit_words, commit_call}
use Rattle.commit.proofs.Committed.{commit_store, commit_live, new_count, commit_bound}
use Rattle.restore.specs.Restore.{restore_check, restore_bytes, restore_words, restore_call}
use Rattle.restore.proofs.Plan.{restore_length, restores_shaped}
use Rattle.restore.proofs.Restored.{asked, asked_low, new_bytes, new_words}
use Rattle.restore.proofs.Cuts.{restore_bound}

-- ---- by the number of its questions and its plan

abbrev pub Needs : ℕ → Call → Type 0
Needs n (refuse q) = Unit {0}
Needs n (perform plan h) = length plan ≤ n

pub needs_unless : (n q : ℕ) (c : Call) → (q ≡ 0 → Needs n c) → Needs n (unless q c)
needs_unless n zero c f = f refl
needs_unless n (suc q) c f = tt

pub at_most : {x y n : ℕ} → x ≡ y → y ≤ n → x ≤ n
at_most e l = omega arith

-- a call that is stopped was not refused
shaped_unless : (q : ℕ) (c : Call) (k : ℕ) (b : Buffers) → Shaped c b → (outcome (unless q c) k b).report.status ≡ is_stopped → Shaped (unless q c) b
unfolding outcome
shaped_unless zero c k b s e = s
shaped_unless (suc q) c k b s e = absurd (subst Halted (sym e) tt)

-- A call that ends at budget k as `at k`: it is a refusal or a plan of at most 70E + 32 stores, and where it is stopped its plan has that shape.
pub record Planned (at : (k : ℕ) → Outcome) (b : Buffers) : Type 0 where
  pub call : Call
  pub is : (k : ℕ) → at k ≡ outcome call k b
  pub needs : Needs (70 * slots b + 32) call
  pub shaped : (k : ℕ) → (outcome call k b).report.status ≡ is_stopped → Shaped call b

-- ---- the changing calls: bytes into bodies, and then words by the journal

change_planned : (at : (k : ℕ) → Outcome) (b : Buffers) (q : ℕ) (bytes ws : List Store) (h : ℕ)
    → ((k : ℕ) → at k ≡ outcome (unless q (perform (change_plan (pairs_at (slots b)) bytes ws) h)) k b)
    → (q ≡ 0 → length (change_plan (pairs_at (slots b)) bytes ws) ≤ 70 * slots b + 32) → Planned at b
change_planned at b q bytes ws h is few = record {
  call = unless q (perform (change_plan (pairs_at (slots b)) bytes ws) h);
  is = is;
  needs = needs_unless (70 * slots b + 32) q (perform (change_plan (pairs_at (slots b)) bytes ws) h) few;
  shaped = λ k e. shaped_unless q _ k b (changes_shaped b bytes ws h) e;
}

module _ (b : Buffers) where
  pub create_planned : Planned (λ k. outcome (create_call b) k b) b
  unfolding create_call
  create_planned =
      change_planned _ b (create_check (lent_of b)) [] (create_words b.table) (next_handle b.table) (λ k. refl)
      (λ q. at_most (change_length (pairs_at (slots b)) [] (create_words b.table) ∙ ap (steps_of 0) (create_words_lem b.table)) (change_bound 0 3 (slots b) (omega arith) (omega arith)))

  pub add_planned : (h : ℕ) (rs : List Range) → Planned (λ k. outcome (add_call h rs b) k b) b
  unfolding add_call
  add_planned h rs =
      let bytes = add_bytes (bodies_of (length b.bodies)) b.memory b.table rs in
      let ws = add_words (cells_of (length b.memory)) (bodies_of (length b.bodies)) b.table rs in
      change_planned _ b (add_check b h rs) bytes ws 0 (λ k. refl)
      (λ q.
      at_most (change_length (pairs_at (slots b)) bytes ws)
      (add_bound b.memory b.bodies b.table rs (add_ready b.memory b.bodies b.table h rs q)))

  pub delete_planned : (h first n : ℕ) → Planned (λ k. outcome (delete_call h first n b) k b) b
  unfolding delete_call
  delete_planned h first n =
      change_planned _ b (delete_check (lent_of b) h first n) [] (delete_words b.table (depth_named b.table h) first n) 0
      (λ k. refl)
      (λ q.
      let yes = delete-store (length b.memory) (length b.bodies) b.table h first n q in
      let pass = delete-passed (length b.memory) (length b.bodies) b.table h first n q in
      at_most (delete_steps b.memory b.bodies b.table yes (depth_named b.table h) first n pass)
      (delete_bound b.memory b.bodies b.table yes (depth_named b.table h) first n pass))

  pub advance_planned : (h : ℕ) → Planned (λ k. outcome (advance_call h b) k b) b
  unfolding advance_call
  advance_planned h =
      change_planned _ b (advance_check b h) (advance_bytes b) (advance_words b) 0 (λ k. refl)
      (λ q. at_most (change_length (pairs_at (slots b)) (advance_bytes b) (advance_words b)) (advance_bound b h q))

  pub commit_planned : (h : ℕ) → Planned (λ k. outcome (commit_call h b) k b) b
  unfolding commit_call
  commit_planned h =
      change_planned _ b (commit_check (lent_of b) h) [] (commit_words b.table) 0 (λ k. refl)
      (λ q.
      let yes = commit_store (length b.memory) (length b.bodies) b.table h q in
      let some-live = commit_live (length b.memory) (length b.bodies) b.table h q in
      at_most (change_length (pairs_at (slots b)) [] (commit_words b.table) ∙ ap (steps_of 0) (new_count b.memory b.bodies b.table yes some-live))
      (commit_bound b.memory b.bodies b.table yes some-live))

  -- ---- restore

  pub restore_planned : (h : ℕ) → Planned (λ k. outcome (restore_call h b) k b) b
  unfolding restore_call restore_check
  restore_planned h =
      let asks : ℕ = or_else (store_check (lent_of b)) (asked b.table h) in
      let d : ℕ = depth_named b.table h in
      let bytes = restore_bytes (cells_of (length b.memory)) (depth_named b.table h) b.bodies b.table in
      let ws = restore_words (depth_named b.table h) b.table in
      record {
        call = restore_call h b;
        is = λ k. refl;
        needs = needs_unless (70 * slots b + 32) asks _
            (λ q.
            let both = or_else_both (store_check (lent_of b)) (asked b.table h) q in
            let low = asked_low b.table h both.1 in
            let high = depth_small b.table h in
            at_most (restore_length (pairs_at (slots b)) bytes ws
            ∙ (λ i. steps_of (new_bytes b.memory b.bodies b.table both.0 d low high i) (new_words b.memory b.bodies b.table both.0 d low high i)))
            (restore_bound b.memory b.bodies b.table both.0 d low high));
        shaped = λ k e. shaped_unless asks _ k b (restores_shaped b bytes ws 0) e;
      }

-- ---- a call that only reads: no store

-- its answer, by the number of its questions
abbrev pub read_answer : ℕ → Report
read_answer zero = done 0 0
read_answer (suc n) = refused (suc n)

read_is : (q k : ℕ) (b : Buffers) → leaves (read_answer q) b ≡ outcome (unless q (perform [] 0)) k b
unfolding outcome ended
read_is zero k b = rw (leb-zero k, take-nil {A = Step} k)
read_is (suc n) k b = refl

pub read_planned : (r : Report) (q : ℕ) (b : Buffers) → r ≡ read_answer q → Planned (λ k. leaves r b) b
read_planned r q b e =
    change_planned _ b q [] [] 0 (λ k. ap (λ (x : Report). leaves x b) e ∙ read_is q k b) (λ _. omega arith)
