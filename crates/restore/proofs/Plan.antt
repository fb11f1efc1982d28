-- Restore's stores, bytes into memory and then words by the journal, under one budget. Assumes nothing.
use Prim.Native.Nat.{ℕ, ◌+◌, ◌-◌}
use mathlib.Core.List.{List, [], ◌∷◌, map}
use mathlib.Core.Path.{◌≡◌, refl, ◌∙◌}
use native.Mathlib.Omega.{arith}
use borrow.Author.Tests.{eq-eqb, ne_eqb}
use lib.ListN.{length, take, length-append, length-map}
use Rattle.words.specs.Layout.{pairs_at}
use Rattle.words.specs.Stores.{Store, store, stores}
use Rattle.words.specs.Journal.{journal}
use Rattle.words.proofs.Scan.{by_le}
use Rattle.words.proofs.Plans.{run_take_append, take_map}
use Rattle.words.proofs.Pairs.{length_journal, journal_none}
use Rattle.model.specs.Answer.{Report, ended, steps_of}
use Rattle.store.specs.Outcome.{Buffers, buffers, in_memory, in_table, step, steps, outcome, leaves, perform}
use Rattle.store.specs.State.{slots}
use Rattle.store.proofs.Outcome.{steps_in_table}
use Rattle.store.proofs.Reopened.{Shaped, whole_bytes}
use Rattle.restore.specs.Restore.{restore_plan}

pub steps_in_memory : (ps : List Store) (m b t : List ℕ) → steps (map in_memory ps) (buffers m b t) ≡ buffers (stores ps m) b t
steps_in_memory [] m b t = refl
steps_in_memory (p ∷ ps) m b t = steps_in_memory ps (store p m) b t

plan_length : (first : ℕ) (bytes ws : List Store) → length (restore_plan first bytes ws) ≡ length bytes + length (journal first ws)
plan_length first bytes ws =
    length-append (map in_memory bytes) (map in_table (journal first ws))
    ∙ rw (length-map bytes in_memory, length-map (journal first ws) in_table)

pub restore_length : (first : ℕ) (bytes ws : List Store) → length (restore_plan first bytes ws) ≡ steps_of (length bytes) (length ws)
restore_length first bytes ws =
    plan_length first bytes ws
    ∙ by_le (length ws) 0
    (λ l. let z : length ws ≡ 0 = omega arith in rw (journal_none first ws z, eq-eqb (length ws) 0 z))
    (λ l. rw (length_journal first ws l, ne_eqb (length ws) 0 (λ z. omega arith)))

-- memory is whole before any word of the table changes
pub restore_steps : (first k : ℕ) (bytes ws : List Store) (m b t : List ℕ)
    → steps (take k (restore_plan first bytes ws)) (buffers m b t) ≡ buffers (stores (take k bytes) m) b (stores (take (k - length bytes) (journal first ws)) t)
restore_steps first k bytes ws m b t =
    run_take_append step k (map in_memory bytes) (map in_table (journal first ws)) (buffers m b t)
    ∙ rw (length-map, take_map in_memory, take_map in_table, steps_in_memory (take k bytes) m b t, steps_in_table (take (k - length bytes) (journal first ws)) _ b t)

-- report and buffers after k steps
pub restore_leaves : (b : Buffers) (bytes ws : List Store) (h k : ℕ) → outcome (perform (restore_plan (pairs_at (slots b)) bytes ws) h) k b
    ≡ leaves (ended (steps_of (length bytes) (length ws)) h k) (buffers (stores (take k bytes) b.memory) b.bodies (stores (take (k - length bytes) (journal (pairs_at (slots b)) ws)) b.table))
unfolding outcome
restore_leaves b bytes ws h k = λ i.
    leaves (ended (restore_length (pairs_at (slots b)) bytes ws i) h k) (restore_steps (pairs_at (slots b)) k bytes ws b.memory b.bodies b.table i)

-- the shape of which store/proofs/Reopened speaks: bytes, here into memory, and then words by the journal
pub restores_shaped : (b : Buffers) (bytes ws : List Store) (h : ℕ) → Shaped (perform (restore_plan (pairs_at (slots b)) bytes ws) h) b
restores_shaped b bytes ws h = record {
  bytes = length bytes;
  ws = ws;
  handle = h;
  memory_at = λ k. stores (take k bytes) b.memory;
  bodies_at = λ k. b.bodies;
  leaves_at = restore_leaves b bytes ws h;
  memory_whole = λ k l. whole_bytes k bytes b.memory l;
  bodies_whole = λ k l. refl;
}

-- from what restore's code did to its outcome
pub plan_performed : (first need h k : ℕ) (bytes ws : List Store) (m b t m' t' : List ℕ) (r : Report)
    → need ≡ length bytes + length (journal first ws) → m' ≡ stores (take k bytes) m → t' ≡ stores (take (k - length bytes) (journal first ws)) t → r ≡ ended need h k
    → leaves r (buffers m' b t') ≡ outcome (perform (restore_plan first bytes ws) h) k (buffers m b t)
unfolding outcome
plan_performed first need h k bytes ws m b t m' t' r n p q e =
    rw (p, q, e, n, ← plan_length first bytes ws, ← restore_steps first k bytes ws m b t)
