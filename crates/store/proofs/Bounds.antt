-- Document 01, "Steps and cuts": how many steps a call takes at most. Assumes nothing.
use Prim.Native.Nat.{ℕ, ◌+◌, ◌*◌, ◌≤◌}
use mathlib.Core.List.{List}
use mathlib.Core.Path.{◌≡◌}
use native.Mathlib.Omega.{arith}
use borrow.Author.Tests.{eq-eqb, ne_eqb}
use lib.Dec.{eqb}
use lib.ListN.{length}
use Rattle.words.specs.Layout.{slots_of}
use Rattle.words.specs.Journal.{pending}
use Rattle.words.proofs.Scan.{by_bool, by_le}
use Rattle.model.specs.Answer.{steps_of}
use Rattle.model.specs.Calls.{make_steps, open_steps}
use Rattle.store.specs.Checks.{open_check, lent}
use Rattle.store.proofs.Checks.{open_table, table_pairs}
use Rattle.table.proofs.Pairs.{pairs_few}

-- "Open needs at most 2E + 11 steps"
pub open_bound : (memory bodies : ℕ) (t : List ℕ) → open_check (lent memory bodies t) ≡ 0 → open_steps (pending t) ≤ 2 * slots_of (length t) + 11
open_bound memory bodies t h =
    let few = pairs_few (slots_of (length t)) t (table_pairs memory bodies t (open_table memory bodies t h)) in
    by_le (pending t) 0
    (λ l. let z : pending t ≡ 0 = omega arith in rw (eq-eqb (pending t) 0 z) (omega arith))
    (λ l. rw (ne_eqb (pending t) 0 (λ z. omega arith)) (omega arith))

-- "every other call at most 70E + 32"
pub make_bound : (e : ℕ) → 1 ≤ e → make_steps e ≤ 70 * e + 32
make_bound e l = omega arith

-- of a call that copies at most one cell for each entry, and changes their words and those of the head
pub change_bound : (c p e : ℕ) → c ≤ e → p ≤ 2 * e + 8 → steps_of (64 * c) p ≤ 70 * e + 32
change_bound c p e l h = by_bool (eqb p 0) (λ z. rw z (omega arith)) (λ z. rw z (omega arith))
