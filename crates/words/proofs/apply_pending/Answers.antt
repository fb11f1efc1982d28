use mathlib.Core.Path.{◌≡◌, ◌∙◌}
use Prim.Native.Nat.{◌+◌, ◌*◌, ◌≤◌, ◌<◌}
use native.Mathlib.Omega.{arith}
use lib.ListN.{get_or}
use Rattle.words.proofs.Phases.{get_or_pairs, apply_turn, apply_last, apply_cut}
use Rattle.words.proofs.apply_pending.Goals as goal
use Rattle.words.proofs.apply_pending.Goals.{In-loop-j}

-- within the loop's body: the pair's word lies in front of the pairs
word_below : (c : In-loop-j) → get_or c.loop-j.table (c.args.first + 2 * c.loop-j.j) 0 < c.args.first
word_below c =
    let a = c.args in
    let q = c.requires in
    let h : c.loop-j.j < a.p = omega arith in
    rw (c.loop-j.invariant, get_or_pairs a.table.now a.first a.p q.2 c.loop-j.j (a.first + 2 * c.loop-j.j) (omega arith)) (q.2 _ h)

pub bounds-table-word : goal.bounds-table-word
bounds-table-word c = omega (arith, word_below (goal.at.bounds-table-word c).In-loop-j)

pub loop-j-preserved : goal.loop-j-preserved
loop-j-preserved c =
    let a = c.args in
    let h : c.loop-j.j < a.p = omega arith in
    apply_turn a.table.now a.first a.p c.requires.2 _ _ h c.loop-j.invariant

pub returns-then-n-budget : goal.returns-then-n-budget
returns-then-n-budget c =
    let a = c.args in
    let h : a.p < a.budget = omega arith in
    let e : c.loop-j.j ≡ a.p = omega arith in
    apply_last _ a.first a.p _ _ h (rw e at c.loop-j.invariant)

pub returns-else-n-budget : goal.returns-else-n-budget
returns-else-n-budget c =
    let a = c.args in
    let h : a.budget ≤ a.p = omega arith in
    let e : c.loop-j.j ≡ a.budget = omega arith in
    rw e at c.loop-j.invariant ∙ apply_cut _ a.first a.p _ h
