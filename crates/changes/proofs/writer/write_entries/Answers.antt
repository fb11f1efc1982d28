use mathlib.Core.Path.{ap, ◌∙◌}
use mathlib.Core.List.{List}
use Prim.Native.Nat.{◌*◌}
use native.Mathlib.Omega.{arith}
use lib.ListN.{length, take}
use Rattle.words.specs.Stores.{Store, stores}
use Rattle.words.specs.Journal.{pair_plans}
use Rattle.changes.proofs.Groups.{group_inside, all_passed, group_count, group_room, group_words}
use Rattle.changes.proofs.writer.write_entries.Goals as goal

pub write_group-n-requires : goal.write_group-n-requires
write_group-n-requires c =
    let a = c.args in
    let room = group_room a.slots a.staged.words.now a.staged.changed.now c.requires.inside a.at a.budget c.loop-k.k c.loop-k.n c.loop-k.invariant.counted in
    record {
      small = (c.requires.small, omega arith);
      inside = group_inside a.slots a.staged.words.now a.staged.changed.now c.requires.inside c.loop-k.k;
      room = omega arith;
    }

pub overflow_add-n : goal.overflow_add-n
overflow_add-n c =
    let a = c.args in
    omega (arith, group_room a.slots a.staged.words.now a.staged.changed.now c.requires.inside a.at a.budget c.loop-k.k c.loop-k.n c.loop-k.invariant.counted, c.write_group-n.ensures.counted)

pub loop-k-preserved : goal.loop-k-preserved
loop-k-preserved c =
    let a = c.args in
    let room = group_room a.slots a.staged.words.now a.staged.changed.now c.requires.inside a.at a.budget c.loop-k.k c.loop-k.n c.loop-k.invariant.counted in
    record {
      few = omega (arith, c.write_group-n.ensures.counted);
      counted = group_count a.slots a.staged.words.now a.staged.changed.now c.requires.inside a.at a.budget c.loop-k.k c.loop-k.n c.loop-k.invariant.counted _ c.write_group-n.ensures.counted;
      made = group_words a.slots a.staged.words.now a.staged.changed.now c.requires.inside a.at a.budget c.loop-k.k c.loop-k.n c.loop-k.invariant.counted a.table.now c.loop-k.table _ c.loop-k.invariant.made (rw c.saturating_sub.ensures at c.write_group-n.ensures.words);
    }

pub returns-clause-counted : goal.returns-clause-counted
returns-clause-counted c =
    let a = c.args in
    c.loop-k.invariant.counted ∙ ap length (all_passed a.slots a.staged.words.now a.staged.changed.now c.requires.inside (64 * c.loop-k.k) (omega arith))

pub returns-clause-words : goal.returns-clause-words
returns-clause-words c =
    let a = c.args in
    c.loop-k.invariant.made
    ∙ ap (λ (ws : List Store). stores (take a.budget (pair_plans a.at ws)) a.table.now)
    (all_passed a.slots a.staged.words.now a.staged.changed.now c.requires.inside (64 * c.loop-k.k) (omega arith))
