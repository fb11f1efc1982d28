use Prim.Native.Nat.{◌*◌, ◌<◌}
use mathlib.Core.Path.{sym, ◌∙◌}
use native.Mathlib.Omega.{arith}
use Rattle.marks.proofs.Blocks.{run_none}
use Rattle.restore.proofs.Marking.{unheld_more}
use Rattle.restore.proofs.holdings.next_held.Goals as goal

pub loop-r-init : goal.loop-r-init
loop-r-init c = c.past_groups-r.ensures c.args.mask

pub loop-r-smaller : goal.loop-r-smaller
loop-r-smaller c = omega (arith, (c.past_groups-r-in-loop-r.ensures c.args.mask).low, (c.past_groups-r-in-loop-r.ensures c.args.mask).high, c.loop-r-test.true)

pub loop-r-preserved : goal.loop-r-preserved
loop-r-preserved c = let a = c.args in let s = c.loop-r in
    let small : a.mask < 256 = omega arith in
    let none = run_none a.marks.now.directory.seen.now a.mask (8 * s.r) 8 (sym (c.run_held.ensures a.mask small c.spread_mask-masks.ensures) ∙ c.if-run_held-ne0.false) in
    unheld_more a.mask a.marks.now.directory.seen.now _ _ s.r _ s.invariant none (c.past_groups-r-in-loop-r.ensures a.mask)
