use Rattle.std.proofs.Common.{◌≡◌, ℕ, suc, ◌+◌, ◌-◌, ◌*◌, ◌/◌, ◌%◌, ◌<◌, sym, ap, subst, ◌∙◌, arith}
use Rattle.marks.proofs.Blocks.{held_first}
use Rattle.restore.specs.Marks.{Holders}
use Rattle.restore.specs.Parts.{back_plan}
use Rattle.restore.proofs.Blocks.{put_cell_more}
use Rattle.restore.proofs.holdings.Holdings.put_run.Goals as goal

pub put_held-bytes-requires : goal.put_held-bytes-requires
put_held-bytes-requires g c =
    let s = c.args.self.now in
    let e = s.table.now.entries in
    let turn = c.loop-j in
    let cell : ℕ = 8 * c.args.r + turn.j in
    let small : s.mask < 256 = omega arith in
    let one : 8 - turn.j ≡ suc (7 - turn.j) = omega arith in
    let byte = ap (λ (x : ℕ). x % 256) (rw one at turn.invariant.rest) ∙ (held_first s.marks.now.directory.seen.now s.mask small cell (7 - turn.j)).0 in
    (omega arith, (omega arith, omega arith, subst (λ (m : ℕ). Holders e.slots e.words.now s.depth cell m) (sym byte) (s.told cell)))

pub loop-j-preserved : goal.loop-j-preserved
loop-j-preserved g c =
    let s = c.args.self.now in
    let e = s.table.now.entries in
    let turn = c.loop-j in
    let cell : ℕ = 8 * c.args.r + turn.j in
    let small : s.mask < 256 = omega arith in
    let one : 8 - turn.j ≡ suc (7 - turn.j) = omega arith in
    let next : suc (8 * c.args.r + turn.j) ≡ 8 * c.args.r + (turn.j + 1) = omega arith in
    let left : 7 - turn.j ≡ 8 - (turn.j + 1) = omega arith in
    let others = ap (λ (x : ℕ). x / 256) (rw one at turn.invariant.rest) ∙ (held_first s.marks.now.directory.seen.now s.mask small cell (7 - turn.j)).1 in
    record {
      long = c.put_held-bytes.auto.memory ∙ turn.invariant.long;
      put = put_cell_more (λ j. back_plan e.slots e.words.now s.depth s.bodies.now (8 * c.args.r + j)) turn.j turn.invariant.put (rw c.saturating_sub.ensures at c.put_held-bytes.ensures);
      rest = rw (next, left) at others;
    }
