use Rattle.std.proofs.Common.{◌≡◌, ℕ, ◌+◌, ◌-◌, ◌*◌, min, List, ap, ◌∙◌, arith}
use Rattle.words.specs.Stores.{Store, gather}
use Rattle.restore.specs.Parts.{back_plan}
use Rattle.restore.proofs.Blocks.{put_as, put_run_more}
use Rattle.restore.proofs.Finding.{put_passed}
use Rattle.restore.proofs.holdings.Holdings.put_back.Goals as goal

pub loop-r-preserved : goal.loop-r-preserved
loop-r-preserved g c =
    let s = c.args.self.now in
    let e = s.table.now.entries in
    let turn = c.loop-r in
    let r = c.in-Some.r in
    let u = c.in-Some.ensures in
    let runs = c.div_ceil-runs.ensures in
    let plan : ℕ → List Store = back_plan e.slots e.words.now s.depth s.bodies.now in
    let n : ℕ = min 8 (s.cells - 8 * r) in
    let here : min s.cells (8 * r) ≡ 8 * r = omega (arith, u.0) in
    let next : 8 * r + n ≡ min s.cells (8 * (r + 1)) = omega (arith, u.0) in
    let before = put_passed s turn.from _ r u.1 ∙ ap (λ (x : ℕ). gather x plan) here in
    record {
      within = omega (arith, u.0);
      long = c.put_run-bytes.auto.memory ∙ turn.invariant.long;
      put = put_as (ap (λ (x : ℕ). gather x plan) next) (omega (arith, next))
          (put_run_more plan (8 * r) n n (put_as before (omega (arith, u.1.low)) turn.invariant.put) (rw c.saturating_sub.ensures at c.put_run-bytes.ensures));
    }

pub returns : goal.returns
returns g c =
    let s = c.args.self.now in
    let e = s.table.now.entries in
    let turn = c.loop-r in
    let plan : ℕ → List Store = back_plan e.slots e.words.now s.depth s.bodies.now in
    let last : min s.cells (8 * c.div_ceil-runs.result) ≡ s.cells = omega arith in
    put_as
    (put_passed s turn.from _ _ c.in_default.ensures ∙ ap (λ (x : ℕ). gather x plan) last)
    (omega arith) turn.invariant.put
