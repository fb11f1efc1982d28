use Rattle.std.proofs.Common.{◌≡◌, ℕ, ◌+◌, Bool, arith, refl, ap, ◌∙◌}
use Rattle.words.specs.Scan.{count}
use Rattle.search.proofs.From.{count_byte, byte_small}
use Rattle.store.proofs.Checks.{store_lengths}
use Rattle.add.specs.Asked.{newly}
use Rattle.add.proofs.asked.Asking.count_new.Goals as goal

pub loop-j-init : goal.loop-j-init
unfolding count
loop-j-init c = (omega arith, refl)

pub is_new-requires : goal.is_new-requires
is_new-requires c = let f = store_lengths _ _ _ c.args.self.now.store in omega (arith, f.cells_high)

pub loop-j-preserved : goal.loop-j-preserved
loop-j-preserved c =
    let p = c.args.part.now in
    let f : ℕ → Bool = λ k. newly c.args.self.now p.seen.now (p.range.first + k) in
    rw c.from-new.ensures (
      omega (arith, c.loop-j.invariant.0, byte_small c.is_new.result),
      count_byte f c.loop-j.j c.loop-j.new c.loop-j.invariant.1 _ c.is_new.ensures,
    )

pub returns : goal.returns
returns c =
    let p = c.args.part.now in
    let last : c.loop-j.j ≡ p.range.count = omega arith in
    c.loop-j.invariant.1 ∙ ap (λ (n : ℕ). count n (λ k. newly c.args.self.now p.seen.now (p.range.first + k))) last
