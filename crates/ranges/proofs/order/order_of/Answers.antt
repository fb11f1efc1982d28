use Rattle.std.proofs.Common.{ℕ, ◌%◌, length, ap, ◌∙◌, arith, rules, get_or-set_other, get_or-set_same, below_more}
use Rattle.ranges.proofs.Orders.{orders_keys, orders_sorted}
use Rattle.ranges.proofs.order.order_of.Goals as goal

pub loop-i-preserved : goal.loop-i-preserved
loop-i-preserved c =
    let s = c.loop-i.keys in
    let i = c.loop-i.i in
    let x = c.key_of.result in
    record {
      room = search rules;
      named = below_more _ i
          (λ k l. ap (λ (v : ℕ). v % 64) (get_or-set_other s i k x 0 (λ z. omega arith)) ∙ c.loop-i.invariant.named k l)
          (ap (λ (v : ℕ). v % 64) (get_or-set_same s i x 0 (omega arith)) ∙ c.key_of.ensures);
    }

pub returns : goal.returns
returns c =
    let n = length c.args.list.now in
    let s = c.loop-i.keys in
    orders_sorted n _ s c.sort_unstable.new.self _ (omega arith) c.sort_unstable.ensures.len c.sort_unstable.ensures.permutation
    (orders_keys n s (omega (arith, c.requires.0)) (λ k l. c.loop-i.invariant.named k (omega arith)))
