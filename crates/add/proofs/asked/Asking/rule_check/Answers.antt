use Rattle.std.proofs.Common.{◌≡◌, ℕ, Bool, sym, ap, ◌∙◌, length}
use borrow.Author.Tests.{not-true, not-false}
use Rattle.patterns.proofs.Bytes.{pattern_length}
use Rattle.add.specs.Asked.{newly}
use Rattle.add.proofs.Asking.{rule_high, rule_unlike, rule_like, follows_is}
use Rattle.add.proofs.asked.Asking.rule_check.Goals as goal

pub returns-then-part-gt-MAX_RULE : goal.returns-then-part-gt-MAX_RULE
returns-then-part-gt-MAX_RULE c =
    let q = c.args.self.now in
    let p = c.args.part.now in
    rule_high q.memory.now (newly q p.seen.now) p.range.first p.range.count p.range.rule c.if-part-gt-MAX_RULE.true

pub range_follows-requires : goal.range_follows-requires
range_follows-requires c =
    let long : length c.pattern_bytes-bytes.result ≡ 64 = ap length c.pattern_bytes-bytes.ensures ∙ pattern_length c.args.part.now.range.rule in
    (long, c.requires)

pub returns-then-not-range_follows : goal.returns-then-not-range_follows
returns-then-not-range_follows c =
    let q = c.args.self.now in
    let p = c.args.part.now in
    let new : ℕ → Bool = newly q p.seen.now in
    let same = follows_is q.memory.now new p.range.first p.range.count p.range.rule c.pattern_bytes-bytes.result c.pattern_bytes-bytes.ensures in
    rule_unlike q.memory.now new p.range.first p.range.count p.range.rule c.if-part-gt-MAX_RULE.false (sym same ∙ sym c.range_follows.ensures ∙ not-true _ c.if-not-range_follows.true-raw)

pub returns : goal.returns
returns c =
    let q = c.args.self.now in
    let p = c.args.part.now in
    let new : ℕ → Bool = newly q p.seen.now in
    let same = follows_is q.memory.now new p.range.first p.range.count p.range.rule c.pattern_bytes-bytes.result c.pattern_bytes-bytes.ensures in
    rule_like q.memory.now new p.range.first p.range.count p.range.rule c.if-part-gt-MAX_RULE.false (sym same ∙ sym c.range_follows.ensures ∙ not-false _ c.if-not-range_follows.false-raw)
