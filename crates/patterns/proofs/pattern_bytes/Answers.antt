use mathlib.Core.Path.{sym, ◌∙◌}
use native.Mathlib.Omega.{arith}
use lib.Seq.{ext_get_or}
use Rattle.patterns.specs.Pattern.{pattern}
use Rattle.patterns.proofs.Bytes.{pattern_length, pattern_at}
use Rattle.patterns.proofs.pattern_bytes.Goals as goal

pub returns : goal.returns
returns c =
    let s = c.loop-i in
    let rule = c.args.rule in
    let long = c.loop-i-test.array_long in
    ext_get_or 0 s.byte-items (pattern rule) (long ∙ sym (pattern_length rule))
    (λ k h. s.invariant k (omega (arith, long)) ∙ sym (pattern_at rule k (omega (arith, long))))
