use mathlib.Core.Bool.{Bool}
use mathlib.Core.Path.{sym, ap, ◌∙◌}
use Rattle.changes.specs.Staged.{with_bit}
use Rattle.changes.proofs.Bits.{bit_kept, bit_shifted}
use Rattle.changes.proofs.staged.with_bit.Goals as goal

pub returns-then-changed : goal.returns-then-changed
returns-then-changed c = bit_shifted c.args.bits c.args.j c.requires ∙ ap (λ (b : Bool). with_bit b c.args.j c.args.bits) (sym c.if-changed.true)

pub returns : goal.returns
returns c = sym (bit_kept c.args.bits c.args.j) ∙ ap (λ (b : Bool). with_bit b c.args.j c.args.bits) (sym c.if-changed.false)
