-- `table::passes::mark_body` meets its contract. Assumes nothing.
use Rattle.std.proofs.Common.{◌≡◌, sym, ◌∙◌, arith, lt-ltb}
use Rattle.table.specs.Entry.{via_of}
use Rattle.table.proofs.Entry.{via_some, via_zero}
use Rattle.table.proofs.Seconds.{kind_via, kind_copy, no_body, one_body}
use Rattle.table.proofs.passes.mark_body.Goals as goal

pub returns-then-is_via-clause-right : goal.returns-then-is_via-clause-right
returns-then-is_via-clause-right c = λ r.
    let a = c.args in
    let via : via_of a.word ≡ 0 → ⊥ = via_some a.word (sym c.if-is_via.ensures) in
    let none = no_body a.word a.second a.used.now via in
    (kind_via a.bodies a.word a.second c.requires.1 via ∙ (rw c.depth_of.ensures at r), none.0, sym none.1)

pub returns-clause-right : goal.returns-clause-right
returns-clause-right c = λ r.
    let a = c.args in
    let copy = via_zero a.word (sym c.if-is_via.ensures) in
    let body = one_body a.word a.second a.used.now c.requires.0 copy c.requires.1 in (
      kind_copy a.bodies a.word a.second c.requires.1 copy ∙ lt-ltb a.second a.bodies (omega (arith, c.if-bodies-second.false)),
      body.0 ∙ (rw c.wide-body.ensures at r),
      rw c.wide-body.ensures (sym body.1),
    )

pub returns-clause-wrong : goal.returns-clause-wrong
returns-clause-wrong c = λ r k.
    let a = c.args in
    (one_body a.word a.second a.used.now c.requires.0 (via_zero a.word (sym c.if-is_via.ensures)) c.requires.1).0 ∙ (rw c.wide-body.ensures at r)
