use Rattle.std.proofs.Common.{◌≡◌, arith}
use Rattle.add.specs.Took.{words_lent, slots_lent, ranges_lent}
use Rattle.add.proofs.Lending.{inner, told}
use Rattle.add.proofs.Storing.{raise_turn, raise_end, raise_none}
use Rattle.add.proofs.taking.Taking.raise_entries.Goals as goal

pub returns-then-none_rises : goal.returns-then-none_rises
returns-then-none_rises g c =
    let q = c.args.self.now in
    record { of = λ m b s. raise_none (slots_lent q) (words_lent q) (ranges_lent q) (inner _ _ _ _ _ _ q.able) m b q.held.now _ _ (told _ _ _ _ _ _ q.able) (c.none_rises.ensures c.if-none_rises.true) s }

pub loop-i-init : goal.loop-i-init
loop-i-init g c = λ m b s. s

pub raise_entry-requires : goal.raise_entry-requires
raise_entry-requires g c =
    let q = c.args.self.now in
    (omega (arith, c.loop-i-test.true, q.entries.ends.0, q.slots), omega (arith, c.loop-i-test.true, c.requires))

pub loop-i-preserved : goal.loop-i-preserved
loop-i-preserved g c = λ m b s.
    let q = c.args.self.now in
    raise_turn (slots_lent q) (words_lent q) (ranges_lent q) (inner _ _ _ _ _ _ q.able) m b c.loop-i.i _ _ _ _
    (omega (arith, c.loop-i-test.true, q.entries.ends.0, q.slots)) c.raise_entry.ensures (c.loop-i.invariant m b s)

pub returns : goal.returns
returns g c =
    let q = c.args.self.now in
    let last : c.loop-i.i ≡ q.entries.top = omega arith in
    record { of = λ m b s. raise_end (slots_lent q) (words_lent q) (ranges_lent q) (inner _ _ _ _ _ _ q.able) m b q.entries.top _ _ (rw q.slots at q.entries.ends) (rw last at (c.loop-i.invariant m b s)) }
