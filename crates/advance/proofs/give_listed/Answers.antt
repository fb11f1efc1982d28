use Prim.Native.Nat.{◌<◌}
use mathlib.Core.Path.{◌≡◌, refl, sym}
use native.Mathlib.Omega.{arith}
use borrow.Author.Rules.{rules}
use Rattle.words.specs.Scan.{count}
use Rattle.words.proofs.Nth.{count_below}
use Rattle.search.proofs.Free.{free_nth}
use Rattle.changes.proofs.Staging.{stages_ext}
use Rattle.advance.specs.Notes.{lacks_at}
use Rattle.advance.proofs.Giving.{give_none, give_below, turn_low, turn_passed, turn_stages}
use Rattle.advance.proofs.give_listed.Goals as goal

pub returns-then-given-eq0 : goal.returns-then-given-eq0
returns-then-given-eq0 q c = record { none = λ _. (refl, refl); some = λ some. absurd (some c.if-given-eq0.true) }

pub loop-r-init : goal.loop-r-init
unfolding count
loop-r-init q c =
    let a = c.args in (
      search rules,
      refl,
      λ other old. stages_ext old (λ i l. sym (give_none a.entries.now.slots a.entries.now.words.now a.seen.now a.places.now a.n other i)),
    )

pub give_one-at-requires : goal.give_one-at-requires
give_one-at-requires q c =
    let a = c.args in
    let g = c.requires.listed in
    let s = c.loop-r in
    let here : c.loop-r.r < c.args.n = omega arith in
    let some = c.if-given-eq0.false in
    let lacks = lacks_at a.entries.now.slots a.entries.now.words.now a.seen.now a.places.now in
    let e = a.entries.now in (
      omega (arith, s.staged.few, s.staged.room),
      (
        (g.slot s.r here, s.invariant.0),
        (
          (g.kept, g.low, g.high, g.depth s.r here),
          λ y.
              let next = free_nth e.slots e.words.now s.at (count s.r lacks) s.invariant.0 s.invariant.1 in
              let room = g.room some (count s.r lacks) (count_below lacks s.r a.n here y) in
              (give_below e.slots e.words.now a.seen.now a.places.now a.n s.r s.at here (g.enough some) s.invariant.0 s.invariant.1 y, omega (arith, next, room, a.staged.now.wide)),
        ),
      ),
    )

pub loop-r-preserved : goal.loop-r-preserved
loop-r-preserved q c =
    let a = c.args in
    let g = c.requires.listed in
    let s = c.loop-r in
    let here : c.loop-r.r < c.args.n = omega arith in
    let enough = g.enough c.if-given-eq0.false in
    let one = c.give_one-at.ensures in (
      turn_low a.entries.now.slots a.entries.now.words.now a.seen.now a.places.now a.n s.r s.at here enough s.invariant.0 s.invariant.1 one,
      turn_passed a.entries.now.slots a.entries.now.words.now a.seen.now a.places.now a.n s.r s.at here enough s.invariant.0 s.invariant.1 one,
      λ other old. turn_stages a.entries.now.slots a.entries.now.words.now a.seen.now a.places.now a.n s.r s.at here enough s.invariant.0 s.invariant.1 one other (s.invariant.2 other old),
    )

pub returns : goal.returns
returns q c =
    let a = c.args in
    let s = c.loop-r in
    let last : s.r ≡ a.n = omega arith in
    record { none = λ z. absurd (c.if-given-eq0.false z); some = λ _ other old. rw last at (s.invariant.2 other old) }
