use Prim.Native.Nat.{ℕ}
use mathlib.Core.Bool.{Bool, ◌&&◌}
use mathlib.Core.Path.{◌≡◌, refl, sym, ap, ◌∙◌}
use native.Mathlib.Omega.{arith}
use borrow.Author.Tests.{not-true, not-false}
use Rattle.words.specs.Scan.{count}
use Rattle.words.proofs.Scan.{count_le}
use Rattle.table.specs.Entry.{word1}
use Rattle.search.proofs.From.{count_byte, byte_small}
use Rattle.advance.specs.Notes.{has_bit, gives_it}
use Rattle.advance.proofs.Giving.{given_front}
use Rattle.advance.proofs.count_given.Goals as goal

pub returns-then-not-is_inner : goal.returns-then-not-is_inner
returns-then-not-is_inner c = rw (sym c.is_inner.ensures ∙ not-true _ c.if-not-is_inner.true-raw)

pub loop-i-init : goal.loop-i-init
unfolding count
loop-i-init c = refl

pub parent_lacks-requires : goal.parent_lacks-requires
parent_lacks-requires c = (c.requires.sized.kept, c.requires.lives.0, c.requires.lives.1)

pub overflow_add-n : goal.overflow_add-n
overflow_add-n c =
    let a = c.args in
    let s = c.loop-i in
    omega (arith, count_le s.i (λ k. gives_it a.seen.now a.live (has_bit a.seen.now a.bits.now) (word1 a.entries.now.slots a.entries.now.words.now k)), byte_small (c.turns.result && c.parent_lacks.result), s.invariant, a.entries.now.ends.0, a.entries.now.few)

pub loop-i-preserved : goal.loop-i-preserved
loop-i-preserved c =
    let a = c.args in
    let s = c.loop-i in
    let gives : ℕ → Bool = λ w. gives_it a.seen.now a.live (has_bit a.seen.now a.bits.now) w in
    let now : (c.turns.result && c.parent_lacks.result) ≡ gives (word1 a.entries.now.slots a.entries.now.words.now s.i) =
    rw (c.turns.ensures, c.parent_lacks.ensures, c.first_word-word.ensures) in
    count_byte (λ k. gives (word1 a.entries.now.slots a.entries.now.words.now k)) s.i s.n s.invariant _ now

pub returns : goal.returns
returns c =
    let a = c.args in
    let e = a.entries.now in
    let s = c.loop-i in
    let f = has_bit a.seen.now a.bits.now in
    let last : s.i ≡ a.entries.now.top = omega arith in
    rw (sym c.is_inner.ensures ∙ not-false _ c.if-not-is_inner.false-raw)
    (s.invariant ∙ ap (λ (n : ℕ). count n (λ k. gives_it a.seen.now a.live f (word1 a.entries.now.slots a.entries.now.words.now k))) last
    ∙ given_front a.entries.now.slots a.entries.now.words.now a.entries.now.top e.ends.0 e.ends.1 a.live c.requires.lives.0 a.seen.now f)
