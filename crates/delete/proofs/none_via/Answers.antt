use Prim.Native.Nat.{ℕ}
use mathlib.Core.Bool.{not}
use mathlib.Core.Path.{◌≡◌, sym, ap, ◌∙◌}
use native.Mathlib.Omega.{arith}
use borrow.Author.Count.{below_none}
use Rattle.words.specs.Scan.{all}
use Rattle.words.proofs.Scan.{all_make, all_next}
use Rattle.table.specs.Entry.{word1, child}
use Rattle.delete.specs.Parts.{via_word}
use Rattle.delete.proofs.Asked.{via_front}
use Rattle.delete.proofs.none_via.Goals as goal

pub loop-i-init : goal.loop-i-init
loop-i-init c = sym (all_make 0 _ (below_none _))

pub loop-i-preserved : goal.loop-i-preserved
loop-i-preserved c =
    let a = c.args in
    rw (c.loop-i.invariant, c.bears.ensures, c.first_word.ensures) (all_next c.loop-i.i (λ k. not (via_word (child a.cells.depth) a.cells.first a.cells.count (word1 a.entries.now.slots a.entries.now.words.now k))))

pub returns : goal.returns
returns c =
    let a = c.args in
    let s = a.entries.now in
    let e : c.loop-i.i ≡ s.top = omega arith in
    c.loop-i.invariant ∙ ap (λ (n : ℕ). all n (λ k. not (via_word (child a.cells.depth) a.cells.first a.cells.count (word1 s.slots s.words.now k)))) e
    ∙ via_front s.slots s.words.now s.top s.ends (child a.cells.depth) a.cells.first a.cells.count
