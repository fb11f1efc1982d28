use Rattle.std.proofs.Common.{◌≡◌, ℕ, refl, sym, ap, ◌∙◌, arith}
use borrow.Author.Tests.{not-true, not-false}
use Rattle.table.specs.Entry.{writable}
use Rattle.table.specs.Changes.{put, keep}
use Rattle.add.specs.Add.{raise_change}
use Rattle.add.proofs.Choices.{rises_facts}
use Rattle.add.proofs.taking.Taking.raise_entry.Goals as goal

same_words : {w v x y : ℕ} → x ≡ w → y ≡ v → put w v ≡ put x y
same_words p q = cc

never : {w v : ℕ} → put w v ≡ keep → ⊥
never q = let z : ◌≡◌ {A = ℕ} 0 1 = cc in omega arith

pub returns-then-not-is_raised : goal.returns-then-not-is_raised
unfolding raise_change
returns-then-not-is_raised g c =
    let still = rw c.first_word-word.ensures at (sym c.is_raised.ensures ∙ not-true _ c.if-not-is_raised.true-raw) in
    rw still (record { put = λ w v q. absurd (never (sym q)); kept = λ q. (refl, refl) })

pub raise-raised-requires : goal.raise-raised-requires
raise-raised-requires g c = (rises_facts c.args.depth _ c.first_word-word.result (sym c.is_raised.ensures ∙ not-false _ c.if-not-is_raised.false-raw)).old

pub returns : goal.returns
unfolding raise_change
returns g c =
    let up = rw c.first_word-word.ensures at (sym c.is_raised.ensures ∙ not-false _ c.if-not-is_raised.false-raw) in
    let same = same_words (c.raise-raised.ensures ∙ ap writable c.first_word-word.ensures) c.second_word-body.ensures in
    rw up
    (record {
      put = λ w v q. rw (sym same ∙ q) at c.stage_entry.ensures;
      kept = λ q. absurd (never q);
    })
