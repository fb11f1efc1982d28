-- No label rises where of every read-write range no cell is held. Assumes nothing.
use Prim.Native.Nat.{ℕ, ◌+◌, ◌-◌, ◌<◌}
use mathlib.Core.Path.{◌≡◌, ap, subst}
use mathlib.Core.Bool.{true, not, ◌||◌}
use mathlib.Core.List.{List}
use native.Mathlib.Omega.{arith}
use lib.Dec.{eqb}
use lib.ListN.{length}
use Rattle.words.specs.Scan.{all}
use Rattle.words.proofs.Scan.{by_bool, true≢, is_false, and_split, all_at}
use Rattle.ranges.specs.declared.Range.{Range}
use Rattle.ranges.specs.Ranges.{covers, label_for}
use Rattle.ranges.specs.Lists.{range_of}
use Rattle.ranges.proofs.Ranges.{covers_bounds}
use Rattle.ranges.proofs.Lists.{raising, label_nowhere}
use Rattle.add.specs.Walking.{lacks}
use Rattle.add.proofs.Asking.{or_right}

-- a range is read-only, or lacks all its cells
abbrev pub StillOne : List ℕ → ℕ → Range → Type 0
StillOne held depth r = (not (eqb r.label 1) || all r.count (λ j. lacks held depth (r.first + j))) ≡ true

-- so no cell of a read-write range is held
pub none_still : (held : List ℕ) (depth : ℕ) (rs : List Range) → ((i : ℕ) → i < length rs → StillOne held depth (range_of rs i)) → (c : ℕ) → label_for rs c ≡ 1 → lacks held depth c ≡ true
none_still held depth rs still c one =
    by_bool (lacks held depth c) (λ p. p)
    (λ p.
    absurd (never one (label_nowhere rs c (λ i l. is_false (raising c (range_of rs i)) (λ y.
    let r : Range = range_of rs i in
    let s = and_split (covers r c) (eqb r.label 1) y in
    let b = covers_bounds r c s.0 in
    let low = b.0 in
    let high = b.1 in
    let at : r.first + (c - r.first) ≡ c = omega arith in
    let all-lack = or_right (not (eqb r.label 1)) _ (still i l) (ap not s.1) in
    true≢ (subst (λ (x : ℕ). lacks held depth x ≡ true) at (all_at _ _ all-lack (c - r.first) (omega arith))) p)))))
  where
    never : {x : ℕ} → x ≡ 1 → x ≡ 0 → ⊥
    never p q = omega arith
