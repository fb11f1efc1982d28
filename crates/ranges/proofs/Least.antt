-- The least of what a test gives of the ranges of a list, which tells of each of them. Assumes nothing.
use Rattle.std.proofs.Common.{◌≡◌, ℕ, zero, suc, ◌<◌, ◌≤◌, min, List, [], ◌∷◌, length, Option, None, Some, refl, arith}
use Rattle.std.specs.List.{fold}
use Rattle.std.specs.Option.{unwrap_or}
use Rattle.words.proofs.Scan.{by_le}
use Rattle.ranges.specs.declared.Range.{Range}
use Rattle.ranges.specs.Lists.{range_of, LeastOf}

module _ (h : Range → Option ℕ) (d : ℕ) where
  -- what a fold over the ranges does at each
  abbrev pub lesser : ℕ → Range → ℕ
  lesser a r = min a (unwrap_or (h r) d)

  cons_below : (r : Range) (rs : List Range) (m : ℕ) → ((y : ℕ) → h r ≡ Some y → m ≤ y) → ((i y : ℕ) → i < length rs → h (range_of rs i) ≡ Some y → m ≤ y)
      → (i y : ℕ) → i < length (r ∷ rs) → h (range_of (r ∷ rs) i) ≡ Some y → m ≤ y
  cons_below r rs m f g zero y l e = f y e
  cons_below r rs m f g (suc i) y l e = g i y (omega arith) e

  least_cons : (r : Range) (rs : List Range) (a : ℕ) → a ≤ d → ((b : ℕ) → b ≤ d → LeastOf h rs b (fold lesser b rs)) → (o : Option ℕ) → h r ≡ o
      → LeastOf h (r ∷ rs) a (fold lesser (min a (unwrap_or o d)) rs)
  least_cons r rs a u l None e =
      let same : min a d ≡ a = omega arith in
      rw same
      (record {
        high = (l a u).high;
        below = cons_below r rs _ (λ y q. cc) (l a u).below;
        is = λ b. let g = (l a u).is b in (suc g.0, omega (arith, g.1), g.2);
      })
  least_cons r rs a u l (Some x) e =
      let k = l (min a x) (omega arith) in
      let m = fold lesser (min a x) rs in
      let high : m ≤ min a x = k.high in
      record {
        high = omega arith;
        below = cons_below r rs m (λ y q. let z : x ≡ y = cc in omega arith) k.below;
        is = λ b. by_le (min a x) m
            (λ v. (0, omega arith, let z : m ≡ x = omega arith in cc))
            (λ v. let g = k.is v in (suc g.0, omega (arith, g.1), g.2));
      }

  least_from : (rs : List Range) (a : ℕ) → a ≤ d → LeastOf h rs a (fold lesser a rs)
  least_from [] a u = record { high = omega arith; below = λ i y l. absurd (omega arith); is = λ l. absurd (omega arith) }
  least_from (r ∷ rs) a u = least_cons r rs a u (least_from rs) (h r) refl

  pub least_of : (rs : List Range) → LeastOf h rs d (fold lesser d rs)
  least_of rs = least_from rs d (omega arith)
