-- Laws of the parts that a list of ranges falls into: what a cell found, a turn found and a range passed tell of the cells between them. Assumes
-- nothing.
use Rattle.std.proofs.Common.{◌≡◌, ℕ, suc, ◌+◌, ◌<◌, ◌≤◌, max, Bool, true, false, cond, ◌&&◌, ◌||◌, eqb, ltb, List, [], ◌∷◌, length, Option, None, Some, IfSome, MatchOption, sym, refl, ap, ◌∙◌, arith, ltb-true, ltb-false, lt-ltb, eqb-true}
use borrow.Author.Tests.{eqb-false}
use denote.Ref.{Bor}
use Rattle.std.specs.Bool.{then_some}
use Rattle.words.proofs.Scan.{by_bool, by_le, and_join, and_split, is_false, true≢}
use Rattle.ranges.specs.declared.Range.{Range}
use Rattle.ranges.specs.declared.segments.Segment.{Segment}
use Rattle.ranges.specs.Ranges.{covers, named, kind_for, rule_for, label_for}
use Rattle.ranges.specs.Lists.{range_of, range_end, number_by, Within, NoneEmpty, Orders, RisingBy, RisingFrom, RisesFrom, lowest_from, turn_behind, LeastOf, NextNamed, FirstNaming, AllOrNone, Asks, Next, NoneLeft}
use Rattle.ranges.proofs.Ranges.{covers_bounds, covers_make, covers_not, label_low}
use Rattle.ranges.proofs.Lists.{named_by, named_nowhere, named_within, naming_make, naming_none, naming_below, kind_by, rule_by, raising, label_by, label_nowhere}
use Rattle.ranges.proofs.Orders.{by_order, by_order_but}

-- ---- one range

module _ (r : Range) where
  -- the lowest cell that it names
  lowest_some : (from m : ℕ) → lowest_from r from ≡ Some m → (from ≤ m) × (covers r m ≡ true)
  lowest_some from m e =
      by_bool (ltb (max r.first from) (range_end r))
      (λ t.
      let x : lowest_from r from ≡ Some (max r.first from) = rw t in
      let z : max r.first from ≡ m = cc in
      let l = ltb-true _ _ t in
      (omega arith, covers_make r m (omega arith) (omega arith)))
      (λ t. let x : lowest_from r from ≡ None = rw t in cc)

  lowest_low : (from m c : ℕ) → ((y : ℕ) → lowest_from r from ≡ Some y → m ≤ y) → from ≤ c → c < m → covers r c ≡ false
  lowest_low from m c h l b =
      covers_not r c (λ p q.
      let t = lt-ltb (max r.first from) (range_end r) (omega arith) in
      let z = h (max r.first from) (rw t) in
      omega arith)

  pub all_before : (at end : ℕ) → end ≤ r.first → AllOrNone r at end
  all_before at end h c l b = covers_not r c (λ p q. omega arith) ∙ sym (covers_not r at (λ p q. omega arith))

  pub all_inside : (at end : ℕ) → r.first ≤ at → end ≤ range_end r → AllOrNone r at end
  all_inside at end h e c l b = covers_make r c (omega arith) (omega arith) ∙ sym (covers_make r at (omega arith) (omega arith))

  pub all_behind : (at end : ℕ) → range_end r ≤ at → AllOrNone r at end
  all_behind at end h c l b = covers_not r c (λ p q. omega arith) ∙ sym (covers_not r at (λ p q. omega arith))

  -- the first cell behind another at which it begins or ends
  by_turn : (at : ℕ) (Q : Type 0) → (at < r.first → turn_behind r at ≡ Some r.first → Q)
      → (r.first ≤ at → at < range_end r → turn_behind r at ≡ Some (range_end r) → Q) → (range_end r ≤ at → turn_behind r at ≡ None → Q) → Q
  by_turn at Q a b o =
      by_bool (ltb at r.first)
      (λ s. a (ltb-true _ _ s) (rw s))
      (λ s.
      by_bool (ltb at (range_end r))
      (λ t. b (ltb-false _ _ s) (ltb-true _ _ t) (rw (s, t)))
      (λ t. o (ltb-false _ _ t) (rw (s, t))))

  turn_some : (at m : ℕ) → turn_behind r at ≡ Some m → (at < m) × (m ≤ range_end r)
  turn_some at m e =
      by_turn at ((at < m) × (m ≤ range_end r))
      (λ l q. let z : r.first ≡ m = cc in (omega arith, omega arith))
      (λ l b q. let z : range_end r ≡ m = cc in (omega arith, omega arith))
      (λ l q. cc)

  turn_alike : (at m : ℕ) → ((y : ℕ) → turn_behind r at ≡ Some y → m ≤ y) → AllOrNone r at m
  turn_alike at m h =
      by_turn at (AllOrNone r at m)
      (λ l q. all_before at m (h r.first q))
      (λ l b q. all_inside at m l (h (range_end r) q))
      (λ l q. all_behind at m l)

-- ---- cells that every range treats alike

module _ (c d : ℕ) where
  alike : {A : Type 0} (g : ℕ → List Range → A) (h : Range → Bool → A → A) → g c [] ≡ g d []
      → ((e : ℕ) (r : Range) (rs : List Range) → g e (r ∷ rs) ≡ h r (covers r e) (g e rs))
      → (rs : List Range) → ((i : ℕ) → i < length rs → covers (range_of rs i) c ≡ covers (range_of rs i) d) → g c rs ≡ g d rs
  alike g h z s [] e = z
  alike g h z s (r ∷ rs) e = s c r rs ∙ rw (e 0 (omega arith), alike g h z s rs (λ i l. e (suc i) (omega arith))) (sym (s d r rs))

  pub asks_alike : (rs : List Range) (k u l : ℕ) → ((i : ℕ) → i < length rs → covers (range_of rs i) c ≡ covers (range_of rs i) d) → Asks rs d k u l → Asks rs c k u l
  asks_alike rs k u l e a = record {
    named = alike (λ e rs. named rs e) (λ r b x. b || x) refl (λ e r rs. refl) rs e ∙ a.named;
    kind = alike (λ e rs. kind_for rs e) (λ r b x. cond b r.kind x) refl (λ e r rs. refl) rs e ∙ a.kind;
    rule = alike (λ e rs. rule_for rs e) (λ r b x. cond b r.rule x) refl (λ e r rs. refl) rs e ∙ a.rule;
    label = alike (λ e rs. label_for rs e) (λ r b x. cond (b && eqb r.label 1) 1 x) refl (λ e r rs. refl) rs e ∙ a.label;
  }

-- ---- segments

-- a label is 1 or 0
label_bit : (l : ℕ) (w : Bool) → l ≤ 1 → w ≡ eqb l 1 → l ≡ cond w 1 0
label_bit l w b e =
    by_bool (eqb l 1)
    (λ t. let one = eqb-true l 1 t in rw (e, t) one)
    (λ t. let other = eqb-false l 1 t in rw (e, t) (omega arith))

-- of a list that rises in this order, the range that follows those passed
module _ (rs : List Range) (order : List ℕ) (k from : ℕ) (o : RisingFrom rs order k from) where
  -- none is left where all are passed
  pub rising_none : length rs ≤ k → NoneLeft rs from
  rising_none l c b =
      named_nowhere rs c (by_order (length rs) order o.0.1 (λ i. covers (range_of rs i) c ≡ false) (λ j h. covers_not (range_of rs (number_by order j)) c (λ x y. omega (arith, o.2.0 j (omega arith) h))))

  module _ (m : ℕ) (l : k < length rs) (within : Within m rs) (filled : NoneEmpty rs) where
    -- the range, which is one of the list
    abbrev r : ℕ
    r = number_by order k

    is_one : r < length rs
    is_one = o.0.1.0 k l

    -- no other range names one of its cells
    alone : (c : ℕ) → covers (range_of rs r) c ≡ true → (i : ℕ) → i < length rs → (i ≡ r → ⊥) → covers (range_of rs i) c ≡ false
    alone c h i b ne =
        let e = covers_bounds (range_of rs r) c h in
        by_order_but (length rs) order o.0.1 (λ i. covers (range_of rs i) c) r
        (λ j u other.
        let apart : j ≡ k → ⊥ = λ q. other (ap (number_by order) q) in
        by_le k j
        (λ a. covers_not (range_of rs (number_by order j)) c (λ x y. omega (arith, apart, o.1 k j (omega (arith, apart)) u)))
        (λ a. covers_not (range_of rs (number_by order j)) c (λ x y. omega (arith, o.1 j k a l))))
        i b ne

    label_alone : (c : ℕ) → covers (range_of rs r) c ≡ true → label_for rs c ≡ cond (eqb (range_of rs r).label 1) 1 0
    label_alone c h =
        let x = covers (range_of rs r) c in
        let y = eqb (range_of rs r).label 1 in
        by_bool y
        (λ e. rw e (label_by rs c r is_one (and_join x y h e)))
        (λ e. rw e (label_nowhere rs c (λ i b.
        by_bool (eqb i r)
        (λ q. let z = eqb-true i r q in rw z (is_false (raising c (range_of rs r)) (λ t. true≢ (and_split x y t).1 e)))
        (λ q. ap (λ (x : Bool). x && eqb (range_of rs i).label 1) (alone c h i b (eqb-false i r q))))))

    from_here : (j : ℕ) → j < length rs → k ≤ j → (range_of rs r).first ≤ (range_of rs (number_by order j)).first
    from_here j h u =
        by_bool (eqb j k)
        (λ q. let e = eqb-true j k q in rw e (omega arith))
        (λ q. omega (arith, o.1 k j (omega (arith, eqb-false j k q)) h))

    pub rising_next : Next m rs from (record { at = (range_of rs r).first; end = range_end (range_of rs r); range = range_of rs r; writable = eqb (range_of rs r).label 1 })
    rising_next = record {
      low = o.2.1 k (omega arith) l;
      none = λ c a b.
          named_nowhere rs c (by_order (length rs) order o.0.1 (λ i. covers (range_of rs i) c ≡ false) (λ j h.
          by_le k j
          (λ u. covers_not (range_of rs (number_by order j)) c (λ x y. omega (arith, from_here j h u)))
          (λ u. covers_not (range_of rs (number_by order j)) c (λ x y. omega (arith, o.2.0 j u h)))));
      some = omega (arith, filled r is_one);
      high = within r is_one;
      asks = λ c a b.
          let here = covers_make (range_of rs r) c a b in
          let none = λ (i : ℕ) (h : i < r). alone c here i (omega (arith, is_one)) (λ q. omega arith) in
          record {
            named = named_by rs c r is_one here;
            kind = kind_by rs c r is_one none here;
            rule = rule_by rs c r is_one none here;
            label = label_alone c here;
          };
    }

    pub rising_on : RisingFrom rs order (k + 1) (range_end (range_of rs r))
    rising_on = (
      o.0,
      o.1,
      (
        λ i a b.
            by_le k i
            (λ u. let e : i ≡ k = omega arith in rw e (omega arith))
            (λ u. omega (arith, o.2.0 i u b, o.2.1 k (omega arith) l)),
        λ i a b. o.1 k i (omega arith) b,
      ),
    )

-- no range is passed at first
pub rising_start : (rs : List Range) (b : Bool) (order : Bor (List ℕ)) (kept : Option (Bor (List ℕ))) → Orders (length rs) order.now
    → (b ≡ true → RisingBy rs order.now) → kept ≡ then_some b order → IfSome kept (λ keys. RisingFrom rs keys.now 0 0)
rising_start rs true order kept o r e = rw e (o, r refl, (λ i l. absurd (omega arith), λ i a b. omega arith))
rising_start rs false order kept o r e = rw e tt

-- and where the order has no other keys, the one that is kept has none
pub rises_start : (rs : List Range) (b : Bool) (order : Bor (List ℕ)) (kept : Option (Bor (List ℕ))) → length order.now ≡ length rs → Orders (length rs) order.now
    → (b ≡ true → RisingBy rs order.now) → kept ≡ then_some b order → IfSome kept (λ keys. RisesFrom rs keys.now 0 0)
rises_start rs true order kept n o r e = rw e (n, rw e at (rising_start rs true order kept o r e))
rises_start rs false order kept n o r e = rw e tt

-- what is said of the order of a list that has one
pub rising_ahead : (order : Bor (List ℕ)) (kept : Option (Bor (List ℕ))) → kept ≡ Some order → (N : Type 0) (P : Segment → Type 0) (Q : Bor (List ℕ) → Segment → Type 0)
    (o : Option Segment) → MatchOption o N (λ s. P s × Q order s) → MatchOption o N (λ s. P s × IfSome kept (λ keys. Q keys s))
rising_ahead order kept e N P Q None h = h
rising_ahead order kept e N P Q (Some s) h = (h.0, rw e h.1)

-- of any list, the lowest cell that is named, up to where each range names all cells or none
pub mixed_next : (m : ℕ) (rs : List Range) (from at end k : ℕ) (w : Bool) → NextNamed m rs from at → at < m
    → (at < end) × (end ≤ m) × ((i : ℕ) → i < length rs → AllOrNone (range_of rs i) at end) → FirstNaming rs at k → w ≡ eqb (label_for rs at) 1
    → Next m rs from (record { at = at; end = end; range = range_of rs k; writable = w })
mixed_next m rs from at end k w found l run f e =
    let here = found.some l in
    let below = naming_below rs at k f here in
    let none = naming_none rs at k f in
    record {
      low = found.low;
      none = found.none;
      some = run.0;
      high = run.1;
      asks = λ c a b.
          asks_alike c at rs _ _ _ (λ i h. run.2 i h c a b)
          (record {
            named = here;
            kind = kind_by rs at k below none (f.some below);
            rule = rule_by rs at k below none (f.some below);
            label = label_bit (label_for rs at) w (label_low at rs) e;
          });
    }

-- the same of what the code finds, the least of what each range gives
module _ (m : ℕ) (rs : List Range) (within : Within m rs) (from at : ℕ) (found : LeastOf (λ r. lowest_from r from) rs m at) where
  before : (c : ℕ) → from ≤ c → c < at → named rs c ≡ false
  before c l b = named_nowhere rs c (λ i k. lowest_low (range_of rs i) from at c (λ y q. found.below i y k q) l b)

  beyond : (c : ℕ) → m ≤ c → named rs c ≡ false
  beyond c l = named_nowhere rs c (λ i k. covers_not (range_of rs i) c (λ p q. omega (arith, within i k)))

  pub mixed_none : ((i : ℕ) → i < length rs → covers (range_of rs i) at ≡ false) → NoneLeft rs from
  mixed_none none c l =
      by_le at c
      (λ u.
      by_le m at
      (λ v. beyond c (omega arith))
      (λ v.
      let g = found.is v in
      absurd (true≢ (lowest_some (range_of rs g.0) from at g.2).1 (none g.0 g.1))))
      (λ u. before c l u)

  pub mixed_least : (end k : ℕ) (writable : Bool) → LeastOf (λ r. turn_behind r at) rs m end
      → k < length rs → covers (range_of rs k) at ≡ true → ((i : ℕ) → i < k → covers (range_of rs i) at ≡ false) → writable ≡ eqb (label_for rs at) 1
      → Next m rs from (record { at = at; end = end; range = range_of rs k; writable = writable })
  mixed_least end k writable run b here none w =
      let inside = named_within rs at m within (named_by rs at k b here) in
      let g = found.is inside in
      mixed_next m rs from at end k writable
      (record { low = (lowest_some (range_of rs g.0) from at g.2).0; high = found.high; none = before; some = λ _. named_by rs at k b here })
      inside (
        by_le m end (λ u. omega arith) (λ u. let t = run.is u in (turn_some (range_of rs t.0) at end t.2).0),
        run.high,
        λ i h. turn_alike (range_of rs i) at end (λ v q. run.below i v h q),
      )
      (naming_make rs at k b here none) w
