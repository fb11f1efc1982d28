-- Free places taken: the lowest of them are a choice; and of any choice, who takes a place, and how many places are taken. Assumes nothing.
use Rattle.std.proofs.Common.{◌≡◌, ℕ, ◌<◌, ◌≤◌, Bool, true, ◌&&◌, eqb, ltb, sym, refl, ap, ◌∙◌, subst, arith, ltb-true, eq-eqb, eqb-true}
use Rattle.words.specs.Scan.{first, count, nth}
use Rattle.words.proofs.Scan.{and_split, and_join, true≢, by_le, first_hit, first_miss, count_ext}
use Rattle.words.proofs.Nth.{count_below, same_rank, nth_of, nth_below, nth_holds, nth_rank, nth_apart, nth_ext}
use Rattle.words.proofs.Image.{meets, count_image}
use Rattle.search.specs.Free.{TakesFree, lowest_free, taker_of}

-- ---- who takes a place

-- the number that is found wants a place, and takes this one
module _ (n : ℕ) (wants : ℕ → Bool) (place : ℕ → ℕ) where
  pub taker_facts : (i : ℕ) → ltb (taker_of n wants place i) n ≡ true
      → (taker_of n wants place i < n) × (wants (taker_of n wants place i) ≡ true) × (place (taker_of n wants place i) ≡ i)
  unfolding taker_of
  taker_facts i h =
      let test : ℕ → Bool = λ j. wants j && eqb (place j) i in
      let l = ltb-true (first n test) n h in
      let s = and_split (wants (first n test)) (eqb (place (first n test)) i) (first_hit n test l) in
      (l, s.0, eqb-true _ _ s.1)

  -- different places have different takers
  pub same_place : (i j : ℕ) → ltb (taker_of n wants place i) n ≡ true → ltb (taker_of n wants place j) n ≡ true
      → taker_of n wants place i ≡ taker_of n wants place j → i ≡ j
  same_place i j p q s = sym (taker_facts i p).2 ∙ ap place s ∙ (taker_facts j q).2

module _ {n : ℕ} {wants : ℕ → Bool} {high : ℕ} {free : ℕ → Bool} {place : ℕ → ℕ} (choice : TakesFree n wants high free place) where
  -- the place of a number is taken by it
  pub taker_of_lem : (j : ℕ) → j < n → wants j ≡ true → taker_of n wants place (place j) ≡ j
  unfolding taker_of
  taker_of_lem j l h =
      let test : ℕ → Bool = λ x. wants x && eqb (place x) (place j) in
      let hit : test j ≡ true = and_join (wants j) (eqb (place j) (place j)) h (eq-eqb (place j) (place j) refl) in
      let some : first n test < n = by_le (first n test) j (λ le. omega arith) (λ gt. absurd (true≢ hit (first_miss n test j gt))) in
      let s = and_split (wants (first n test)) (eqb (place (first n test)) (place j)) (first_hit n test some) in
      choice.own (first n test) j some l s.0 h (eqb-true _ _ s.1)

  -- a place that is taken was free
  pub taken_free : (i : ℕ) → ltb (taker_of n wants place i) n ≡ true → free i ≡ true
  taken_free i p =
      let f = taker_facts n wants place i p in
      subst (λ (x : ℕ). free x ≡ true) f.2 (choice.was_free (taker_of n wants place i) f.0 f.1)

  -- as many places are taken as numbers want one
  pub taken_many : count high (λ i. ltb (taker_of n wants place i) n) ≡ count n wants
  unfolding taker_of meets
  taken_many =
      sym (count_image wants place high n
      (record { below = choice.below; apart = λ i j l h p q s. never j i h (choice.own j i (omega arith) l q p s) }))
    where
      never : (j i : ℕ) → j < i → j ≡ i → ⊥
      never j i l q = omega arith

-- ---- the lowest free places

-- which they are hangs on what is free and who wants one, below the ends
pub lowest_ext : (high : ℕ) (free free' wants wants' : ℕ → Bool) (j : ℕ) → ((k : ℕ) → k < high → free k ≡ free' k) → ((i : ℕ) → i < j → wants i ≡ wants' i)
    → lowest_free high free wants j ≡ lowest_free high free' wants' j
unfolding lowest_free
lowest_ext high free free' wants wants' j same alike = ap (nth high free) (count_ext j wants wants' alike) ∙ nth_ext high free free' (count j wants') same

-- where there are enough
module _ (n : ℕ) (wants : ℕ → Bool) (high : ℕ) (free : ℕ → Bool) (enough : count n wants ≤ count high free) where
  rank : (j : ℕ) → j < n → wants j ≡ true → count j wants < count high free
  rank j l h = omega (arith, count_below wants j n l h)

  pub lowest_free_lem : TakesFree n wants high free (lowest_free high free wants)
  unfolding lowest_free
  lowest_free_lem =
      record {
        below = λ j l h. nth_below high free (count j wants) (rank j l h);
        was_free = λ j l h. nth_holds high free (count j wants) (rank j l h);
        own = λ i j li lj x y q. same_rank wants i j x y (nth_apart high free (count i wants) (count j wants) (rank i li x) (rank j lj y) q);
      }

  -- before a place that is taken fewer are free than want one
  pub lowest_taken : (i : ℕ) → ltb (taker_of n wants (lowest_free high free wants) i) n ≡ true → count i free < count n wants
  unfolding lowest_free
  lowest_taken i p =
      let f = taker_facts n wants (lowest_free high free wants) i p in
      let j : ℕ = taker_of n wants (lowest_free high free wants) i in
      let at : count i free ≡ count j wants = ap (λ (x : ℕ). count x free) (sym f.2) ∙ nth_rank high free (count j wants) (rank j f.0 f.1) in
      omega (arith, count_below wants j n f.0 f.1)

  -- and the r-th free place is taken by the r-th that wants one
  pub lowest_taker : (i : ℕ) → i < high → free i ≡ true → count i free < count n wants → taker_of n wants (lowest_free high free wants) i ≡ nth n wants (count i free)
  unfolding lowest_free
  lowest_taker i h p q =
      let j : ℕ = nth n wants (count i free) in
      let at : lowest_free high free wants j ≡ i = ap (nth high free) (nth_rank n wants (count i free) q) ∙ nth_of high free i h p in
      sym (ap (taker_of n wants (lowest_free high free wants)) at)
      ∙ taker_of_lem lowest_free_lem j (nth_below n wants (count i free) q) (nth_holds n wants (count i free) q)
