-- The table that commit leaves is right, and stands for the state without the innermost domain. Assumes nothing.
use Prim.Native.Nat.{ℕ, suc, ◌+◌, ◌-◌, ◌≤◌, ◌<◌}
use mathlib.Core.Bool.{true, false, cond, not, ◌&&◌}
use mathlib.Core.List.{List, [], ◌++◌}
use mathlib.Core.Logic.{◌⊎◌, inl, inr}
use mathlib.Core.Option.{Option, none, some}
use mathlib.Core.Path.{◌≡◌, refl, sym, ap, subst, ◌∙◌}
use native.Mathlib.Omega.{arith}
use borrow.Author.Tests.{eq-eqb, ne_eqb, eqb-true, eqb-false, le-leb, leb-true, not-true}
use lib.Dec.{leb, eqb}
use lib.ListN.{length}
use Rattle.words.specs.Layout.{pairs_at}
use Rattle.words.specs.Stores.{Store, stores}
use Rattle.words.proofs.Scan.{by_bool, and_split, true≢, not_lt}
use Rattle.table.specs.Entry.{live, word1, word2, depth_of, cell_of, writable_of, via_of, pattern_of, parent, names, find_in, holds_in, outward, writes_in, parent_has}
use Rattle.table.specs.Changes.{Change, put, new_first, entry_changes}
use Rattle.table.proofs.Entry.{names_make, find_hit, holds_true, holds_found}
use Rattle.table.proofs.Made.{outward_made}
use Rattle.table.proofs.Rule.{Rule, Used}
use Rattle.table.proofs.Single.{only_one}
use Rattle.table.proofs.Head.{ended_words, ended_low, first_remain}
use Rattle.model.specs.State.{Label, read_only, read_write, Holding}
use Rattle.model.specs.Holdings.{held_writable, merged, commit}
use Rattle.store.specs.State.{label_of, held_in, state_in}
use Rattle.store.proofs.Domains.{held_none, held_writable_lem, commit_state}
use Rattle.store.proofs.Becoming.{told, told_rule, Never, Stays, came, had, follows, Fate, keeps, raises, frees, turns, Becomes, becomes_rule, becomes_held}
use Rattle.commit.specs.Commit.{commit_change}
use Rattle.commit.specs.Parts.{head_words, ending_words}

-- what both hold has the outer value, and is read-write where either is
merged_label : (h : Holding) (o : Option Holding) → merged (some h) o ≡ some (record { label = cond (held_writable o) read_write h.label; kind = h.kind; value = h.value })
merged_label h none = refl
merged_label h (some i) = from i.label
  where
    from : (l : Label) → merged (some h) (some (record { label = l; kind = i.kind; value = i.value })) ≡ some (record { label = cond (held_writable (some (record { label = l; kind = i.kind; value = i.value }))) read_write h.label; kind = h.kind; value = h.value })
    from read_only = refl
    from read_write = refl

-- commit over a right table t of at least its head and its entries, with a live domain
module _ (m e b : ℕ) (t : List ℕ) (ok : Rule m e b t) (long : pairs_at e ≤ length t) (some-live : 1 ≤ live t) where
  -- the slots of the innermost domain come to its parent
  abbrev Comes : ℕ → ℕ → Type 0
  Comes i c = names (live t) c (word1 e t i) ≡ true

  -- a slot of the innermost domain whose cell the parent, if any, lacks
  moves : (i : ℕ) → depth_of (word1 e t i) ≡ live t → 2 ≤ live t → holds_in e t (live t - 1) (cell_of (word1 e t i)) ≡ false
      → commit_change e t (live t) i ≡ put (outward (word1 e t i)) (word2 e t i)
  unfolding commit_change
  moves i d two lacks = rw (eq-eqb (depth_of (word1 e t i)) (live t) d, le-leb 2 (live t) two, lacks)

  module _ (bodies : List ℕ) where
    abbrev held : ℕ → ℕ → Option Holding
    held d c = cond (eqb d (live t - 1)) (merged (held_in e t bodies d c) (held_in e t bodies (live t) c)) (held_in e t bodies d c)

    abbrev FateOf : ℕ → Change → Type 0
    FateOf i c = Fate m e b t bodies bodies (live t - 1) held (λ i. i) Comes Never i c

    -- the label of what an outer slot told
    risen : (i : ℕ) → depth_of (word1 e t i) ≡ live t - 1 → (l : Label)
        → held_in e t bodies (depth_of (word1 e t i)) (cell_of (word1 e t i)) ≡ told e t bodies i l
        → held (depth_of (word1 e t i)) (cell_of (word1 e t i))
        ≡ told e t bodies i (cond (writes_in e t (live t) (cell_of (word1 e t i))) read_write l)
    risen i d l q =
        rw (eq-eqb (depth_of (word1 e t i)) (live t - 1) d, q)
        (merged_label _ (held_in e t bodies (live t) (cell_of (word1 e t i))) ∙ rw (held_writable_lem e t bodies (live t) (cell_of (word1 e t i))))

    -- a slot that moves holds further out what it held
    goes : (i : ℕ) → depth_of (word1 e t i) ≡ live t → 2 ≤ live t → holds_in e t (live t - 1) (cell_of (word1 e t i)) ≡ false
        → held_in e t bodies (depth_of (word1 e t i)) (cell_of (word1 e t i)) ≡ told e t bodies i (label_of (word1 e t i))
        → held (depth_of (outward (word1 e t i))) (cell_of (outward (word1 e t i))) ≡ told e t bodies i (label_of (outward (word1 e t i)))
    goes i d two lacks q =
        let w = word1 e t i in
        let made = outward_made w (omega arith) in
        let dp : depth_of (outward w) ≡ live t - 1 = made.depth ∙ ap parent d in
        rw (dp, made.cell, eq-eqb (live t - 1) (live t - 1) refl, held_none e t bodies (live t - 1) (cell_of w) lacks, made.label) (ap (λ (x : ℕ). held_in e t bodies x (cell_of w)) (sym d) ∙ q)

    -- the slots of the innermost domain move or are freed
    moved : (i : ℕ) → i < e → depth_of (word1 e t i) ≡ live t → 2 ≤ live t → holds_in e t (live t - 1) (cell_of (word1 e t i)) ≡ false
        → FateOf i (put (outward (word1 e t i)) (word2 e t i))
    moved i l d two lacks =
        let w = word1 e t i in
        let made = outward_made w (omega arith) in
        let dp : depth_of (outward w) ≡ live t - 1 = made.depth ∙ ap parent d in
        turns {x = outward w} {v = word2 e t i} (omega arith) (λ k q.
        let via : via_of w ≡ 0 =
        by_bool (eqb (via_of w) 0) (λ z. eqb-true (via_of w) 0 z)
        (λ z.
        let rest : find_in e t (live t - 1) (cell_of w) < e = subst (λ (x : ℕ). find_in e t (parent x) (cell_of w) < e) d (ok.outer i l (eqb-false (via_of w) 0 z)) in
        absurd (true≢ (holds_true e t (live t - 1) (cell_of w) rest) lacks)) in
        record {
          low = omega arith;
          high = omega arith;
          spare = made.rest ∙ k.spare;
          cell = rw made.cell k.cell;
          place = came (names_make e t (live t) (cell_of (outward w)) w d (sym made.cell)) (rw (dp, made.cell) lacks) (λ h. omega arith);
          value = by_bool (eqb (pattern_of w) 0)
              (λ z.
              let p = eqb-true (pattern_of w) 0 z in
              had (made.kind ∙ via) (made.rule ∙ p) (record { slot = l; used = λ z. omega (arith, z, d); copy = via; plain = p }) refl (goes i d two lacks q))
              (λ z.
              let none = eqb-false (pattern_of w) 0 z in
              let p : pattern_of w ≡ 1 = omega (arith, none) in
              follows (made.kind ∙ via) (made.rule ∙ p) (k.rule p) (goes i d two lacks q ∙ told_rule m e b t bodies ok i (label_of (outward w)) l k.low via p));
        })

    -- the other slots stay, and those of the parent are read-write where the innermost domain's were
    stays : (i : ℕ) → i < e → (depth_of (word1 e t i) ≡ live t → ⊥) → (l : Label) → Used m e b t i
        → held (depth_of (word1 e t i)) (cell_of (word1 e t i)) ≡ told e t bodies i l → Stays m e b t bodies bodies (live t - 1) held (λ i. i) Comes Never i l
    stays i l ne lab k q =
        let high = k.high in
        record {
          high = omega (arith, ne);
          holding = q;
          outer = λ v.
              let two = k.inner (λ z. omega (arith, v, z)) in
              rw (ne_eqb (parent (depth_of (word1 e t i))) (live t - 1) (λ z. omega (arith, ne, z)));
          home = λ v. refl;
        }

    fate : (i : ℕ) → i < e → FateOf i (commit_change e t (live t) i)
    unfolding commit_change
    fate i l =
        let w = word1 e t i in
        let c = cell_of (word1 e t i) in
        by_bool (eqb (depth_of w) (live t))
        (λ z.
        let d = eqb-true (depth_of w) (live t) z in
        by_bool (leb 2 (live t) && not (parent_has e t (live t) c))
        (λ y.
        let s = and_split (leb 2 (live t)) (not (parent_has e t (live t) c)) y in
        let lacks = rw s.0 at (not-true (parent_has e t (live t) c) s.1) in
        rw (z, y) (moved i l d (leb-true 2 (live t) s.0) lacks))
        (λ y. rw (z, y) (frees (λ one high. absurd (not_lt (live t - 1) (live t) (omega arith) (subst (λ (x : ℕ). x ≤ live t - 1) d high))))))
        (λ z.
        let ne = eqb-false (depth_of w) (live t) z in
        by_bool (leb 2 (live t) && (eqb (depth_of w) (live t - 1) && (eqb (writable_of w) 0 && writes_in e t (live t) c)))
        (λ y.
        let s1 = and_split _ _ y in
        let s2 = and_split _ _ s1.1 in
        let s3 = and_split _ _ s2.1 in
        let d = eqb-true (depth_of w) (live t - 1) s2.0 in
        rw (z, y) (raises (omega (arith, leb-true 2 (live t) s1.0)) (eqb-true (writable_of w) 0 s3.0) (λ k q. stays i l ne read_write k (risen i d read_only q ∙ rw s3.1))))
        (λ y. rw (z, y) (keeps (λ k q. stays i l ne (label_of w) k (same i ne k y q)))))
      where
        same : (i : ℕ) → (depth_of (word1 e t i) ≡ live t → ⊥) → Used m e b t i
            → (leb 2 (live t) && (eqb (depth_of (word1 e t i)) (live t - 1) && (eqb (writable_of (word1 e t i)) 0 && writes_in e t (live t) (cell_of (word1 e t i))))) ≡ false
            → held_in e t bodies (depth_of (word1 e t i)) (cell_of (word1 e t i)) ≡ told e t bodies i (label_of (word1 e t i))
            → held (depth_of (word1 e t i)) (cell_of (word1 e t i)) ≡ told e t bodies i (label_of (word1 e t i))
        same i ne k y q =
            let w = word1 e t i in
            by_bool (eqb (depth_of w) (live t - 1))
            (λ z.
            let d = eqb-true (depth_of w) (live t - 1) z in
            let two : leb 2 (live t) ≡ true = le-leb 2 (live t) (omega (arith, k.low)) in
            risen i d (label_of w) q
            ∙ by_bool (writes_in e t (live t) (cell_of w))
            (λ x.
            by_bool (eqb (writable_of w) 0)
            (λ r. absurd (true≢ (rw (two, z, r, x)) y))
            (λ r. let one : writable_of w ≡ 1 = omega (arith, eqb-false (writable_of w) 0 r) in rw (x, one)))
            (λ x. rw x))
            (λ z. rw z q)

    lacked : (d c : ℕ) → 1 ≤ d → d ≤ live t - 1 → holds_in e t d c ≡ false
        → (held d c ≡ none) ⊎ ((i : ℕ) × (i < e) × (names d c (new_first (commit_change e t (live t) i) (word1 e t i)) ≡ true))
    lacked d c low high z =
        by_bool (eqb d (live t - 1))
        (λ y.
        let q = eqb-true d (live t - 1) y in
        by_bool (holds_in e t (live t) c)
        (λ x.
        let h = holds_found e t (live t) c x in
        let i = find_in e t (live t) c in
        let hit = find_hit e t (live t) c h in
        let made = outward_made (word1 e t i) (omega (arith, hit.0)) in
        inr (
          i,
          h,
          rw (moves i hit.0 (omega arith) (rw (hit.1, ← q) z))
              (names_make e t d c (outward (word1 e t i)) (made.depth ∙ ap parent hit.0 ∙ sym q) (made.cell ∙ hit.1)),
        ))
        (λ x. inl (rw (y, held_none e t bodies d c z) (held_none e t bodies (live t) c x))))
        (λ y. inl (rw y (held_none e t bodies d c z)))

    becomes : Becomes m e b t bodies bodies (live t - 1) held (λ i. i) Comes Never (ended_words (live t - 1) (live t)) (commit_change e t (live t))
    becomes =
        record {
          right = ok;
          long = long;
          low = ended_low (live t - 1) (live t) ok.live;
          head = first_remain (commit_change e t (live t)) ok long (live t - 1) (omega arith);
          spared = λ i k. refl;
          fate = fate;
          lacked = lacked;
          own = λ i j l h x y p. p;
          cells = λ i j c l h p q. only_one m e b t ok i j (live t) c some-live l h p q;
          bodies = λ i j v l h p. absurd p;
        }

  same_head : ended_words (live t - 1) (live t) ≡ head_words (live t)
  same_head =
      let one : live t - (live t - 1) ≡ 1 = omega arith in
      let none : live t - 1 + 0 ≡ live t - 1 = omega arith in
      rw (one, none)

  pub commit_rule : Rule m e b (stores (ending_words e t (live t)) t)
  commit_rule =
      subst (λ (hs : List Store). Rule m e b (stores (hs ++ entry_changes e (commit_change e t (live t))) t)) same_head (becomes_rule (becomes []))

  pub commit_state_is : (bodies : List ℕ) → state_in e (stores (ending_words e t (live t)) t) bodies ≡ commit (state_in e t bodies)
  commit_state_is bodies =
      let B = becomes bodies in
      let last : live t ≡ suc (live t - 1) = omega arith in
      subst (λ (hs : List Store). state_in e (stores (hs ++ entry_changes e (commit_change e t (live t))) t) bodies ≡ commit (state_in e t bodies)) same_head
      (commit_state e t (stores (ended_words (live t - 1) (live t) ++ entry_changes e (commit_change e t (live t))) t) bodies bodies B.head.live B.head.next B.head.kept
      (λ o i c. merged (o.holds c) (i.holds c))
      (λ k c l. becomes_held B (suc k) c (omega arith) l
      ∙ ap (λ (x : ℕ). cond (eqb (suc k) (live t - 1)) (merged (held_in e t bodies (suc k) c) (held_in e t bodies x c)) (held_in e t bodies (suc k) c)) last))
