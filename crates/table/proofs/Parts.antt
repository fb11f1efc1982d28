-- The table's rule part by part, as the passes over the entries show it. Assumes nothing.
use Prim.Native.Nat.{ℕ, ◌≤◌}
use mathlib.Core.Bool.{Bool, true, false}
use mathlib.Core.List.{List}
use mathlib.Core.Path.{◌≡◌, refl, sym}
use native.Mathlib.Omega.{arith}
use borrow.Author.Tests.{leb-true}
use lib.Dec.{leb}
use Rattle.words.specs.Layout.{max_live}
use Rattle.words.specs.Scan.{all}
use Rattle.words.proofs.Scan.{all_at, all_make, and_split, is_false, true≢}
use Rattle.table.specs.Entry.{word1, live, word2}
use Rattle.table.specs.Rule.{head_ok, entry_ok, parent_ok, apart, rule_ok}
use Rattle.table.specs.Marks.{Distinct, CellsOnce, CellsOk, ViasMarkable, ViaInner, IsCopy}
use Rattle.table.proofs.Rule.{Rule, ok_facts, ok_all, ok_not, parts, entry_used, apart_make, via_inner}
use Rattle.table.proofs.Marks.{owns_facts}

module _ (m e b : ℕ) (t : List ℕ) where
  -- ---- a part that fails
  pub no_entries : all e (entry_ok m e b t) ≡ false → rule_ok m e b t ≡ false
  no_entries h = is_false (rule_ok m e b t) (λ p. true≢ (parts m e b t p).1 h)

  pub rule_cells : rule_ok m e b t ≡ true → CellsOk e t
  rule_cells p =
      let ok = ok_facts m e b t p in
      record {
        once = λ i l j k low d c. (ok.apart_from i l j k (λ z. omega (arith, z, low)) (λ z. omega (arith, z, low, d))).cells d c;
        rests = (parts m e b t p).2;
      }

  pub no_cells : (CellsOk e t → ⊥) → rule_ok m e b t ≡ false
  no_cells h = is_false (rule_ok m e b t) (λ p. h (rule_cells p))

  pub no_once : (CellsOnce e t e → ⊥) → rule_ok m e b t ≡ false
  no_once h = no_cells (λ ok. h ok.once)

  pub rule_once : Rule m e b t → CellsOnce e t e
  rule_once ok i l j k low d c = (ok.apart_from i l j k (λ z. omega (arith, z, low)) (λ z. omega (arith, z, low, d))).cells d c

  pub rule_bodies : Rule m e b t → Distinct (IsCopy e t) (word2 e t) e
  rule_bodies ok i l j k ui uj q =
      (ok.apart_from i l j k (owns_facts (word1 e t i) ui).0 (owns_facts (word1 e t j) uj).0).bodies uj ui q

  pub no_single : (Distinct (IsCopy e t) (word2 e t) e → ⊥) → rule_ok m e b t ≡ false
  no_single h = ok_not m e b t (λ ok. h (rule_bodies ok))

  -- ---- what the earlier parts tell the later ones
  pub live_small : head_ok t ≡ true → live t ≤ max_live
  unfolding head_ok
  live_small h = let s = and_split (leb (live t) max_live) _ h in leb-true _ _ s.0

  module _ (entries : all e (entry_ok m e b t) ≡ true) where
    pub entries_inner : ViaInner e t
    entries_inner i l v = via_inner m e b t i (all_at e (entry_ok m e b t) entries i l) v

    -- marks for every cell of memory do
    pub entries_markable : (marks : ℕ) → m ≤ marks → ViasMarkable e t marks
    entries_markable marks enough i l v =
        omega (arith, (entry_used m e b t i (all_at e (entry_ok m e b t) entries i l) (λ z. v (rw z))).cell)

    -- ---- all parts hold
    pub all_parts : head_ok t ≡ true → CellsOk e t → Distinct (IsCopy e t) (word2 e t) e → rule_ok m e b t ≡ true
    all_parts head ok single =
        ok_all m e b t head (all_at e (entry_ok m e b t) entries) (all_at e (parent_ok e t) ok.rests)
        (λ i l. all_make i (λ (j : ℕ). apart e t j i) (λ j k.
        apart_make m e b t i j (λ ui uj.
        let u = entry_used m e b t i (all_at e (entry_ok m e b t) entries i l) ui in
        record {
          cells = λ p q. ok.once i l j k u.low p q;
          bodies = λ p q r. single i l j k q p r;
        })))

  -- the last pass decides
  pub decided : (r : Bool) → (r ≡ true → rule_ok m e b t ≡ true) → (r ≡ false → rule_ok m e b t ≡ false) → r ≡ rule_ok m e b t
  decided true f g = sym (f refl)
  decided false f g = sym (g refl)
