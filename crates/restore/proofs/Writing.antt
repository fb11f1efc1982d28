-- The words of the head, staged one after another, and restore's words by the journal. Assumes nothing.
use Prim.Native.Nat.{ℕ, suc, ◌+◌, ◌-◌, ◌≤◌}
use mathlib.Core.Bool.{false}
use mathlib.Core.List.{List, [], ◌∷◌, ◌++◌}
use mathlib.Core.Path.{◌≡◌, refl, sym, ap, subst, ◌∙◌}
use native.Mathlib.Omega.{arith}
use borrow.Author.Tests.{le-ltb}
use lib.ListN.{length}
use Rattle.changes.specs.Staged.{Journaled}
use Rattle.words.specs.Layout.{live_at, handle_at, slots_of}
use Rattle.words.specs.Stores.{Store, ◌≔◌, tab}
use Rattle.words.proofs.Plans.{stores_none, tab_last}
use Rattle.table.specs.Entry.{live, word1, depth_of, is_inside}
use Rattle.table.specs.Changes.{keep}
use Rattle.restore.specs.Restore.{restore_change, restore_words}
use Rattle.restore.specs.Parts.{head_words, ending_words}
use Rattle.restore.proofs.Counting.{words_none, words_some}

-- ---- the head

-- one more of the handles that leave: k is the next domain
pub head_turn : (d k w : ℕ) (hs more : List Store) → d ≤ k → w ≡ handle_at k → hs ≡ head_words d k → more ≡ hs ++ (w ≔ 0) ∷ [] → more ≡ head_words d (k + 1)
head_turn d k w hs more l word q r =
    let f : ℕ → Store = λ j. handle_at (d + j) ≔ 0 in
    let next : suc (k - d) ≡ k + 1 - d = omega arith in
    let there : w ≡ handle_at (d + (k - d)) = word ∙ ap handle_at (omega arith) in
    r
    ∙ ap (λ (ws : List Store). ws ++ (w ≔ 0) ∷ []) q
    ∙ ap (λ (x : ℕ). head_words d k ++ (x ≔ 0) ∷ []) there
    ∙ ap (λ (ws : List Store). (live_at ≔ d) ∷ ws) (sym (tab_last f (k - d)) ∙ ap (λ (n : ℕ). tab n f) next)

-- ---- the entries

-- an entry that is not deeper is kept
pub not_freed : (e : ℕ) (t : List ℕ) (d i : ℕ) → is_inside d (depth_of (word1 e t i)) ≡ false → restore_change e t d i ≡ keep
unfolding restore_change
not_freed e t d i h = rw h

-- so is one that is free
pub free_kept : (e : ℕ) (t : List ℕ) (d i : ℕ) → word1 e t i ≡ 0 → restore_change e t d i ≡ keep
free_kept e t d i z = not_freed e t d i (rw z (le-ltb d (depth_of 0) (omega arith)))

-- ---- the journal

-- where no domain ends
pub unfinished : (t : List ℕ) (d k : ℕ) → live t ≡ d → Journaled (slots_of (length t)) (restore_words d t) k t 0 t
unfinished t d k q = rw (words_none t d q) (record { made = refl; few = omega arith; words = stores_none k t })

pub finished : (t : List ℕ) (d e k r : ℕ) (u : List ℕ) → (live t ≡ d → ⊥) → e ≡ slots_of (length t)
    → Journaled e (ending_words e t d (live t)) k t r u → Journaled (slots_of (length t)) (restore_words d t) k t r u
finished t d e k r u ends slots h =
    rw (words_some t d ends) (subst (λ (x : ℕ). Journaled x (ending_words x t d (live t)) k t r u) slots h)
