-- The head's pairs, and the journal around all pairs. Assumes nothing.
use Prim.Native.Nat.{ℕ, suc, ◌+◌, ◌-◌, ◌*◌, ◌≤◌, ◌<◌}
use mathlib.Core.List.{List, [], ◌∷◌, ◌++◌}
use mathlib.Core.Path.{◌≡◌, sym, ap, ◌∙◌}
use native.Mathlib.Numerals.{add-one}
use native.Mathlib.Omega.{arith}
use lib.ListN.{length, get_or, take, length-append}
use Rattle.words.specs.Layout.{handle_at, max_live, pairs_at, pending_at, max_slots, max_pairs, table_words}
use Rattle.words.specs.Stores.{Store, ◌≔◌, stores, tab}
use Rattle.words.specs.Journal.{pair_plan, pair_plans, journal, journal_steps, finish_plan}
use Rattle.words.proofs.Places.{first_at_below, second_at_below, pending_at_below}
use Rattle.words.proofs.Plans.{Each, each_append, each_tab, length_tab, tab_last}
use Rattle.words.proofs.Gather.{each_gather, pairs_more}
use Rattle.words.proofs.Phases.{journal_ready, journal_steps_lem, journal_whole, steps_small}
use Rattle.table.specs.Changes.{Change, keep, put, entry_stores, entry_changes}
use Rattle.table.proofs.Entries.{upto_few}
use Rattle.changes.specs.declared.head_words.Head.{Head}
use Rattle.changes.specs.Head.{word_store, head_stores}
use Rattle.std.specs.Prelude.{map}
use Rattle.std.proofs.lemmas.List.{length-map, length-take-le, get_or-take, take_more, map-append}
use Rattle.changes.specs.Staged.{head_room, Journaled}

-- ---- the head

-- its first j words are written, and now one more
pub words_turn : (words : List (ℕ × ℕ)) (at k j : ℕ) (t t₁ t₂ : List ℕ) → j < length words
    → t₁ ≡ stores (take k (pair_plans at (map word_store (take j words)))) t
    → t₂ ≡ stores (take (k - 2 * j) (pair_plan (at + 2 * j) (get_or words j (0, 0)).0 (get_or words j (0, 0)).1)) t₁
    → t₂ ≡ stores (take k (pair_plans at (map word_store (take (j + 1) words)))) t
words_turn words at k j t t₁ t₂ l e₁ e₂ =
    let w = get_or words j (0, 0) in
    let number : j ≡ length (map word_store (take j words)) = simp length-map (sym (length-take-le j words (omega arith))) in
    pairs_more at k j (map word_store (take j words)) (word_store w ∷ []) t t₁ t₂ number e₁ e₂
    ∙ ap (λ (ws : List Store). stores (take k (pair_plans at ws)) t) (sym (ap (map word_store) (take_more words j (0, 0) l) ∙ map-append word_store (take j words) (w ∷ [])))

-- ---- the journal: pairs under a budget, and what follows them

module _ (e : ℕ) (ws : List Store) (t t₁ : List ℕ) (k p : ℕ) (small : e ≤ max_slots) (long : length t ≡ table_words e)
    (number : p ≡ length ws) (few : p ≤ max_pairs e) (low : Each (λ s. s.at < pairs_at e) ws)
    (written : t₁ ≡ stores (take k (pair_plans (pairs_at e) ws)) t) where
  room : pairs_at e + 2 * length ws ≤ length t
  room = omega arith

  pub pairs_ready : (p ≤ max_pairs max_slots) × (2 * p ≤ k → (pairs_at e + 2 * p ≤ length t₁) × (pending_at < pairs_at e) × ((j : ℕ) → j < p → get_or t₁ (pairs_at e + 2 * j) 0 < pairs_at e))
  pairs_ready = (omega arith, journal_ready (pairs_at e) ws t t₁ k p number room written (pending_at_below e) low)

  pub pairs_done : (r : ℕ) (t₂ : List ℕ) → r ≡ journal_steps p → t₂ ≡ stores (take (k - 2 * p) (finish_plan t₁ (pairs_at e) p)) t₁
      → (r ≡ length (journal (pairs_at e) ws)) × (r ≤ 3 * max_pairs e + 2) × (t₂ ≡ stores (take k (journal (pairs_at e) ws)) t)
  pairs_done r t₂ steps made = (
    steps ∙ journal_steps_lem (pairs_at e) ws t t₁ k p number room written,
    omega (arith, steps_small p),
    journal_whole (pairs_at e) ws t t₁ k p number room written t₂ made,
  )

entry_below : (e i : ℕ) → i < e → (c : Change) → Each (λ s. s.at < pairs_at e) (entry_stores e i c)
entry_below e i l keep = tt
entry_below e i l (put w v) = (first_at_below e i l, (second_at_below e i l, tt))

-- ---- the pairs of a head and of entries

words_below : (e : ℕ) (words : List (ℕ × ℕ)) → ((j : ℕ) → j < length words → (get_or words j (0, 0)).0 < handle_at max_live)
    → Each (λ s. s.at < pairs_at e) (map word_store words)
words_below e [] low = tt
words_below e (w ∷ ws) low = (let first : w.0 < 16 = low 0 (omega arith) in omega arith, words_below e ws (λ j l. low (suc j) (omega arith)))

-- the stores of p words of the head: few, and all in front of the entries
pub record Heads (e p : ℕ) (hs : List Store) : Type 0 where
  pub number : p ≡ length hs
  pub few : p ≤ head_room
  pub low : Each (λ s. s.at < pairs_at e) hs

pub heads : (e p : ℕ) (words : List (ℕ × ℕ)) → p ≡ length words → p ≤ head_room
    → ((j : ℕ) → j < length words → (get_or words j (0, 0)).0 < handle_at max_live) → Heads e p (map word_store words)
heads e p words number few low = record { number = number ∙ sym (length-map words word_store); few = few; low = words_below e words low }

-- and those of a head
pub heads_of : (e : ℕ) (head : Head) → Heads e head.count (head_stores head)
heads_of e head =
    let number : head.count ≡ length (take head.count head.words) = sym (length-take-le head.count head.words (omega (arith, head.few, head.long))) in
    heads e head.count (take head.count head.words) number head.few
    (λ j l.
    let b : j < head.count = omega (arith, number) in
    rw (get_or-take head.count head.words j (0, 0) b) (head.low j b))

module _ {e p : ℕ} {hs : List Store} (h : Heads e p hs) (f : ℕ → Change) (n : ℕ) (counted : n ≡ length (entry_changes e f)) where
  both_number : p + n ≡ length (hs ++ entry_changes e f)
  both_number = rw length-append (omega (arith, h.number))

  pub both_few : p + n ≤ max_pairs e
  both_few = omega (arith, h.few, upto_few e f e)

  both_below : Each (λ s. s.at < pairs_at e) (hs ++ entry_changes e f)
  both_below =
      each_append (λ s. s.at < pairs_at e) hs (entry_changes e f) h.low
      (each_gather (λ i. entry_stores e i (f i)) (λ s. s.at < pairs_at e) e (λ i l. entry_below e i l (f i)))

  module _ (k : ℕ) (t : List ℕ) {t₁ t₂ : List ℕ} (small : e ≤ max_slots) (long : length t ≡ table_words e) (first : t₁ ≡ stores (take k (pair_plans (pairs_at e) hs)) t)
      (second : t₂ ≡ stores (take (k - 2 * p) (pair_plans (pairs_at e + 2 * p) (entry_changes e f))) t₁) where
    both_written : t₂ ≡ stores (take k (pair_plans (pairs_at e) (hs ++ entry_changes e f))) t
    both_written = pairs_more (pairs_at e) k p hs (entry_changes e f) t t₁ t₂ h.number first second

    pub both_ready : (p + n ≤ max_pairs max_slots) × (2 * (p + n) ≤ k → (pairs_at e + 2 * (p + n) ≤ length t₂) × (pending_at < pairs_at e) × ((j : ℕ) → j < p + n → get_or t₂ (pairs_at e + 2 * j) 0 < pairs_at e))
    both_ready = pairs_ready e (hs ++ entry_changes e f) t t₂ k (p + n) small long both_number both_few both_below both_written

    pub both_done : {r : ℕ} {t₃ : List ℕ} → r ≡ journal_steps (p + n) → t₃ ≡ stores (take (k - 2 * (p + n)) (finish_plan t₂ (pairs_at e) (p + n))) t₂
        → Journaled e (hs ++ entry_changes e f) k t r t₃
    both_done {r} {t₃} steps made =
        let done = pairs_done e (hs ++ entry_changes e f) t t₂ k (p + n) small long both_number both_few both_below both_written r t₃ steps made in
        record { made = done.0; few = done.1; words = done.2 }
