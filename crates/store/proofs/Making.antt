-- Make: what every cut of it leaves. Assumes nothing.
use Prim.Native.Nat.{ℕ, zero, suc, ◌+◌, ◌-◌, ◌≤◌, ◌<◌}
use mathlib.Core.Bool.{true}
use mathlib.Core.List.{List, [], ◌∷◌}
use mathlib.Core.Option.{some}
use mathlib.Core.Path.{◌≡◌, refl, sym, ap, subst, ◌∙◌}
use native.Mathlib.Nat.{not-suc-le-zero}
use native.Mathlib.Omega.{arith}
use borrow.Author.Tests.{eqb-true, eqb-false, ne_eqb}
use lib.Dec.{eqb}
use lib.ListN.{length, get_or, set, take, length-set, length-append}
use lib.Seq.{get_or-set_same, get_or-set_other, get_or-take, take-append-le, take_all}
use Rattle.words.specs.Layout.{magic, magic_at, cells_at, slots_at, bodies_at, live_at, next_at, pending_at, zero_at, handle_at, first_at, second_at, pairs_at, max_pairs, table_words, slots_of, cells_of, bodies_of, last_at}
use Rattle.words.specs.Stores.{Store, ◌≔◌, store, stores, tab, tab_from}
use Rattle.words.specs.Journal.{pending, effective}
use Rattle.words.proofs.Scan.{by_bool}
use Rattle.words.proofs.Plans.{each_take, each_tab, length_tab, length_stores, get_or_stores, run_append, run_take_tab}
use Rattle.words.proofs.Names.{names_none}
use Rattle.words.proofs.Journal.{effective_idle}
use Rattle.table.specs.Entry.{live, next_handle, word1, word2, via_of}
use Rattle.table.proofs.Rule.{Rule}
use Rattle.table.proofs.Head.{handle_make}
use Rattle.table.proofs.Checks.{header_make, header_none}
use Rattle.model.specs.Calls.{fresh}
use Rattle.store.specs.Outcome.{buffers}
use Rattle.store.specs.Checks.{shape_check, open_check, lent}
use Rattle.store.specs.State.{state_in, standing, domain_in}
use Rattle.store.specs.Calls.{fresh_word, make_plan}
use Rattle.table.specs.Checks.{lengths_ok}
use Rattle.store.proofs.Checks.{open_make, shape_make, table_make}
use Rattle.table.proofs.Pairs.{pairs_make}
use Rattle.store.proofs.Cuts.{stands_open}

-- ---- storing f 1, f 2, .. into words 1, 2, ..

module _ (f : ℕ → ℕ) where
  abbrev words : ℕ → List Store
  words n = tab n (λ j. j + 1 ≔ f (j + 1))

  -- one word more
  words_more : (n : ℕ) (t : List ℕ) → set (stores (words n) t) (n + 1) (f (n + 1)) ≡ stores (words (suc n)) t
  words_more n t =
      ap (λ (l : List ℕ). set l (n + 1) (f (n + 1))) (ap (λ (ps : List Store). stores ps t) (sym (part n)))
      ∙ run_take_tab store n (suc n) (λ j. j + 1 ≔ f (j + 1)) t (omega arith)
      ∙ ap (λ (ps : List Store). stores ps t) (take_all (n + 1) (words (suc n)) (rw (length_tab (λ j. j + 1 ≔ f (j + 1)) (suc n)) (omega arith)))
    where
      front : (at n : ℕ) → take n (tab_from (λ j. j + 1 ≔ f (j + 1)) at (suc n)) ≡ tab_from (λ j. j + 1 ≔ f (j + 1)) at n
      front at zero = refl
      front at (suc n) = ap {B = List Store} (λ l. (at + 1 ≔ f (at + 1)) ∷ l) (front (suc at) n)

      part : (n : ℕ) → take n (words (suc n)) ≡ words n
      part n = front 0 n

  pub words_at : (n : ℕ) (t : List ℕ) (i : ℕ) → 1 ≤ i → i ≤ n → n < length t → get_or (stores (words n) t) i 0 ≡ f i
  words_at zero t i low high long = absurd (omega arith)
  words_at (suc n) t i low high long =
      ap (λ (l : List ℕ). get_or l i 0) (sym (words_more n t))
      ∙ by_bool (eqb i (n + 1))
      (λ z.
      let q : i ≡ n + 1 = eqb-true i (n + 1) z in
      subst (λ (x : ℕ). get_or (set (stores (words n) t) (n + 1) (f (n + 1))) x 0 ≡ f x) (sym q)
      (get_or-set_same (stores (words n) t) (n + 1) (f (n + 1)) 0 (rw (length_stores (words n) t) (omega arith))))
      (λ z.
      let ne = eqb-false i (n + 1) z in
      get_or-set_other (stores (words n) t) (n + 1) i (f (n + 1)) 0 ne ∙ words_at n t i low (omega arith) (omega arith))

  pub words_zero : (n k : ℕ) (t : List ℕ) → get_or (stores (take k (words n)) t) 0 0 ≡ get_or t 0 0
  words_zero n k t =
      get_or_stores (take k (words n)) t 0
      (each_take (λ s. 0 ≡ s.at → ⊥) k (words n) (each_tab (λ s. 0 ≡ s.at → ⊥) (λ j. j + 1 ≔ f (j + 1)) n (λ i l z. omega arith)))

-- ---- make's stores

module _ (m e b : ℕ) (t : List ℕ) (long : length t ≡ table_words e) where
  abbrev middle : List Store
  middle = words (fresh_word m e b) (last_at e)

  pub make_length : length (make_plan m e b) ≡ pairs_at e + 1
  unfolding make_plan
  make_length = simp (length-append, length_tab) (omega arith)

  -- from the first store to the last, word 0 is cleared
  pub make_gone : (k : ℕ) → 0 < k → k < pairs_at e + 1 → get_or (stores (take k (make_plan m e b)) t) magic_at 0 ≡ 0
  unfolding make_plan
  make_gone zero pos l = absurd (not-suc-le-zero pos)
  make_gone (suc k) pos l =
      let short : k ≤ length middle = rw (length_tab (λ j. j + 1 ≔ fresh_word m e b (j + 1)) (last_at e)) (omega arith) in
      rw (take-append-le k middle ((magic_at ≔ magic) ∷ []) short)
      (words_zero (fresh_word m e b) (last_at e) k (set t magic_at 0) ∙ get_or-set_same t magic_at 0 0 (omega arith))

  -- the whole of it
  pub whole : List ℕ
  whole = set (stores (words (fresh_word m e b) (last_at e)) (set t magic_at 0)) magic_at magic

  pub make_whole : (k : ℕ) → pairs_at e + 1 ≤ k → stores (take k (make_plan m e b)) t ≡ whole
  unfolding make_plan whole
  make_whole k l =
      let all : take k (make_plan m e b) ≡ make_plan m e b = take_all k (make_plan m e b) (rw make_length l) in
      rw all (run_append store middle ((magic_at ≔ magic) ∷ []) (set t magic_at 0))

  whole_length : length whole ≡ length t
  unfolding whole
  whole_length = length-set (stores middle (set t magic_at 0)) magic_at magic ∙ length_stores middle (set t magic_at 0) ∙ length-set t magic_at 0

  whole_magic : get_or whole magic_at 0 ≡ magic
  unfolding whole
  whole_magic = get_or-set_same (stores middle (set t magic_at 0)) magic_at magic 0 (rw (length_stores middle (set t magic_at 0), length-set) (omega arith))

  whole_at : (i : ℕ) → 1 ≤ i → i < pairs_at e → get_or whole i 0 ≡ fresh_word m e b i
  unfolding whole
  whole_at i low high =
      get_or-set_other (stores middle (set t magic_at 0)) magic_at i magic 0 (λ q. omega arith)
      ∙ words_at (fresh_word m e b) (last_at e) (set t magic_at 0) i low (omega arith) (rw length-set (omega arith))

  -- words past the head are 0, and so are words 4, 6 and 7
  fresh_zero : (i : ℕ) → zero_at ≤ i → fresh_word m e b i ≡ 0
  unfolding fresh_word
  fresh_zero i l =
      rw (ne_eqb i cells_at (λ q. omega arith), ne_eqb i slots_at (λ q. omega arith), ne_eqb i bodies_at (λ q. omega arith), ne_eqb i next_at (λ q. omega arith))

  fresh_live : fresh_word m e b live_at ≡ 0
  unfolding fresh_word
  fresh_live = refl

  fresh_next : fresh_word m e b next_at ≡ 1
  unfolding fresh_word
  fresh_next = refl

  fresh_pending : fresh_word m e b pending_at ≡ 0
  unfolding fresh_word
  fresh_pending = refl

  fresh_cells : fresh_word m e b cells_at ≡ m
  unfolding fresh_word
  fresh_cells = refl

  fresh_slots : fresh_word m e b slots_at ≡ e
  unfolding fresh_word
  fresh_slots = refl

  fresh_bodies : fresh_word m e b bodies_at ≡ b
  unfolding fresh_word
  fresh_bodies = refl

  -- the words in front of the pairs, as opening sees them
  abbrev head : List ℕ
  head = take (pairs_at e) whole

  head_at : (i : ℕ) → 1 ≤ i → i < pairs_at e → get_or head i 0 ≡ fresh_word m e b i
  head_at i low high = get_or-take (pairs_at e) whole i 0 high ∙ whole_at i low high

  none_live : live head ≡ 0
  none_live = head_at live_at (omega arith) (omega arith) ∙ fresh_live

  first_handle : next_handle head ≡ 1
  first_handle = head_at next_at (omega arith) (omega arith) ∙ fresh_next

  free1 : (i : ℕ) → i < e → word1 e head i ≡ 0
  free1 i l = head_at (first_at e i) (omega arith) (omega arith) ∙ fresh_zero (first_at e i) (omega arith)

  free2 : (i : ℕ) → i < e → word2 e head i ≡ 0
  free2 i l = head_at (second_at e i) (omega arith) (omega arith) ∙ fresh_zero (second_at e i) (omega arith)

  fresh_rule : (cells bodies : ℕ) → Rule cells e bodies head
  fresh_rule cells bodies =
      record {
        live = rw none_live (omega arith);
        next = rw first_handle (omega arith);
        handles = λ k l.
            handle_make head k (λ s. absurd (not-suc-le-zero (subst (λ (x : ℕ). k < x) none_live s)))
            (λ s. head_at (handle_at k) (omega arith) (omega arith) ∙ fresh_zero (handle_at k) (omega arith));
        free = λ i l z. free2 i l;
        used = λ i l z. absurd (z (free1 i l));
        outer = λ i l v. absurd (v (ap via_of (free1 i l)));
        outer_plain = λ i l v. absurd (v (ap via_of (free1 i l)));
        apart_from = λ i l j h x y. absurd (x (free1 i l));
      }

  idle : pending whole ≡ 0
  idle = whole_at pending_at (omega arith) (omega arith) ∙ fresh_pending

  fresh_state : (bodies : List ℕ) → state_in e head bodies ≡ fresh
  unfolding state_in
  fresh_state bodies =
      λ i. record { next = first_handle i; domains = tab (none_live i) (domain_in e head bodies) }

-- ---- the store that a cut make leaves: the old one, none, or a fresh one

module _ (memory bodies t : List ℕ) (lengths : lengths_ok (length memory) (length bodies) (length t) ≡ true)
    (long : length t ≡ table_words (slots_of (length t))) where
  abbrev e : ℕ
  e = slots_of (length t)

  abbrev plan : List Store
  plan = make_plan (cells_of (length memory)) (slots_of (length t)) (bodies_of (length bodies))

  pub make_none : (k : ℕ) → 0 < k → k < pairs_at (slots_of (length t)) + 1 → open_check (lent (length memory) (length bodies) (stores (take k plan) t)) ≡ 2
  unfolding open_check shape_check
  make_none k pos l =
      let gone = make_gone (cells_of (length memory)) e (bodies_of (length bodies)) t long k pos l in
      let yes1 : lengths_ok (length memory) (length bodies) (length (stores (take k plan) t)) ≡ true = rw (length_stores (take k plan) t) lengths in
      rw (yes1, header_none (length memory) (length bodies) (stores (take k plan) t) gone)

  -- done, it leaves nothing pending
  pub make_idle : (k : ℕ) → pairs_at (slots_of (length t)) + 1 ≤ k → pending (stores (take k plan) t) ≡ 0
  make_idle k l =
      let m = cells_of (length memory) in
      let b = bodies_of (length bodies) in
      ap (λ (u : List ℕ). pending u) (make_whole m e b t long k l) ∙ idle m e b t long

  pub make_fresh : (k : ℕ) → pairs_at (slots_of (length t)) + 1 ≤ k
      → standing (buffers memory bodies (stores (take k plan) t)) ≡ some fresh
  make_fresh k l =
      let m = cells_of (length memory) in
      let b = bodies_of (length bodies) in
      let w : List ℕ = whole m e b t long in
      let n : length w ≡ length t = whole_length m e b t long in
      let lw : lengths_ok (length memory) (length bodies) (length w) ≡ true = rw n lengths in
      let header = header_make (length memory) (length bodies) w (record {
        magic = whole_magic m e b t long;
        cells = whole_at m e b t long cells_at (omega arith) (omega arith) ∙ fresh_cells m e b t long;
        slots = whole_at m e b t long slots_at (omega arith) (omega arith) ∙ fresh_slots m e b t long ∙ ap slots_of (sym n);
        bodies = whole_at m e b t long bodies_at (omega arith) (omega arith) ∙ fresh_bodies m e b t long;
        zero = whole_at m e b t long zero_at (omega arith) (omega arith) ∙ fresh_zero m e b t long zero_at (omega arith);
      }) in
      let eff : effective (pairs_at e) w ≡ take (pairs_at e) w = effective_idle (pairs_at e) w (idle m e b t long) in
      let few : pending w ≤ max_pairs e = rw (idle m e b t long) (omega arith) in
      let opens : open_check (lent (length memory) (length bodies) w) ≡ 0 =
      open_make (length memory) (length bodies) w (shape_make (length memory) (length bodies) w lw header)
      (table_make (length memory) (length bodies) w
      (rw n (pairs_make e w few (names_none (pairs_at e) w (idle m e b t long))))
      (rw (n, eff) (fresh_rule m e b t long m b))) in
      ap (λ (l : List ℕ). standing (buffers memory bodies l)) (make_whole m e b t long k l)
      ∙ stands_open memory bodies w opens
      ∙ rw (n, eff, fresh_state m e b t long bodies)

-- ---- make's code, store by store

module _ (m e b : ℕ) (t : List ℕ) where
  abbrev pub middle_plan : List Store
  middle_plan = tab (last_at e) (λ j. j + 1 ≔ fresh_word m e b (j + 1))

  -- a turn of the loop over words 1 and on
  pub make_turn : (i : ℕ) (u : List ℕ) → 1 ≤ i → i < pairs_at e → u ≡ stores (take (i - 1) middle_plan) t
      → set u i (fresh_word m e b i) ≡ stores (take (i + 1 - 1) middle_plan) t
  make_turn i u low high h =
      let back : i - 1 + 1 ≡ i = omega arith in
      let same : i + 1 - 1 ≡ i - 1 + 1 = omega arith in
      rw (h, same)
      (ap (λ (x : ℕ). set (stores (take (i - 1) middle_plan) t) x (fresh_word m e b x)) (sym back)
      ∙ run_take_tab store (i - 1) (last_at e) (λ j. j + 1 ≔ fresh_word m e b (j + 1)) t (omega arith))

  middle_length : length middle_plan ≡ last_at e
  middle_length = length_tab (λ j. j + 1 ≔ fresh_word m e b (j + 1)) (last_at e)

-- stopped between word 0's two stores
pub make_stopped : (m e b budget n i : ℕ) (t u : List ℕ) → 0 < budget → n ≡ budget → n ≤ pairs_at e → i ≡ n
    → u ≡ stores (take (i - 1) (middle_plan m e b t)) (set t magic_at 0) → u ≡ stores (take budget (make_plan m e b)) t
unfolding make_plan
make_stopped m e b budget n i t u pos p q r h =
    let z : budget ≡ suc (budget - 1) = omega arith in
    let j : i - 1 ≡ budget - 1 = omega arith in
    let short : budget - 1 ≤ length (middle_plan m e b t) = rw (middle_length m e b t) (omega arith) in
    h ∙ rw j
    (ap (λ (ps : List Store). stores ps (set t magic_at 0)) (sym (take-append-le (budget - 1) (middle_plan m e b t) ((magic_at ≔ magic) ∷ []) short))
    ∙ ap (λ (k : ℕ). stores (take k (make_plan m e b)) t) (sym z))

-- and whole
pub make_ended : (m e b budget i : ℕ) (t u : List ℕ) → pairs_at e < budget → i ≡ pairs_at e
    → u ≡ stores (take (i - 1) (middle_plan m e b t)) (set t magic_at 0) → set u magic_at magic ≡ stores (take budget (make_plan m e b)) t
unfolding make_plan
make_ended m e b budget i t u more r h =
    let all : take (i - 1) (middle_plan m e b t) ≡ middle_plan m e b t = take_all (i - 1) (middle_plan m e b t) (rw (middle_length m e b t) (omega arith)) in
    let whole-plan : take budget (make_plan m e b) ≡ make_plan m e b = take_all budget (make_plan m e b) (simp (length-append, length_tab) (omega arith)) in
    rw (h, all, whole-plan) (sym (run_append store (middle_plan m e b t) ((magic_at ≔ magic) ∷ []) (set t magic_at 0)))
