-- Add, from its stores to what it means and to what opening finds after every cut of it. The laws on stores hold for any choice of different
-- free slots and bodies; the call takes the lowest ones. Assumes nothing.
use Prim.Native.Nat.{ℕ, suc, ◌+◌, ◌-◌, ◌*◌, ◌≤◌}
use mathlib.Core.Bool.{true}
use mathlib.Core.List.{List}
use mathlib.Core.Option.{Option}
use mathlib.Core.Path.{◌≡◌, refl, sym, ap, subst, ◌∙◌}
use native.Mathlib.Omega.{arith}
use lib.Dec.{eqb}
use lib.ListN.{length, take}
use Rattle.words.specs.Layout.{pairs_at, slots_of, cells_of, bodies_of}
use Rattle.words.specs.Scan.{count}
use Rattle.words.proofs.Scan.{count_both}
use Rattle.words.specs.Stores.{Store, stores}
use Rattle.words.specs.Journal.{pending, names_ok, journal}
use Rattle.words.proofs.Plans.{Each}
use Rattle.ranges.specs.declared.Range.{Range}
use Rattle.ranges.specs.Ranges.{kind_for}
use Rattle.table.proofs.Rule.{Rule}
use Rattle.table.proofs.Entries.{changes_few, entries_names}
use Rattle.model.specs.State.{State}
use Rattle.model.specs.Answer.{Report, refused, ended, steps_of, view, View}
use Rattle.model.specs.Calls.{viewed, change, or_refuse}
use Rattle.model.specs.Holdings.{new_bodies, newly_held, relabelled, add_checks, add_ranges, add_effect}
use Rattle.store.specs.Outcome.{Buffers, buffers, change_plan, outcome, leaves, Call, perform, unless}
use Rattle.store.specs.Checks.{store_check, lent_of}
use Rattle.store.specs.State.{state_in, state_of}
use Rattle.store.specs.Means.{visible_of, or_refused, call_means, room_of, left_pending, pending_after, after_pending, Reopens}
use Rattle.store.proofs.Checks.{or_else_go, or_else_stop, store_lengths}
use Rattle.store.proofs.Outcome.{refuses}
use Rattle.store.proofs.Means.{by_check, store_standing}
use Rattle.store.proofs.Changes.{Spares, spared, front_spares, change_performed, change_seen}
use Rattle.store.proofs.Pending.{performed_pending, call_pending}
use Rattle.store.proofs.Reopened.{changes_shaped, shape_reopens, unless_reopens}
use Rattle.store.proofs.Standing.{standing_opens}
use Rattle.store.proofs.Bounds.{change_bound}
use Rattle.store.proofs.Raw.{raw_rule, raw_long, raw_state, raw_next, raw_after}
use Rattle.add.specs.Add.{is_new, is_new_copy, add_check, slot_for, body_for, add_bytes, add_words, add_call, add_means, change_with, words_with, bytes_with}
use Rattle.add.specs.Ready.{Ready}
use Rattle.add.specs.Choice.{Choice, add_with, MayTake}
use Rattle.add.proofs.Readied.{add_ready}
use Rattle.add.proofs.Meaning.{rule_after, state_after}
use Rattle.add.proofs.Chosen.{taking, words_told, lowest}
use Rattle.add.proofs.Filling.{rests_with, plain_with, rule_with, bytes_length, bytes_filled, bytes_spare}
use Rattle.add.proofs.Numbers.{words_many, bytes_many}

-- ---- the call, once no question refuses it, for any choice of places

module _ (memory bodies t : List ℕ) (rs : List Range) (r : Ready memory bodies t rs)
    {slot body : ℕ → ℕ} (choice : Choice (cells_of (length memory)) (slots_of (length t)) (bodies_of (length bodies)) t rs slot body) where
  abbrev m : ℕ
  m = cells_of (length memory)

  abbrev e : ℕ
  e = slots_of (length t)

  -- the stores of the call that takes these places
  abbrev words : List Store
  words = words_with (cells_of (length memory)) t rs slot body

  abbrev bytes : List Store
  bytes = bytes_with memory t rs body

  -- the state before it, and after the list
  abbrev before : State
  before = state_of (buffers memory bodies t)

  abbrev after : State
  after = add_ranges memory rs (state_of (buffers memory bodies t))

  -- how many cells are newly held, how many of them by copy, and how many labels rise
  abbrev taken : ℕ
  taken = newly_held (cells_of (length memory)) before after

  abbrev fresh : ℕ
  fresh = new_bodies (cells_of (length memory)) before after

  abbrev raised : ℕ
  raised = relabelled (cells_of (length memory)) before after

  small : cells_of (length memory) ≤ 65536
  small = (store_lengths _ _ t r.store).cells_high

  pub with_names : names_ok (pairs_at (slots_of (length t))) 0 words ≡ true
  with_names = entries_names e (change_with m e t rs slot body)

  with_few : length words ≤ 2 * slots_of (length t)
  with_few = changes_few e (change_with m e t rs slot body)

  rule_whole : Rule (cells_of (length memory)) (slots_of (length t)) (bodies_of (length bodies)) (stores words t)
  rule_whole =
      subst (λ (ws : List Store). Rule (cells_of (length memory)) (slots_of (length t)) (bodies_of (length bodies)) (stores ws t)) (words_told choice)
      (rule_after m e (bodies_of (length bodies)) t (raw_rule memory bodies t r.store) (raw_long memory bodies t r.store) rs r.inner r.within r.kind small
      (taking choice) (rests_with memory bodies t rs r choice) (plain_with memory bodies t rs r choice) (rule_with memory bodies t rs r choice))

  -- the new table is right
  pub with_rule : Rule (cells_of (length memory)) (slots_of (length t)) (bodies_of (length bodies)) (stores words (take (pairs_at (slots_of (length t))) t))
  with_rule = raw_next memory bodies t r.store words with_names rule_whole

  -- the bytes spare the bodies in use
  pub with_spares : Each (Spares (slots_of (length t)) (take (pairs_at (slots_of (length t))) t)) bytes
  with_spares = front_spares e t bytes (bytes_spare memory bodies t rs r choice)

  state_new : state_in (slots_of (length t)) (stores words t) (stores bytes bodies) ≡ add_ranges memory rs (state_in (slots_of (length t)) t bodies)
  state_new =
      ap (λ (ws : List Store). state_in e (stores ws t) (stores bytes bodies)) (sym (words_told choice))
      ∙ state_after m e (bodies_of (length bodies)) t (raw_rule memory bodies t r.store) (raw_long memory bodies t r.store) rs r.inner r.within r.kind small
      (taking choice) (rests_with memory bodies t rs r choice) (plain_with memory bodies t rs r choice) (rule_with memory bodies t rs r choice) memory bodies (stores bytes bodies)
      (spared e t bytes bodies (bytes_spare memory bodies t rs r choice))
      (bytes_filled memory bodies t rs r choice)

  -- and stands for the model's state after add
  pub with_state : state_in (slots_of (length t)) (stores words (take (pairs_at (slots_of (length t))) t)) (stores bytes bodies) ≡ after
  with_state =
      raw_after memory bodies t r.store words with_names rule_whole (stores bytes bodies)
      ∙ state_new
      ∙ ap (add_ranges memory rs) (sym (raw_state memory bodies t r.store))

  -- as many bytes and words as the model says
  pub with_bytes : length bytes ≡ 64 * fresh
  with_bytes = bytes_many memory bodies t rs r choice ∙ ap (λ (s : State). 64 * new_bodies m s (add_ranges memory rs s)) (sym (raw_state memory bodies t r.store))

  pub with_words_lem : length words ≡ 2 * (taken + raised)
  with_words_lem =
      words_many memory bodies t rs r choice
      ∙ ap (λ (s : State). 2 * (newly_held m s (add_ranges memory rs s) + relabelled m s (add_ranges memory rs s))) (sym (raw_state memory bodies t r.store))

  pub with_seen : (budget : ℕ) → visible_of (outcome (perform (change_plan (pairs_at (slots_of (length t))) bytes words) 0) budget (buffers memory bodies t))
      ≡ viewed (change (64 * fresh) (2 * (taken + raised)) 0 after) budget before memory
  with_seen budget =
      change_seen memory bodies t r.store bytes words with_spares (omega (arith, with_few)) with_names with_rule 0 after with_state budget
      ∙ (λ i. viewed (change (with_bytes i) (with_words_lem i) 0 after) budget before memory)

  -- as many pairs are left pending as its effect says
  pub with_pending : (budget : ℕ) → pending (outcome (perform (change_plan (pairs_at (slots_of (length t))) bytes words) 0) budget (buffers memory bodies t)).buffers.table
      ≡ pending_after (64 * fresh) (2 * (taken + raised)) budget
  with_pending budget =
      performed_pending memory bodies t r.store bytes words (omega (arith, with_few)) with_names 0 budget
      ∙ (λ i. pending_after (with_bytes i) (with_words_lem i) budget)

  -- ---- cuts

  pub with_reopens : Reopens (perform (change_plan (pairs_at (slots_of (length t))) (bytes_with memory t rs body) (words_with (cells_of (length memory)) t rs slot body)) 0) (buffers memory bodies t)
  with_reopens =
      shape_reopens _ (buffers memory bodies t) (changes_shaped (buffers memory bodies t) bytes words 0) r.store
      (λ budget.
      standing_opens (outcome (perform (change_plan (pairs_at (slots_of (length t))) bytes words) 0) budget (buffers memory bodies t)).buffers _
      (ap (λ (v : View). v.state) (with_seen budget)))

  -- "every other call at most 70E + 32"
  pub with_bound : steps_of (length bytes) (length words) ≤ 70 * slots_of (length t) + 32
  with_bound =
      rw (bytes_length memory bodies t rs r choice)
      (change_bound (count m (is_new_copy e t rs)) (length words) e (omega (arith, count_both m (is_new e t rs) (λ c. eqb (kind_for rs c) 0), r.slots)) (omega (arith, with_few)))

-- ---- the call, which takes the lowest free slots and bodies

-- "every other call at most 70E + 32"
pub add_bound : (memory bodies t : List ℕ) (rs : List Range) → Ready memory bodies t rs
    → steps_of (length (add_bytes (bodies_of (length bodies)) memory t rs)) (length (add_words (cells_of (length memory)) (bodies_of (length bodies)) t rs)) ≤ 70 * slots_of (length t) + 32
unfolding add_bytes add_words
add_bound memory bodies t rs r = with_bound memory bodies t rs r (lowest memory bodies t rs r)

-- ---- the call made with any choice of places

-- the questions on the buffers, and on the state
module _ (h : ℕ) (rs : List Range) (b : Buffers) where
  stops : (x : ℕ) → store_check (lent_of b) ≡ suc x → add_check b h rs ≡ suc x
  unfolding add_check
  stops x q = or_else_stop _ _ (λ z. omega (arith, z, q)) ∙ q

  goes : store_check (lent_of b) ≡ 0 → add_check b h rs ≡ add_checks (room_of b) b.memory h rs (state_of b)
  unfolding add_check
  goes good = or_else_go _ _ good

module _ (h : ℕ) (rs : List Range) (b : Buffers) (slot body : ℕ → ℕ) (may : MayTake h rs b slot body) where
  abbrev plan_with : Call
  plan_with =
      perform (change_plan (pairs_at (slots_of (length b.table))) (bytes_with b.memory b.table rs body) (words_with (cells_of (length b.memory)) b.table rs slot body)) 0

  abbrev next : State
  next = add_ranges b.memory rs (state_of b)

  abbrev cells : ℕ
  cells = cells_of (length b.memory)

  abbrev goal : (q s budget : ℕ) → Type 0
  goal q s budget =
      visible_of (outcome (unless q plan_with) budget b)
      ≡ viewed (or_refuse s (change (64 * new_bodies cells (state_of b) next) (2 * (newly_held cells (state_of b) next + relabelled cells (state_of b) next)) 0 next)) budget (state_of b) b.memory

  abbrev check : ℕ
  check = add_check b h rs

  ready : check ≡ 0 → Ready b.memory b.bodies b.table rs
  ready = add_ready b.memory b.bodies b.table h rs

  passed : (budget : ℕ) → store_check (lent_of b) ≡ 0
      → goal (add_check b h rs) (add_checks (room_of b) b.memory h rs (state_of b)) budget
  unfolding outcome
  passed budget good =
      subst (λ (s : ℕ). goal check s budget) (goes h rs b good)
      (by_check (λ q. q ≡ check → goal q q budget) check
      (λ x q w. ap (λ (s : Option State). view (refused (suc x)) s b.memory) (store_standing b.memory b.bodies b.table good))
      (λ q w. with_seen b.memory b.bodies b.table rs (ready q) (may q) budget)
      refl)

  -- what is seen of it, at every budget, is what add means
  pub add_with_means : (budget : ℕ) → visible_of (outcome (add_with slot body h rs b) budget b) ≡ add_means h rs budget b
  unfolding add_with call_means
  add_with_means budget =
      by_check (λ q. store_check (lent_of b) ≡ q
      → visible_of (outcome (add_with slot body h rs b) budget b) ≡ or_refused q b (viewed (add_effect (room_of b) b.memory h rs (state_of b)) budget (state_of b) b.memory))
      (store_check (lent_of b))
      (λ x q w. ap visible_of (sym (refuses (suc x) check _ budget b (sym (stops h rs b x w)) (λ z. omega arith))))
      (λ q w. passed budget w)
      refl

  module _ (good : store_check (lent_of b) ≡ 0) where
    -- the pairs that it leaves pending
    pub add_with_pending : (budget : ℕ) → left_pending (outcome (add_with slot body h rs b) budget b) ≡ after_pending (add_effect (room_of b) b.memory h rs (state_of b)) budget
    unfolding add_with
    add_with_pending budget =
        call_pending budget b good _ _ _ _ (goes h rs b good)
        (λ q. with_pending b.memory b.bodies b.table rs (ready q) (may q) budget)

    -- and what opening finds after every cut of it
    pub add_with_reopens : Reopens (add_with slot body h rs b) b
    unfolding add_with
    add_with_reopens = unless_reopens b good check plan_with (λ q. with_reopens b.memory b.bodies b.table rs (ready q) (may q))

-- ---- the contract's call, which takes the lowest free slots and bodies

module _ (h : ℕ) (rs : List Range) (b : Buffers) where
  -- they were free before the call, and differ
  pub add_takes : MayTake h rs b (slot_for (slots_of (length b.table)) b.table rs) (body_for (slots_of (length b.table)) (bodies_of (length b.bodies)) b.table rs)
  add_takes pass = lowest b.memory b.bodies b.table rs (add_ready b.memory b.bodies b.table h rs pass)

  pub add_is : add_call h rs b
      ≡ add_with (slot_for (slots_of (length b.table)) b.table rs) (body_for (slots_of (length b.table)) (bodies_of (length b.bodies)) b.table rs) h rs b
  unfolding add_call add_with add_bytes add_words
  add_is = refl

pub add_means_lem : (h : ℕ) (rs : List Range) (budget : ℕ) (b : Buffers) → visible_of (outcome (add_call h rs b) budget b) ≡ add_means h rs budget b
add_means_lem h rs budget b =
    ap (λ (c : Call). visible_of (outcome c budget b)) (add_is h rs b) ∙ add_with_means h rs b _ _ (add_takes h rs b) budget

-- the pairs that it leaves pending, at every budget
pub add_pending : (h : ℕ) (rs : List Range) (budget : ℕ) (b : Buffers) → store_check (lent_of b) ≡ 0
    → pending (outcome (add_call h rs b) budget b).buffers.table ≡ after_pending (add_effect (room_of b) b.memory h rs (state_of b)) budget
add_pending h rs budget b good =
    ap (λ (c : Call). left_pending (outcome c budget b)) (add_is h rs b) ∙ add_with_pending h rs b _ _ (add_takes h rs b) good budget

-- ---- what the code cites

module _ (m b t : List ℕ) (h : ℕ) (rs : List Range) (budget : ℕ) where
  pub add_refused : (q : ℕ) → q ≡ add_check (buffers m b t) h rs → (q ≡ 0 → ⊥) → leaves (refused q) (buffers m b t) ≡ outcome (add_call h rs (buffers m b t)) budget (buffers m b t)
  unfolding add_call
  add_refused q e z = refuses q (add_check (buffers m b t) h rs) _ budget (buffers m b t) e z

  pub add_performed : (need : ℕ) (b' t' : List ℕ) (r : Report) → add_check (buffers m b t) h rs ≡ 0
      → need ≡ steps_of (length (add_bytes (bodies_of (length b)) m t rs)) (length (add_words (cells_of (length m)) (bodies_of (length b)) t rs))
      → b' ≡ stores (take budget (add_bytes (bodies_of (length b)) m t rs)) b
      → t' ≡ stores (take (budget - length (add_bytes (bodies_of (length b)) m t rs)) (journal (pairs_at (slots_of (length t))) (add_words (cells_of (length m)) (bodies_of (length b)) t rs))) t
      → r ≡ ended need 0 budget
      → leaves r (buffers m b' t') ≡ outcome (add_call h rs (buffers m b t)) budget (buffers m b t)
  unfolding add_call
  add_performed need b' t' r good steps p q e =
      rw good (change_performed (pairs_at (slots_of (length t))) need 0 budget (add_bytes (bodies_of (length b)) m t rs) (add_words (cells_of (length m)) (bodies_of (length b)) t rs) m b t b' t' r steps p q e)
