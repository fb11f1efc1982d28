-- Request A.5 over lent buffers: what two restores leave to be seen is what they mean on states (model/proofs/InnerFirst), and the words in front of the
-- pairs are told one by one (restore/proofs/Ended). Assumes nothing.
use Prim.Native.Nat.{ℕ, ◌+◌, ◌*◌, ◌≤◌}
use mathlib.Core.Bool.{true}
use mathlib.Core.List.{List}
use mathlib.Core.Option.{some}
use mathlib.Core.Path.{◌≡◌, refl, sym, ap, subst, ◌∙◌}
use native.Mathlib.Omega.{arith}
use borrow.Author.Tests.{ltb-true, lt-ltb, leb-true, le-leb}
use lib.Dec.{ltb}
use lib.ListN.{length}
use Rattle.words.specs.Layout.{slots_of, pairs_at}
use Rattle.words.specs.Journal.{pending}
use Rattle.words.proofs.Scan.{and_split}
use Rattle.table.specs.Entry.{live}
use Rattle.search.specs.Domain.{depth_named}
use Rattle.model.specs.State.{State}
use Rattle.model.specs.Answer.{Status, is_done, is_stopped, is_refused, View, steps_of}
use Rattle.model.specs.Calls.{open_steps}
use Rattle.model.specs.Holdings.{is_within, named, is_live}
use Rattle.model.specs.Restore.{restored, restored_memory, restore_checks}
use Rattle.model.specs.History.{Request, restore}
use Rattle.model.specs.Session.{call, opening, memory_after, Mixed}
use Rattle.model.proofs.Effects.{passed}
use Rattle.model.proofs.Named.{named_le}
use Rattle.model.proofs.Told.{Finished, Halted, Answered}
use Rattle.model.proofs.Views.{bytes_first, memory_whole, state_whole}
use Rattle.model.proofs.InnerFirst as law
use Rattle.store.specs.Outcome.{Buffers, buffers, Outcome}
use Rattle.store.specs.State.{state_of, standing, slots}
use Rattle.store.specs.Calls.{opening_after}
use Rattle.store.specs.Means.{room_of}
use Rattle.store.proofs.Checks.{store_opens}
use Rattle.store.proofs.Means.{live_count}
use Rattle.store.proofs.Raw.{raw_named}
use Rattle.store.proofs.Reopened.{done_enough}
use Rattle.store.proofs.Standing.{is_standing}
use Rattle.restore.proofs.Ended.{EndedInside, same_front, check_live, leaves_at, restore_bodies, restore_ended, restore_early, restore_table}
use Rattle.demands.specs.Session.{call_on}
use Rattle.demands.specs.Demands.{asked, opens, Found, not_made, wholly_made, is_around, IsDone, IsStopped, Suffices, restore_on, open_on, SameStore, RestoresSame, InnerFirst}
use Rattle.demands.proofs.Shape.{call_alike, ended_answers}
use Rattle.demands.proofs.Seen.{call_passed, Shown, call_shown}
use Rattle.demands.proofs.Steps.{open_seen}
use Rattle.demands.proofs.Within.{store_within}
use Rattle.demands.proofs.Bounded.{input_bounded}
use Rattle.demands.proofs.Ready.{done_ready, call_opens, ready}
use Rattle.demands.proofs.Reopening.{opening_keeps, reopened}
use Rattle.demands.proofs.Meant.{exact, cut}

-- ---- a call that is done has left the state and the memory of its effect

module _ (c : Request) (k : ℕ) (b : Buffers) (d : IsDone (call_on c k b)) where
  not_refused : (call_on c k b).report.status ≡ is_refused → ⊥
  not_refused r = subst Finished (sym d ∙ r) tt

  good : asked b ≡ 0
  good = call_passed c k b not_refused

  is : Shown c k b
  is = call_shown c k b not_refused

  enough : steps_of is.bytes is.words ≤ k
  enough = done_enough (steps_of is.bytes is.words) is.handle k (ap (λ (v : View). v.report.status) (sym is.shows) ∙ d)

  done_state : standing (call_on c k b).buffers ≡ some is.new
  done_state =
      ap (λ (v : View). v.state) is.shows
      ∙ ap some (state_whole (room_of b) c (state_of b) is.new b.memory k is.bytes is.words is.handle (store_within b.memory b.bodies b.table good) is.effect enough)

  done_memory : (call_on c k b).buffers.memory ≡ memory_after c (state_of b) b.memory
  done_memory =
      ap (λ (v : View). v.memory) is.shows
      ∙ memory_whole (room_of b) c (state_of b) is.new b.memory k is.bytes is.words is.handle (exact b good) is.effect
      (let z = bytes_first is.bytes is.words in omega (arith, enough))

-- ---- a restore of a live domain

not_stopped : (r : Status) → (r ≡ is_stopped → ⊥) → Answered r → r ≡ is_done
not_stopped is_done f a = refl
not_stopped is_stopped f a = absurd (f refl)
not_stopped is_refused f a = absurd a

-- it is done where its budget suffices
restore_does : (h k : ℕ) (b : Buffers) → asked b ≡ 0 → is_live h (state_of b) ≡ true → Suffices (restore_on h k b) → IsDone (restore_on h k b)
restore_does h k b good live-one f =
    not_stopped (restore_on h k b).report.status f
    (subst (λ (o : Outcome). Answered o.report.status) (sym (leaves_at h b (check_live h b good live-one) k)) (ended_answers _ 0 k))

-- a budget that always does
abbrev plenty : Buffers → ℕ
plenty b = 70 * slots b + 32

plenty_suffices : (h : ℕ) (b : Buffers) → Suffices (restore_on h (plenty b) b)
plenty_suffices h b = (input_bounded (call (restore h) (plenty b)) b).whole (omega arith)

-- what it has left then, `after`
record RestoreLeft (h : ℕ) (b after : Buffers) : Type 0 where
  pub state : standing after ≡ some (restored (named h (state_of b)) (state_of b))
  pub memory : after.memory ≡ restored_memory (named h (state_of b)) (state_of b) b.memory
  pub bodies : after.bodies ≡ b.bodies
  pub size : length after.table ≡ length b.table
  pub table : EndedInside (slots b) (named h (state_of b)) b.table after.table
  pub good : asked after ≡ 0

restore_left : (h k : ℕ) (b : Buffers) → asked b ≡ 0 → is_live h (state_of b) ≡ true → IsDone (restore_on h k b) → RestoreLeft h b (restore_on h k b).buffers
restore_left h k b good live-one d =
    let pass = check_live h b good live-one in
    let x = is (restore h) k b d in
    let y = passed (restore_checks h (state_of b)) _ _ _ x.bytes x.words x.handle _ x.new x.effect in
    record {
      state = done_state (restore h) k b d ∙ ap some (sym y.leaves);
      memory = done_memory (restore h) k b d;
      bodies = restore_bodies h b pass k;
      size = (call_alike (restore h) k b).table;
      table = rw (raw_named b.memory b.bodies b.table good h) (restore_ended h b pass k d);
      good = done_ready (call (restore h) k) b refl d;
    }

-- ---- buffers `other` from which a restore of `outer` leaves what it leaves from b: their state `now` and their memory come to the same, and their table
-- is b's with the domains inside `depth` ended, all of which the outer restore ends too

record SameForOuter (outer : ℕ) (b other : Buffers) : Type 0 where
  pub now : State
  pub state : standing other ≡ some now
  pub still_named : named outer now ≡ named outer (state_of b)
  pub then_state : restored (named outer (state_of b)) now ≡ restored (named outer (state_of b)) (state_of b)
  pub then_memory : restored_memory (named outer (state_of b)) now other.memory ≡ restored_memory (named outer (state_of b)) (state_of b) b.memory
  pub bodies : other.bodies ≡ b.bodies
  pub size : length other.table ≡ length b.table
  pub depth : ℕ
  pub around : named outer (state_of b) ≤ depth
  pub table : EndedInside (slots b) depth b.table other.table
  pub good : asked other ≡ 0

module _ (outer : ℕ) (b other : Buffers) (x : SameForOuter outer b other) where
  stands : state_of other ≡ x.now
  stands = let s = is_standing other (store_opens (length other.memory) (length other.bodies) other.table x.good) in let t = x.state in cc

  name : named outer (state_of other) ≡ named outer (state_of b)
  name = ap (named outer) stands ∙ x.still_named

  same_store : (y z : Buffers) → RestoreLeft outer other y → RestoreLeft outer b z → SameStore y z
  same_store y z p q =
      let e : slots other ≡ slots b = ap slots_of x.size in
      let long : length y.table ≡ length z.table = p.size ∙ x.size ∙ sym q.size in
      let first : pairs_at (slots y) ≡ pairs_at (slots b) = ap (λ (n : ℕ). pairs_at (slots_of n)) (p.size ∙ x.size) in
      let second : pairs_at (slots z) ≡ pairs_at (slots b) = ap (λ (n : ℕ). pairs_at (slots_of n)) q.size in
      let then-ended : EndedInside (slots b) (named outer (state_of b)) other.table y.table =
      subst (λ (n : ℕ). EndedInside n (named outer (state_of b)) other.table y.table) e
      (subst (λ (d : ℕ). EndedInside (slots other) d other.table y.table) name p.table) in
      record {
        memory = p.memory
            ∙ (λ i. restored_memory (name i) (stands i) other.memory)
            ∙ x.then_memory ∙ sym q.memory;
        bodies = p.bodies ∙ x.bodies ∙ sym q.bodies;
        words = rw (first, second) (same_front x.table then-ended q.table x.around long);
        same_length = long;
        state = p.state ∙ (λ i. some (restored (name i) (stands i))) ∙ ap some x.then_state ∙ sym q.state;
      }

  restores_same : is_live outer (state_of b) ≡ true → asked b ≡ 0 → RestoresSame outer other b
  restores_same live-one good k l f g =
      let live-other : is_live outer (state_of other) ≡ true = ap (ltb 0) name ∙ live-one in
      let d = restore_does outer k other x.good live-other f in
      let e = restore_does outer l b good live-one g in
      (d, e, same_store _ _ (restore_left outer k other x.good live-other d) (restore_left outer l b good live-one e))

-- ---- after an inner restore

module _ (outer inner : ℕ) (b : Buffers) (good : asked b ≡ 0) (nested : is_around outer inner (state_of b) ≡ true) where
  live_outer : is_live outer (state_of b) ≡ true
  live_outer = (and_split (is_live outer (state_of b)) (is_within (named outer (state_of b)) (named inner (state_of b))) nested).0

  within : is_within (named outer (state_of b)) (named inner (state_of b)) ≡ true
  within = (and_split (is_live outer (state_of b)) (is_within (named outer (state_of b)) (named inner (state_of b))) nested).1

  around : named outer (state_of b) ≤ named inner (state_of b)
  around = leb-true (named outer (state_of b)) (named inner (state_of b)) within

  live_inner : is_live inner (state_of b) ≡ true
  live_inner = let l = ltb-true 0 (named outer (state_of b)) live_outer in lt-ltb 0 (named inner (state_of b)) (omega (arith, around))

  of_states : law.NestedRestores outer inner (state_of b) b.memory
  of_states = law.nested_restores outer inner (state_of b) b.memory live_outer within

  -- made
  made_same : (other : Buffers) → RestoreLeft inner b other → SameForOuter outer b other
  made_same other x = record {
    now = restored (named inner (state_of b)) (state_of b);
    state = x.state;
    still_named = of_states.still_named;
    then_state = of_states.state;
    then_memory = ap (restored_memory (named outer (state_of b)) (restored (named inner (state_of b)) (state_of b))) x.memory ∙ of_states.memory;
    bodies = x.bodies;
    size = x.size;
    depth = named inner (state_of b);
    around = around;
    table = x.table;
    good = x.good;
  }

  after_inner : (j : ℕ) → Suffices (restore_on inner j b) → IsDone (restore_on inner j b) × RestoresSame outer (restore_on inner j b).buffers b
  after_inner j f =
      let d = restore_does inner j b good live_inner f in
      (d, restores_same outer b (restore_on inner j b).buffers (made_same _ (restore_left inner j b good live_inner d)) live_outer good)

  -- cut, and found not made
  module _ (j : ℕ) (stop : IsStopped (restore_on inner j b)) where
    abbrev left : Buffers
    left = (restore_on inner j b).buffers

    unmade : standing left ≡ some (state_of b) → pending left.table ≡ 0
        → Mixed b.memory (restored_memory (named inner (state_of b)) (state_of b) b.memory) left.memory → SameForOuter outer b left
    unmade s idle mixed =
        let pass = check_live inner b good live_inner in
        record {
          now = state_of b;
          state = s;
          still_named = refl;
          then_state = refl;
          then_memory = of_states.cut_memory left.memory mixed;
          bodies = restore_bodies inner b pass j;
          size = (call_alike (restore inner) j b).table;
          depth = live b.table;
          around = let n = named_le inner (state_of b) in let c = live_count b.memory b.bodies b.table good in omega (arith, around);
          table = restore_early inner b pass j stop idle;
          good = ready (length left.memory) (length left.bodies) left.table
              (call_opens (restore inner) j b (store_opens (length b.memory) (length b.bodies) b.table good)) idle;
        }

    -- and opened
    module _ (ks : List ℕ) (i : ℕ) (done-one : IsDone (opening_after ks i left)) where
      abbrev final : Buffers
      final = (opening_after ks i (restore_on inner j b).buffers).buffers

      by_found : Found (restore inner) b left → SameForOuter outer b final
      by_found (not_made s idle mixed) = rw ((reopened j i ks b (restore inner) stop done-one).unmade idle) (unmade s idle mixed)
      by_found (wholly_made e s waits m) =
          let d = restore_does inner (plenty b) b good live_inner (plenty_suffices inner b) in
          rw ((reopened j i ks b (restore inner) stop done-one).made waits (plenty b) d) (made_same _ (restore_left inner (plenty b) b good live_inner d))

      after_cut : RestoresSame outer (opening_after ks i (restore_on inner j b).buffers).buffers b
      after_cut = restores_same outer b final (by_found (cut (restore inner) j b stop)) live_outer good

-- ---- twice

module _ (h j k : ℕ) (b : Buffers) (good : asked b ≡ 0) (live-one : is_live h (state_of b) ≡ true) where
  abbrev once : Buffers
  once = (restore_on h j b).buffers

  itself : is_around h h (state_of b) ≡ true
  itself = rw (live-one, le-leb (named h (state_of b)) (named h (state_of b)) (omega arith))

  again : IsDone (restore_on h j b) → Suffices (restore_on h k once) → IsDone (restore_on h k once) × ((restore_on h k once).buffers ≡ once)
  again d f =
      let x = restore_left h j b good live-one d in
      let other = made_same h h b good itself once x in
      let here = name h b once other in
      let live_then : is_live h (state_of once) ≡ true = ap (ltb 0) here ∙ live-one in
      let e = restore_does h k once x.good live_then f in
      let y = restore_left h k once x.good live_then e in
      let m : (restore_on h k once).buffers.memory ≡ once.memory =
      (same_store h b once other _ _ y x).memory in
      let innermost : live once.table ≡ depth_named once.table h =
      x.table.head.live ∙ sym here ∙ raw_named once.memory once.bodies once.table x.good h in
      let t : (restore_on h k once).buffers.table ≡ once.table = restore_table h once (check_live h once x.good live_then) k innermost in
      (e, λ i. buffers (m i) (y.bodies i) (t i))

  two_restores_lem : Suffices (restore_on h j b) → Suffices (restore_on h k (restore_on h j b).buffers)
      → IsDone (restore_on h j b) × IsDone (restore_on h k (restore_on h j b).buffers) × ((restore_on h k (restore_on h j b).buffers).buffers ≡ (restore_on h j b).buffers)
  two_restores_lem f g =
      let d = restore_does h j b good live-one f in
      let r = again d g in
      (d, r.0, r.1)

-- ---- opened first

opened : (b : Buffers) (i : ℕ) → opens b ≡ 0 → Suffices (open_on i b) → IsDone (open_on i b)
    × (asked (open_on i b).buffers ≡ 0) × (state_of (open_on i b).buffers ≡ state_of b) × ((open_on i b).buffers.memory ≡ b.memory)
opened b i fine f =
    let d : IsDone (open_on i b) =
    not_stopped (open_on i b).report.status f
    (subst (λ (v : View). Answered v.report.status) (sym (open_seen i b fine)) (ended_answers (open_steps (pending b.table)) 0 i)) in
    let after : Buffers = (open_on i b).buffers in
    let good = done_ready (opening i) b refl d in
    let keeps = opening_keeps i b fine in
    let now = is_standing after (store_opens (length after.memory) (length after.bodies) after.table good) in
    let was = is_standing b fine in
    let same = keeps.0 in
    let state : state_of after ≡ state_of b = cc in
    (d, good, state, keeps.1)

pub inner_first : InnerFirst
inner_first = record {
  opened = opened;
  same = λ outer inner j b good nested f. after_inner outer inner b good nested j f;
  cut = λ outer inner j ks i b nested stop d.
      after_cut outer inner b (call_passed (restore inner) j b (λ r. subst Halted (sym stop ∙ r) tt)) nested j stop ks i d;
  twice = λ h j k b good live-one. two_restores_lem h j k b good live-one;
}
