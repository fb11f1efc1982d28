-- What add's questions leave of the words, once none refuses it. Assumes nothing.
use Prim.Native.Nat.{ℕ, ◌+◌, ◌≤◌}
use mathlib.Core.Bool.{true, false}
use mathlib.Core.List.{List}
use mathlib.Core.Path.{◌≡◌, sym, subst, ◌∙◌}
use native.Mathlib.Omega.{arith}
use borrow.Author.Tests.{leb-true}
use lib.Dec.{leb}
use lib.ListN.{length}
use Rattle.words.specs.Layout.{cells_of, bodies_of, slots_of}
use Rattle.ranges.specs.declared.Range.{Range}
use Rattle.ranges.specs.Ranges.{named, kind_for}
use Rattle.table.specs.Entry.{live, parent_has}
use Rattle.model.specs.State.{State}
use Rattle.model.specs.Holdings.{Room, is_held, inner_holding, live_entries, copies_in_use, add_ranges, newly_held, new_bodies, add_checks}
use Rattle.model.proofs.Ranged.{Asked, asked_cell, AddAsked, add_asked}
use Rattle.store.specs.Outcome.{buffers}
use Rattle.store.specs.Checks.{store_check, lent}
use Rattle.store.specs.State.{state_in, state_of}
use Rattle.store.specs.Means.{room_of}
use Rattle.store.proofs.Checks.{ask_yes, ask_rest, or_else_both}
use Rattle.store.proofs.Domains.{domains_count}
use Rattle.store.proofs.InUse.{entries_in_use, copies_in_use_lem}
use Rattle.store.proofs.Raw.{raw_rule, raw_state}
use Rattle.add.specs.Add.{is_new, add_check}
use Rattle.add.specs.Ready.{Ready}
use Rattle.add.proofs.Chosen.{new_facts}
use Rattle.add.proofs.Numbers.{inner_held, outer_held, outer_ruled, newly_is, bodies_is}

module _ (memory bodies t : List ℕ) (h : ℕ) (rs : List Range) where
  abbrev m : ℕ
  m = cells_of (length memory)

  abbrev e : ℕ
  e = slots_of (length t)

  abbrev b : ℕ
  b = bodies_of (length bodies)

  abbrev room : Room
  room = room_of (buffers memory bodies t)

  -- the state, and the one after the list
  abbrev s : State
  s = state_in (slots_of (length t)) t bodies

  abbrev after : State
  after = add_ranges memory rs (state_in (slots_of (length t)) t bodies)

  module _ (good : store_check (lent (length memory) (length bodies) t) ≡ 0) (a : AddAsked room memory h rs s) where
    inner : 1 ≤ live t
    inner = omega (arith, domains_count e t bodies, a.live)

    cell : (c : ℕ) → named rs c ≡ true → Asked m memory rs s c
    cell c p = asked_cell m memory rs s _ c a.live a.ranges p

    -- of a cell that is new
    module _ (c : ℕ) (new : is_new e t rs c ≡ true) where
      names : named rs c ≡ true
      names = (new_facts e t rs c new).0

      lacks : is_held (inner_holding s c) ≡ false
      lacks = inner_held e t bodies inner c ∙ (new_facts e t rs c new).1

      has : kind_for rs c ≡ 1 → parent_has e t (live t) c ≡ true
      has z = sym (outer_held e t bodies inner c) ∙ (cell c names).rests lacks z

    slots_fit : live_entries m s + newly_held m s after ≤ e
    slots_fit = leb-true (live_entries m s + newly_held m s after) e (ask_yes (leb (live_entries m s + newly_held m s after) e) 16 _ (omega arith) a.fits)

    bodies_fit : copies_in_use m s + new_bodies m s after ≤ b
    bodies_fit =
        leb-true (copies_in_use m s + new_bodies m s after) b
        (ask_yes (leb (copies_in_use m s + new_bodies m s after) b) 17 0 (omega arith)
        (ask_rest (leb (live_entries m s + newly_held m s after) e) 16 _ (omega arith) a.fits))

    asked_ready : Ready memory bodies t rs
    asked_ready =
        let ok = raw_rule memory bodies t good in
        record {
          store = good;
          inner = inner;
          within = λ c p. (cell c p).within;
          kind = λ c p. (cell c p).kind;
          rests = has;
          plain = λ c new z. sym (outer_ruled m e b t ok bodies inner c (has c new z)) ∙ (cell c (names c new)).plain (lacks c new) z;
          rule = λ c new z. (cell c (names c new)).rule (lacks c new) z;
          slots = omega (arith, slots_fit, entries_in_use m e b t ok bodies, newly_is e t bodies inner m memory rs);
          places = omega (arith, bodies_fit, copies_in_use_lem m e b t ok bodies, bodies_is e t bodies inner m memory rs);
        }

  pub add_ready : add_check (buffers memory bodies t) h rs ≡ 0 → Ready memory bodies t rs
  unfolding add_check
  add_ready z =
      let both = or_else_both (store_check (lent (length memory) (length bodies) t)) (add_checks room memory h rs (state_of (buffers memory bodies t))) z in
      asked_ready both.0
      (add_asked room memory h rs s (subst (λ (x : State). add_checks room memory h rs x ≡ 0) (raw_state memory bodies t both.0) both.1))
