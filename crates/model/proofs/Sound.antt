-- A state, memory and a history that go together, and that each call, carried out, keeps them so; a restore counts no mismatch. Assumes nothing.
use Prim.Native.Nat.{ℕ, zero, suc, ◌+◌, ◌-◌, ◌<◌}
use mathlib.Core.Bool.{true, not, ◌||◌}
use mathlib.Core.List.{List, [], ◌∷◌}
use mathlib.Core.Logic.{◌⊎◌, inl, inr}
use mathlib.Core.Option.{Option}
use mathlib.Core.Path.{◌≡◌, refl, sym, ap, subst, ◌∙◌}
use native.Mathlib.Omega.{arith}
use borrow.Author.Tests.{ltb-true}
use lib.ListN.{length, get_or, take}
use Rattle.words.proofs.Plans.{length_tab}
use Rattle.ranges.specs.declared.Range.{Range}
use Rattle.model.specs.State.{State}
use Rattle.model.specs.Calls.{created, fresh}
use Rattle.model.specs.Holdings.{Room, named, is_live, is_via, is_some, rule_of, rule_fits, kind_numbered, label_numbered, add_range, add_ranges, list_checks, add_checks, parent_same, delete_from}
use Rattle.model.specs.Holdings.{advance as advanceState, commit as commitState}
use Rattle.model.specs.Restore.{restored_byte, restored_memory, restored, restore_checks}
use Rattle.model.specs.History.{create, add, delete, advance, commit, Request, restore, change_line, Tracked, History, with_domains, with_waiting, named_among, at_depth, at_innermost, begun, add_tracked, add_line, add_lines, line, down_to, exclude_inside, stop_line, tracked_at, count_of, completed}
use Rattle.model.specs.Session.{Mixed, AllZero, SameDomains, none_left, Agrees}
use Rattle.model.proofs.Byte.{back_at}
use Rattle.model.proofs.Agree.{agree_length, agree_named, agree_create, at_length, Matched, agree_add, agree_delete, agree_advance, agree_commit, agree_take, agree_inside}
use Rattle.model.proofs.Bytes.{kept_at, agree_bytes, restored_byte_lem}
use Rattle.model.proofs.Asking.{ask_yes}
use Rattle.model.proofs.Ranged.{RangeAsked, range_asked, add_asked, ranges_named, ranges_length}
use Rattle.model.proofs.Invariant.{Inv, inv_create, inv_add, inv_delete, inv_advance, inv_commit, inv_restore, inv_stopped, count_restored}

-- ---- a state, memory and a history that go together

pub record Sound (s : State) (m : List ℕ) (n : History) : Type 0 where
  pub agrees : Agrees s n
  pub inv : (x : ℕ) → x < length m → Inv x (get_or m x 0) n.domains

pub sound_waiting : {s : State} {m : List ℕ} {n : History} (o : Option Request) → Sound s m n → Sound s m (with_waiting o n)
sound_waiting o z = record { agrees = record { same_next = z.agrees.same_next; same_domains = z.agrees.same_domains }; inv = z.inv }

pub fresh_sound : (m : List ℕ) → Sound fresh m begun
fresh_sound m = record { agrees = record { same_next = refl; same_domains = none_left }; inv = λ x l. tt }

-- ---- each changing call by its line

pub create_sound : (s : State) (m : List ℕ) (n : History) → Sound s m n → Sound (created s) m (change_line create m n)
create_sound s m n z = record {
  agrees = record {
    same_next = ap (λ (k : ℕ). k + 1) z.agrees.same_next;
    same_domains = agree_create _ _ z.agrees.same_next (λ c. tt) z.agrees.same_domains;
  };
  inv = λ x l. inv_create x n.next m n.domains (z.inv x l);
}

matched : (m : List ℕ) (first n k r : ℕ) (s : State) → (not (is_via (kind_numbered k r)) || parent_same m first n s) ≡ true
    → (not (is_some (rule_of (kind_numbered k r))) || rule_fits m r first n s) ≡ true → Matched m first n (kind_numbered k r) s
matched m first n zero r s p q = tt
matched m first n (suc zero) r s p q = p
matched m first n (suc (suc k)) r s p q = q

-- one range: in the history, too, it is the innermost domain that is named
range_sound : (cells : ℕ) (s : State) (m : List ℕ) (n : History) (h : ℕ) (r : Range) (rest : ℕ) → RangeAsked cells m r s rest → named h s ≡ length s.domains
    → Sound s m n → Sound (add_range m r s) m (with_domains (add_line m h r n.domains) n)
range_sound cells s m n h r rest y last z =
    let kind = kind_numbered r.kind r.rule in
    let same_name : named_among h n.domains ≡ length n.domains =
    sym (agree_named h s n.domains z.agrees.same_domains) ∙ last ∙ agree_length z.agrees.same_domains in
    let inner : add_line m h r n.domains ≡ at_innermost (add_tracked m r.first r.count (label_numbered r.label)) n.domains =
    ap (λ (d : ℕ). at_depth d (add_tracked m r.first r.count (label_numbered r.label)) n.domains) same_name ∙ at_length _ n.domains in
    subst (λ (qs : List Tracked). Sound (add_range m r s) m (with_domains qs n)) (sym inner)
    (record {
      agrees = record {
        same_next = z.agrees.same_next;
        same_domains = agree_add m r.first r.count kind (label_numbered r.label) s n.domains
            (matched m r.first r.count r.kind r.rule s y.same y.rules) z.agrees.same_domains;
      };
      inv = λ x b. inv_add x r.first r.count (label_numbered r.label) m n.domains (z.inv x b);
    })

-- a list, range by range
ranges_sound : (cells : ℕ) (s : State) (m : List ℕ) (n : History) (h : ℕ) (rs : List Range) (rest : ℕ) → list_checks cells m rs s rest ≡ 0
    → named h s ≡ length s.domains → Sound s m n → Sound (add_ranges m rs s) m (with_domains (add_lines m h rs n.domains) n)
ranges_sound cells s m n h [] rest q last z = z
ranges_sound cells s m n h (r ∷ rs) rest q last z =
    let y = range_asked cells m r s _ q in
    let still : named h (add_range m r s) ≡ length (add_range m r s).domains =
    ranges_named m (r ∷ []) s h ∙ last ∙ sym (ranges_length m (r ∷ []) s) in
    ranges_sound cells (add_range m r s) m (with_domains (add_line m h r n.domains) n) h rs rest y.onward still (range_sound cells s m n h r _ y last z)

pub add_sound : (room : Room) (s : State) (m : List ℕ) (n : History) (h : ℕ) (rs : List Range) → add_checks room m h rs s ≡ 0 → Sound s m n
    → Sound (add_ranges m rs s) m (change_line (add h rs) m n)
add_sound room s m n h rs q z =
    let y = add_asked room m h rs s q in
    ranges_sound room.cells s m n h rs _ y.ranges y.innermost z

pub delete_sound : (s : State) (m : List ℕ) (n : History) (h first c : ℕ) → Sound s m n
    → Sound (delete_from (named h s) first c s) m (change_line (delete h first c) m n)
delete_sound s m n h first c z =
    subst (λ (d : ℕ). Sound (delete_from d first c s) m (change_line (delete h first c) m n)) (sym (agree_named h s n.domains z.agrees.same_domains))
    (record {
      agrees = record {
        same_next = z.agrees.same_next;
        same_domains = agree_delete first c (named_among h n.domains) z.agrees.same_domains;
      };
      inv = λ x l. inv_delete x (get_or m x 0) first c (named_among h n.domains) n.domains (z.inv x l);
    })

pub advance_sound : (s : State) (m : List ℕ) (n : History) (h : ℕ) → Sound s m n → Sound (advanceState m s) m (change_line (advance h) m n)
advance_sound s m n h z = record {
  agrees = record { same_next = z.agrees.same_next; same_domains = agree_advance m s n.domains z.agrees.same_domains };
  inv = λ x l. inv_advance x m n.domains (z.inv x l);
}

pub commit_sound : (s : State) (m : List ℕ) (n : History) (h : ℕ) → Sound s m n → Sound (commitState s) m (change_line (commit h) m n)
commit_sound s m n h z = record {
  agrees = record { same_next = z.agrees.same_next; same_domains = agree_commit z.agrees.same_domains };
  inv = λ x l. inv_commit x (get_or m x 0) n.domains (z.inv x l);
}

-- ---- restore

pub length_restored : (d : ℕ) (s : State) (m : List ℕ) → length (restored_memory d s m) ≡ length m
unfolding restored_memory
length_restored d s m = length_tab (restored_byte d s m) (length m)

put_back : (s : State) (m : List ℕ) (n : History) (i : ℕ) → Sound s m n → (x : ℕ) → x < length m
    → get_or (restored_memory (suc i) s m) x 0 ≡ back_at i (get_or m x 0) (kept_at x n.domains)
put_back s m n i z x l = restored_byte_lem i x s m l ∙ rw (agree_bytes x z.agrees.same_domains) refl

-- the depth of the domain named, at least 1, for the state and for the history
pub record Depth (h : ℕ) (s : State) (qs : List Tracked) : Type 0 where
  pub place : ℕ
  pub in_state : suc place ≡ named h s
  pub in_history : suc place ≡ named_among h qs

pub depth : (h : ℕ) (s : State) (qs : List Tracked) → restore_checks h s ≡ 0 → SameDomains s.domains qs → Depth h s qs
depth h s qs q a =
    let l : 0 < named h s = ltb-true 0 (named h s) (ask_yes (is_live h s) 5 0 (omega arith) q) in
    let e : suc (named h s - 1) ≡ named h s = omega arith in
    record { place = named h s - 1; in_state = e; in_history = e ∙ agree_named h s qs a }

module _ (s : State) (m : List ℕ) (n : History) (h : ℕ) (q : restore_checks h s ≡ 0) (z : Sound s m n) where
  at_depth_lem : Depth h s n.domains
  at_depth_lem = depth h s n.domains q z.agrees.same_domains

  restore_at : (i : ℕ) → Sound (restored (suc i) s) (restored_memory (suc i) s m) (with_domains (take (suc i) n.domains) n)
  restore_at i = record {
    agrees = record { same_next = z.agrees.same_next; same_domains = agree_take (suc i) z.agrees.same_domains };
    inv = λ x l.
        let b : x < length m = subst (λ (k : ℕ). x < k) (length_restored (suc i) s m) l in
        subst (λ (v : ℕ). Inv x v (take (suc i) n.domains)) (sym (put_back s m n i z x b)) (inv_restore x (get_or m x 0) i n.domains (z.inv x b));
  }

  pub restore_sound : Sound (restored (named h s) s) (restored_memory (named h s) s m) (line (restore h) (restored_memory (named h s) s m) n)
  restore_sound =
      let p = at_depth_lem in
      subst (λ (d : ℕ). Sound (restored d s) (restored_memory d s m) (line (restore h) (restored_memory d s m) n)) p.in_state
      (subst (λ (d : ℕ). Sound (restored (suc p.place) s) (restored_memory (suc p.place) s m) (with_domains (down_to d n.domains) n)) p.in_history
      (restore_at p.place))

  pub restore_zero : AllZero (completed (restore h) (restored_memory (named h s) s m) n.domains)
  restore_zero =
      let p = at_depth_lem in
      subst (λ (d : ℕ). AllZero (completed (restore h) (restored_memory d s m) n.domains)) p.in_state
      (subst (λ (d : ℕ). AllZero (count_of (restored_memory (suc p.place) s m) (tracked_at d n.domains))) p.in_history
      (count_restored m (restored_memory (suc p.place) s m) p.place n.domains
      (λ x l. put_back s m n p.place z x (subst (λ (k : ℕ). x < k) (length_restored (suc p.place) s m) l))
      (λ x l. z.inv x (subst (λ (k : ℕ). x < k) (length_restored (suc p.place) s m) l))))

  -- stopped: the domains inside are excluded, and memory is mixed
  pub restore_mixed : (now : List ℕ) → Mixed m (restored_memory (named h s) s m) now → Sound s now (with_domains (stop_line (restore h) n.domains) n)
  restore_mixed now d =
      let p = at_depth_lem in
      record {
        agrees = record { same_next = z.agrees.same_next; same_domains = agree_inside (named_among h n.domains) z.agrees.same_domains };
        inv = λ x l.
            let b : x < length m = subst (λ (k : ℕ). x < k) d.same_length l in
            subst (λ (k : ℕ). Inv x (get_or now x 0) (stop_at k)) p.in_history
            (inv_stopped x (get_or m x 0) (get_or now x 0) p.place n.domains (mix x b p.place p.in_state (d.each_byte x)) (z.inv x b));
      }
    where
      stop_at : ℕ → List Tracked
      stop_at k = exclude_inside k n.domains

      mix : (x : ℕ) → x < length m → (i : ℕ) → suc i ≡ named h s
          → (get_or now x 0 ≡ get_or m x 0) ⊎ (get_or now x 0 ≡ get_or (restored_memory (named h s) s m) x 0)
          → (get_or now x 0 ≡ get_or m x 0) ⊎ (get_or now x 0 ≡ back_at i (get_or m x 0) (kept_at x n.domains))
      mix x b i e (inl f) = inl f
      mix x b i e (inr f) =
          inr (f ∙ subst (λ (k : ℕ). get_or (restored_memory k s m) x 0 ≡ back_at i (get_or m x 0) (kept_at x n.domains)) e (put_back s m n i z x b))
