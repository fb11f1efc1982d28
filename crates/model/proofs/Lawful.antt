-- What is proved of each changing call on a state, in one list: the laws of every call go by it. Assumes nothing.
use Prim.Native.Nat.{ℕ}
use mathlib.Core.List.{List}
use mathlib.Core.Path.{◌≡◌, refl, sym, subst, ◌∙◌}
use native.Mathlib.Omega.{arith}
use Rattle.model.specs.State.{State}
use Rattle.model.specs.Calls.{create_checks, change, or_refuse}
use Rattle.model.specs.Holdings.{Room, named, add_checks, delete_checks, advance_checks, commit_checks}
use Rattle.model.specs.Restore.{restore_checks}
use Rattle.model.specs.History.{Changing, create, add, delete, advance, commit, Request, changes, restore, reads, change_line, History}
use Rattle.model.specs.Session.{change_effect, read_checks, effect_of, Within}
use Rattle.model.proofs.Effects.{passed}
use Rattle.model.proofs.Sound.{Sound, create_sound, add_sound, delete_sound, advance_sound, commit_sound}
use Rattle.model.proofs.Idle.{add_idle, delete_some, advance_idle, restore_idle}

-- A changing call on a state: carried out it keeps state, memory and history together, and where it replaces no word it leaves the state as it is.
pub record Lawful (room : Room) (m : List ℕ) (c : Changing) (s : State) : Type 0 where
  pub keeps : (b w h : ℕ) (new : State) → change_effect room m c s ≡ change b w h new → (n : History) → Sound s m n → Sound new m (change_line c m n)
  pub idle : (b h : ℕ) (new : State) → change_effect room m c s ≡ change b 0 h new → Within room.cells s → new ≡ s

-- by the number of its questions and its effect where all are answered yes
by_questions : {room : Room} {m : List ℕ} {c : Changing} {s : State} (q b w h : ℕ) (t : State)
    → change_effect room m c s ≡ or_refuse q (change b w h t)
    → (q ≡ 0 → (n : History) → Sound s m n → Sound t m (change_line c m n))
    → (q ≡ 0 → w ≡ 0 → Within room.cells s → t ≡ s) → Lawful room m c s
by_questions {m = m} {c = c} q b w h t is keeps idle = record {
  keeps = λ b' w' h' new e n z.
      let y = passed q b w h b' w' h' t new (sym is ∙ e) in
      subst (λ (x : State). Sound x m (change_line c m n)) y.leaves (keeps y.yes_to_all n z);
  idle = λ b' h' new e within.
      let y = passed q b w h b' 0 h' t new (sym is ∙ e) in
      sym y.leaves ∙ idle y.yes_to_all y.words within;
}

pub lawful : (room : Room) (m : List ℕ) (c : Changing) (s : State) → Lawful room m c s
lawful room m create s =
    by_questions (create_checks s) _ _ _ _ refl
    (λ q t z. create_sound s m t z)
    (λ q none w. absurd (omega arith))
lawful room m (add h rs) s =
    by_questions (add_checks room m h rs s) _ _ _ _ refl
    (λ q t z. add_sound room s m t h rs q z)
    (λ q none w. add_idle room m h rs s q (omega arith))
lawful room m (delete h first n) s =
    by_questions (delete_checks room.cells h first n s) _ _ _ _ refl
    (λ q t z. delete_sound s m t h first n z)
    (λ q none w. absurd (let one = delete_some room.cells h first n s q in omega arith))
lawful room m (advance h) s =
    by_questions (advance_checks room m h s) _ _ _ _ refl
    (λ q t z. advance_sound s m t h z)
    (λ q none w. advance_idle room.cells m s w (omega arith))
lawful room m (commit h) s =
    by_questions (commit_checks h s) _ _ _ _ refl
    (λ q t z. commit_sound s m t h z)
    (λ q none w. absurd (omega arith))

-- any call that replaces no word leaves the state as it is
pub no_words : (room : Room) (c : Request) (s : State) (m : List ℕ) → Within room.cells s
    → (b h : ℕ) (new : State) → effect_of room m c s ≡ change b 0 h new → new ≡ s
no_words room (changes c) s m w b h new e = (lawful room m c s).idle b h new e w
no_words room (restore a) s m w b h new e =
    let y = passed (restore_checks a s) _ _ _ b 0 h _ new e in
    sym y.leaves ∙ restore_idle room.cells (named a s) s y.words
no_words room (reads r) s m w b h new e = sym (passed (read_checks room.cells r s) _ _ _ b 0 h _ new e).leaves
