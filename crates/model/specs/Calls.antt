-- Document 01, "The calls": what each call means for the state, with its questions and its number of steps.
use Rattle.std.specs.Prelude.{ℕ, ◌+◌, ◌*◌, ◌-◌, cond, List, [], ◌∷◌, ◌++◌, map, leb, ltb, eqb, length, replicate}
use Rattle.std.proofs.Math.Option.{Option, none, some}
use Rattle.words.specs.Layout.{pairs_at}
use Rattle.model.specs.State.{State}
use Rattle.model.specs.Answer.{Report, done, refused, ended, ask, by_number, View, view, steps_of}

-- ---- a changing call: refused, or so many bytes stored, so many words replaced by the journal, a handle to name, and the state after it

pub data Effect : Type 0 where
  refuse : ℕ → Effect
  change : (bytes words handle : ℕ) → State → Effect

abbrev pub or_refuse : ℕ → Effect → Effect
or_refuse = by_number refuse

-- What a call of this effect at budget k leaves to be seen: the new state once all the pairs and word 6 are stored, and until then the old one;
-- of memory `before` where it is refused, else `after`.
abbrev pub viewed_with : Effect → ℕ → State → (before after : List ℕ) → View
viewed_with (refuse n) k s before after = view (refused n) (some s) before
viewed_with (change bytes words h new) k s before after =
    view (ended (steps_of bytes words) h k) (some (cond (ltb (bytes + 2 * words) k) new s)) after

-- the same for a call that changes no memory
abbrev pub viewed : Effect → ℕ → State → List ℕ → View
viewed f k s m = viewed_with f k s m m

-- ---- make: "a fresh store: no domains, next handle 1, no entries"

abbrev pub fresh : State
fresh = record { next = 1; domains = [] }

abbrev pub make_steps : ℕ → ℕ
make_steps slots = pairs_at slots + 1

-- stopped at budget 0 it leaves the old store, at any other no store
abbrev pub make_state : (slots budget : ℕ) → Option State → Option State
make_state slots k old = cond (leb (make_steps slots) k) (some fresh) (cond (eqb k 0) old none)

abbrev pub make_view : (slots budget : ℕ) → Option State → List ℕ → View
make_view slots k old m = view (ended (make_steps slots) 0 k) (make_state slots k old) m

-- ---- open: "puts the pending pairs in place, in their order, and then clears word 6"; the state is the same throughout

abbrev pub open_steps : ℕ → ℕ
open_steps p = cond (eqb p 0) 0 (p + 1)

abbrev pub open_view : (pending budget : ℕ) → State → List ℕ → View
open_view p k s m = view (ended (open_steps p) 0 k) (some s) m

-- ---- create: "adds a domain inside the innermost"

abbrev pub created : State → State
created s = record { next = s.next + 1; domains = s.domains ++ (record { handle = s.next; holds = λ c. none } ∷ []) }

abbrev pub create_checks : State → ℕ
create_checks s = ask (ltb (length s.domains) 8) 9 (ask (ltb s.next 4_294_967_295) 10 0)

abbrev pub create_effect : State → Effect
create_effect s = or_refuse (create_checks s) (change 0 3 s.next (created s))

-- ---- list: "gives the number of live domains and their handles"

pub record Listed : Type 0 where
  pub report : Report
  pub count : ℕ
  pub handles : List ℕ

-- the handles in the first places of eight, and zeros after them
abbrev pub listed : State → Listed
listed s = record {
  report = done 0 0;
  count = length s.domains;
  handles = map (λ d. d.handle) s.domains ++ replicate (8 - length s.domains) 0;
}

abbrev pub list_refused : ℕ → Listed
list_refused n = record { report = refused n; count = 0; handles = replicate 8 0 }
