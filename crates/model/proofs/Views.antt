-- What the calls leave to be seen at any budget is among what sessions allow; and the first holder, found by a search over depths. Assumes nothing.
use Prim.Native.Nat.{ℕ, zero, suc, ◌+◌, ◌-◌, ◌*◌, ◌≤◌, ◌<◌}
use mathlib.Core.Bool.{Bool, true, false, cond, true≢false, false≢true}
use mathlib.Core.List.{List, [], ◌∷◌}
use mathlib.Core.Logic.{◌⊎◌, inl, inr}
use mathlib.Core.Option.{Option, none, some}
use mathlib.Core.Path.{◌≡◌, refl, sym, ap, subst, ◌∙◌}
use native.Mathlib.Nat.{zero-add, suc-add, suc-sub-suc, sub-zero}
use native.Mathlib.Omega.{arith}
use borrow.Author.Tests.{ltb-true, ltb-false, leb-true, lt-ltb, eqb-true, eqb-false}
use lib.Dec.{leb, ltb, eqb, leb-zero, eqb-suc-zero}
use lib.ListN.{length, get_or, drop, get_or-eq_default}
use Rattle.words.specs.Scan.{first}
use Rattle.words.specs.Stores.{tab}
use Rattle.words.specs.Cells.{cell_bytes}
use Rattle.words.proofs.Scan.{by_bool, by_le, first_ext}
use Rattle.words.proofs.Nth.{count_below}
use Rattle.words.proofs.Plans.{length_tab, get_or_tab, tab_below}
use Rattle.model.specs.State.{Holding, Domain, State}
use Rattle.model.specs.Answer.{Report, done, stopped, ended, View, view, steps_of}
use Rattle.model.specs.Calls.{Effect, refuse, change, viewed, make_steps, make_state, make_view, open_steps, open_view, viewed_with}
use Rattle.model.specs.Holdings.{Room, named, holding_at, is_held, value_or}
use Rattle.model.specs.Restore.{cell_of_byte, place_in_cell, or_inner, first_held, outermost, restored_byte, restored_memory, cells_put_back, restore_checks, memory_after_steps}
use Rattle.model.specs.History.{Request, changes, restore, reads}
use Rattle.model.specs.Session.{make, call, opening, Due, nothing_due, drop_due, finish_due, world, effect_of, memory_after, memory_at, view_of, Mixed, Move, make_done, make_stopped, call_refused, call_done, call_early, call_late, open_idle, open_drops, open_finishes, open_stopped, Within}
use Rattle.model.proofs.Bytes.{cell_byte}
use Rattle.model.proofs.Effects.{passed}
use Rattle.model.proofs.Lawful.{no_words}

-- ---- memory after k steps of a restore

-- a byte of a cell that nobody holds stays
unheld_byte : (d x : ℕ) (s : State) (m : List ℕ) → is_held (outermost d (cell_of_byte x) s) ≡ false → restored_byte d s m x ≡ get_or m x 0
unheld_byte d x s m e = go (outermost d (cell_of_byte x) s) e
  where
    go : (o : Option Holding) → is_held o ≡ false → get_or (value_or (cell_bytes m (cell_of_byte x)) o) (place_in_cell x) 0 ≡ get_or m x 0
    go none e = cell_byte m x
    go (some h) e = absurd (true≢false e)

abbrev rank : (d x : ℕ) → State → ℕ
rank d x s = 64 * cells_put_back (cell_of_byte x) d s + place_in_cell x

-- once all the bytes are stored memory is restored
pub all_stored : (cells k d : ℕ) (s : State) (m : List ℕ) → length m ≡ 64 * cells → 64 * cells_put_back cells d s ≤ k
    → memory_after_steps k d s m ≡ restored_memory d s m
unfolding memory_after_steps restored_memory
all_stored cells k d s m size l = tab_below _ (restored_byte d s m) (length m) (λ x b. one x b)
  where
    one : (x : ℕ) → x < length m → cond (ltb (rank d x s) k) (restored_byte d s m x) (get_or m x 0) ≡ restored_byte d s m x
    one x b =
        by_bool (is_held (outermost d (cell_of_byte x) s))
        (λ e.
        let c : cell_of_byte x < cells = omega arith in
        let below : cells_put_back (cell_of_byte x) d s < cells_put_back cells d s = count_below (λ c. is_held (outermost d c s)) (cell_of_byte x) cells c e in
        let p : place_in_cell x < 64 = omega arith in
        let r : rank d x s < k = omega arith in
        rw (lt-ltb (rank d x s) k r))
        (λ e. by_bool (ltb (rank d x s) k) (λ t. rw t) (λ t. rw t (sym (unheld_byte d x s m e))))

-- and until then each byte is the old one or the new one
pub part_stored : (k d : ℕ) (s : State) (m : List ℕ) → Mixed m (restored_memory d s m) (memory_after_steps k d s m)
unfolding memory_after_steps restored_memory
part_stored k d s m = record { same_length = length_tab _ (length m); each_byte = λ x. by_le (suc x) (length m) (λ b. inside x b) (λ b. outside x b) }
  where
    step : ℕ → ℕ
    step x = cond (ltb (rank d x s) k) (restored_byte d s m x) (get_or m x 0)

    inside : (x : ℕ) → x < length m
        → (get_or (tab (length m) step) x 0 ≡ get_or m x 0) ⊎ (get_or (tab (length m) step) x 0 ≡ get_or (tab (length m) (restored_byte d s m)) x 0)
    inside x b =
        by_bool (ltb (rank d x s) k)
        (λ t.
        let e : step x ≡ restored_byte d s m x = rw t in
        inr (get_or_tab step (length m) x 0 b ∙ e ∙ sym (get_or_tab (restored_byte d s m) (length m) x 0 b)))
        (λ t.
        let e : step x ≡ get_or m x 0 = rw t in
        inl (get_or_tab step (length m) x 0 b ∙ e))

    outside : (x : ℕ) → length m < suc x
        → (get_or (tab (length m) step) x 0 ≡ get_or m x 0) ⊎ (get_or (tab (length m) step) x 0 ≡ get_or (tab (length m) (restored_byte d s m)) x 0)
    outside x b =
        let l : length (tab (length m) step) ≤ x = let e = length_tab step (length m) in omega arith in
        let g : length m ≤ x = omega arith in
        inl (get_or-eq_default (tab (length m) step) 0 l ∙ sym (get_or-eq_default m 0 g))

-- ---- a call at any budget

-- a call that changes no memory
pub viewed_plain : (e : Effect) (k : ℕ) (s : State) (m : List ℕ) → viewed_with e k s m m ≡ viewed e k s m
viewed_plain (refuse n) k s m = refl
viewed_plain (change b w h new) k s m = refl

pub memory_whole : (room : Room) (c : Request) (s new : State) (m : List ℕ) (k b w h : ℕ) → length m ≡ 64 * room.cells
    → effect_of room m c s ≡ change b w h new → b ≤ k → memory_at k c s m ≡ memory_after c s m
memory_whole room (changes c) s new m k b w h size e l = refl
memory_whole room (restore a) s new m k b w h size e l =
    let y : 64 * cells_put_back room.cells (named a s) s ≡ b = (passed (restore_checks a s) _ _ _ b w h _ new e).bytes in
    all_stored room.cells k (named a s) s m size (omega arith)
memory_whole room (reads r) s new m k b w h size e l = refl

unmoved : (m : List ℕ) → Mixed m m m
unmoved m = record { same_length = refl; each_byte = λ x. inl refl }

pub memory_mixed : (c : Request) (s : State) (m : List ℕ) (k : ℕ) → Mixed m (memory_after c s m) (memory_at k c s m)
memory_mixed (changes c) s m k = unmoved m
memory_mixed (restore a) s m k = part_stored k (named a s) s m
memory_mixed (reads r) s m k = unmoved m

pub bytes_first : (b w : ℕ) → b ≤ steps_of b w
bytes_first b w = omega arith

steps_past : (b w : ℕ) → (w ≡ 0 → ⊥) → b + 2 * w < steps_of b w
steps_past b w f = by_bool (eqb w 0) (λ e. absurd (f (eqb-true w 0 e))) (λ e. rw e (omega arith))

-- a call that is done has left its new state, also where it replaces no word
pub state_whole : (room : Room) (c : Request) (s new : State) (m : List ℕ) (k b w h : ℕ) → Within room.cells s
    → effect_of room m c s ≡ change b w h new → steps_of b w ≤ k → cond (ltb (b + 2 * w) k) new s ≡ new
state_whole room c s new m k b w h within e l =
    by_bool (ltb (b + 2 * w) k) (λ t. rw t)
    (λ t. rw t (by_bool (eqb w 0) (λ z. sym (no_words room c s m within b h new (e ∙ ap (λ (n : ℕ). change b n h new) (eqb-true w 0 z))))
    (λ z. absurd (let past = steps_past b w (eqb-false w 0 z) in let not_yet = ltb-false (b + 2 * w) k t in omega arith))))

-- Which opening a call of this effect leaves due at budget k: none where it is refused or done; one that makes the call where the stop falls
-- behind the store of word 6, and one that takes no step where it falls before.
abbrev pub due_after : Effect → (k : ℕ) → Due
due_after (refuse n) k = nothing_due
due_after (change b w h new) k = cond (leb (steps_of b w) k) nothing_due (cond (ltb (b + 2 * w) k) finish_due drop_due)

-- What any call on a store leaves to be seen, at any budget and in any room, is a move of a session, and leaves that opening due.
pub view_moves : (k : ℕ) (room : Room) (c : Request) (s : State) (m : List ℕ) → length m ≡ 64 * room.cells → Within room.cells s
    → Move room.cells (world (some s) m nothing_due) (call c k) (view_of room c k s m).report
    (world (view_of room c k s m).state (view_of room c k s m).memory (due_after (effect_of room m c s) k))
unfolding ended
view_moves k room c s m size within = go (effect_of room m c s) refl
  where
    Goal : View → Due → Type 0
    Goal v d = Move room.cells (world (some s) m nothing_due) (call c k) v.report (world v.state v.memory d)

    finished : (b w h : ℕ) (new : State) → effect_of room m c s ≡ change b w h new → steps_of b w ≤ k
        → Goal (view (done (steps_of b w) h) (some (cond (ltb (b + 2 * w) k) new s)) (memory_at k c s m)) nothing_due
    finished b w h new e l =
        let whole = memory_whole room c s new m k b w h size e (let z = bytes_first b w in omega arith) in
        subst (λ (t : State). Goal (view (done (steps_of b w) h) (some t) (memory_at k c s m)) nothing_due) (sym (state_whole room c s new m k b w h within e l))
        (subst (λ (n : List ℕ). Goal (view (done (steps_of b w) h) (some new) n) nothing_due) (sym whole) (call_done room refl e))

    cut : (b w h : ℕ) (new : State) (t : Bool) → effect_of room m c s ≡ change b w h new → ltb (b + 2 * w) k ≡ t
        → Goal (view (stopped k) (some (cond t new s)) (memory_at k c s m)) (cond t finish_due drop_due)
    cut b w h new true e t =
        let past = ltb-true (b + 2 * w) k t in
        subst (λ (n : List ℕ). Goal (view (stopped k) (some new) n) finish_due) (sym (memory_whole room c s new m k b w h size e (omega arith)))
        (call_late room refl e)
    cut b w h new false e t = call_early room refl e (memory_mixed c s m k)

    go : (e : Effect) → effect_of room m c s ≡ e → Goal (viewed_with e k s m (memory_at k c s m)) (due_after e k)
    go (refuse q) e = call_refused
    go (change b w h new) e =
        by_bool (leb (steps_of b w) k)
        (λ t. rw t (finished b w h new e (leb-true (steps_of b w) k t)))
        (λ t. rw t (cut b w h new (ltb (b + 2 * w) k) e refl))

-- ---- make and open at any budget

-- a make that is stopped leaves an opening due that takes no step: nothing of it is made later
pub make_moves : (cells slots k : ℕ) (o : Option State) (m : List ℕ)
    → Move cells (world o m nothing_due) (make k) (make_view slots k o m).report
    (world (make_view slots k o m).state m (cond (leb (make_steps slots) k) nothing_due drop_due))
unfolding ended
make_moves cells slots k o m = go (leb (make_steps slots) k) refl
  where
    go : (t : Bool) → leb (make_steps slots) k ≡ t
        → Move cells (world o m nothing_due) (make k) (cond t (done (make_steps slots) 0) (stopped k)) (world (make_state slots k o) m (cond t nothing_due drop_due))
    go true e = make_done slots e
    go false e = make_stopped slots e

-- with nothing pending it takes no step, whichever opening was due
open_at_once : (k : ℕ) (s : State) (m : List ℕ) → (open_view 0 k s m).report ≡ done 0 0
unfolding ended
open_at_once k s m = ap (λ (b : Bool). cond b (done 0 0) (stopped k)) (leb-zero k)

pub open_idle_moves : (cells k : ℕ) (s : State) (m : List ℕ)
    → Move cells (world (some s) m nothing_due) (opening k) (open_view 0 k s m).report (world (some s) m nothing_due)
open_idle_moves cells k s m =
    subst (λ (r : Report). Move cells (world (some s) m nothing_due) (opening k) r (world (some s) m nothing_due)) (sym (open_at_once k s m)) open_idle

pub open_drop_moves : (cells k : ℕ) (s : State) (m : List ℕ)
    → Move cells (world (some s) m drop_due) (opening k) (open_view 0 k s m).report (world (some s) m nothing_due)
open_drop_moves cells k s m =
    subst (λ (r : Report). Move cells (world (some s) m drop_due) (opening k) r (world (some s) m nothing_due)) (sym (open_at_once k s m)) open_drops

-- with p + 1 pairs pending
open_takes : (p : ℕ) → open_steps (suc p) ≡ suc (suc p)
open_takes p = rw (eqb-suc-zero p) (omega arith)

-- an opening that is stopped leaves the same one due
pub open_finish_moves : (cells p k : ℕ) (s : State) (m : List ℕ)
    → Move cells (world (some s) m finish_due) (opening k) (open_view (suc p) k s m).report
    (world (some s) m (cond (leb (open_steps (suc p)) k) nothing_due finish_due))
unfolding ended
open_finish_moves cells p k s m = go (leb (open_steps (suc p)) k)
  where
    go : (t : Bool) → Move cells (world (some s) m finish_due) (opening k) (cond t (done (open_steps (suc p)) 0) (stopped k)) (world (some s) m (cond t nothing_due finish_due))
    go true =
        subst (λ (n : ℕ). Move cells (world (some s) m finish_due) (opening k) (done n 0) (world (some s) m nothing_due)) (sym (open_takes p)) open_finishes
    go false = open_stopped

-- ---- "the search runs from the named domain inwards and ends at the first holder"

or_inner_held : (o r : Option Holding) → is_held o ≡ true → or_inner o r ≡ o
or_inner_held none r e = absurd (false≢true e)
or_inner_held (some h) r e = refl

or_inner_not : (o r : Option Holding) → is_held o ≡ false → or_inner o r ≡ r
or_inner_not none r e = refl
or_inner_not (some h) r e = absurd (true≢false e)

-- from the outermost
search_all : (c : ℕ) (ds : List Domain) → first_held ds c ≡ holding_at ds (suc (first (length ds) (λ k. is_held (holding_at ds (suc k) c)))) c
unfolding first
search_all c [] = refl
search_all c (d ∷ ds) =
    let rest = search_all c ds in
    by_bool (is_held (d.holds c))
    (λ e. rw e (or_inner_held (d.holds c) (first_held ds c) e))
    (λ e. rw e (or_inner_not (d.holds c) (first_held ds c) e ∙ rest))

-- from the domain at depth i + 1
search_from : (c i : ℕ) (ds : List Domain)
    → first_held (drop i ds) c ≡ holding_at ds (suc (i + first (length ds - i) (λ k. is_held (holding_at ds (suc (i + k)) c)))) c
search_from c zero ds =
    let n : length ds - 0 ≡ length ds = sub-zero (length ds) in
    let same : first (length ds - 0) (λ k. is_held (holding_at ds (suc (0 + k)) c)) ≡ first (length ds) (λ k. is_held (holding_at ds (suc k) c)) =
    ap (λ (j : ℕ). first j (λ k. is_held (holding_at ds (suc (0 + k)) c))) n
    ∙ first_ext (length ds) _ (λ k. is_held (holding_at ds (suc k) c)) (λ k l. ap (λ (j : ℕ). is_held (holding_at ds (suc j) c)) (zero-add k)) in
    search_all c ds ∙ sym (ap (λ (j : ℕ). holding_at ds (suc j) c) (zero-add _ ∙ same))
search_from c (suc i) [] = refl
search_from c (suc i) (d ∷ ds) =
    let n : length (d ∷ ds) - suc i ≡ length ds - i = suc-sub-suc (length ds) i in
    let same : first (length (d ∷ ds) - suc i) (λ k. is_held (holding_at (d ∷ ds) (suc (suc i + k)) c))
    ≡ first (length ds - i) (λ k. is_held (holding_at ds (suc (i + k)) c)) =
    ap (λ (j : ℕ). first j (λ k. is_held (holding_at (d ∷ ds) (suc (suc i + k)) c))) n
    ∙ first_ext (length ds - i) _ (λ k. is_held (holding_at ds (suc (i + k)) c))
    (λ k l. ap (λ (j : ℕ). is_held (holding_at (d ∷ ds) (suc j) c)) (suc-add i k)) in
    search_from c i ds
    ∙ sym (ap (λ (j : ℕ). holding_at (d ∷ ds) (suc j) c) (ap (λ (j : ℕ). suc i + j) same ∙ suc-add i _))

pub outermost_search : (d c : ℕ) (s : State) → 0 < d
    → outermost d c s ≡ holding_at s.domains (d + first (suc (length s.domains) - d) (λ k. is_held (holding_at s.domains (d + k) c))) c
outermost_search zero c s l = absurd (omega arith)
outermost_search (suc i) c s l =
    let n : suc (length s.domains) - suc i ≡ length s.domains - i = suc-sub-suc (length s.domains) i in
    let same : first (suc (length s.domains) - suc i) (λ k. is_held (holding_at s.domains (suc i + k) c))
    ≡ first (length s.domains - i) (λ k. is_held (holding_at s.domains (suc (i + k)) c)) =
    ap (λ (j : ℕ). first j (λ k. is_held (holding_at s.domains (suc i + k) c))) n
    ∙ first_ext (length s.domains - i) _ (λ k. is_held (holding_at s.domains (suc (i + k)) c))
    (λ k b. ap (λ (j : ℕ). is_held (holding_at s.domains j c)) (suc-add i k)) in
    search_from c i s.domains ∙ sym (ap (λ (j : ℕ). holding_at s.domains j c) (ap (λ (j : ℕ). suc i + j) same ∙ suc-add i _))
