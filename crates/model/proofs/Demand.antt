-- DEMAND 3 over abstract states: in every session every count is 0. And against an empty count: the history agrees with the state throughout, and
-- every restore that is done, of a domain not excluded, is counted. Assumes nothing.
use Prim.Native.Nat.{ℕ, zero, suc, ◌<◌}
use mathlib.Core.Bool.{Bool, true, false, cond}
use mathlib.Core.List.{List, [], ◌∷◌, ◌++◌, map}
use mathlib.Core.Logic.{◌⊎◌, inl, inr}
use mathlib.Core.Option.{Option, none, some}
use mathlib.Core.Path.{◌≡◌, refl, sym, ap, subst, ◌∙◌}
use native.Mathlib.Nat.{not-suc-le-zero}
use native.Mathlib.Omega.{arith}
use borrow.Author.Tests.{eqb-false}
use lib.Dec.{leb, eqb, eqb-suc-zero}
use lib.ListN.{length, get_or}
use lib.Seq.{get_or-set_other}
use Rattle.words.specs.Stores.{Store, store, stores}
use Rattle.words.proofs.Scan.{or_split}
use Rattle.words.proofs.Plans.{length_stores}
use Rattle.model.specs.State.{State}
use Rattle.model.specs.Answer.{is_done, is_stopped, Report, done}
use Rattle.model.specs.Calls.{change, fresh, make_steps, make_state}
use Rattle.model.specs.Holdings.{Room, named}
use Rattle.model.specs.Restore.{restored_memory, restore_checks}
use Rattle.model.specs.History.{Request, changes, restore, reads, made, called, opened, Observation, observed, Tracked, History, with_domains, with_waiting, named_among, begun, is_in, write_line, line, exclude_after, exclude_inside, stop_line, finished, observe, tracked_at, count_of, mismatches, completed, completed_waiting, count_event, counts, history_after}
use Rattle.model.specs.Session.{Input, call, shown, Due, nothing_due, drop_due, finish_due, World, world, memory_of, read_checks, effect_of, memory_after, Mixed, Move, make_refused, make_done, make_stopped, call_refused, call_done, call_early, call_late, open_idle, open_drops, open_finishes, open_stopped, open_refused, written_to, Session, end, next, after_make, AllZero, SameDomains, Agrees, at_opening}
use Rattle.model.proofs.Agree.{agree_length, agree_named, agree_inside, agree_write}
use Rattle.model.proofs.Effects.{passed}
use Rattle.model.proofs.Named.{named_le}
use Rattle.model.proofs.Invariant.{Inv, inv_write}
use Rattle.model.proofs.Sound.{Sound, sound_waiting, fresh_sound, depth, restore_sound, restore_zero, restore_mixed}
use Rattle.model.proofs.Lawful.{lawful}

-- ---- any call, carried out

pub carried : (room : Room) (c : Request) (s new : State) (m : List ℕ) (n : History) (b w h : ℕ)
    → effect_of room m c s ≡ change b w h new → Sound s m n
    → Sound new (memory_after c s m) (line c (memory_after c s m) n) × AllZero (completed c (memory_after c s m) n.domains)
carried room (changes c) s new m n b w h e z = ((lawful room m c s).keeps b w h new e n z, tt)
carried room (restore a) s new m n b w h e z =
    let y = passed _ _ _ _ b w h _ new e in (
      subst (λ (t : State). Sound t (restored_memory (named a s) s m) (line (restore a) (restored_memory (named a s) s m) n)) y.leaves
          (restore_sound s m n a y.yes_to_all z),
      restore_zero s m n a y.yes_to_all z,
    )
carried room (reads r) s new m n b w h e z =
    let y = passed (read_checks room.cells r s) _ _ _ b w h _ new e in (subst (λ (t : State). Sound t m n) y.leaves z, tt)

-- ---- any call, stopped

unmixed : (s : State) (m now : List ℕ) (n : History) → Mixed m m now → Sound s m n → Sound s now n
unmixed s m now n d z = record {
  agrees = z.agrees;
  inv = λ x l.
      let b : x < length m = subst (λ (k : ℕ). x < k) d.same_length l in
      subst (λ (v : ℕ). Inv x v n.domains) (sym (either x (d.each_byte x))) (z.inv x b);
}
  where
    either : (x : ℕ) → (get_or now x 0 ≡ get_or m x 0) ⊎ (get_or now x 0 ≡ get_or m x 0) → get_or now x 0 ≡ get_or m x 0
    either x (inl e) = e
    either x (inr e) = e

pub halted : (room : Room) (c : Request) (s new : State) (m now : List ℕ) (n : History) (b w h : ℕ) → effect_of room m c s ≡ change b w h new
    → Mixed m (memory_after c s m) now → Sound s m n → Sound s now (with_waiting (some c) (with_domains (stop_line c n.domains) n))
halted room (changes c) s new m now n b w h e d z = sound_waiting (some (changes c)) (unmixed s m now n d z)
halted room (restore a) s new m now n b w h e d z =
    let y = passed _ _ _ _ b w h _ new e in sound_waiting (some (restore a)) (restore_mixed s m n a y.yes_to_all z now d)
halted room (reads r) s new m now n b w h e d z = sound_waiting (some (reads r)) (unmixed s m now n d z)

-- ---- program writes

kept_byte_lem : (ws : List Store) (m : List ℕ) (x : ℕ) → is_in x (map (λ w. w.at) ws) ≡ false → get_or (stores ws m) x 0 ≡ get_or m x 0
kept_byte_lem [] m x e = refl
kept_byte_lem (w ∷ ws) m x e =
    let o = or_split (eqb x w.at) (is_in x (map (λ v. v.at) ws)) e in
    kept_byte_lem ws (store w m) x o.1 ∙ get_or-set_other m w.at x w.val 0 (eqb-false x w.at o.0)

write_sound : (s : State) (m : List ℕ) (n : History) (ws : List Store) → Sound s m n
    → Sound s (stores ws m) (with_domains (write_line (map (λ w. w.at) ws) n.domains) n)
write_sound s m n ws z = record {
  agrees = record { same_next = z.agrees.same_next; same_domains = agree_write (map (λ w. w.at) ws) z.agrees.same_domains };
  inv = λ x l.
      let b : x < length m = subst (λ (k : ℕ). x < k) (length_stores ws m) l in
      inv_write x (get_or m x 0) (get_or (stores ws m) x 0) (map (λ w. w.at) ws) n.domains (kept_byte_lem ws m x) (z.inv x b);
}

-- ---- the whole session

-- a world and a history that go together: where an opening is to finish a call, the state is the one after that call's line
abbrev pub Matches : World → History → Type 0
Matches (world none m d) n = Unit {0}
Matches (world (some s) m nothing_due) n = Sound s m n
Matches (world (some s) m drop_due) n = Sound s m n
Matches (world (some s) m finish_due) n =
    (c : Request) × (n.waiting ≡ some c) × Sound s m (line c m n) × AllZero (completed c m n.domains)

made_state : (slots k : ℕ) (o : Option State) → leb (make_steps slots) k ≡ true → make_state slots k o ≡ some fresh
made_state slots k o e = rw e

-- stopped at budget 0 it leaves what was there, at any other no store
uncut_state : (slots : ℕ) (o : Option State) → leb (make_steps slots) 0 ≡ false → make_state slots 0 o ≡ o
uncut_state slots o e = rw e

torn_state : (slots k : ℕ) (o : Option State) → leb (make_steps slots) (suc k) ≡ false → make_state slots (suc k) o ≡ none
torn_state slots k o e = rw (e, eqb-suc-zero k)

drop_matches : (o : Option State) (m : List ℕ) (n : History) → Matches (world o m nothing_due) n → Matches (world o m drop_due) n
drop_matches none m n z = tt
drop_matches (some s) m n z = z

make_matches : (slots k : ℕ) (o : Option State) (m : List ℕ) (n : History) → leb (make_steps slots) k ≡ false → Matches (world o m nothing_due) n
    → Matches (world (make_state slots k o) m drop_due) (observe (observed (made k is_stopped) m) n)
make_matches slots zero o m n e z = subst (λ (p : Option State). Matches (world p m drop_due) n) (sym (uncut_state slots o e)) (drop_matches o m n z)
make_matches slots (suc k) o m n e z = subst (λ (p : Option State). Matches (world p m drop_due) begun) (sym (torn_state slots k o e)) tt

pub moved : {cells : ℕ} {w v : World} {i : Input} {r : Report} (n : History) → Move cells w i r v → Matches w n
    → Matches v (observe (observed (shown i r) (memory_of v)) n) × AllZero (count_event (shown i r) (memory_of v) n)
moved n make_refused z = (z, tt)
moved n (make_done {o = o} {m = m} {k = k} slots e) z =
    (subst (λ (p : Option State). Matches (world p m nothing_due) begun) (sym (made_state slots k o e)) (fresh_sound m), tt)
moved n (make_stopped {o = o} {m = m} {k = k} slots e) z = (make_matches slots k o m n e z, tt)
moved n call_refused z = (z, tt)
moved n (call_done {s = s} {new = new} {m = m} {c = c} {bytes = b} {words = w} {h = h} room f e) z = carried room c s new m n b w h e z
moved n (call_early {s = s} {new = new} {m = m} {now = now} {c = c} {bytes = b} {words = w} {h = h} room f e d) z =
    (halted room c s new m now n b w h e d z, tt)
moved n (call_late {s = s} {new = new} {m = m} {c = c} {bytes = b} {words = w} {h = h} room f e) z =
    let n' : History = with_waiting (some c) (with_domains (stop_line c n.domains) n) in
    let x : Sound s m n' = halted room c s new m m n b w h e (record { same_length = refl; each_byte = λ x. inl refl }) z in
    let y = carried room c s new m n' b w h e x in
    ((c, refl, y.0, y.1), tt)
moved n open_idle z = (sound_waiting none z, tt)
moved n open_drops z = (sound_waiting none z, tt)
moved n (open_finishes {s = s} {m = m}) z = (
  subst (λ (o : Option Request). Sound s m (finished o m n)) (sym z.1) (sound_waiting none z.2),
  subst (λ (o : Option Request). AllZero (completed_waiting o m n.domains)) (sym z.1) z.3,
)
moved n open_stopped z = (z, tt)
moved n open_refused z = (tt, tt)
moved n (written_to {o = none} {m = m} {ws = ws}) z = (tt, tt)
moved n (written_to {o = some s} {m = m} {ws = ws}) z = (write_sound s m n ws z, tt)

all_append : (ks ls : List ℕ) → AllZero ks → AllZero ls → AllZero (ks ++ ls)
all_append [] ls a b = b
all_append (k ∷ ks) ls a b = (a.0, all_append ks ls a.1 b)

pub through : {cells : ℕ} {w v : World} {l : List Observation} (n : History) → Session cells w l v → Matches w n
    → Matches v (history_after n l) × AllZero (counts n l)
through n end z = (z, tt)
through n (next {w' = w'} {i = i} {r = r} {l = l} t rest) z =
    let y = moved n t z in
    let x = through (observe (observed (shown i r) (memory_of w')) n) rest y.0 in
    (x.0, all_append (count_event (shown i r) (memory_of w') n) (counts (observe (observed (shown i r) (memory_of w')) n) l) y.1 x.1)

-- DEMAND 3: from a freshly made store, over memory of so many cells with any contents, every count of every session is 0
pub demand_3 : (cells : ℕ) (memory : List ℕ) (l : List Observation) (w : World) → Session cells (after_make memory) l w → AllZero (counts begun l)
demand_3 cells memory l w r = (through begun r (fresh_sound memory)).1

-- ---- against an empty count

-- wherever there is a store, the history agrees with it: next handle, handles in order, cells, labels and values
pub history_agrees : (cells : ℕ) (memory : List ℕ) (l : List Observation) (s : State) (m : List ℕ) (d : Due)
    → Session cells (after_make memory) l (world (some s) m d) → Agrees s (at_opening d m (history_after begun l))
history_agrees cells memory l s m nothing_due r = (through begun r (fresh_sound memory)).0.agrees
history_agrees cells memory l s m drop_due r = (sound_waiting none (through begun r (fresh_sound memory)).0).agrees
history_agrees cells memory l s m finish_due r =
    let z = (through begun r (fresh_sound memory)).0 in
    subst (λ (o : Option Request). Agrees s (finished o m (history_after begun l))) (sym z.1) (sound_waiting none z.2).agrees

tracked : (i : ℕ) (qs : List Tracked) → i < length qs → (q : Tracked) × (tracked_at (suc i) qs ≡ some q)
tracked i [] l = absurd (not-suc-le-zero l)
tracked zero (q ∷ qs) l = (q, refl)
tracked (suc i) (q ∷ qs) l = tracked i qs (omega arith)

-- the domain that a restore names, in the history
record Named (h : ℕ) (s : State) (qs : List Tracked) : Type 0 where
  pub domain : Tracked
  pub by_state : tracked_at (named h s) qs ≡ some domain
  pub by_history : tracked_at (named_among h qs) qs ≡ some domain

named_domain : (h : ℕ) (s : State) (qs : List Tracked) → restore_checks h s ≡ 0 → SameDomains s.domains qs → Named h s qs
named_domain h s qs q a =
    let p = depth h s qs q a in
    let below : p.place < length qs = let g = named_le h s in let d = p.in_state in let o = agree_length a in omega arith in
    let t = tracked p.place qs below in
    record {
      domain = t.0;
      by_state = subst (λ (d : ℕ). tracked_at d qs ≡ some t.0) p.in_state t.1;
      by_history = subst (λ (d : ℕ). tracked_at d qs ≡ some t.0) p.in_history t.1;
    }

-- every restore that is done adds exactly one count, the mismatches of the domain that it names, unless that domain is excluded
pub restore_counted : (cells : ℕ) (memory : List ℕ) (l : List Observation) (s : State) (m : List ℕ) (h k n x : ℕ) (w : World)
    → Session cells (after_make memory) l (world (some s) m nothing_due)
    → Move cells (world (some s) m nothing_due) (call (restore h) k) (done n x) w
    → (q : Tracked) × (tracked_at (named h s) (history_after begun l).domains ≡ some q)
    × (q.excluded ≡ false → count_event (called (restore h) k is_done) (memory_of w) (history_after begun l) ≡ mismatches (memory_of w) q ∷ [])
restore_counted cells memory l s m h k n x w r (call_done {new = new} {bytes = b} {words = u} room f e) =
    let a = (history_agrees cells memory l s m nothing_due r).same_domains in
    let t = named_domain h s (history_after begun l).domains (passed _ _ _ _ b u _ _ new e).yes_to_all a in (
      t.domain,
      t.by_state,
      λ g. ap (count_of (memory_of w)) t.by_history ∙ ap (λ (b : Bool). cond b [] (mismatches (memory_of w) t.domain ∷ [])) g,
    )

-- the stop of a restore leaves the domain that it names as it was
not_inside : (i : ℕ) (qs : List Tracked) → tracked_at (suc i) (exclude_after (suc i) qs) ≡ tracked_at (suc i) qs
not_inside i [] = refl
not_inside zero (q ∷ qs) = refl
not_inside (suc i) (q ∷ qs) = not_inside i qs

still_named : (d : ℕ) (qs : List Tracked) → tracked_at d (exclude_inside d qs) ≡ tracked_at d qs
still_named zero qs = refl
still_named (suc i) qs = not_inside i qs

-- and so does every restore that is stopped late, at the opening that carries it out
pub restore_counted_late : (cells : ℕ) (memory : List ℕ) (l : List Observation) (s : State) (m m' : List ℕ) (h k j i : ℕ) (r : Report) (o : Option State)
    → Session cells (after_make memory) l (world (some s) m nothing_due)
    → Move cells (world (some s) m nothing_due) (call (restore h) k) r (world o m' finish_due)
    → (q : Tracked) × (tracked_at (named h s) (history_after begun l).domains ≡ some q)
    × (q.excluded ≡ false
    → count_event (opened j is_done (suc i)) m' (observe (observed (called (restore h) k is_stopped) m') (history_after begun l)) ≡ mismatches m' q ∷ [])
restore_counted_late cells memory l s m m' h k j i r o t move = late s m h k r o m' t move
  where
    late : (s : State) (m : List ℕ) (h k : ℕ) (r : Report) (o : Option State) (m' : List ℕ)
        → Session cells (after_make memory) l (world (some s) m nothing_due)
        → Move cells (world (some s) m nothing_due) (call (restore h) k) r (world o m' finish_due)
        → (q : Tracked) × (tracked_at (named h s) (history_after begun l).domains ≡ some q)
        × (q.excluded ≡ false
        → count_event (opened j is_done (suc i)) m' (observe (observed (called (restore h) k is_stopped) m') (history_after begun l)) ≡ mismatches m' q ∷ [])
    late s m h k r o m' t (call_late {new = new} {bytes = b} {words = u} room f e) =
        let qs : List Tracked = (history_after begun l).domains in
        let a : SameDomains s.domains qs = (history_agrees cells memory l s m nothing_due t).same_domains in
        let d : Named h s qs = named_domain h s qs (passed _ _ _ _ b u _ _ new e).yes_to_all a in
        let after : named_among h (exclude_inside (named_among h qs) qs) ≡ named_among h qs =
        sym (agree_named h s (exclude_inside (named_among h qs) qs) (agree_inside (named_among h qs) a)) ∙ agree_named h s qs a in
        let there : tracked_at (named_among h (exclude_inside (named_among h qs) qs)) (exclude_inside (named_among h qs) qs) ≡ some d.domain =
        ap (λ (n : ℕ). tracked_at n (exclude_inside (named_among h qs) qs)) after ∙ still_named (named_among h qs) qs ∙ d.by_history in (
          d.domain,
          d.by_state,
          λ g. ap (count_of m') there ∙ ap (λ (b : Bool). cond b [] (mismatches m' d.domain ∷ [])) g,
        )
