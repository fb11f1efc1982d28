-- What the questions put before those on room tell, of the table that they hand out. Assumes nothing.
use Prim.Native.Nat.{ℕ, ◌≤◌}
use mathlib.Core.List.{List}
use mathlib.Core.Path.{◌≡◌, refl, sym, ◌∙◌}
use native.Mathlib.Omega.{arith}
use lib.ListN.{length}
use Rattle.words.specs.Layout.{cells_of, bodies_of, slots_of}
use Rattle.table.specs.Entry.{live}
use Rattle.table.specs.Marks.{Reached, AllMarked}
use Rattle.table.specs.declared.lent.Sound.{Sound}
use Rattle.table.proofs.Rule.{ok_make}
use Rattle.store.specs.Outcome.{buffers}
use Rattle.store.specs.Checks.{store_check, ask_innermost_in, lent}
use Rattle.store.specs.Lent.{SoundOf}
use Rattle.store.proofs.Checks.{or_else_go, store_lengths}
use Rattle.store.proofs.Named.{innermost_then, innermost_named}
use Rattle.store.proofs.Raw.{check_rule}
use Rattle.advance.specs.Advance.{advance_check}
use Rattle.advance.specs.Notes.{entries_check, Comparable}
use Rattle.advance.proofs.Noting.{entries_cells}
use Rattle.advance.proofs.Advanced.{check_is}

module _ (memory bodies t : List ℕ) (h top : ℕ) (s : Sound) (is : SoundOf t top s)
    (pass : 0 ≡ store_check (lent (length memory) (length bodies) t)) (inner : 0 ≡ ask_innermost_in t h 0) where
  pub lives : 1 ≤ live t
  lives = (innermost_named t h 0 inner refl).1

  pub asked : (x : ℕ) → x ≡ entries_check memory bodies s.entries.slots s.entries.words.now → x ≡ advance_check (buffers memory bodies t) h
  asked x e =
      rw (is.words, is.slots) at e
      ∙ entries_cells memory bodies t (check_rule (length memory) (length bodies) t (sym pass)) lives
      ∙ innermost_then t h _ _ inner refl
      ∙ sym (check_is _ _ ∙ or_else_go _ _ (sym pass))

  pub comparable : Reached t top → (seen used : List ℕ) → AllMarked (slots_of (length t)) t seen used
      → Comparable memory bodies s.entries.slots s.entries.words.now s.entries.top (live s.entries.words.now) seen
  comparable reached seen used marks =
      let f = store_lengths (length memory) (length bodies) t (sym pass) in
      rw (is.words, is.slots, is.ends) (record {
        slots = f.slots_high;
        words = omega (arith, f.table_exact);
        right = ok_make (cells_of (length memory)) (slots_of (length t)) (bodies_of (length bodies)) t (check_rule (length memory) (length bodies) t (sym pass));
        ends = (reached f.slots_low f.slots_high).0;
        low = lives;
        marked = marks.cells;
        kept = marks.kept;
      })
