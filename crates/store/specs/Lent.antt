-- What passed questions hand out: a table to search in.
use Rattle.std.specs.Prelude.{ℕ, List, ◌≡◌, length}
use Rattle.words.specs.Layout.{slots_of}
use Rattle.table.specs.declared.lent.Sound.{Sound}
use Rattle.store.specs.Checks.{store_check, lent}

-- questions 1 to 4 let a table pass, beside memory and bodies of some lengths
pub record Passes (t : List ℕ) : Type 0 where
  pub memory : ℕ
  pub bodies : ℕ
  pub yes : store_check (lent memory bodies t) ≡ 0

-- `s` is the table of these words, whose entries from `top` on are free
pub record SoundOf (t : List ℕ) (top : ℕ) (s : Sound) : Type 0 where
  pub words : s.entries.words.now ≡ t
  pub slots : s.entries.slots ≡ slots_of (length t)
  pub ends : s.entries.top ≡ top
