-- The cells that restore puts back, by the marks of all entries: those whose marks have one of the domains that it names.
use Rattle.std.specs.Prelude.{ℕ, ◌-◌, ◌/◌, ◌^◌, ◌≤◌, ◌<◌, true, false, ◌&&◌, List, ◌≡◌, leb}
use Rattle.std.specs.Int.Bits.{bit_and}
use Rattle.words.specs.Layout.{max_live}
use Rattle.marks.specs.Blocks.{run_of}
use Rattle.table.specs.Entry.{holds_in}
use Rattle.table.specs.Marks.{has, mark_of}

-- the mask of the domains from depth d inwards: as in a mark, depth k is bit k - 1, and it has every depth from d to 8
abbrev pub inwards : ℕ → ℕ
inwards d = 256 - 2 ^ d / 2

-- `held` has the domains from depth d inwards that hold cell c, and no other
abbrev pub Holders : ℕ → List ℕ → (d c held : ℕ) → Type 0
Holders e t d c held = (k : ℕ) → 1 ≤ k → k ≤ max_live → has k held ≡ (holds_in e t k c && leb d k)

-- r is the outermost depth that `held` has
pub record FirstDepth (held r : ℕ) : Type 0 where
  pub low : 1 ≤ r
  pub high : r ≤ max_live
  pub here : has r held ≡ true
  pub before : (k : ℕ) → 1 ≤ k → k < r → has k held ≡ false

-- what each mark has of the mask are the domains from depth d inwards that hold the cell
abbrev pub Tells : ℕ → List ℕ → (d mask : ℕ) → (seen : List ℕ) → Type 0
Tells e t d mask seen = (c : ℕ) → Holders e t d c (bit_and (mark_of seen c) mask)

-- in the runs from `from` on and before r, of n runs, no mark has any of the mask
pub record Unheld (mask : ℕ) (seen : List ℕ) (from n r : ℕ) : Type 0 where
  pub low : from ≤ r
  pub high : r ≤ n
  pub none : (c : ℕ) → from ≤ run_of c → run_of c < r → bit_and (mark_of seen c) mask ≡ 0
