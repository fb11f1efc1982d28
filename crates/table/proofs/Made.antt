-- The fields of the first words that the calls make: that of a new entry, and an entry's own with another label, depth or kind. Assumes nothing.
use Prim.Native.Nat.{ℕ, zero, suc, ◌/◌, ◌%◌, ◌≤◌, ◌<◌}
use mathlib.Core.Path.{◌≡◌, refl, ap}
use native.Mathlib.Omega.{arith}
use Rattle.words.specs.Layout.{max_cells}
use Rattle.table.specs.Entry.{depth_of, writable_of, via_of, pattern_of, unused_of, cell_of, parent, entry_word, writable, outward, as_copy}

-- first word w has depth d, label l, the bits k (via parent) and r (by rule) of its kind, these unused bits and cell c
pub record Made (w d l k r unused c : ℕ) : Type 0 where
  pub depth : depth_of w ≡ d
  pub label : writable_of w ≡ l
  pub kind : via_of w ≡ k
  pub rule : pattern_of w ≡ r
  pub rest : unused_of w ≡ unused
  pub cell : cell_of w ≡ c

-- the bits of a kind as add numbers it
abbrev pub via_bit : ℕ → ℕ
via_bit zero = 0
via_bit (suc zero) = 1
via_bit (suc (suc k)) = 0

abbrev pub rule_bit : ℕ → ℕ
rule_bit zero = 0
rule_bit (suc zero) = 0
rule_bit (suc (suc k)) = 1

pub entry_made : (d k l c : ℕ) → l ≤ 1 → c < max_cells → Made (entry_word d k l c) d l (via_bit k) (rule_bit k) 0 c
entry_made d zero l c label small = record { depth = omega arith; label = omega arith; kind = omega arith; rule = omega arith; rest = omega arith; cell = omega arith }
entry_made d (suc zero) l c label small = record { depth = omega arith; label = omega arith; kind = omega arith; rule = omega arith; rest = omega arith; cell = omega arith }
entry_made d (suc (suc k)) l c label small = record { depth = omega arith; label = omega arith; kind = omega arith; rule = omega arith; rest = omega arith; cell = omega arith }

module _ (w : ℕ) where
  -- as it is
  pub same_made : Made w (depth_of w) (writable_of w) (via_of w) (pattern_of w) (unused_of w) (cell_of w)
  same_made = record { depth = refl; label = refl; kind = refl; rule = refl; rest = refl; cell = refl }

  pub writable_made : writable_of w ≡ 0 → Made (writable w) (depth_of w) 1 (via_of w) (pattern_of w) (unused_of w) (cell_of w)
  writable_made low = record { depth = omega arith; label = omega arith; kind = omega arith; rule = omega arith; rest = omega arith; cell = omega arith }

  pub outward_made : 1 ≤ depth_of w → Made (outward w) (parent (depth_of w)) (writable_of w) (via_of w) (pattern_of w) (unused_of w) (cell_of w)
  outward_made deep = record { depth = omega arith; label = omega arith; kind = omega arith; rule = omega arith; rest = omega arith; cell = omega arith }

  copy_above : as_copy w / 134_217_728 ≡ w / 134_217_728
  copy_above = omega arith

  pub copy_made : Made (as_copy w) (depth_of w) (writable_of w) 0 0 (unused_of w) (cell_of w)
  copy_made =
      record { depth = omega arith; label = ap (λ (x : ℕ). x % 2) copy_above; kind = omega arith; rule = omega arith; rest = omega arith; cell = omega arith }
