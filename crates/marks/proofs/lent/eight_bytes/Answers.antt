-- `marks::lent::eight_bytes` meets its contract. Assumes nothing.
use Prim.Native.Nat.{ℕ, ◌+◌, ◌<◌}
use mathlib.Core.Path.{◌≡◌, ◌∙◌}
use borrow.Author.Rules.{rules}
use lib.ListN.{get_or}
use Rattle.marks.proofs.Blocks.{packed_eight}
use Rattle.marks.proofs.lent.eight_bytes.Goals as goal

pub returns-clause-number : goal.returns-clause-number
returns-clause-number c =
    let a = c.args in
    let each : (j : ℕ) → j < 8 → get_or c.from_fn.result j 0 ≡ get_or a.seen.now (a.at + j) 0 = search rules in
    c.from_le_bytes.ensures ∙ packed_eight a.seen.now a.at c.from_fn.result each
