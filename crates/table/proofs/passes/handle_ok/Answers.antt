-- `table::passes::handle_ok` meets its contract. One return for each case of `handle_ok`. Assumes nothing.
use Prim.Native.Nat.{ℕ, ◌≤◌, ◌<◌}
use mathlib.Core.Path.{subst}
use borrow.Author.Tests.{lt-ltb, le-ltb, eq-eqb, ne_eqb}
use Rattle.table.specs.Rule.{handle_ok}
use Rattle.table.proofs.passes.handle_ok.Goals as goal

pub returns-then-wide-k : goal.returns-then-wide-k
unfolding handle_ok
returns-then-wide-k c = rw (le-ltb _ _ (subst (λ (x : ℕ). x ≤ c.args.k) c.wide.ensures c.if-wide-k.true), ← c.handle_at.ensures)

pub returns-then-k-eq0 : goal.returns-then-k-eq0
unfolding handle_ok
returns-then-k-eq0 c = rw (lt-ltb _ _ (subst (λ (x : ℕ). c.args.k < x) c.wide.ensures c.if-wide-k.false), eq-eqb _ _ c.if-k-eq0.true, c.handle_at.ensures)

pub returns : goal.returns
unfolding handle_ok
returns c = rw (lt-ltb _ _ (subst (λ (x : ℕ). c.args.k < x) c.wide.ensures c.if-wide-k.false), ne_eqb _ _ c.if-k-eq0.false, c.handle_at.ensures, c.handle_at-2.ensures)
