-- `commit::tell_writable` meets its contract (proofs/Deciding.antt). Assumes nothing.
use mathlib.Core.Path.{sym, ◌∙◌}
use borrow.Author.Tests.{leb-false}
use Rattle.commit.proofs.Deciding.{tells_after, tells_outermost}
use Rattle.commit.proofs.tell_writable.Goals as goal

pub returns-then-not-is_inner : goal.returns-then-not-is_inner
returns-then-not-is_inner c = tells_outermost _ _ _ _ (leb-false 2 _ (sym c.is_inner.ensures ∙ c.if-not-is_inner.true))

pub returns : goal.returns
returns c = tells_after _ _ _ _ _ c.requires.1 c.keep_writable.ensures
