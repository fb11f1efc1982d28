-- `commit::ending::Ending::commit_entry` meets its contract: by whether there is a parent. Assumes nothing.
use mathlib.Core.Path.{sym, ◌∙◌}
use borrow.Author.Tests.{leb-true, leb-false}
use Rattle.commit.proofs.ending.Ending.commit_entry.Goals as goal

pub merge_entry-requires : goal.merge_entry-requires
merge_entry-requires c = (c.requires, leb-true 2 _ (sym c.is_inner.ensures ∙ c.if-is_inner.true))

pub free_entry-requires : goal.free_entry-requires
free_entry-requires c = (c.requires, leb-false 2 _ (sym c.is_inner.ensures ∙ c.if-is_inner.false))
