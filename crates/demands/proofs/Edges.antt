-- Document 01: "The starred ones, gathered in a single list with a single proof about the rules themselves." The proof computes: every name that
-- it unfolds is a definition that a call's outcome is made of.
use mathlib.Core.Bool.{true}
use mathlib.Core.Path.{◌≡◌, refl}
use Rattle.words.specs.Scan.{all, first, count, nth}
use Rattle.words.specs.Journal.{pairs, names_ok, effective, journaled}
use Rattle.words.specs.Cells.{same_cell, cell_plan}
use Rattle.table.specs.Entry.{find_in, holds_in}
use Rattle.table.specs.Checks.{lengths_ok, header_ok}
use Rattle.table.specs.Rule.{handle_ok, head_ok, entry_ok, parent_ok, apart, rule_ok, pairs_ok, table_ok}
use Rattle.search.specs.Search.{steps_in, source_in, value_in}
use Rattle.search.specs.Domain.{depth_named}
use Rattle.search.specs.Free.{body_used, used_slots, copies, lowest_free, taker_of}
use Rattle.model.specs.Answer.{ended}
use Rattle.store.specs.Outcome.{outcome}
use Rattle.store.specs.Checks.{shape_check, table_check, make_check, store_check, create_check}
use Rattle.store.specs.State.{held_in, state_in, state_of}
use Rattle.store.specs.Calls.{fresh_word, make_plan, make_call, create_words, create_call}
use Rattle.store.specs.Means.{list_means}
use Rattle.add.specs.Add.{add_check, raise_change, change_with, add_words, add_bytes, add_call}
use Rattle.delete.specs.Delete.{delete_check, delete_change, delete_words, delete_call}
use Rattle.commit.specs.Commit.{commit_check, commit_change, commit_words, commit_call}
use Rattle.advance.specs.Advance.{give_with, advance_check, advance_words, advance_bytes, advance_call}
use Rattle.restore.specs.Restore.{restore_check, restore_bytes, restore_change, restore_words, restore_call}
use Rattle.demands.specs.Starred.{acts_hold, scenario_holds, all_hold, edge_holds, starred}

pub edges_hold : all_hold edge_holds starred ≡ true
unfolding all first count nth pairs names_ok effective journaled same_cell cell_plan find_in holds_in lengths_ok header_ok handle_ok head_ok entry_ok
    parent_ok apart rule_ok pairs_ok table_ok steps_in source_in value_in depth_named body_used used_slots copies lowest_free taker_of ended outcome shape_check table_check
    make_check store_check create_check held_in state_in state_of fresh_word make_plan make_call create_words create_call list_means add_check raise_change change_with add_words
    add_bytes add_call delete_check delete_change delete_words delete_call commit_check commit_change commit_words commit_call advance_check
    give_with advance_words advance_bytes advance_call restore_check restore_bytes restore_change restore_words restore_call acts_hold scenario_holds
edges_hold = refl
