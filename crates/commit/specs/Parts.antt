-- Commit's words by the parts that the code makes one after another.
use Rattle.std.specs.Prelude.{ℕ, ◌-◌, List, [], ◌∷◌, ◌++◌}
use Rattle.words.specs.Layout.{live_at}
use Rattle.words.specs.Stores.{Store, ◌≔◌}
use Rattle.table.specs.Entry.{handle_at_depth}
use Rattle.table.specs.Changes.{entry_changes}
use Rattle.commit.specs.Commit.{commit_change}

-- the words of the head, where the innermost of n domains ends
abbrev pub head_words : ℕ → List Store
head_words n = (live_at ≔ n - 1) ∷ (handle_at_depth n ≔ 0) ∷ []

-- and all the words then, of a table t of e entries
abbrev pub ending_words : (e : ℕ) → List ℕ → (n : ℕ) → List Store
ending_words e t n = head_words n ++ entry_changes e (commit_change e t n)
