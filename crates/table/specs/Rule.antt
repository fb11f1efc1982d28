-- Document 01, question 4: the table's rule, in a table for m cells, e entry slots and b bodies.
use Rattle.std.specs.Prelude.{ℕ, ◌-◌, Bool, true, cond, not, ◌&&◌, ◌||◌, List, ltb, leb, eqb}
use Rattle.words.specs.Layout.{max_live, pairs_at, max_pairs}
use Rattle.words.specs.Scan.{all}
use Rattle.words.specs.Journal.{pending, pairs, names_ok, effective}
use Rattle.table.specs.Entry.{live, next_handle, handle, word1, word2, depth_of, via_of, pattern_of, unused_of, cell_of, is_pattern, owns_body, has_parent, parent, find_in, holds_in}
use Rattle.patterns.specs.Pattern.{max_rule}

-- ---- words 4, 5 and 8 to 15

-- the handle before the k-th, 0 before the outermost
abbrev pub handle_before : List ℕ → ℕ → ℕ
handle_before t k = cond (eqb k 0) 0 (handle t (k - 1))

-- handles rise strictly, all from 1 and below word 5; unused words are zero
unfoldable pub handle_ok : List ℕ → ℕ → Bool
handle_ok t k = cond (ltb k (live t)) (ltb (handle_before t k) (handle t k) && ltb (handle t k) (next_handle t)) (eqb (handle t k) 0)

-- live domains 0 to 8; next handle from 1 (that it is at most 4,294,967,295 is so of every word)
unfoldable pub head_ok : List ℕ → Bool
head_ok t = leb (live t) max_live && (leb 1 (next_handle t) && all max_live (handle_ok t))

-- ---- an entry by itself

-- the second word is the body of a copy, or a rule; of via parent, which is not outermost and follows no rule, 0
abbrev pub kind_ok : (b w v : ℕ) → Bool
kind_ok b w v =
    cond (eqb (via_of w) 0) (cond (is_pattern w) (leb v max_rule) (ltb v b))
    (eqb v 0 && (has_parent (depth_of w) && eqb (pattern_of w) 0))

-- free with both words 0; or of a live depth and a cell of memory, with the other bits zero
unfoldable pub entry_ok : ℕ → ℕ → ℕ → List ℕ → ℕ → Bool
entry_ok m e b t i =
    cond (eqb (word1 e t i) 0) (eqb (word2 e t i) 0)
    (leb 1 (depth_of (word1 e t i))
    && (leb (depth_of (word1 e t i)) (live t)
    && (eqb (unused_of (word1 e t i)) 0 && (ltb (cell_of (word1 e t i)) m && kind_ok b (word1 e t i) (word2 e t i)))))

-- ---- entries beside each other

-- does the domain at depth d hold cell c by copy or via parent, and so not by a rule?
abbrev pub holds_plain : ℕ → List ℕ → ℕ → ℕ → Bool
holds_plain e t d c = holds_in e t d c && eqb (pattern_of (word1 e t (find_in e t d c))) 0

-- the parent of a via parent entry's domain holds its cell, "in a table via parent never rests on a rule"
unfoldable pub parent_ok : ℕ → List ℕ → ℕ → Bool
parent_ok e t i =
    cond (eqb (via_of (word1 e t i)) 0) true (holds_plain e t (parent (depth_of (word1 e t i))) (cell_of (word1 e t i)))

-- no depth has a cell twice, and no two copies share a body
unfoldable pub apart : ℕ → List ℕ → ℕ → ℕ → Bool
apart e t j i =
    cond (eqb (word1 e t i) 0 || eqb (word1 e t j) 0) true
    (not (eqb (depth_of (word1 e t j)) (depth_of (word1 e t i)) && eqb (cell_of (word1 e t j)) (cell_of (word1 e t i))))
    && not (owns_body (word1 e t j) && (owns_body (word1 e t i) && eqb (word2 e t j) (word2 e t i)))

abbrev pub apart_before : ℕ → List ℕ → ℕ → Bool
apart_before e t i = all i (λ j. apart e t j i)

-- the rules on words 4, 5, 8 to 15 and the entries
unfoldable pub rule_ok : ℕ → ℕ → ℕ → List ℕ → Bool
rule_ok m e b t = head_ok t && (all e (entry_ok m e b t) && (all e (parent_ok e t) && all e (apart_before e t)))

-- ---- question 4: the pending pairs, and the rules of the table that they mean

unfoldable pub pairs_ok : ℕ → List ℕ → Bool
pairs_ok e t = leb (pending t) (max_pairs e) && names_ok (pairs_at e) 0 (pairs t (pairs_at e) (pending t))

unfoldable pub table_ok : ℕ → ℕ → ℕ → List ℕ → Bool
table_ok m e b t = pairs_ok e t && rule_ok m e b (effective (pairs_at e) t)
