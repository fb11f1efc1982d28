-- The journal (document 01: pending pairs). In all of this `first` is where the pairs begin, and a change is a word's number and its new value.
use Rattle.std.specs.Prelude.{ℕ, ◌+◌, ◌*◌, ◌≤◌, ◌<◌, Bool, true, cond, ◌&&◌, ◌||◌, List, [], ◌∷◌, ◌++◌, eqb, leb, ltb, get_or, length, set, take}
use Rattle.words.specs.Layout.{pending_at, live_at, next_at, handle_at}
use Rattle.words.specs.Stores.{Store, ◌≔◌, tab, stores}

-- ---- what pending pairs are and mean

-- pair j: a word's number, then its new value
abbrev pub pair_at : List ℕ → ℕ → ℕ → Store
pair_at t first j = get_or t (first + 2 * j) 0 ≔ get_or t (first + 2 * j + 1) 0

-- the first p pairs
unfoldable pub pairs : List ℕ → ℕ → ℕ → List Store
pairs t first p = tab p (pair_at t first)

-- how many pairs are pending
abbrev pub pending : List ℕ → ℕ
pending t = get_or t pending_at 0

-- p pairs are written: the table is long enough for them, and each names a word in front of them
abbrev pub Written : List ℕ → ℕ → ℕ → Type 0
Written t first p = (first + 2 * p ≤ length t) × (pending_at < first) × ((j : ℕ) → j < p → get_or t (first + 2 * j) 0 < first)

-- "Pending pairs name words 4, 5, 8 to 15 or an entry word": may a pair name word w?
unfoldable pub name_ok : ℕ → ℕ → Bool
name_ok first w = (eqb w live_at || eqb w next_at) || (leb (handle_at 0) w && ltb w first)

-- do the changes name such words, strictly rising from above `last`?
unfoldable pub names_ok : ℕ → ℕ → List Store → Bool
names_ok first last [] = true
names_ok first last (w ∷ ws) = name_ok first w.at && (ltb last w.at && names_ok first w.at ws)

-- "Their meaning is the table with each named word replaced": the effective table, up to where the pairs begin
unfoldable pub effective : ℕ → List ℕ → List ℕ
effective first t = take first (set (stores (pairs t first (pending t)) t) pending_at 0)

-- ---- opening: the pending pairs are put in place, in their order, and then word 6 is cleared

unfoldable pub apply_plan : List ℕ → ℕ → ℕ → List Store
apply_plan t first p = pairs t first p ++ (pending_at ≔ 0) ∷ []

-- nothing where no pair is pending
unfoldable pub open_plan : ℕ → List ℕ → List Store
open_plan first t = cond (eqb (pending t) 0) [] (apply_plan t first (pending t))

-- ---- a changing call's table part: p pairs, word 6, the p words, and word 6 again; nothing where p is 0

-- the two stores of one pair, from index i on
abbrev pub pair_plan : ℕ → ℕ → ℕ → List Store
pair_plan i word val = (i ≔ word) ∷ (i + 1 ≔ val) ∷ []

-- the pairs of some changes, written from index `at` on
abbrev pub pair_plans : ℕ → List Store → List Store
pair_plans at [] = []
pair_plans at (w ∷ ws) = (at ≔ w.at) ∷ (at + 1 ≔ w.val) ∷ pair_plans (at + 2) ws

unfoldable pub journaled : ℕ → List Store → List Store
journaled first ws = pair_plans first ws ++ (pending_at ≔ length ws) ∷ (ws ++ (pending_at ≔ 0) ∷ [])

abbrev pub journal : ℕ → List Store → List Store
journal first [] = []
journal first (w ∷ ws) = journaled first (w ∷ ws)

-- "3p + 2 steps, none if p is 0"
abbrev pub journal_steps : ℕ → ℕ
journal_steps p = cond (eqb p 0) 0 (3 * p + 2)

-- what follows once p pairs are written: their number makes them pending, then they are applied
unfoldable pub publish_plan : List ℕ → ℕ → ℕ → List Store
publish_plan t first p = (pending_at ≔ p) ∷ apply_plan t first p

unfoldable pub finish_plan : List ℕ → ℕ → ℕ → List Store
finish_plan t first p = cond (eqb p 0) [] (publish_plan t first p)

-- ---- openings that are stopped: each with its own budget, one after the other

abbrev pub openings : ℕ → List ℕ → List ℕ → List ℕ
openings first [] t = t
openings first (k ∷ ks) t = openings first ks (stores (take k (open_plan first t)) t)
