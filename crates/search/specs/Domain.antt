-- Which domain a handle names.
use Rattle.std.specs.Prelude.{◌≡◌, ℕ, suc, ◌≤◌, cond, List, ◌==◌, nat_eq, nat_lt, Option, MatchOption}
use Rattle.words.specs.Scan.{first}
use Rattle.table.specs.Entry.{live, handle, innermost}

-- how many live domains lie around the one with handle h, or as many as live
abbrev pub place_of : List ℕ → ℕ → ℕ
place_of t h = first (live t) (λ k. nat_eq (handle t k) h)

-- the depth of the live domain that a handle names, 0 where it names none; "Handle 0 .. means the innermost domain"
unfoldable pub depth_named : List ℕ → ℕ → ℕ
depth_named t h = cond (h == 0) (innermost t) (cond (nat_lt (place_of t h) (live t)) (suc (place_of t h)) 0)

-- what the search for a handle answers: the depth that it names, or none
abbrev pub Named : List ℕ → ℕ → Option ℕ → Type 0
Named t h answer = MatchOption answer (depth_named t h ≡ 0) (λ d. (1 ≤ d) × (d ≡ depth_named t h))
