-- What a function of C gives back: a number, and what it stores into its out parameters.
use Rattle.std.specs.Prelude.{ℕ, ◌+◌, ◌≤◌, List, ◌≡◌, length, get_or}
use Rattle.words.specs.Layout.{cell_size}
use Rattle.words.specs.Stores.{tab}
use Rattle.patterns.specs.Pattern.{max_rule}
use Rattle.model.specs.Answer.{Status, is_done, is_stopped, is_refused}
use Rattle.model.specs.Calls.{Listed}
use Rattle.store.specs.Outcome.{Buffers, Call, Outcome, outcome}
use Rattle.look.specs.Look.{Placed, Refused, Memory, Bodies, Rule}

-- 0 when done, 255 when stopped by its budget, else the refusal's number
abbrev pub number_of : Status → (refusal : ℕ) → ℕ
number_of is_done q = 0
number_of is_stopped q = 255
number_of is_refused q = q

-- a changing call: the number, the steps made, and the buffers left
pub record Returned : Type 0 where
  pub number : ℕ
  pub steps : ℕ
  pub buffers : Buffers

abbrev pub returned : (number steps : ℕ) → Buffers → Returned
returned n s b = record { number = n; steps = s; buffers = b }

abbrev pub returned_by : Outcome → Returned
returned_by o = returned (number_of o.report.status o.report.refusal) o.report.steps o.buffers

-- what each of these functions promises: lent the buffers `before`, it gives back what the call's outcome tells
abbrev pub Returns : (Buffers → Call) → (budget : ℕ) → (before : Buffers) → (number steps : ℕ) → (after : Buffers) → Type 0
Returns call k before n s after = returned n s after ≡ returned_by (outcome (call before) k before)

-- the eight words of an array
abbrev pub eight : List ℕ → List ℕ
eight hs = tab 8 (λ j. get_or hs j 0)

-- list: the number, and how many domains are live; their handles are the eight words of the array
pub record ListedInC : Type 0 where
  pub number : ℕ
  pub count : ℕ

abbrev pub listed_in_c : (number count : ℕ) → ListedInC
listed_in_c n c = record { number = n; count = c }

abbrev pub listed_by : Listed → ListedInC
listed_by l = listed_in_c (number_of l.report.status l.report.refusal) l.count

-- look: the number; where the 64 bytes stand (1 in memory, 2 in bodies, 3 by a rule, 0 refused); their offset in that buffer; and the rule
pub record LookedInC : Type 0 where
  pub number : ℕ
  pub place : ℕ
  pub offset : ℕ
  pub rule : ℕ

abbrev pub looked_in_c : (number place offset rule : ℕ) → LookedInC
looked_in_c n p o r = record { number = n; place = p; offset = o; rule = r }

abbrev pub looked_by : Placed → LookedInC
looked_by (Refused n) = looked_in_c n 0 0 0
looked_by (Memory at) = looked_in_c 0 1 at 0
looked_by (Bodies at) = looked_in_c 0 2 at 0
looked_by (Rule r) = looked_in_c 0 3 0 r

-- the 64 bytes at that offset lie inside that buffer, and a rule is one that there is
abbrev pub OffsetWithin : (place offset rule : ℕ) → Buffers → Type 0
OffsetWithin place offset rule b =
    (place ≡ 1 → offset + cell_size ≤ length b.memory) × (place ≡ 2 → offset + cell_size ≤ length b.bodies) × (place ≡ 3 → rule ≤ max_rule)
