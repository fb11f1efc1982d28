-- A call is a refusal or a plan of stores; its outcome at a budget is what the first stores of the plan leave.
use Rattle.std.specs.Prelude.{ℕ, List, map, ◌++◌, ◌≡◌, length, take}
use Rattle.words.specs.Stores.{Store, store, run}
use Rattle.words.specs.Journal.{journal}
use Rattle.model.specs.Answer.{Report, done, stopped, refused, ended, by_number}

-- the three lent buffers
pub record Buffers : Type 0 where
  pub memory : List ℕ
  pub bodies : List ℕ
  pub table : List ℕ

abbrev pub buffers : List ℕ → List ℕ → List ℕ → Buffers
buffers m b t = record { memory = m; bodies = b; table = t }

-- "A step stores one table word, one body byte or one memory byte"
pub data Step : Type 0 where
  in_memory in_bodies in_table : Store → Step

abbrev pub step : Step → Buffers → Buffers
step (in_memory s) b = buffers (store s b.memory) b.bodies b.table
step (in_bodies s) b = buffers b.memory (store s b.bodies) b.table
step (in_table s) b = buffers b.memory b.bodies (store s b.table)

abbrev pub steps : List Step → Buffers → Buffers
steps = run step

-- a call: refused by a question's number, or carried out by these stores, with a handle to name
pub data Call : Type 0 where
  refuse : ℕ → Call
  perform : List Step → ℕ → Call

-- a changing call's stores: "bytes first", here into bodies, and then the words by the journal
abbrev pub change_plan : (first : ℕ) (bytes words : List Store) → List Step
change_plan first bytes words = map in_bodies bytes ++ map in_table (journal first words)

-- a call by the number of its questions
abbrev pub unless : ℕ → Call → Call
unless = by_number refuse

-- a call's report and the buffers that it leaves
pub record Outcome : Type 0 where
  pub report : Report
  pub buffers : Buffers

abbrev pub leaves : Report → Buffers → Outcome
leaves r b = record { report = r; buffers = b }

-- "every buffer as lent", or the first k stores of the plan made
unfoldable pub outcome : Call → ℕ → Buffers → Outcome
outcome (refuse n) k b = leaves (refused n) b
outcome (perform plan h) k b = leaves (ended (length plan) h k) (steps (take k plan) b)

-- what each exported call promises first: lent the buffers `before`, its report and the buffers `after` are its outcome
abbrev pub Makes : (Buffers → Call) → (budget : ℕ) → (before : Buffers) → Report → (after : Buffers) → Type 0
Makes call k before r after = leaves r after ≡ outcome (call before) k before
