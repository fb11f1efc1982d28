-- What a call answers, in the papers' numbers.
use Rattle.std.specs.Prelude.{ℕ, Result, Ok, Err}
use Rattle.model.specs.Answer.{Report, done, stopped, refused}
use Rattle.model.specs.Calls.{Listed, list_refused}
use Rattle.store.specs.declared.answers.Refusal.{Refusal}
use Rattle.store.specs.declared.answers.Refusal.TheVariants.{Lengths, NoStore, Pending, Corrupt, NoSuchDomain, NotInnermost, KindOrLabel, Range, TooManyDomains, NoHandleLeft, ParentLacksCell, MemoryDiffers, NotHeld, ChildRelies, NoFreeEntry, NoFreeBody, PatternDiffers, ParentHoldsByRule, NumberOfRanges}
use Rattle.store.specs.declared.answers.Ended.{Ended}
use Rattle.store.specs.declared.answers.Ended.TheVariants.{Done, Stopped}
use Rattle.store.specs.declared.answers.Listing.{Listing}

-- the question that a refusal answers no: 1 to 14, 16 and 17 of document 01, 18 to 20 of document 02
abbrev pub question : Refusal → ℕ
question Lengths = 1
question NoStore = 2
question Pending = 3
question Corrupt = 4
question NoSuchDomain = 5
question NotInnermost = 6
question KindOrLabel = 7
question Range = 8
question TooManyDomains = 9
question NoHandleLeft = 10
question ParentLacksCell = 11
question MemoryDiffers = 12
question NotHeld = 13
question ChildRelies = 14
question NoFreeEntry = 16
question NoFreeBody = 17
question PatternDiffers = 18
question ParentHoldsByRule = 19
question NumberOfRanges = 20

-- what questions answer as a number: that of the first no, and 0 where there is none
abbrev pub number_in : {A : Type 0} → Result A Refusal → ℕ
number_in (Ok a) = 0
number_in (Err why) = question why

-- how a call ended that no question refused, and what it answers, each as a report
abbrev pub told : Ended → Report
told (Done n h) = done n h
told (Stopped k) = stopped k

abbrev pub report : Result Ended Refusal → Report
report (Ok e) = told e
report (Err why) = refused (question why)

-- what list answers: a report without steps or handle beside what it gives, and zeros where it is refused
abbrev pub listing : Result Listing Refusal → Listed
listing (Ok l) = record { report = done 0 0; count = l.count; handles = l.handles }
listing (Err why) = list_refused (question why)
