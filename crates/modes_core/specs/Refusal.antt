use Rattle.std.specs.Prelude.{ℕ, List, codes}
use Rattle.modes_core.specs.declared.refusals.How.{How}
use Rattle.modes_core.specs.declared.refusals.How.TheVariants.{Held, Awaited}
use Rattle.modes_core.specs.declared.refusals.Refusal.{Refusal}
use Rattle.modes_core.specs.declared.refusals.Refusal.TheVariants.{Conflict, NoMemory, LocalFull, CountFull, SimpleDeadlock, Cancelled, NotHeld, Busy, SlotsFull, StrongCounted, NotEligible, NoMoreSessions, BadConfig, TooDeep, NoNested}

-- the number of a refusal in the output of scripts
abbrev pub refusal_number : Refusal → ℕ
refusal_number (Conflict session mode how) = 1
refusal_number NoMemory = 2
refusal_number LocalFull = 3
refusal_number CountFull = 4
refusal_number (SimpleDeadlock session) = 5
refusal_number Cancelled = 6
refusal_number NotHeld = 7
refusal_number Busy = 8
refusal_number SlotsFull = 9
refusal_number StrongCounted = 10
refusal_number NotEligible = 11
refusal_number NoMoreSessions = 12
refusal_number BadConfig = 13
refusal_number TooDeep = 15
refusal_number NoNested = 16

-- what a session does with the mode that is in the way, as texts say it
abbrev pub verb_of : How → List ℕ
verb_of Held = codes "holds"
verb_of Awaited = codes "awaits"
