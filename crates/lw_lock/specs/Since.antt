-- What a step makes of what has come since an earlier state, whichever that was.

-- This has come since some state.
abbrev pub IsSince : {S : Type 0} → (S → S → Type 0) → S → Type 0
IsSince {S} comes now = (first : S) × comes first now

-- What had come since any state has come still.
abbrev pub StaysSince : {S : Type 0} → (S → S → Type 0) → S → S → Type 0
StaysSince {S} comes before after = (first : S) → comes first before → comes first after

-- What has come since any state turns into this.
abbrev pub TurnsInto : {S : Type 0} → (S → S → Type 0) → (S → S → Type 0) → S → S → Type 0
TurnsInto {S} comes turns before after = (first : S) → comes first before → turns first after

-- What has come since any state turns into this, where something comes in hand.
abbrev pub Gains : {S G : Type 0} → (S → S → Type 0) → (S → S → G → Type 0) → S → S → G → Type 0
Gains {S} comes has before after got = (first : S) → comes first before → has first after got

-- Something is in hand, and this has come since some state.
abbrev pub IsSinceWith : {S G : Type 0} → (S → S → G → Type 0) → S → Type 0
IsSinceWith {S} {G} has now = (first : S) × (got : G) × has first now got

-- What has come since any state, where something is in hand, turns into this.
abbrev pub Carries : {S G : Type 0} → (S → S → G → Type 0) → (S → S → G → Type 0) → S → S → Type 0
Carries {S} {G} has turns before after = (first : S) (got : G) → has first before got → turns first after got
