use Rattle.std.specs.Prelude.{◌≡◌, ◌≢◌, ◌⊎◌, ℕ, Bool, true, false, List, [], ◌∷◌, ◌++◌, flat_map}
use Rattle.local_locks.specs.declared.records.Entry.{Entry}
use Rattle.lock_world.specs.Account.{Account}
use Rattle.modes_core.specs.declared.refusals.Refusal.{Refusal}
use Rattle.shared_rule.specs.Boards.{Seated, Stack}
use Rattle.arrayvec.specs.declared.array_string.ArrayString.{ArrayString}
use Rattle.lock_manager.specs.declared.blocked.Blocked.{Blocked}
use Rattle.lock_manager.specs.Sessions.{SessionView}
use Rattle.lock_script.specs.declared.command.Command.{Command}
use Rattle.lock_script.specs.Names.{IsCalled}
use Rattle.scenario.specs.declared.answers.Answer.{Answer}
use Rattle.scenario.specs.declared.answers.Said.{Said}
use Rattle.scenario.specs.declared.answers.Said.TheVariants as said
use Rattle.scenario.specs.declared.answers.Answer.TheVariants as answer_
use Rattle.scenario.specs.Answered.{GoesOnAt, LooksAroundAt, TellsBlockedAt, WaitsOnAt}
use Rattle.scenario.specs.Answers.{Answers, Cast}
use Rattle.scenario.specs.Heard.{Heard, HearsAll, Told, Behind, Drawn, Done, told_of}
use Rattle.scenario.specs.Polled.{PollsEach}
use Rattle.scenario.specs.Waits.{GoesOn, LooksOn}

-- What is heard of a line of a script: its answer, once, and then those who go on.

module _ {B : Type 0} (seat : B → Seated) (view : B → Account) (stack : B → Stack) where
  -- A picture is drawn behind a listing, where one is wanted. Who waits for whom is looked up by the session
  -- that listed, and may be refused.
  abbrev pub DrawsPicture : Cast B → List Heard → Cast B → Type 0
  DrawsPicture old heard new =
      ((heard ≡ []) × (new ≡ old))
      ⊎ ((place : ℕ) × LooksAroundAt seat view stack old.sessions new.sessions place × (new.names ≡ old.names)
      × ((heard ≡ Drawn ∷ []) ⊎ ((name : ArrayString 16) × (refusal : Refusal) × (heard ≡ Told new.names name (said.Refused refusal) ∷ []))))

  -- A session that has begun to wait says who is in its way, where somebody wants to hear that.
  abbrev pub TellsWait : ArrayString 16 → Cast B → List Heard → Cast B → Type 0
  TellsWait name old heard new =
      ((heard ≡ []) × (new ≡ old))
      ⊎ ((place : ℕ) × (told : Blocked) × IsCalled old.sessions.waiting name.bytes place
      × TellsBlockedAt seat view stack old.sessions new.sessions place told × (new.names ≡ old.names) × (heard ≡ Behind new.names told ∷ []))

  -- What follows an answer: a picture, or who is in the way of the session that waits.
  abbrev pub Follows : Answer → Cast B → List Heard → Cast B → Type 0
  Follows answer old heard new =
      DrawsPicture old heard new
      ⊎ ((name : ArrayString 16) × (answer ≡ answer_.Said name said.Waits) × TellsWait name old heard new)

  -- A pass: each session that waits is polled once, in the byte order of their names, in which they stand.
  pub record Passes (old : Cast B) (heard : List Heard) (new : Cast B) : Type 0 where
    pub polled :
        PollsEach (LooksOn seat view stack) (GoesOn seat view stack) old.names old.sessions.waiting old.sessions.resting heard
        new.sessions.waiting new.sessions.resting
    pub names : new.names ≡ old.names

  -- passes in each of which somebody goes on
  abbrev pub Rounds : Cast B → List (List Heard) → Cast B → Type 0
  Rounds old [] new = new ≡ old
  Rounds old (heard ∷ later) new = (next : Cast B) × Passes old heard next × (heard ≢ []) × Rounds next later new

  -- Pass by pass those are heard who go on, until a pass finds nobody.
  pub record Settles (old : Cast B) (heard : List Heard) (new : Cast B) : Type 0 where
    pub rounds : List (List Heard)
    pub before : Cast B
    pub each : Rounds old rounds before
    pub last : Passes before [] new
    pub all : heard ≡ flat_map (λ those. those) rounds

module _
    {B : Type 0} (seat : B → Seated) (view : B → Account) (stack : B → Stack) (again : Bool) (database_of : SessionView B → ℕ) (entries : SessionView B → List Entry) where
  -- A command is answered, and then those are heard who go on.
  pub record Plays (old : Cast B) (command : Command) (heard : List Heard) (new : Cast B) : Type 0 where
    pub answer : Answer
    pub after : Cast B
    pub answers : Answers seat view stack again database_of entries old after command answer
    pub more : List Heard
    pub seen : Cast B
    pub follows : Follows seat view stack answer after more seen
    pub news : List Heard
    pub settles : Settles seat view stack seen news new
    pub all : heard ≡ told_of after.names answer ++ more ++ news ++ Done ∷ []

module _ {B L : Type 0} (seat : B → Seated) (view : B → Account) (stack : B → Stack) (hears : L → Heard → L → Type 0) where
  -- The session that waits at its place is polled, by whether it goes on; then that is heard.
  abbrev pub IsPollHeard : Cast B → L → ℕ → Bool → Cast B → L → Type 0
  IsPollHeard old before place false new now =
      WaitsOnAt seat view stack old.sessions new.sessions place × (new.names ≡ old.names) × (now ≡ before)
  IsPollHeard old before place true new now =
      (name : ArrayString 16) × (told : Said) × GoesOnAt seat view stack old.sessions new.sessions place name told
      × (new.names ≡ old.names) × hears before (Told old.names name told) now

  -- a pass, by whether somebody goes on
  pub record IsPassHeard (old : Cast B) (before : L) (went_on : Bool) (new : Cast B) (now : L) : Type 0 where
    pub heard : List Heard
    pub passes : Passes seat view stack old heard new
    pub hears_ : HearsAll hears before heard now
    pub none : went_on ≡ false → heard ≡ []
    pub some : went_on ≡ true → heard ≢ []
