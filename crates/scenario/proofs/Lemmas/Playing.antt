-- Passes one after another, and a line as a whole.
use Rattle.std.proofs.Common.{◌≡◌, ◌∙◌, ℕ, ◌+◌, ◌<◌, List, [], ◌∷◌, ◌++◌, append-nil, append_assoc, length, refl, sym, subst, ap, arith, length-append, true, false}
use Rattle.std.specs.Prelude.{Bool, ◌≢◌, flat_map}
use Rattle.local_locks.specs.declared.records.Entry.{Entry}
use Rattle.lock_script.specs.declared.sessions.Named.{Named}
use Rattle.lock_manager.specs.Sessions.{SessionView}
use Rattle.lock_manager.specs.WaitingSessions.{WaitingView}
use Rattle.lock_world.specs.Account.{Account}
use Rattle.shared_rule.specs.Boards.{Seated, Stack}
use Rattle.lock_script.specs.declared.command.Command.{Command}
use Rattle.scenario.specs.declared.answers.Answer.{Answer}
use Rattle.scenario.specs.Answers.{Answers, Cast}
use Rattle.scenario.specs.Heard.{Heard, HearsAll, Hears, Done, Told, told_of}
use Rattle.scenario.specs.Played.{Follows, IsPassHeard, IsPollHeard, Passes, Plays, Rounds, Settles}
use Rattle.scenario.specs.Polled.{PollsEach}
use Rattle.scenario.specs.Waits.{GoesOn, LooksOn}
use Rattle.scenario.proofs.Lemmas.Hearing.{hears-append, hears-more}
use Rattle.scenario.proofs.Lemmas.Polling.{IsPolling, polls-gone, polls-next}
use Rattle.lock_script.specs.declared.names.Names.{Names}

all-more : (rounds : List (List Heard)) (heard : List Heard) → flat_map (λ those. those) (rounds ++ heard ∷ []) ≡ flat_map (λ those. those) rounds ++ heard
all-more [] heard = append-nil heard
all-more (first ∷ rounds) heard =
    ap (λ (those : List Heard). first ++ those) (all-more rounds heard) ∙ sym (append_assoc first (flat_map (λ those. those) rounds) heard)

module _ {B : Type 0} (seat : B → Seated) (view : B → Account) (stack : B → Stack) where
  -- One more pass, in which somebody goes on.
  pub rounds-more :
      (old mid new : Cast B) (rounds : List (List Heard)) (heard : List Heard) → Rounds seat view stack old rounds mid → Passes seat view stack mid heard new → heard ≢ [] →
      Rounds seat view stack old (rounds ++ heard ∷ []) new
  rounds-more old mid new [] heard before passes some = (new, subst (λ (from : Cast B). Passes seat view stack from heard new) before passes, some, refl)
  rounds-more old mid new (first ∷ rounds) heard (next, here, not_none, later) passes some =
      (next, here, not_none, rounds-more next mid new rounds heard later passes some)

module _ {B L : Type 0} (seat : B → Seated) (view : B → Account) (stack : B → Stack) (hears : L → Heard → L → Type 0) where
  -- a pass under way
  abbrev pub IsUnderWay : Cast B → L → Bool → ℕ → Cast B → L → Type 0
  IsUnderWay first before went_on place old now =
      IsPolling (LooksOn seat view stack) (GoesOn seat view stack) hears first.names first.sessions.waiting first.sessions.resting before went_on place
      old.sessions.waiting old.sessions.resting now

  pub pass-stays :
      (first old new : Cast B) (before now then : L) (went_on : Bool) (place : ℕ) → IsUnderWay first before went_on place old now → place < length old.sessions.waiting →
      IsPollHeard seat view stack hears old now place false new then → IsUnderWay first before went_on (place + 1) new then
  pass-stays first old new before now then went_on place it inside (at, names, same) =
      subst (λ (l : L). IsUnderWay first before went_on (place + 1) new l) (sym same)
      (subst (λ (resting : List (Named (SessionView B))). IsPolling (LooksOn seat view stack) (GoesOn seat view stack) hears first.names first.sessions.waiting first.sessions.resting
      before went_on (place + 1) new.sessions.waiting resting now) (sym at.resting)
      (polls-next (LooksOn seat view stack) (GoesOn seat view stack) hears first.names first.sessions.waiting first.sessions.resting before went_on place
      old.sessions.waiting new.sessions.waiting old.sessions.resting now at.after it inside at.looks at.there))

  pub pass-goes :
      (first old new : Cast B) (before now then : L) (went_on : Bool) (place : ℕ) → IsUnderWay first before went_on place old now → place < length old.sessions.waiting →
      old.names ≡ first.names → IsPollHeard seat view stack hears old now place true new then → IsUnderWay first before true place new then
  pass-goes first old new before now then went_on place it inside names (name, told, at, same, heard) =
      polls-gone (LooksOn seat view stack) (GoesOn seat view stack) hears first.names first.sessions.waiting first.sessions.resting before went_on place
      old.sessions.waiting new.sessions.waiting old.sessions.resting new.sessions.resting now then name told at.after it inside at.goes_on at.called at.rests at.waiting
      (subst (λ (those : Names). hears now (Told those name told) then) names heard)

  -- A pass is over once none is left to be polled.
  pub pass-ends :
      (first new : Cast B) (before now : L) (went_on : Bool) (place : ℕ) → IsUnderWay first before went_on place new now → (place < length new.sessions.waiting → ⊥) →
      new.names ≡ first.names → IsPassHeard seat view stack hears first before went_on new now
  pass-ends first new before now went_on place it outside names = record {
    heard = it.heard;
    passes = record {
      polled =
          subst (λ (waited : List (Named (WaitingView B))). PollsEach (LooksOn seat view stack) (GoesOn seat view stack) first.names waited first.sessions.resting it.heard
          new.sessions.waiting new.sessions.resting) (sym all)
          (subst (λ (stay : List (Named (WaitingView B))). PollsEach (LooksOn seat view stack) (GoesOn seat view stack) first.names it.done first.sessions.resting it.heard
          stay new.sessions.resting) (sym left) it.polled);
      names = names;
    };
    hears_ = it.hears_;
    none = it.none;
    some = it.some;
  } where
    nobody : (rest : List (Named (WaitingView B))) → it.rest ≡ rest → rest ≡ []
    nobody [] e = refl
    nobody (x ∷ rest) e = absurd (outside (omega (
      arith,
      it.at,
      ap (λ (those : List (Named (WaitingView B))). length those) it.left,
      length-append it.stay it.rest,
      ap (λ (those : List (Named (WaitingView B))). length those) e,
    )))

    none_left : it.rest ≡ []
    none_left = nobody it.rest refl

    all : first.sessions.waiting ≡ it.done
    all = it.parts ∙ ap (λ (rest : List (Named (WaitingView B))). it.done ++ rest) none_left ∙ append-nil it.done

    left : new.sessions.waiting ≡ it.stay
    left = it.left ∙ ap (λ (rest : List (Named (WaitingView B))). it.stay ++ rest) none_left ∙ append-nil it.stay

  -- Passes so far, in each of which somebody went on, and what was heard of them.
  pub record HaveGoneOn (first : Cast B) (before : L) (old : Cast B) (now : L) : Type 0 where
    pub rounds : List (List Heard)
    pub each : Rounds seat view stack first rounds old
    pub hears_ : HearsAll hears before (flat_map (λ those. those) rounds) now

  pub gone_on-none : (first : Cast B) (before : L) → HaveGoneOn first before first before
  gone_on-none first before = record { rounds = []; each = refl; hears_ = refl }

  pub gone_on-more :
      (first old new : Cast B) (before now then : L) → HaveGoneOn first before old now → IsPassHeard seat view stack hears old now true new then → HaveGoneOn first before new then
  gone_on-more first old new before now then so_far pass = record {
    rounds = so_far.rounds ++ pass.heard ∷ [];
    each = rounds-more seat view stack first old new so_far.rounds pass.heard so_far.each pass.passes (pass.some refl);
    hears_ = subst (λ (heard : List Heard). HearsAll hears before heard then) (sym (all-more so_far.rounds pass.heard))
        (hears-append hears before now then (flat_map (λ those. those) so_far.rounds) pass.heard so_far.hears_ pass.hears_);
  }

  pub gone_on-ends :
      (first old new : Cast B) (before now then : L) → HaveGoneOn first before old now → IsPassHeard seat view stack hears old now false new then →
      Hears hears before then (λ news. Settles seat view stack first news new)
  gone_on-ends first old new before now then so_far pass = (
    flat_map (λ those. those) so_far.rounds,
    record {
      rounds = so_far.rounds;
      before = old;
      each = so_far.each;
      last = subst (λ (heard : List Heard). Passes seat view stack old heard new) (pass.none refl) pass.passes;
      all = refl;
    },
    subst (λ (heard : List Heard). HearsAll hears before heard then) (append-nil (flat_map (λ those. those) so_far.rounds))
        (hears-append hears before now then (flat_map (λ those. those) so_far.rounds) [] so_far.hears_
        (subst (λ (heard : List Heard). HearsAll hears now heard then) (pass.none refl) pass.hears_)),
  )

module _
    {B : Type 0} (seat : B → Seated) (view : B → Account) (stack : B → Stack) (again : Bool) (database_of : SessionView B → ℕ) (entries : SessionView B → List Entry) where
  -- The answer, what follows it, the news of those who go on, and the end of the line.
  pub plays-whole :
      {L : Type 0} (hears : L → Heard → L → Type 0) (old after seen new : Cast B) (command : Command) (answer : Answer) (l0 l1 l2 l3 l4 : L) →
      Answers seat view stack again database_of entries old after command answer → HearsAll hears l0 (told_of after.names answer) l1 →
      Hears hears l1 l2 (λ more. Follows seat view stack answer after more seen) → Hears hears l2 l3 (λ news. Settles seat view stack seen news new) → hears l3 Done l4 →
      Hears hears l0 l4 (λ heard. Plays seat view stack again database_of entries old command heard new)
  plays-whole hears old after seen new command answer l0 l1 l2 l3 l4 answers told (more, follows, h1) (news, settles, h2) done = (
    told_of after.names answer ++ more ++ news ++ Done ∷ [],
    record {
      answer = answer;
      after = after;
      answers = answers;
      more = more;
      seen = seen;
      follows = follows;
      news = news;
      settles = settles;
      all = refl;
    },
    hears-more hears l0 l3 l4 (told_of after.names answer ++ more ++ news) Done
        (hears-append hears l0 l2 l3 (told_of after.names answer ++ more) news (hears-append hears l0 l1 l2 (told_of after.names answer) more told h1) h2) done,
  )
