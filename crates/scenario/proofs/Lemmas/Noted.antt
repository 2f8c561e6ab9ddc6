-- What any listener hears of a script whose lines are kept is a list.
use Rattle.std.proofs.Common.{◌≡◌, ◌∙◌, ◌^◌, ◌+◌, ◌-◌, ℕ, Bool, List, [], ◌∷◌, ◌++◌, append-nil, append_assoc, ap, inl, inr, length, refl, subst, map, min, Option, None, Some, IfSome, Result, Ok, Err}
use Rattle.std.specs.Prelude.{IfErr, OnOk}
use Rattle.local_locks.specs.declared.records.Entry.{Entry}
use Rattle.lock_manager.specs.Sessions.{SessionView}
use Rattle.lock_script.specs.Defects.{IsDefectOf}
use Rattle.lock_script.specs.Kept.{kept_count}
use Rattle.lock_script.specs.Lines.{Reads, reading_of}
use Rattle.lock_script.specs.declared.faults.Defect.{Defect}
use Rattle.lock_script.specs.declared.faults.Fault.{Fault}
use Rattle.lock_script.specs.declared.faults.Fault.TheVariants.{BadLine, ReadFailed, WriteFailed, NoMemory, GateHeld}
use Rattle.lock_script.specs.declared.kept.KeptQueue.{KeptQueue}
use Rattle.lock_world.specs.Account.{Account}
use Rattle.shared_rule.specs.Boards.{Seated, Stack}
use Rattle.scenario.specs.Acts.{UnlessUnheard, WhereKnown}
use Rattle.scenario.specs.Answers.{Cast}
use Rattle.scenario.specs.Heard.{Done, Heard, Hears, HearsAll, IsEnd, IsUnheard, Kept, Left, Line}
use Rattle.scenario.specs.InTurn.{DoesLines, FailsPlain, IsBad}
use Rattle.scenario.specs.Scripts.{AreFirstLines, PlaysLine, ScriptLine, words_in}
use Rattle.scenario.specs.Staged.{EndsInTurn, IsEndOfKept, PlaysKept, Stage, notes, play_of}
use Rattle.scenario.proofs.Lemmas.Failing.{unless-unheard}
use Rattle.scenario.proofs.Lemmas.Hearing.{hears-append, hears-more}
use Rattle.scenario.proofs.Lemmas.InTurn.{HaveDone}
use Rattle.scenario.proofs.Lemmas.Likewise.{does-all, fails-likewise}

-- A list notes whatever is heard.
notes-all : (before heard : List Heard) → HearsAll notes before heard (before ++ heard)
notes-all before [] = append-nil before
notes-all before (one ∷ others) =
    (before ++ one ∷ [], refl, subst (λ after. HearsAll notes (before ++ one ∷ []) others after) (append_assoc before (one ∷ []) others) (notes-all (before ++ one ∷ []) others))

-- The end of a script was heard, and then who is left.
pub end-heard :
    {B L : Type 0} (hears : L → Heard → L → Type 0) (old mid new : L) (cast : Cast B) (left : List KeptQueue) → Hears hears old mid IsEnd →
    hears mid (Left (map (λ one. one.name) cast.sessions.waiting) (min (kept_count left) (2 ^ 64 - 1))) new → Hears hears old new (IsEndOfKept cast left)
end-heard hears old mid new cast left (last, ends, heard) told = (
  last ++ Left (map (λ one. one.name) cast.sessions.waiting) (min (kept_count left) (2 ^ 64 - 1)) ∷ [],
  (last, ends, refl),
  hears-more hears old mid new last (Left (map (λ one. one.name) cast.sessions.waiting) (min (kept_count left) (2 ^ 64 - 1))) heard told,
)

module _
    {B L : Type 0} (seat : B → Seated) (view : B → Account) (stack : B → Stack) (again : Bool) (database_of : SessionView B → ℕ) (entries : SessionView B → List Entry)
    (hears : L → Heard → L → Type 0) (first : L) where
  -- The cast is the same, and the listener has heard what is noted.
  record IsNoted (one : Stage B L) (other : Stage B (List Heard)) : Type 0 where
    pub cast : one.cast ≡ other.cast
    pub heard : HearsAll hears first other.listener one.listener

  noted-more :
      (old new : Stage B L) (noted : Stage B (List Heard)) (heard : List Heard) → IsNoted old noted → HearsAll hears old.listener heard new.listener →
      IsNoted new (record { cast = new.cast; listener = noted.listener ++ heard })
  noted-more old new noted heard is more = record {
    cast = refl;
    heard = hears-append hears first old.listener new.listener noted.listener heard is.heard more;
  }

  runs :
      (old new : Stage B L) (noted : Stage B (List Heard)) (line : ScriptLine) → IsNoted old noted →
      (play_of seat view stack again database_of entries hears).Runs old line new →
      (next : Stage B (List Heard)) × IsNoted new next × (play_of seat view stack again database_of entries notes).Runs noted line next
  runs old new noted line is (heard, plays, more) = (
    record { cast = new.cast; listener = noted.listener ++ heard },
    noted-more old new noted heard is more,
    (
      heard,
      subst (λ cast. PlaysLine seat view stack again database_of entries line.number cast line.text heard new.cast) is.cast plays,
      notes-all noted.listener heard,
    ),
  )

  keeps :
      (old new : Stage B L) (noted : Stage B (List Heard)) (line : ScriptLine) → IsNoted old noted →
      (play_of seat view stack again database_of entries hears).Keeps old line new →
      (next : Stage B (List Heard)) × IsNoted new next × (play_of seat view stack again database_of entries notes).Keeps noted line next
  keeps old new noted line is (more, same) = (
    record { cast = new.cast; listener = noted.listener ++ Kept line.number line.text ∷ [] },
    noted-more old new noted (Kept line.number line.text ∷ []) is (new.listener, more, refl),
    (refl, same ∙ is.cast),
  )

  shows :
      (old new : Stage B L) (noted : Stage B (List Heard)) (line : ScriptLine) → IsNoted old noted →
      (play_of seat view stack again database_of entries hears).Shows old line new →
      (next : Stage B (List Heard)) × IsNoted new next × (play_of seat view stack again database_of entries notes).Shows noted line next
  shows old new noted line is (more, same) = (
    record { cast = new.cast; listener = noted.listener ++ Line line.number line.text ∷ Done ∷ [] },
    noted-more old new noted (Line line.number line.text ∷ Done ∷ []) is more,
    (notes-all noted.listener (Line line.number line.text ∷ Done ∷ []), same ∙ is.cast),
  )

  fails :
      (old new : Stage B L) (noted : Stage B (List Heard)) (line : ScriptLine) (what : Defect) → IsNoted old noted →
      (play_of seat view stack again database_of entries hears).Fails old line what new →
      (next : Stage B (List Heard)) × IsNoted new next × (play_of seat view stack again database_of entries notes).Fails noted line what next
  fails old new noted line what is (defect, more, same) = (
    record { cast = new.cast; listener = noted.listener ++ Line line.number line.text ∷ [] },
    noted-more old new noted (Line line.number line.text ∷ []) is more,
    (
      subst (λ cast. IsDefectOf cast.sessions cast.names.objects (words_in line.text) what) is.cast defect,
      notes-all noted.listener (Line line.number line.text ∷ []),
      same ∙ is.cast,
    ),
  )

  module _ (speaks keeping : Bool) (script : Option (List ℕ)) (cast : Cast B) where
    -- the lines of the script that are done so far, as a list notes them
    record HaveNoted (number : ℕ) (unread : Option (List ℕ)) (new : Stage B L) (left : List KeptQueue) : Type 0 where
      pub texts : List (List ℕ)
      pub count : number ≡ length texts
      pub lines : AreFirstLines script texts unread
      pub noted : Stage B (List Heard)
      pub is : IsNoted new noted
      pub does :
          DoesLines (play_of seat view stack again database_of entries notes) speaks keeping 1 (record { cast = cast; listener = [] }) [] texts noted left

    -- the same, as the listener hears them
    abbrev pub HaveDoneSo : ℕ → Option (List ℕ) → Stage B L → List KeptQueue → Type 0
    HaveDoneSo number unread new left =
        HaveDone (play_of seat view stack again database_of entries hears) speaks keeping script (record { cast = cast; listener = first }) number unread new left

    -- what is promised of the whole
    abbrev pub IsPlayed : Result (Unit {0}) Fault → L → Type 0
    IsPlayed ended now = Hears hears first now (PlaysKept seat view stack again database_of entries speaks keeping script cast ended)

    noted-so-far : (number : ℕ) (unread : Option (List ℕ)) (new : Stage B L) (left : List KeptQueue) → HaveDoneSo number unread new left → HaveNoted number unread new left
    noted-so-far number unread new left it =
        let all = does-all (play_of seat view stack again database_of entries hears) (play_of seat view stack again database_of entries notes) IsNoted runs keeps shows
        fails (λ one other is. ap (λ cast. cast.sessions.waiting) is.cast) (λ one other is. ap (λ cast. cast.names.objects) is.cast) speaks keeping it.texts 1
        (record { cast = cast; listener = first }) new [] left (record { cast = cast; listener = [] }) (record { cast = refl; heard = refl }) it.does in
        record { texts = it.texts; count = it.count; lines = it.lines; noted = all.0; is = all.1; does = all.2 }

    -- This ends the script, where this was heard of it.
    ends-so :
        (number : ℕ) (unread : Option (List ℕ)) (new : Stage B L) (left : List KeptQueue) (it : HaveNoted number unread new left) (ended : Result (Unit {0}) Fault) (now : L)
        (heard : List Heard) → EndsInTurn seat view stack again database_of entries keeping number unread it.noted left ended heard →
        HearsAll hears first heard now → IsPlayed ended now
    ends-so number unread new left it ended now heard ends hears_ = (
      heard,
      record {
        texts = it.texts;
        unread = unread;
        lines = it.lines;
        new = it.noted;
        left = left;
        does = it.does;
        ends = subst (λ (n : ℕ). EndsInTurn seat view stack again database_of entries keeping n unread it.noted left ended heard) it.count ends;
      },
      hears_,
    )

    -- The end was heard.
    pub ends-well :
        (number : ℕ) (unread : Option (List ℕ)) (new : Stage B L) (left : List KeptQueue) (last : Cast B) (now : L) (told : Result (Unit {0}) Fault) →
        HaveDoneSo number unread new left → IfSome unread (λ bytes. reading_of number bytes ≡ Ok None) →
        OnOk told (Hears hears new.listener now (IsEndOfKept last left)) → IfErr told IsUnheard → WhereKnown speaks told (IsPlayed told now)
    ends-well number unread new left last now (Ok done) so_far reads (end, ends, heard) unheard =
        let it = noted-so-far number unread new left so_far in
        ends-so number unread new left it (Ok done) now (it.noted.listener ++ end) (reads, (last, end, ends, refl))
        (hears-append hears first new.listener now it.noted.listener end it.is.heard heard)
    ends-well number unread new left last now (Err fault) so_far reads end unheard = λ _. unless-unheard _ fault unheard

    -- The next line wasn't read.
    pub ends-unread :
        (number : ℕ) (unread : Option (List ℕ)) (new : Stage B L) (left : List KeptQueue) (fault : Fault) → HaveDoneSo number unread new left →
        IfSome unread (λ bytes. Reads (Err fault) number (reading_of number bytes)) → UnlessUnheard (Err fault) (IsPlayed (Err fault) new.listener)
    ends-unread number unread new left (BadLine line what) so_far reads =
        let it = noted-so-far number unread new left so_far in
        ends-so number unread new left it (Err (BadLine line what)) new.listener it.noted.listener (inl (reads, refl)) it.is.heard
    ends-unread number unread new left ReadFailed so_far reads =
        let it = noted-so-far number unread new left so_far in
        ends-so number unread new left it (Err ReadFailed) new.listener it.noted.listener refl it.is.heard
    ends-unread number unread new left WriteFailed so_far reads = tt
    ends-unread number unread new left NoMemory so_far reads = tt
    ends-unread number unread new left GateHeld so_far reads = tt

    -- A line was bad.
    pub ends-badly :
        (number number' : ℕ) (unread : Option (List ℕ)) (old new : Stage B L) (left : List KeptQueue) (text : List ℕ) (fault : Fault) →
        HaveDoneSo number unread old left → IfSome unread (λ bytes. reading_of number bytes ≡ Ok (Some text)) → number' ≡ number + 1 →
        IsBad (FailsPlain (play_of seat view stack again database_of entries hears) keeping old left (record { number = number'; text = text })) new fault →
        UnlessUnheard (Err fault) (IsPlayed (Err fault) new.listener)
    ends-badly number number' unread old new left text (BadLine line what) so_far reads next (bad, at, failed) =
        let it = noted-so-far number unread old left so_far in
        let here = fails-likewise (play_of seat view stack again database_of entries hears) (play_of seat view stack again database_of entries notes) IsNoted runs keeps shows
        fails (λ one other is. ap (λ cast. cast.sessions.waiting) is.cast) (λ one other is. ap (λ cast. cast.names.objects) is.cast) keeping old new left
        (record { number = number'; text = text }) bad what it.noted it.is failed in
        ends-so number unread old left it (Err (BadLine line what)) new.listener here.0.listener
        (inr (
          text,
          bad,
          here.0,
          reads,
          subst (λ (n : ℕ). FailsPlain (play_of seat view stack again database_of entries notes) keeping it.noted left (record { number = n; text = text }) bad what here.0)
              next here.2,
          at,
          refl,
        )) here.1.heard
    ends-badly number number' unread old new left text ReadFailed so_far reads next bad = absurd bad
    ends-badly number number' unread old new left text WriteFailed so_far reads next bad = tt
    ends-badly number number' unread old new left text NoMemory so_far reads next bad = tt
    ends-badly number number' unread old new left text GateHeld so_far reads next bad = absurd bad
