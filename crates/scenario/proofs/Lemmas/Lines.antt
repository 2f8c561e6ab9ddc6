-- The lines of a script, one by one.
use Rattle.std.proofs.Common.{◌≡◌, ◌∙◌, ℕ, ◌+◌, List, [], ◌∷◌, ◌++◌, append-nil, append_assoc, length, length-append, refl, sym, subst, ap, arith, suc, zero-add, add-zero, inl, inr, None, Some, IfSome, Ok, Err, Result}
use Rattle.std.specs.Prelude.{Bool, IfErr, IsErrAnd, OnOk, Option}
use Rattle.local_locks.specs.declared.records.Entry.{Entry}
use Rattle.lock_manager.specs.Sessions.{SessionView}
use Rattle.lock_script.specs.Lines.{Reads, after_line, reading_of}
use Rattle.lock_script.specs.Meaning.{IsSilent, Means}
use Rattle.lock_script.specs.declared.command.Command.{Command}
use Rattle.lock_script.specs.declared.faults.Fault.{Fault}
use Rattle.lock_script.specs.declared.faults.Fault.TheVariants.{BadLine, ReadFailed, WriteFailed, NoMemory, GateHeld}
use Rattle.lock_world.specs.Account.{Account}
use Rattle.shared_rule.specs.Boards.{Seated, Stack}
use Rattle.scenario.specs.Answers.{Cast}
use Rattle.scenario.specs.Heard.{Heard, Hears, HearsAll, IsEnd, IsUnheard, Line}
use Rattle.scenario.specs.Played.{Plays}
use Rattle.scenario.specs.Scripts.{AreFirstLines, AreNextLines, IsBadLine, IsScriptHeard, PlaysLine, PlaysLines, words_in}
use Rattle.scenario.proofs.Lemmas.Hearing.{hears-append}

pub moved : (n k : ℕ) → n + suc k ≡ (n + 1) + k
moved n k = omega arith

-- one more line of a script
pub lines-next :
    (number : ℕ) (script : List ℕ) (texts : List (List ℕ)) (text unread : List ℕ) → AreNextLines number script texts unread →
    reading_of (number + length texts) unread ≡ Ok (Some text) → AreNextLines number script (texts ++ text ∷ []) (after_line unread)
lines-next number script [] text unread same reads = (
  subst (λ (n : ℕ). reading_of n script ≡ Ok (Some text)) (add-zero number)
      (subst (λ (s : List ℕ). reading_of (number + 0) s ≡ Ok (Some text)) same reads),
  ap (λ (s : List ℕ). after_line s) same,
)
lines-next number script (first ∷ texts) text unread (here, rest) reads = (
  here,
  lines-next (number + 1) (after_line script) texts text unread rest
      (subst (λ (n : ℕ). reading_of n unread ≡ Ok (Some text)) (moved number (length texts)) reads),
)

pub first-none : (script left : Option (List ℕ)) → left ≡ script → AreFirstLines script [] left
first-none None left same = tt
first-none (Some script) left same = subst (λ (it : Option (List ℕ)). AreFirstLines (Some script) [] it) (sym same) refl

pub first-next :
    (script : Option (List ℕ)) (texts : List (List ℕ)) (text : List ℕ) (left left' : Option (List ℕ)) → AreFirstLines script texts left →
    IfSome left (λ unread. reading_of (length texts) unread ≡ Ok (Some text)) → IfSome left (λ unread. left' ≡ Some (after_line unread)) →
    AreFirstLines script (texts ++ text ∷ []) left'
first-next None texts text left left' lines reads rest = tt
first-next (Some script) texts text None left' lines reads rest = absurd lines
first-next (Some script) texts text (Some unread) left' lines reads rest =
    subst (λ (it : Option (List ℕ)). AreFirstLines (Some script) (texts ++ text ∷ []) it) (sym rest)
    (lines-next 0 script texts text unread lines
    (subst (λ (n : ℕ). reading_of n unread ≡ Ok (Some text)) (sym (zero-add (length texts))) reads))

-- what holds of a result that is just this error
pub of-error : {T E : Type 0} (P : Result T E → Type 0) (r : Result T E) (e : E) → IsErrAnd r (λ (it : E). it ≡ e) → P (Err e) → P r
of-error P (Ok x) e is here = absurd is
of-error P (Err it) e is here = subst (λ d. P (Err d)) (sym is) here

-- Where the listener fails, nothing is said of the line.
pub bad-unheard :
    {B L : Type 0} (hears : L → Heard → L → Type 0) (number : ℕ) (old new : Cast B) (before now : L) (text : List ℕ) (fault : Fault) → IsUnheard fault →
    IsBadLine hears number old before text fault new now
bad-unheard hears number old new before now text (BadLine line what) unheard = absurd unheard
bad-unheard hears number old new before now text ReadFailed unheard = absurd unheard
bad-unheard hears number old new before now text WriteFailed unheard = tt
bad-unheard hears number old new before now text NoMemory unheard = tt
bad-unheard hears number old new before now text GateHeld unheard = absurd unheard

module _
    {B L : Type 0} (seat : B → Seated) (view : B → Account) (stack : B → Stack) (again : Bool) (database_of : SessionView B → ℕ) (entries : SessionView B → List Entry)
    (hears : L → Heard → L → Type 0) where
  -- a line that has a command
  pub line-plays :
      (number : ℕ) (old new : Cast B) (before mid now : L) (text : List ℕ) (command : Command) → hears before (Line number text) mid →
      Means old.sessions old.names.objects (words_in text) command → Hears hears mid now (λ heard. Plays seat view stack again database_of entries old command heard new) →
      Hears hears before now (λ heard. PlaysLine seat view stack again database_of entries number old text heard new)
  line-plays number old new before mid now text command line means (heard, plays, rest) =
      (Line number text ∷ heard, inr (command, means, (heard, refl, plays)), (mid, line, rest))

  -- one that has none
  pub line-silent :
      (number : ℕ) (old : Cast B) (before now : L) (text : List ℕ) → hears before (Line number text) now → IsSilent (words_in text) →
      Hears hears before now (λ heard. PlaysLine seat view stack again database_of entries number old text heard old)
  line-silent number old before now text line silent = (Line number text ∷ [], inl (silent, refl, refl), (now, line, refl))

  -- one more line is played
  pub plays-next :
      (number : ℕ) (old mid new : Cast B) (texts : List (List ℕ)) (heard : List Heard) (text : List ℕ) (here : List Heard) →
      PlaysLines seat view stack again database_of entries number old texts heard mid →
      PlaysLine seat view stack again database_of entries (number + length texts) mid text here new →
      PlaysLines seat view stack again database_of entries number old (texts ++ text ∷ []) (heard ++ here) new
  plays-next number old mid new [] heard text here (none, same) plays = (
    new,
    here,
    [],
    subst (λ (n : ℕ). PlaysLine seat view stack again database_of entries n old text here new) (add-zero number)
        (subst (λ (from : Cast B). PlaysLine seat view stack again database_of entries (number + 0) from text here new) same plays),
    (refl, refl),
    ap (λ (those : List Heard). those ++ here) none ∙ sym (append-nil here),
  )
  plays-next number old mid new (first ∷ texts) heard text here (next, this, later, plays_one, rest, all) plays = (
    next,
    this,
    later ++ here,
    plays_one,
    plays-next (number + 1) next mid new texts later text here rest
        (subst (λ (n : ℕ). PlaysLine seat view stack again database_of entries n mid text here new) (moved number (length texts)) plays),
    ap (λ (those : List Heard). those ++ here) all ∙ append_assoc this later here,
  )

  -- The lines of a script that are played so far, and what was heard of them.
  pub record HavePlayed (script : Option (List ℕ)) (first : Cast B) (before : L) (number : ℕ) (left : Option (List ℕ)) (new : Cast B) (now : L) : Type 0 where
    pub texts : List (List ℕ)
    pub count : number ≡ length texts
    pub lines : AreFirstLines script texts left
    pub played : List Heard
    pub plays : PlaysLines seat view stack again database_of entries 1 first texts played new
    pub hears_ : HearsAll hears before played now

  pub have-none : (script left : Option (List ℕ)) (first : Cast B) (before : L) → left ≡ script → HavePlayed script first before 0 left first before
  have-none script left first before same = record {
    texts = [];
    count = refl;
    lines = first-none script left same;
    played = [];
    plays = (refl, refl);
    hears_ = refl;
  }

  pub have-more :
      (script : Option (List ℕ)) (first : Cast B) (before : L) (number number' : ℕ) (left left' : Option (List ℕ)) (old new : Cast B) (now then : L) (text : List ℕ) →
      HavePlayed script first before number left old now → IfSome left (λ unread. reading_of number unread ≡ Ok (Some text)) →
      IfSome left (λ unread. left' ≡ Some (after_line unread)) → number' ≡ number + 1 →
      Hears hears now then (λ heard. PlaysLine seat view stack again database_of entries number' old text heard new) →
      HavePlayed script first before number' left' new then
  have-more script first before number number' left left' old new now then text so_far reads rest next (here, plays, heard) =
      let one : number' ≡ 1 + length so_far.texts = omega (arith, next, so_far.count) in
      record {
        texts = so_far.texts ++ text ∷ [];
        count = omega (arith, next, so_far.count, length-append so_far.texts (text ∷ []));
        lines = first-next script so_far.texts text left left' so_far.lines
            (subst (λ (n : ℕ). IfSome left (λ unread. reading_of n unread ≡ Ok (Some text))) so_far.count reads) rest;
        played = so_far.played ++ here;
        plays = plays-next 1 first old new so_far.texts so_far.played text here so_far.plays
            (subst (λ (n : ℕ). PlaysLine seat view stack again database_of entries n old text here new) one plays);
        hears_ = hears-append hears before now then so_far.played here so_far.hears_ heard;
      }

  -- the end of the script, which the listener hears, unless it fails
  pub ends-well :
      (script : Option (List ℕ)) (first : Cast B) (before : L) (number : ℕ) (left : Option (List ℕ)) (new : Cast B) (now then : L)
      (told : Result (Unit {0}) Fault) → HavePlayed script first before number left new now →
      IfSome left (λ unread. reading_of number unread ≡ Ok None) → OnOk told (Hears hears now then IsEnd) → IfErr told IsUnheard →
      IsScriptHeard seat view stack again database_of entries hears script first before told then
  ends-well script first before number left new now then (Ok ended) so_far reads (last, is_end, heard) unheard = (
    so_far.played ++ last,
    record {
      texts = so_far.texts;
      left = left;
      lines = so_far.lines;
      played = so_far.played;
      new = new;
      plays = so_far.plays;
      last = last;
      ends = (subst (λ (n : ℕ). IfSome left (λ unread. reading_of n unread ≡ Ok None)) so_far.count reads, is_end);
      all = refl;
    },
    hears-append hears before now then so_far.played last so_far.hears_ heard,
  )
  ends-well script first before number left new now then (Err (BadLine line what)) so_far reads heard unheard = absurd unheard
  ends-well script first before number left new now then (Err ReadFailed) so_far reads heard unheard = absurd unheard
  ends-well script first before number left new now then (Err WriteFailed) so_far reads heard unheard = tt
  ends-well script first before number left new now then (Err NoMemory) so_far reads heard unheard = tt
  ends-well script first before number left new now then (Err GateHeld) so_far reads heard unheard = absurd unheard

  -- a line that can't be read
  pub ends-unread :
      (script : Option (List ℕ)) (first : Cast B) (before : L) (number : ℕ) (left : Option (List ℕ)) (new : Cast B) (now : L) (fault : Fault) →
      HavePlayed script first before number left new now → IfSome left (λ unread. Reads (Err fault) number (reading_of number unread)) →
      IsScriptHeard seat view stack again database_of entries hears script first before (Err fault) now
  ends-unread script first before number left new now (BadLine line what) so_far reads = (
    so_far.played,
    record {
      texts = so_far.texts;
      left = left;
      lines = so_far.lines;
      played = so_far.played;
      new = new;
      plays = so_far.plays;
      last = [];
      ends = inl (
        subst (λ (n : ℕ). IfSome left (λ unread. (line ≡ n + 1) × (reading_of n unread ≡ Err what))) so_far.count reads,
        refl,
      );
      all = sym (append-nil so_far.played);
    },
    so_far.hears_,
  )
  ends-unread script first before number left new now ReadFailed so_far reads = (
    so_far.played,
    record {
      texts = so_far.texts;
      left = left;
      lines = so_far.lines;
      played = so_far.played;
      new = new;
      plays = so_far.plays;
      last = [];
      ends = refl;
      all = sym (append-nil so_far.played);
    },
    so_far.hears_,
  )
  ends-unread script first before number left new now WriteFailed so_far reads = tt
  ends-unread script first before number left new now NoMemory so_far reads = tt
  ends-unread script first before number left new now GateHeld so_far reads = tt

  -- a line whose words are bad
  pub ends-badly :
      (script : Option (List ℕ)) (first : Cast B) (before : L) (number number' : ℕ) (left : Option (List ℕ)) (old new : Cast B) (now then : L) (text : List ℕ)
      (fault : Fault) → HavePlayed script first before number left old now → IfSome left (λ unread. reading_of number unread ≡ Ok (Some text)) →
      number' ≡ number + 1 → IsBadLine hears number' old now text fault new then →
      IsScriptHeard seat view stack again database_of entries hears script first before (Err fault) then
  ends-badly script first before number number' left old new now then text (BadLine line what) so_far reads next (at, defect, heard, same) =
      let one : line ≡ length so_far.texts + 1 = omega (arith, at, next, so_far.count) in (
        so_far.played ++ Line line text ∷ [],
        record {
          texts = so_far.texts;
          left = left;
          lines = so_far.lines;
          played = so_far.played;
          new = old;
          plays = so_far.plays;
          last = Line line text ∷ [];
          ends = inr (
            text,
            subst (λ (n : ℕ). IfSome left (λ unread. reading_of n unread ≡ Ok (Some text))) so_far.count reads,
            one,
            defect,
            refl,
          );
          all = refl;
        },
        hears-append hears before now then so_far.played (Line line text ∷ []) so_far.hears_
            (subst (λ (n : ℕ). HearsAll hears now (Line n text ∷ []) then) (sym at) heard),
      )
  ends-badly script first before number number' left old new now then text ReadFailed so_far reads next bad = absurd bad
  ends-badly script first before number number' left old new now then text WriteFailed so_far reads next bad = tt
  ends-badly script first before number number' left old new now then text NoMemory so_far reads next bad = tt
  ends-badly script first before number number' left old new now then text GateHeld so_far reads next bad = tt
