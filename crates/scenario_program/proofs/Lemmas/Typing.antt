-- Lines that were typed and answered so far, and where they end.
use Rattle.std.proofs.Common.{◌≡◌, ◌∙◌, ℕ, ◌+◌, suc, List, [], ◌∷◌, ◌++◌, add-zero, ap, append-nil, append_assoc, arith, length, length-append, refl, subst, sym, None, Some, Option, IfSome, inl, inr}
use Rattle.std.specs.Prelude.{◌≢◌, ◌⊎◌, Bool, false, IfErr, IsSomeAnd, OnOk, Result, Ok, Err}
use Rattle.std.specs.Io.Buffered.{writer_contents}
use Rattle.std.specs.declared.io.buffered.BufWriter.{BufWriter}
use Rattle.local_locks.specs.declared.records.Entry.{Entry}
use Rattle.lock_manager.specs.Sessions.{SessionView}
use Rattle.lock_script.specs.Lines.{Reads, after_line, reading_of}
use Rattle.lock_script.specs.declared.faults.Defect.TheVariants.{NotAsciiText}
use Rattle.lock_script.specs.declared.faults.Fault.{Fault}
use Rattle.lock_script.specs.declared.faults.Fault.TheVariants.{BadLine, ReadFailed, WriteFailed, NoMemory, GateHeld}
use Rattle.lock_world.specs.Account.{Account}
use Rattle.shared_rule.specs.Boards.{Seated, Stack}
use Rattle.scenario.specs.Acts.{UnlessUnheard, Writes, no_cast}
use Rattle.scenario.specs.Answers.{Cast}
use Rattle.scenario.specs.Heard.{Heard, Hears, HearsAll, IsUnheard}
use Rattle.scenario.specs.Printed.{IsFormOf, Prints}
use Rattle.scenario.specs.declared.output.Output.{Output}
use Rattle.scenario.specs.declared.style.Form.{Form}
use Rattle.scenario.specs.declared.style.Form.TheVariants.{Text}
use Rattle.scenario.proofs.Lemmas.Failing.{unless-unheard}
use Rattle.scenario.proofs.Lemmas.Hearing.{hears-append}
use Rattle.scenario.proofs.Lemmas.Printing.{heard-written}
use Rattle.scenario_program.specs.Runs.{ArePassedOn}
use Rattle.scenario_program.specs.Typed.{AnswersAll, AnswersTyped, AreNextTyped, AreTyped, EndsTyped, IsReadNext, IsTypedHeard, PlaysTyped, WritesTyped, at_terminal, greeting, prompt}
use Rattle.scenario_program.proofs.Lemmas.Printing.{kept-written, unless-so}

-- What is read next, where this number of lines was read: a text, or none where it isn't text.
abbrev pub IsNextTyped : ℕ → Option (List ℕ) → Option (List ℕ) → Type 0
IsNextTyped number unread (Some text) = IfSome unread (λ bytes. reading_of number bytes ≡ Ok (Some text))
IsNextTyped number unread None = IfSome unread (λ bytes. reading_of number bytes ≡ Err NotAsciiText)

moved-back : (n m : ℕ) → n + suc m ≡ (n + 1) + m
moved-back n m = omega arith

zero-more : (n : ℕ) → n ≡ 0 + n
zero-more n = omega arith

typed-more :
    (number : ℕ) (typed unread : List ℕ) (lines : List (Option (List ℕ))) (line : Option (List ℕ)) → AreNextTyped number typed lines unread →
    IsNextTyped (number + length lines) (Some unread) line → AreNextTyped number typed (lines ++ line ∷ []) (after_line unread)
typed-more number typed unread [] (Some text) same reads = (
  subst (λ (bytes : List ℕ). reading_of number bytes ≡ Ok (Some text)) same
      (subst (λ (n : ℕ). reading_of n unread ≡ Ok (Some text)) (add-zero number) reads),
  ap (λ (bytes : List ℕ). after_line bytes) same,
)
typed-more number typed unread [] None same reads = (
  subst (λ (bytes : List ℕ). reading_of number bytes ≡ Err NotAsciiText) same
      (subst (λ (n : ℕ). reading_of n unread ≡ Err NotAsciiText) (add-zero number) reads),
  ap (λ (bytes : List ℕ). after_line bytes) same,
)
typed-more number typed unread (Some first ∷ lines) line (is, rest) reads = (
  is,
  typed-more (number + 1) (after_line typed) unread lines line rest
      (subst (λ (n : ℕ). IsNextTyped n (Some unread) line) (moved-back number (length lines)) reads),
)
typed-more number typed unread (None ∷ lines) line (is, rest) reads = (
  is,
  typed-more (number + 1) (after_line typed) unread lines line rest
      (subst (λ (n : ℕ). IsNextTyped n (Some unread) line) (moved-back number (length lines)) reads),
)

first-typed :
    (typed : Option (List ℕ)) (lines : List (Option (List ℕ))) (line unread unread' : Option (List ℕ)) → AreTyped typed lines unread →
    IsNextTyped (length lines) unread line → IfSome unread (λ bytes. unread' ≡ Some (after_line bytes)) → AreTyped typed (lines ++ line ∷ []) unread'
first-typed None lines line unread unread' are reads rest = tt
first-typed (Some typed) lines line None unread' are reads rest = absurd are
first-typed (Some typed) lines line (Some unread) unread' are reads rest =
    subst (λ (it : Option (List ℕ)). AreTyped (Some typed) (lines ++ line ∷ []) it) (sym rest)
    (typed-more 0 typed unread lines line are (subst (λ (n : ℕ). IsNextTyped n (Some unread) line) (zero-more (length lines)) reads))

none-typed : (typed unread : Option (List ℕ)) → unread ≡ typed → AreTyped typed [] unread
none-typed None unread same = tt
none-typed (Some typed) unread same = subst (λ (it : Option (List ℕ)). AreTyped (Some typed) [] it) (sym same) refl

-- What holds where the bytes are known.
abbrev pub Known : Option (List ℕ) → Type 0 → Type 0
Known typed P = IfSome typed (λ _. P)

pub known : {P : Type 0} (typed : Option (List ℕ)) → P → Known typed P
known None p = tt
known (Some typed) p = p

count-next :
    (typed : Option (List ℕ)) (number number' : ℕ) (lines : List (Option (List ℕ))) (line : Option (List ℕ)) → Known typed (number ≡ length lines) →
    Known typed (number' ≡ number + 1) → Known typed (number' ≡ length (lines ++ line ∷ []))
count-next None number number' lines line count next = tt
count-next (Some typed) number number' lines line count next = omega (arith, next, count, length-append lines (line ∷ []))

are-next :
    (typed : Option (List ℕ)) (number : ℕ) (lines : List (Option (List ℕ))) (line unread unread' : Option (List ℕ)) → AreTyped typed lines unread →
    Known typed (number ≡ length lines) → Known typed (IsNextTyped number unread line) → Known typed (IfSome unread (λ bytes. unread' ≡ Some (after_line bytes))) →
    AreTyped typed (lines ++ line ∷ []) unread'
are-next None number lines line unread unread' are count reads rest = tt
are-next (Some typed) number lines line unread unread' are count reads rest =
    first-typed (Some typed) lines line unread unread' are (subst (λ (n : ℕ). IsNextTyped n unread line) count reads) rest

read-next :
    (typed : Option (List ℕ)) (number : ℕ) (lines : List (Option (List ℕ))) (unread line : Option (List ℕ)) → Known typed (number ≡ length lines) →
    IsReadNext typed number unread line → IsReadNext typed (length lines) unread line
read-next None number lines unread line count reads = tt
read-next (Some typed) number lines unread line count reads = subst (λ (n : ℕ). IfSome unread (λ bytes. reading_of n bytes ≡ Ok line)) count reads

ends-after :
    (is_terminal : Bool) (typed : Option (List ℕ)) (number : ℕ) (lines : List (Option (List ℕ))) (unread : Option (List ℕ))
    (ended : Result (Unit {0}) Fault) (last : List Heard) → Known typed (number ≡ length lines) → EndsTyped is_terminal typed number unread ended last →
    EndsTyped is_terminal typed (length lines) unread ended last
ends-after is_terminal typed number lines unread (Ok done) last count (inl (text, reads, leaves, is)) =
    inl (text, read-next typed number lines unread (Some text) count reads, leaves, is)
ends-after is_terminal typed number lines unread (Ok done) last count (inr (reads, is)) = inr (read-next typed number lines unread None count reads, is)
ends-after is_terminal None number lines unread (Err (BadLine line what)) last count (not, is, bad) = (not, is, tt)
ends-after is_terminal (Some typed) number lines unread (Err (BadLine line what)) last count (not, is, bad) =
    (not, is, subst (λ (n : ℕ). IfSome unread (λ bytes. (line ≡ n + 1) × (reading_of n bytes ≡ Err what))) count bad)
ends-after is_terminal typed number lines unread (Err ReadFailed) last count ends = ends
ends-after is_terminal typed number lines unread (Err WriteFailed) last count ends = tt
ends-after is_terminal typed number lines unread (Err NoMemory) last count ends = tt
ends-after is_terminal typed number lines unread (Err GateHeld) last count ends = tt

-- A line that isn't text was read to its end, and counted.
pub record IsPassedOver (typed : Option (List ℕ)) (number number' : ℕ) (unread unread' : Option (List ℕ)) : Type 0 where
  pub next : Known typed (number' ≡ number + 1)
  pub reads : Known typed (IsNextTyped number unread None)
  pub rest : Known typed (IfSome unread (λ bytes. unread' ≡ Some (after_line bytes)))

pub passed-over :
    (typed unread unread' : Option (List ℕ)) (lines : List (Option (List ℕ))) (number number' line : ℕ) (read : Result (Option (List ℕ)) Fault) (fault : Fault) →
    AreTyped typed lines unread → read ≡ Err fault → fault ≡ BadLine line NotAsciiText →
    IfSome unread (λ bytes. Reads read number (reading_of number bytes)) →
    (read ≡ Err (BadLine (number + 1) NotAsciiText) → number' ≡ number + 1) →
    (read ≡ Err (BadLine (number + 1) NotAsciiText) → IfSome unread (λ bytes. unread' ≡ Some (after_line bytes))) →
    IsPassedOver typed number number' unread unread'
passed-over None unread unread' lines number number' line read fault are is what reads counted rest = record { next = tt; reads = tt; rest = tt }
passed-over (Some typed) None unread' lines number number' line read fault are is what reads counted rest = absurd are
passed-over (Some typed) (Some unread) unread' lines number number' line read fault are is what reads counted rest =
    let said = subst (λ (it : Result (Option (List ℕ)) Fault). Reads it number (reading_of number unread)) (is ∙ ap (λ (it : Fault). Err it) what) reads in
    let at : read ≡ Err (BadLine (number + 1) NotAsciiText) = (is ∙ ap (λ (it : Fault). Err it) what) ∙ ap (λ (n : ℕ). Err (BadLine n NotAsciiText)) said.0 in
    record { next = counted at; reads = said.1; rest = rest at }

module _
    {B : Type 0} (seat : B → Seated) (view : B → Account) (stack : B → Stack) (again : Bool) (database_of : SessionView B → ℕ) (entries : SessionView B → List Entry)
    (is_terminal : Bool) where
  answers-more :
      (old mid new : Cast B) (lines : List (Option (List ℕ))) (line : Option (List ℕ)) (before here : List Heard) →
      AnswersAll seat view stack again database_of entries is_terminal old lines before mid →
      AnswersTyped seat view stack again database_of entries mid line here new →
      AnswersAll seat view stack again database_of entries is_terminal old (lines ++ line ∷ []) (before ++ (at_terminal is_terminal prompt ++ here)) new
  answers-more old mid new [] line before here (none, same) answers = (
    new,
    here,
    [],
    subst (λ (cast : Cast B). AnswersTyped seat view stack again database_of entries cast line here new) same answers,
    (refl, refl),
    ap (λ (heard : List Heard). heard ++ (at_terminal is_terminal prompt ++ here)) none
        ∙ ap (λ (heard : List Heard). at_terminal is_terminal prompt ++ heard) (sym (append-nil here)),
  )
  answers-more old mid new (first ∷ lines) line before here (next, its, later, is, rest, all) answers = (
    next,
    its,
    later ++ (at_terminal is_terminal prompt ++ here),
    is,
    answers-more next mid new lines line later here rest answers,
    ap (λ (heard : List Heard). heard ++ (at_terminal is_terminal prompt ++ here)) all
        ∙ append_assoc (at_terminal is_terminal prompt) (its ++ later) (at_terminal is_terminal prompt ++ here)
        ∙ ap (λ (heard : List Heard). at_terminal is_terminal prompt ++ heard) (append_assoc its later (at_terminal is_terminal prompt ++ here)),
  )

module _
    {B L : Type 0} (seat : B → Seated) (view : B → Account) (stack : B → Stack) (again : Bool) (database_of : SessionView B → ℕ) (entries : SessionView B → List Entry)
    (is_terminal : Bool) (hears : L → Heard → L → Type 0) (typed : Option (List ℕ)) (old : Cast B) (before : L) where
  -- What was typed so far was answered, behind the greeting.
  pub record HaveTyped (number : ℕ) (unread : Option (List ℕ)) (new : Cast B) (now : L) : Type 0 where
    pub lines : List (Option (List ℕ))
    pub count : Known typed (number ≡ length lines)
    pub are : AreTyped typed lines unread
    pub answered : List Heard
    pub answers : AnswersAll seat view stack again database_of entries is_terminal old lines answered new
    pub heard : HearsAll hears before (at_terminal is_terminal greeting ++ answered) now

  pub typed-none :
      (unread : Option (List ℕ)) (now : L) → unread ≡ typed → HearsAll hears before (at_terminal is_terminal greeting) now → HaveTyped 0 unread old now
  typed-none unread now same heard = record {
    lines = [];
    count = known typed refl;
    are = none-typed typed unread same;
    answered = [];
    answers = (refl, refl);
    heard = subst (λ (it : List Heard). HearsAll hears before it now) (sym (append-nil (at_terminal is_terminal greeting))) heard;
  }

  -- a line more
  pub typed-next :
      (number number' : ℕ) (unread unread' : Option (List ℕ)) (mid new : Cast B) (here asked now : L) (line : Option (List ℕ)) → HaveTyped number unread mid here →
      Known typed (number' ≡ number + 1) → Known typed (IsNextTyped number unread line) →
      Known typed (IfSome unread (λ bytes. unread' ≡ Some (after_line bytes))) → HearsAll hears here (at_terminal is_terminal prompt) asked →
      Hears hears asked now (λ heard. AnswersTyped seat view stack again database_of entries mid line heard new) → HaveTyped number' unread' new now
  typed-next number number' unread unread' mid new here asked now line so_far next reads rest prompted (heard, answers, hears-it) = record {
    lines = so_far.lines ++ line ∷ [];
    count = count-next typed number number' so_far.lines line so_far.count next;
    are = are-next typed number so_far.lines line unread unread' so_far.are so_far.count reads rest;
    answered = so_far.answered ++ (at_terminal is_terminal prompt ++ heard);
    answers = answers-more seat view stack again database_of entries is_terminal old mid new so_far.lines line so_far.answered heard so_far.answers answers;
    heard = subst (λ (it : List Heard). HearsAll hears before it now) (append_assoc (at_terminal is_terminal greeting) so_far.answered (at_terminal is_terminal prompt ++ heard))
        (hears-append hears before here now (at_terminal is_terminal greeting ++ so_far.answered) (at_terminal is_terminal prompt ++ heard) so_far.heard
        (hears-append hears here asked now (at_terminal is_terminal prompt) heard prompted hears-it));
  }

  -- The shell has ended.
  pub typed-all :
      (number : ℕ) (unread : Option (List ℕ)) (new : Cast B) (here now : L) (ended : Result (Unit {0}) Fault) (last : List Heard) → HaveTyped number unread new here →
      EndsTyped is_terminal typed number unread ended last → HearsAll hears here last now →
      Hears hears before now (PlaysTyped seat view stack again database_of entries is_terminal typed old ended)
  typed-all number unread new here now ended last so_far ends heard = (
    at_terminal is_terminal greeting ++ (so_far.answered ++ last),
    record {
      lines = so_far.lines;
      left = unread;
      are = so_far.are;
      answered = so_far.answered;
      new = new;
      answers = so_far.answers;
      last = last;
      ends = ends-after is_terminal typed number so_far.lines unread ended last so_far.count ends;
      all = refl;
    },
    subst (λ (it : List Heard). HearsAll hears before it now) (append_assoc (at_terminal is_terminal greeting) so_far.answered last)
        (hears-append hears before here now (at_terminal is_terminal greeting ++ so_far.answered) last so_far.heard heard),
  )

  -- The shell ends as the listener prompts, or the listener fails.
  pub typed-prompted :
      (number : ℕ) (unread : Option (List ℕ)) (new : Cast B) (here mid now : L) (told : Result (Unit {0}) Fault) (first last : List Heard) →
      HaveTyped number unread new here → ((done : Unit {0}) → EndsTyped is_terminal typed number unread (Ok done) (first ++ last)) → HearsAll hears here first mid →
      OnOk told (HearsAll hears mid last now) → IfErr told IsUnheard → IsTypedHeard seat view stack again database_of entries hears is_terminal typed old before told now
  typed-prompted number unread new here mid now (Ok done) first last so_far ends prompted ended unheard =
      typed-all number unread new here now (Ok done) (first ++ last) so_far (ends done) (hears-append hears here mid now first last prompted ended)
  typed-prompted number unread new here mid now (Err fault) first last so_far ends prompted ended unheard = unless-unheard _ fault unheard

  -- The shell ends by a line that wasn't read.
  pub typed-unread :
      (number : ℕ) (unread : Option (List ℕ)) (new : Cast B) (here mid now : L) (read : Result (Option (List ℕ)) Fault) (fault last : Fault) → HaveTyped number unread new here →
      HearsAll hears here (at_terminal is_terminal prompt) mid → read ≡ Err fault → IfSome unread (λ bytes. Reads read number (reading_of number bytes)) →
      IsUnheard last ⊎ ((last ≡ fault) × (now ≡ mid) × ((line : ℕ) → fault ≢ BadLine line NotAsciiText)) →
      IsTypedHeard seat view stack again database_of entries hears is_terminal typed old before (Err last) now
  typed-unread number unread new here mid now read fault last so_far prompted is reads (inl unheard) = unless-unheard _ last unheard
  typed-unread number unread new here mid now read fault last so_far prompted is reads (inr (same, stays, other)) =
      subst (λ (it : Fault). IsTypedHeard seat view stack again database_of entries hears is_terminal typed old before (Err it) now) (sym same)
      (subst (λ (it : L). IsTypedHeard seat view stack again database_of entries hears is_terminal typed old before (Err fault) it) (sym stays)
      (go fault (subst (λ (it : Result (Option (List ℕ)) Fault). IfSome unread (λ bytes. Reads it number (reading_of number bytes))) is reads) other)) where
        go :
            (it : Fault) → IfSome unread (λ bytes. Reads (Err it) number (reading_of number bytes)) → ((line : ℕ) → it ≢ BadLine line NotAsciiText) →
            IsTypedHeard seat view stack again database_of entries hears is_terminal typed old before (Err it) mid
        go (BadLine line what) bad other =
            typed-all number unread new here mid (Err (BadLine line what)) (at_terminal is_terminal prompt) so_far
            ((λ same. other line (ap (λ it. BadLine line it) same)), refl, known typed bad) prompted
        go ReadFailed bad other =
            typed-all number unread new here mid (Err ReadFailed) (at_terminal is_terminal prompt) so_far (inr refl) prompted
        go WriteFailed bad other = tt
        go NoMemory bad other = tt
        go GateHeld bad other = tt

-- What an output heard in a shell it has written.
pub shell-written :
    {W : Type 0} (contents : W → Option (List ℕ)) (IsSo : List Heard → Type 0) (writer now : W) (old new : Output W) (ended : Result (Unit {0}) Fault) →
    old.writer ≡ writer → now ≡ new.writer → old.form ≡ Text → old.is_echoing ≡ false → old.line ≡ 0 →
    (ended ≡ Err NoMemory) ⊎ UnlessUnheard ended (Hears (Prints contents) old new IsSo) →
    UnlessUnheard ended (Writes IsSo false false (contents writer) (contents now))
shell-written contents IsSo writer now old new ended was is form echo line (inl failed) =
    subst (λ (it : Result (Unit {0}) Fault). UnlessUnheard it (Writes IsSo false false (contents writer) (contents now))) (sym failed) tt
shell-written {W} contents IsSo writer now old new ended was is form echo line (inr heard) =
    unless-so ended
    (λ hears. subst (λ (it : W). Writes IsSo false false (contents it) (contents now)) was
    (subst (λ (it : W). Writes IsSo false false (contents old.writer) (contents it)) (sym is)
    (heard-written contents IsSo false false old new (subst (λ (it : Form). IsFormOf false it) (sym form) tt) echo line hears))) heard

module _
    {B W : Type 0} (seat : B → Seated) (view : B → Account) (stack : B → Stack) (again : Bool) (database_of : SessionView B → ℕ) (entries : SessionView B → List Entry)
    (contents : W → Option (List ℕ)) (is_terminal : Bool) (typed before : Option (List ℕ)) (output : Option W) where
  -- This stands in the writer behind a buffer, for how the shell ended.
  abbrev pub IsPrinted : Result (Unit {0}) Fault → Type 0
  IsPrinted ended =
      UnlessUnheard ended (IsSomeAnd output (λ writer. WritesTyped seat view stack again database_of entries is_terminal typed before ended (contents writer)))

  -- What was written to a buffer stands in the writer behind it, unless that failed.
  pub typed-printed :
      {A : Type 0} (buffered now : BufWriter W A) (ended last : Result (Unit {0}) Fault) → writer_contents contents buffered ≡ before →
      UnlessUnheard ended (WritesTyped seat view stack again database_of entries is_terminal typed (writer_contents contents buffered) ended (writer_contents contents now)) →
      ArePassedOn contents now ended output last → IsPrinted last
  typed-printed buffered now ended last begins written (inr failed) = subst (λ (it : Result (Unit {0}) Fault). IsPrinted it) (sym failed) tt
  typed-printed buffered now ended last begins written (inl (same, kept)) =
      subst (λ (it : Result (Unit {0}) Fault). IsPrinted it) (sym same)
      (unless-so ended
      (λ all. kept-written contents (PlaysTyped seat view stack again database_of entries is_terminal typed no_cast ended) false false before
      (writer_contents contents now) output kept
      (subst
      (λ (it : Option (List ℕ)). WritesTyped seat view stack again database_of entries is_terminal typed it ended (writer_contents contents now)) begins all))
      written)
