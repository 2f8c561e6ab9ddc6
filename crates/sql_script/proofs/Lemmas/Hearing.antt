-- What is heard of a line.
use Rattle.std.proofs.Common.{◌≡◌, ℕ, List, Bool, true, false, subst, IfOk, Ok, Err, Result}
use Rattle.std.specs.Prelude.{MatchBool}
use Rattle.sql_script.specs.Known.{Known}
use Rattle.sql_script.specs.Lines.{IsHeardAs, IsHeardOf, IsPlayedAtEnd, IsToPlay, verb_of, work_called}
use Rattle.sql_script.specs.Turns.{AreTurnsOf}
use Rattle.sql_script.specs.Words.{before_semicolon, behind_word, first_word}
use Rattle.sql_script.specs.declared.lines.Heard.{Heard}
use Rattle.sql_script.specs.declared.sessions.ScriptSession.{ScriptSession}
use Rattle.sql_script.specs.declared.verbs.Verb.{Verb}
use Rattle.sql_script.specs.declared.verbs.Verb.TheVariants as verb

-- what holds where a truth value is false
if-false : (P Q : Type 0) (b : Bool) → b ≡ false → Q → MatchBool b P Q
if-false P Q false is q = q
if-false P Q true is q = let never : ⊥ = cc in absurd never

-- Outside of a schema a line is heard as its first word has it.
pub heard-as :
    {E : Type 0} (known : Known) (line : List ℕ) (it : Verb) (r : Result Heard E) → known.in_schema ≡ false → it ≡ verb_of (first_word line) →
    IfOk r (IsHeardAs it known.sessions (behind_word line)) → IfOk r (IsHeardOf known line)
heard-as known line it (Ok heard) out is h =
    if-false _ _ known.in_schema out (subst (λ (verb : Verb). IsHeardAs verb known.sessions (behind_word line) heard) is h)
heard-as known line it (Err e) out is h = tt

-- Of a line that says statements, these are heard.
pub statements-heard :
    {E : Type 0} (sessions : List ScriptSession) (line behind name text : List ℕ) (works : Bool) (r : Result Heard E) → behind ≡ behind_word line →
    name ≡ first_word behind → text ≡ behind_word behind →
    IfOk r (IsToPlay sessions name (λ database. AreTurnsOf database works text)) →
    IfOk r (IsToPlay sessions (first_word (behind_word line)) (λ database. AreTurnsOf database works (behind_word (behind_word line))))
statements-heard sessions line behind name text works r is of_name of_text h =
    subst (λ (from : List ℕ). IfOk r (IsToPlay sessions (first_word from) (λ database. AreTurnsOf database works (behind_word from)))) is
    (subst (λ (said : List ℕ). IfOk r (IsToPlay sessions (first_word behind) (λ database. AreTurnsOf database works said))) of_text
    (subst (λ (called : List ℕ). IfOk r (IsToPlay sessions called (λ database. AreTurnsOf database works text))) of_name h))

-- Of a line that says that work is done, its end is heard.
pub end-heard :
    {E : Type 0} (sessions : List ScriptSession) (line behind word name : List ℕ) (r : Result Heard E) → behind ≡ behind_word line → word ≡ first_word behind →
    name ≡ before_semicolon word → IfOk r (IsToPlay sessions name (λ database. IsPlayedAtEnd database sessions (work_called sessions name))) →
    IfOk r (IsHeardAs verb.Done sessions (behind_word line))
end-heard sessions line behind word name r is of_word of_name h =
    subst (λ (from : List ℕ). IfOk r (IsHeardAs verb.Done sessions from)) is
    (subst (λ (it : List ℕ). IfOk r (IsToPlay sessions (before_semicolon it) (λ database. IsPlayedAtEnd database sessions (work_called sessions (before_semicolon it))))) of_word
    (subst (λ (called : List ℕ). IfOk r (IsToPlay sessions called (λ database. IsPlayedAtEnd database sessions (work_called sessions called)))) of_name h))
