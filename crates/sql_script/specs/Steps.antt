use Rattle.std.specs.Prelude.{ℕ, List, [], ◌++◌, codes}
use Rattle.std.specs.List.{flat_map}
use Rattle.modes_core.specs.declared.modes.Mode.{Mode}
use Rattle.modes_core.specs.declared.sessions.Owner.{Owner}
use Rattle.modes_core.specs.declared.sessions.Owner.TheVariants.{Session, Transaction}
use Rattle.modes_core.specs.declared.tags.Tag.{Tag}
use Rattle.modes_core.specs.Mode.{name_of}
use Rattle.modes_core.specs.TagText.{tag_text}
use Rattle.sql_script.specs.declared.steps.Step.{Step}
use Rattle.sql_script.specs.declared.steps.Step.TheVariants.{Lock, Try, Unlock, UnlockAll, Commit, Abort, Begin, SubCommit, SubAbort}
use Rattle.sql_script.specs.declared.turns.Turn.{Turn}

-- what a line says of the owner of its lock
abbrev pub text_of : Owner → List ℕ
text_of Transaction = []
text_of Session = codes " session"

-- the words of a line after its first one: the session, the object, the mode and the owner
abbrev pub lock_text : List ℕ → Tag → Mode → Owner → List ℕ
lock_text session tag mode owner =
    session ++ (codes " " ++ (tag_text tag ++ (codes " " ++ (name_of mode ++ text_of owner))))

-- the line of a script by which a session does a step
abbrev pub line_text : List ℕ → Step → List ℕ
line_text session (Lock tag mode owner) = codes "lock " ++ lock_text session tag mode owner
line_text session (Try tag mode owner) = codes "try " ++ lock_text session tag mode owner
line_text session (Unlock tag mode owner) = codes "unlock " ++ lock_text session tag mode owner
line_text session UnlockAll = codes "unlock_all " ++ session
line_text session Commit = codes "commit " ++ session
line_text session Abort = codes "abort " ++ session
line_text session Begin = codes "begin " ++ session
line_text session SubCommit = codes "subcommit " ++ session
line_text session SubAbort = codes "subabort " ++ session

-- the steps of turns, one turn after another
abbrev pub steps_in : List Turn → List Step
steps_in turns = flat_map (λ turn. turn.steps.items) turns
