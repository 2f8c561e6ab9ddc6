use Rattle.std.specs.Prelude.{ℕ, List, ◌++◌, codes}
use Rattle.std.specs.Fmt.{decimal}
use Rattle.lock_script.specs.declared.faults.Defect.{Defect}
use Rattle.lock_script.specs.declared.faults.Defect.TheVariants.{TooManyLines, LineTooLong, NotAsciiText, UnknownCommand, WrongNumberOfWords, BadName, SessionExists, NameExists, NoSuchSession, SessionWaits, BadNumber, BadObject, ObjectNamed, BadMode, BadOwner}
use Rattle.lock_script.specs.declared.faults.Fault.{Fault}
use Rattle.lock_script.specs.declared.faults.Fault.TheVariants.{BadLine, ReadFailed, WriteFailed, NoMemory, GateHeld}

-- what is wrong with a line, in the words of the language
abbrev pub defect_text : Defect → List ℕ
defect_text TooManyLines = codes "too many lines"
defect_text LineTooLong = codes "line too long"
defect_text NotAsciiText = codes "not ASCII text"
defect_text UnknownCommand = codes "unknown command"
defect_text WrongNumberOfWords = codes "wrong number of words"
defect_text BadName = codes "bad name"
defect_text SessionExists = codes "session exists"
defect_text NameExists = codes "name exists"
defect_text NoSuchSession = codes "no such session"
defect_text SessionWaits = codes "session waits"
defect_text BadNumber = codes "bad number"
defect_text BadObject = codes "bad object"
defect_text ObjectNamed = codes "object has a name"
defect_text BadMode = codes "bad mode"
defect_text BadOwner = codes "bad owner"

-- what ends a script early, in one line
abbrev pub fault_text : Fault → List ℕ
fault_text (BadLine line what) = codes "line " ++ decimal line ++ codes ": " ++ defect_text what
fault_text ReadFailed = codes "read failed"
fault_text WriteFailed = codes "write failed"
fault_text NoMemory = codes "no memory"
fault_text GateHeld = codes "gate held"

-- the status that a program ends with
abbrev pub status_of : Fault → ℕ
status_of (BadLine line what) = 3
status_of ReadFailed = 1
status_of WriteFailed = 1
status_of NoMemory = 1
status_of GateHeld = 1
