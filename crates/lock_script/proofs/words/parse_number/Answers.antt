use Rattle.std.proofs.Common.{sym}
use Rattle.std.proofs.lemmas.Str.Parse.{parse_digits}
use Rattle.lock_script.proofs.Lemmas.Words.{numerals, number_in-None}
use Rattle.lock_script.proofs.words.parse_number.Goals as goal

pub returns-in-Err : goal.returns-in-Err
returns-in-Err c = number_in-None c.args.word.now (rw c.in-Err.is at (parse_digits numerals 32 c.args.word.now c.parse.result c.parse.ensures.value.0 (sym c.if-not-has_digits.ensures)))
