use Rattle.std.proofs.Common.{rules}
use Rattle.lock_script.specs.Words.{is_slash}
use Rattle.lock_script.proofs.Lemmas.Words.{parts-at}
use Rattle.lock_script.proofs.words.cut_at_slash.Goals as goal

pub returns : goal.returns
returns c = parts-at is_slash c.args.word.now c.split_once.result (search rules)
