use Rattle.shared_rule.specs.Marks.{PutPart}
use Rattle.shared_rule.proofs.audits.put_back.Given as goal

abbrev pub ghosts-put_part : goal.ghosts-put_part
ghosts-put_part g a = record { mark = PutPart a.part a.done.now a.content }
