use Rattle.shared_rule.proofs.audits.tell_all.Given as goal

abbrev pub ghosts-tell_all_as : goal.ghosts-tell_all_as
ghosts-tell_all_as g a = record { sizes = a.words.now.key }
