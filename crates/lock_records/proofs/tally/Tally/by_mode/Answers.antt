use Rattle.lock_records.proofs.tally.Tally.by_mode.Goals as goal

pub returns-clause-few : goal.returns-clause-few
returns-clause-few c = c.self.invariant.each
