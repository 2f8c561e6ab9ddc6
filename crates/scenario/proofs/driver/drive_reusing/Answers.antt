use Rattle.scenario.proofs.driver.drive_reusing.Goals as goal

pub end-requires-clause-free : goal.end-requires-clause-free
end-requires-clause-free g c =
    let desk = c.act_out-ended.new.self.state.desk in
    rw desk.is desk.own
