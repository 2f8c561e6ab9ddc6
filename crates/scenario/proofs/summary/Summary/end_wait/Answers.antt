use Rattle.std.proofs.Common.{◌<◌, ◌∙◌, List, length, subst, sym}
use Rattle.scenario.specs.declared.summary.WaitRow.{WaitRow}
use Rattle.scenario.proofs.Lemmas.InTime.{in_time-ended}
use Rattle.scenario.proofs.summary.Summary.end_wait.Goals as goal

pub invariant_of-self-clause-in_time : goal.invariant_of-self-clause-in_time
invariant_of-self-clause-in_time c =
    let waits = c.args.self.now.waits in
    let within : c.in-Some.place < length c.as_mut_slice.result.now =
    subst (λ (all : List WaitRow). c.in-Some.place < length all) (c.as_slice.ensures.value ∙ sym c.as_mut_slice.ensures.value) c.in-Some.ensures.within in
    in_time-ended c.args.self.now.read waits.len c.args.granted waits.items c.as_mut_slice.result.now c.end_row.new.waits c.in-Some.place
    c.args.self.now.in_time c.as_mut_slice.ensures.value c.as_mut_slice.ensures.len within c.end_row.ensures
