use Rattle.std.proofs.Common.{ℕ, List, ap}
use Rattle.scenario.proofs.Lemmas.InTurn.{is-kept}
use Rattle.scenario.proofs.kept.kept_or_fault.Goals as goal

pub returns-in-Ok-keep-clause-kept : goal.returns-in-Ok-keep-clause-kept
returns-in-Ok-keep-clause-kept c =
    let says = ap (λ (text : List ℕ). record { number = c.args.line.number; text = text }) c.in-Ok.ensures.ok in
    is-kept c.args.kept.now c.keep.new.self c.args.session.bytes (record { number = c.args.line.number; text = c.in-Ok.text })
    (record { number = c.args.line.number; text = c.args.line.text.now }) says c.in-Ok-keep.ensures.kept
