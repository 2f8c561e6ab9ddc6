use Rattle.std.proofs.Common.{rules, ◌≡◌, ◌+◌, ◌<◌, [], ◌∷◌, ◌++◌, None, false, length, take, get_or}
use Rattle.std.proofs.lemmas.List.{take_more}
use Rattle.sql_locks.specs.declared.forms.Form.TheVariants.{Select}
use Rattle.sql_locks.specs.declared.locks.Act.{Act}
use Rattle.sql_report.proofs.Lemmas.LockSteps.{locks_of_more}
use Rattle.sql_report.proofs.outcome.locks_of_acts.Goals as goal

pub loop-act-preserved : goal.loop-act-preserved
loop-act-preserved c =
    let none : Act = record { form = Select; target = 0; other = None; is_only = false } in
    let lt : c.loop-act.act-index < length c.args.acts.now = search rules in
    let act : Act = get_or c.args.acts.now c.loop-act.act-index none in
    let is : c.in-Some.row.now.form ≡ act.form = search rules in
    let next : take (c.loop-act.act-index + 1) c.args.acts.now ≡ take c.loop-act.act-index c.args.acts.now ++ act ∷ [] =
    take_more c.args.acts.now c.loop-act.act-index none lt in
    let more = locks_of_more c.args.links.now (take c.loop-act.act-index c.args.acts.now) c.loop-act.locks.items act c.in-Some.row.now
    c.in_ok-more.more.items c.loop-act.invariant is c.in_ok-more.ensures in
    let appended : c.extend_from_slice.new.self.items ≡ c.loop-act.locks.items ++ c.in_ok-more.more.items = search rules in
    rw (next, appended) more
