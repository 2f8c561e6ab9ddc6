use Rattle.std.proofs.Common.{not, length, ap, ◌∙◌}
use Rattle.std.proofs.lemmas.Result.{on_ok_weaker}
use Rattle.lock_records.specs.Rows.{shown_below, awaited_below}
use Rattle.lock_records.specs.Records.{view_of}
use Rattle.lock_records.specs.View.{RecordView}
use Rattle.lock_records.proofs.Lemmas.Listings.{appends-more, shown-once, on-ok}
use Rattle.lock_records.proofs.records.Records.push_rows.Goals as goal

pub returns-clause-ok : goal.returns-clause-ok
returns-clause-ok c =
    let view : RecordView = view_of c.self.inside in
    rw (← c.self.view_is)
    (on_ok_weaker c.push_rows.result
    (appends-more c.args.rows.now.items c.push_holds.new.rows.items c.push_rows.new.rows.items (shown_below view.holders (length view.holders)) (awaited_below view.queues (length view.queues)) _
    (λ row. shown-once view row (c.self.invariant.objects row.tag).are ((c.self.invariant.objects row.tag).waiting.one_each row.session))
    (on-ok c.push_holds.result _ (c.is_err.ensures.negation ∙ ap not c.if-is_err.false) c.push_holds.ensures.ok))
    c.push_rows.ensures.ok)
