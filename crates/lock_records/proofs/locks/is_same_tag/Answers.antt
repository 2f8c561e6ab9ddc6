use Rattle.std.proofs.Common.{◌∙◌}
use Rattle.modes_core.proofs.Lemmas.Equality.{tag_equals}
use Rattle.lock_records.proofs.locks.is_same_tag.Goals as goal

pub returns : goal.returns
returns c = c.eq.ensures ∙ tag_equals c.args.tag.now c.args.other.now
