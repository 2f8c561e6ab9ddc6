use Rattle.std.proofs.Common.{refl, ap, replicate}
use Rattle.lock_table.proofs.Lemmas.Parts.{AreEmptyParts-at}
use Rattle.lock_model.proofs.Lemmas.Shows.Runs.{opening-shown}
use Rattle.lock_model.proofs.machine.state.Machine.new.Goals as goal

pub returns : goal.returns
returns c =
    opening-shown _ c.args.groups refl c.requires.some refl refl refl (ap (replicate 16) c.opening.ensures.says) (ap (replicate 64) c.opening-2.ensures.says) refl refl refl refl c.empty.ensures.databases c.empty.ensures.slots c.empty.ensures.zeros c.new.ensures.items
    (c.empty-2.ensures.sleep, c.empty-2.ensures.sleepers, c.empty-2.ensures.has_list, c.empty-2.ensures.stands, c.empty-2.ensures.off) refl refl refl
    c.in_ok-empty_parts.ensures.sixteen (λ p. let blank = AreEmptyParts-at _ c.in_ok-empty_parts.ensures.empty p in (blank.is_empty, blank.none_begun))
