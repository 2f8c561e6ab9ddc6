use Rattle.std.proofs.Common.{◌≡◌, ◌<◌, true, None, not, length, get_or, is_some, is_none, sym, ap, ◌∙◌, arith}
use Rattle.std.proofs.lemmas.List.{get_or_default}
use Rattle.modes_core.specs.Tag.{partition_of}
use Rattle.lock_table.specs.PartView.{holds_in}
use Rattle.lock_table.specs.Parts.{no_part, part_at}
use Rattle.lock_table.proofs.Lemmas.Lists.{not_there_none}
use Rattle.lock_model.proofs.machine.state.Machine.may_ask_table.Goals as goal

pub returns-then-is_none : goal.returns-then-is_none
returns-then-is_none c =
    let now = c.args.self.now in
    let place : c.from-2.result ≡ c.args.session = c.from-2.ensures ∙ c.number.ensures.value in
    let no_wait : is_none (get_or now.waits.awaited c.args.session None) ≡ true = not_there_none _ (ap (λ i. is_some (get_or now.waits.awaited i None)) (sym place) ∙ c.if-is_none.ensures) in
    let within : partition_of c.args.tag < length now.contents.parts.items = let shown = c.requires.shown in let sixteen = shown.2.contents.sixteen in omega arith in
    let part : c.index-part.result.now ≡ part_at now.contents.parts.items (partition_of c.args.tag) = c.index-part.ensures ∙ ap (λ i. get_or now.contents.parts.items i c.index-part.result.now) (c.from.ensures ∙ c.partition.ensures.value) ∙ get_or_default now.contents.parts.items (partition_of c.args.tag) c.index-part.result.now no_part within in
    rw no_wait (ap not (c.has.ensures ∙ (λ i. c.held.ensures i c.args.mode) ∙ ap (λ p. holds_in p.holds c.args.session c.args.tag c.args.mode) part))
