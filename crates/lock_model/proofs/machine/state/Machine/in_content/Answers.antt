use Rattle.std.proofs.Common.{◌≡◌, ◌<◌, length, get_or, ap, ◌∙◌, arith}
use Rattle.std.proofs.lemmas.List.{get_or_default}
use Rattle.modes_core.specs.Tag.{partition_of}
use Rattle.lock_table.specs.PartView.{holds_in}
use Rattle.lock_table.specs.Parts.{no_part, part_at}
use Rattle.lock_model.proofs.machine.state.Machine.in_content.Goals as goal

pub returns : goal.returns
returns c =
    let now = c.args.self.now in
    let within : partition_of c.args.tag < length now.contents.parts.items = let shown = c.requires.shown in let sixteen = shown.2.contents.sixteen in omega arith in
    let part : c.index.result.now ≡ part_at now.contents.parts.items (partition_of c.args.tag) = c.index.ensures ∙ ap (λ i. get_or now.contents.parts.items i c.index.result.now) (c.from.ensures ∙ c.partition.ensures.value) ∙ get_or_default now.contents.parts.items (partition_of c.args.tag) c.index.result.now no_part within in
    c.has.ensures ∙ (λ i. c.held.ensures i c.args.mode) ∙ ap (λ p. holds_in p.holds c.args.session c.args.tag c.args.mode) part
