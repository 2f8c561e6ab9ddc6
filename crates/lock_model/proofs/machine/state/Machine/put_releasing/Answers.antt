use Rattle.std.proofs.Common.{◌≡◌, ◌<◌, IfSome, [], map, length, get_or, None, refl, sym, ap, ◌∙◌, subst, arith}
use Rattle.std.specs.Prelude.{◌==◌}
use Rattle.std.specs.Vec.{with_item}
use Rattle.std.proofs.lemmas.Bool.{both_ways, eqb-true}
use Rattle.std.proofs.lemmas.List.{nil_from_length, length-map}
use Rattle.modes_core.specs.Tag.{partition_of}
use Rattle.lock_model.specs.declared.machine.state.Machine.{Machine}
use Rattle.lock_model.specs.declared.machine.state.Contents.{Contents}
use Rattle.lock_table.specs.declared.moves.Move.TheVariants.{Release}
use Rattle.lock_world.specs.declared.events.Step.TheVariants.{PutExclusive}
use Rattle.lock_world.specs.declared.events.Word.TheVariants.{Partition}
use Rattle.lock_model.specs.MovedPart.{IsMoved, woken_by}
use Rattle.lock_table.specs.Moves.{Moves}
use Rattle.lock_table.specs.PartView.{content_of}
use Rattle.lock_table.specs.Parts.{part_at, contents_in}
use Rattle.lock_table.specs.Waiter.{whose_and_mode}
use Rattle.lock_world.specs.World.{World}
use Rattle.lock_world.specs.Happens.{Next}
use Rattle.lock_model.specs.Shows.{Shows, IsOwnFor}
use Rattle.lock_model.proofs.Lemmas.Follows.Skipped.{skipped}
use Rattle.lock_model.proofs.Lemmas.Follows.Partitions.{released, releasing, release_wakes, exists_from}
use Rattle.lock_model.proofs.Lemmas.Shows.Changes.{changed_there}
use Rattle.lock_model.proofs.machine.state.Machine.put_releasing.Goals as goal

pub returns-in_default : goal.returns-in_default
returns-in_default c = λ w safe shows.
    let now = c.args.self.now in
    skipped now w safe shows c.args.session (PutExclusive (Partition c.args.partition) (Release c.args.tag c.args.mode))
    (λ lawful. (releasing now w safe shows c.args.session c.args.partition c.args.tag c.args.mode c.requires.in_hand lawful).1 (c.in_ok-moved.ensures.cannot c.in_default.is))

pub returns-then-is_empty : goal.returns-then-is_empty
returns-then-is_empty c = λ w safe shows.
    let now = c.args.self.now in
    let in_hand = c.requires.in_hand in
    let done = Release c.args.tag c.args.mode in
    let below = exists_from now w safe shows c.args.session c.args.partition in_hand in
    let in_words : c.args.partition < length now.words.partitions = omega (arith, below) in
    let in_parts : c.args.partition < length now.contents.parts.items = subst (λ n. c.args.partition < n) (sym shows.contents.sixteen) below in
    let object : partition_of c.args.tag ≡ c.args.partition = sym c.partition.ensures.value ∙ c.if-partition.false in
    let moved = subst (λ found. IfSome found (IsMoved (part_at now.contents.parts.items c.args.partition) c.args.session done)) c.in-Some.is c.in_ok-moved.ensures.moved in
    let own = subst (λ found. IfSome found (λ _. IsOwnFor (get_or now.waits.awaited c.args.session None) done)) c.in-Some.is c.in_ok-moved.ensures.own in
    let none : length (woken_by c.in-Some.moved) ≡ 0 = ap length (sym c.woken.ensures) ∙ eqb-true (length c.woken.result.now) 0 (sym c.is_empty.ensures ∙ c.if-is_empty.true) in
    let nobody : moved.granted ≡ [] = nil_from_length moved.granted (sym (length-map moved.granted whose_and_mode) ∙ sym (ap length moved.named) ∙ none) in
    let changed : Contents = record (now.contents) { parts = with_item now.contents.parts c.from.result c.in-Some.moved.part } in
    let P : Machine → Type 0 = λ m. (v : World) × Next w (record { session = c.args.session; step = PutExclusive (Partition c.args.partition) (Release c.args.tag c.args.mode) }) v × Shows m v in
    subst P (sym c.set_free.ensures)
    (released now w safe shows c.args.session c.args.partition c.args.tag c.args.mode (content_of c.in-Some.moved.part) changed in_hand object own
    (subst (λ granted. Moves (contents_in now.contents.parts.items c.args.partition) c.args.session done granted (content_of c.in-Some.moved.part)) nobody moved.moves) in_words
    (changed_there now.contents.parts.items c.from.result c.args.partition c.in-Some.moved.part (content_of c.in-Some.moved.part) c.from.ensures in_parts refl (moved.begun ∙ shows.contents.none_begun c.args.partition)))

pub returns-else-is_empty : goal.returns-else-is_empty
returns-else-is_empty c = λ w safe shows.
    let now = c.args.self.now in
    let done = Release c.args.tag c.args.mode in
    let moved = subst (λ found. IfSome found (IsMoved (part_at now.contents.parts.items c.args.partition) c.args.session done)) c.in-Some.is c.in_ok-moved.ensures.moved in
    skipped now w safe shows c.args.session (PutExclusive (Partition c.args.partition) done)
    (λ lawful.
    let nobody = release_wakes now w safe shows c.args.session c.args.partition c.args.tag c.args.mode moved.granted (content_of c.in-Some.moved.part) c.requires.in_hand moved.moves lawful in
    both_ways _ c.if-is_empty.false (c.is_empty.ensures ∙ ap (λ told. length told == 0) (c.woken.ensures ∙ moved.named ∙ ap (map whose_and_mode) nobody)))

pub returns-then-partition : goal.returns-then-partition
returns-then-partition c = λ w safe shows.
    let now = c.args.self.now in
    skipped now w safe shows c.args.session (PutExclusive (Partition c.args.partition) (Release c.args.tag c.args.mode))
    (λ lawful. c.if-partition.true (c.partition.ensures.value ∙ (releasing now w safe shows c.args.session c.args.partition c.args.tag c.args.mode c.requires.in_hand lawful).0))
