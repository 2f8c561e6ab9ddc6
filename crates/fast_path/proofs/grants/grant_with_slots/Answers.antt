use Rattle.std.proofs.Common.{◌≡◌, ◌∙◌, ◌∷◌, ℕ, ◌+◌, ◌<◌, IfNone, ap, subst, arith, rules}
use Rattle.lock_world.specs.SlotHolds.{most_groups, relation_of}
use Rattle.lock_world.proofs.Lemmas.Slots.Used.{relation-group}
use Rattle.shared_rule.specs.Boards.{Seated}
use Rattle.shared_rule.specs.Quiet.{SetsSlot}
use Rattle.fast_path.specs.Slots.{IsAllInUse, group_of_tag, count_in, counting, one_more_in}
use Rattle.fast_path.proofs.Lemmas.GrantSlots.{some-unused}
use Rattle.fast_path.proofs.Lemmas.Grants.{looked-enough, looked-sights, may_put-granted, done-its, done-unused}
use Rattle.fast_path.proofs.grants.grant_with_slots.Goals as goal

pub returns-then-load_strong-ne0-clause-quiet : goal.returns-then-load_strong-ne0-clause-quiet
returns-then-load_strong-ne0-clause-quiet g c = λ number before has.
    c.put_fast.ensures.quiet ∙ c.load_strong.ensures.quiet ∙ has

pub look_for_grant-of_relation-requires-clause-enough : goal.look_for_grant-of_relation-requires-clause-enough
look_for_grant-of_relation-requires-clause-enough g c =
    let seat = g.B.Board.seat c.args.board.now in
    let has = c.requires.in_hand in
    let reads = c.load_strong in
    looked-enough seat.groups seat.number (g.B.Board.view c.args.board.now) c.args.tag.now has.slots has.in_hand 0
    (g.B.Board.view reads.new.self)
    c.number-own.result c.strong_index.result c.args.group reads.result c.number-own.ensures.value c.strong_index.ensures.value
    c.requires.its_group c.if-load_strong-ne0.false reads.ensures.view c.args.uses.now c.of-use_count.result
    (omega (arith, c.requires.there, c.requires.few)) has.enough c.of-use_count.ensures

pub put_fast-requires-in-Some-clause-lawful : goal.put_fast-requires-in-Some-clause-lawful
put_fast-requires-in-Some-clause-lawful g c =
    let seat = g.B.Board.seat c.args.board.now in
    let reads = c.load_strong in
    let looks = c.look_for_grant-of_relation in
    let set = c.set_slot in
    may_put-granted seat.groups seat.number (g.B.Board.view c.args.board.now) c.args.uses.now c.args.tag.now c.args.mode
    c.requires.in_hand c.number-own.result c.strong_index.result c.args.group reads.result _ looks.ensures.loaded.0 c.in-Some.slot (g.B.Board.view reads.new.self)
    (g.B.Board.view looks.new.board) (g.B.Board.view set.new.self) c.number-own.ensures.value
    (ap (λ (s : Seated). s.number) (looks.ensures.seat ∙ reads.ensures.seat)) c.strong_index.ensures.value
    c.requires.its_group c.if-load_strong-ne0.false reads.ensures.view looks.ensures.loaded.2 set.ensures.view

pub returns-in-Some : goal.returns-in-Some
returns-in-Some g c =
    let seat = g.B.Board.seat c.args.board.now in
    let reads = c.load_strong in
    let relation = c.relation_number in
    let looks = c.look_for_grant-of_relation in
    let set = c.set_slot in
    let both = done-its seat.groups seat.number (g.B.Board.view c.args.board.now) c.args.uses.now c.args.tag.now c.args.mode
    c.requires.in_hand c.number-own.result c.strong_index.result c.args.group reads.result _ looks.ensures.loaded.0 c.in-Some.slot
    (g.B.Board.view reads.new.self) (g.B.Board.view looks.new.board) (g.B.Board.view set.new.self)
    c.number-own.ensures.value
    (ap (λ (s : Seated). s.number) (looks.ensures.seat ∙ reads.ensures.seat)) c.strong_index.ensures.value
    c.requires.its_group c.if-load_strong-ne0.false reads.ensures.view looks.ensures.loaded.2 set.ensures.view
    relation.result relation.ensures relation.type_inv c.requires.may_try.eligible (omega (arith, c.requires.there)) c.requires.few
    c.requires.has_room looks.ensures.loaded.1
    looks.result looks.ensures.sighted (g.B.Board.view c.put_fast-in-Some.new.self) _
    (ap (λ (s : Seated). s.number) set.ensures.seat) c.put_fast-in-Some.ensures.view c.in-Some.is in
    record {
      granted = both.0;
      ready = both.1;
      seat = search rules;
      stack = search rules;
      quiet = λ number before has.
          c.put_fast-in-Some.ensures.quiet ∙ set.ensures.quiet
          ∙ ap (λ its. SetsSlot c.args.tag.now c.args.mode ∷ its) (looks.ensures.quiet ∙ reads.ensures.quiet ∙ has);
    }

pub unwrap-slot-requires : goal.unwrap-slot-requires
unwrap-slot-requires g c =
    let seat = g.B.Board.seat c.args.board.now in
    let has = c.requires.in_hand in
    let reads = c.load_strong in
    let looks = c.look_for_grant-of_relation in
    let sights = looked-sights seat.groups seat.number (g.B.Board.view c.args.board.now) c.args.tag.now has.slots has.in_hand 0
    (g.B.Board.view reads.new.self)
    c.number-own.result c.strong_index.result c.args.group reads.result c.number-own.ensures.value c.strong_index.ensures.value
    c.requires.its_group c.if-load_strong-ne0.false reads.ensures.view c.relation_number.result looks.result c.relation_number.ensures
    looks.ensures.sighted in
    let exists = relation-group seat.groups (relation_of c.args.tag.now) (omega (arith, c.requires.there)) in
    let its_exists : group_of_tag seat.groups c.args.tag.now < most_groups = omega (arith, exists, c.requires.few) in
    some-unused seat.groups (group_of_tag seat.groups c.args.tag.now) has.slots.word c.args.uses.now looks.result.highest_unused
    its_exists has.enough has.within c.requires.has_room
    (subst (λ its. IfNone its (IfNone looks.result.highest_unused (IsAllInUse (group_of_tag seat.groups c.args.tag.now) has.slots.word)))
    c.in_default.is sights.full)

pub put_fast-requires-2-clause-lawful : goal.put_fast-requires-2-clause-lawful
put_fast-requires-2-clause-lawful g c =
    let seat = g.B.Board.seat c.args.board.now in
    let reads = c.load_strong in
    let looks = c.look_for_grant-of_relation in
    let set = c.set_slot-2 in
    may_put-granted seat.groups seat.number (g.B.Board.view c.args.board.now) c.args.uses.now c.args.tag.now c.args.mode
    c.requires.in_hand c.number-own.result c.strong_index.result c.args.group reads.result _ looks.ensures.loaded.0 c.unwrap-slot.result
    (g.B.Board.view reads.new.self) (g.B.Board.view looks.new.board) (g.B.Board.view set.new.self)
    c.number-own.ensures.value
    (ap (λ (s : Seated). s.number) (looks.ensures.seat ∙ reads.ensures.seat)) c.strong_index.ensures.value
    c.requires.its_group c.if-load_strong-ne0.false reads.ensures.view looks.ensures.loaded.2 set.ensures.view

pub returns : goal.returns
returns g c =
    let seat = g.B.Board.seat c.args.board.now in
    let reads = c.load_strong in
    let relation = c.relation_number in
    let looks = c.look_for_grant-of_relation in
    let set = c.set_slot-2 in
    let raised : count_in c.set.new.self ≡ one_more_in c.args.uses.now (group_of_tag seat.groups c.args.tag.now) =
    c.set.ensures ∙ ap (λ (k : ℕ). counting c.args.uses.now c.args.group (k + 1)) c.of-use_count.ensures
    ∙ ap (one_more_in c.args.uses.now) c.requires.its_group in
    let both = done-unused seat.groups seat.number (g.B.Board.view c.args.board.now) c.args.uses.now c.args.tag.now c.args.mode
    c.requires.in_hand c.number-own.result c.strong_index.result c.args.group reads.result _ looks.ensures.loaded.0 c.unwrap-slot.result
    (g.B.Board.view reads.new.self) (g.B.Board.view looks.new.board) (g.B.Board.view set.new.self)
    c.number-own.ensures.value
    (ap (λ (s : Seated). s.number) (looks.ensures.seat ∙ reads.ensures.seat)) c.strong_index.ensures.value
    c.requires.its_group c.if-load_strong-ne0.false reads.ensures.view looks.ensures.loaded.2 set.ensures.view
    relation.result relation.ensures relation.type_inv c.requires.may_try.eligible (omega (arith, c.requires.there)) c.requires.few
    c.requires.has_room looks.ensures.loaded.1
    looks.result looks.ensures.sighted (g.B.Board.view c.put_fast-2.new.self) _
    (ap (λ (s : Seated). s.number) set.ensures.seat) c.put_fast-2.ensures.view c.set.new.self raised c.in_default.is c.unwrap-slot.ensures in
    record {
      granted = both.0;
      ready = both.1;
      seat = search rules;
      stack = search rules;
      quiet = λ number before has.
          c.put_fast-2.ensures.quiet ∙ set.ensures.quiet
          ∙ ap (λ its. SetsSlot c.args.tag.now c.args.mode ∷ its) (looks.ensures.quiet ∙ reads.ensures.quiet ∙ has);
    }
