use Rattle.std.proofs.Common.{ℕ, ◌*◌, ◌<◌, sym, ap, ◌∙◌, subst}
use Rattle.std.specs.Prelude.{IfSome}
use Rattle.lock_world.specs.SlotHolds.{group_size, group_of_relation}
use Rattle.shared_rule.specs.Boards.{Seated}
use Rattle.shared_rule.specs.History.{slots_here}
use Rattle.fast_path.specs.Slots.{IsSeenOf}
use Rattle.fast_path.proofs.Lemmas.Sights.{slot-below}
use Rattle.fast_path.proofs.Lemmas.Turns.{next-before, finds, relation-found, group-found, may_pass-nothing, may_pass-adopted}
use Rattle.fast_path.proofs.Lemmas.Turns.{passes-nothing, passes-adopting, stops-adopting}
use Rattle.fast_path.proofs.transfers.pass_in_database.Goals as goal

pub adopt-requires-clause-there : goal.adopt-requires-clause-there
adopt-requires-clause-there g c =
    let looks = c.look_through-of_relation in
    let word = (slots_here ((g.B.Board.view c.args.board.now).fast.slots c.args.owner)).word in
    let seen = subst (λ found. IfSome found (IsSeenOf c.group_of-group.result word c.relation_number-relation.result)) c.in-Some.is
    looks.ensures.sighted.found in
    let below : c.group_of-group.result < (g.B.Board.seat c.args.board.now).groups =
    subst (λ (k : ℕ). c.group_of-group.result < k) c.groups.ensures.value c.group_of-group.ensures.exists in
    subst (λ (s : Seated). c.in-Some.slot.number < group_size * s.groups) (sym looks.ensures.seat)
    (slot-below c.group_of-group.result (g.B.Board.seat c.args.board.now).groups c.in-Some.slot.number seen.within below)

pub pass_fast-requires-clause-lawful : goal.pass_fast-requires-clause-lawful
pass_fast-requires-clause-lawful g c =
    let a = c.requires.begun.0 in
    let begun = c.requires.begun.1 in
    let b = g.B.Board.view c.args.board.now in
    let looks = c.look_through-of_relation in
    let v = g.B.Board.view looks.new.board in
    let groups = (g.B.Board.seat c.args.board.now).groups in
    let its_group = c.group_of-group.ensures.value
    ∙ ap (λ (k : ℕ). group_of_relation k c.relation_number-relation.result) c.groups.ensures.value in
    let found = finds groups a b v c.args.owner c.group_of-group.result _ c.args.tag.now looks.result begun.looked
    c.relation_number-relation.ensures its_group looks.ensures.loaded looks.ensures.sighted in
    may_pass-nothing groups a v c.args.owner c.args.tag.now c.args.mode looks.result found c.in_default.is
    (next-before groups a b c.args.owner c.args.tag.now c.args.mode begun c.requires.next)

pub returns-in_default-clause-passed : goal.returns-in_default-clause-passed
returns-in_default-clause-passed g c = λ a begun.
    let looks = c.look_through-of_relation in
    let v = g.B.Board.view looks.new.board in
    let groups = (g.B.Board.seat c.args.board.now).groups in
    let its_group = c.group_of-group.ensures.value
    ∙ ap (λ (k : ℕ). group_of_relation k c.relation_number-relation.result) c.groups.ensures.value in
    let found = finds groups a (g.B.Board.view c.args.board.now) v c.args.owner c.group_of-group.result _ c.args.tag.now
    looks.result begun.looked c.relation_number-relation.ensures its_group looks.ensures.loaded looks.ensures.sighted in
    passes-nothing groups (g.B.Board.seat looks.new.board).number a v (g.B.Board.view c.pass_fast.new.self) c.args.owner
    c.args.tag.now c.args.mode looks.result begun.unlocked found c.in_default.is c.pass_fast.ensures.view

pub pass_fast-requires-in-Ok-clause-lawful : goal.pass_fast-requires-in-Ok-clause-lawful
pass_fast-requires-in-Ok-clause-lawful g c =
    let a = c.requires.begun.0 in
    let begun = c.requires.begun.1 in
    let b = g.B.Board.view c.args.board.now in
    let looks = c.look_through-of_relation in
    let v = g.B.Board.view looks.new.board in
    let groups = (g.B.Board.seat c.args.board.now).groups in
    let its_group = c.group_of-group.ensures.value
    ∙ ap (λ (k : ℕ). group_of_relation k c.relation_number-relation.result) c.groups.ensures.value in
    let found = finds groups a b v c.args.owner c.group_of-group.result _ c.args.tag.now looks.result begun.looked
    c.relation_number-relation.ensures its_group looks.ensures.loaded looks.ensures.sighted in
    let has = relation-found groups a v c.args.owner c.args.tag.now looks.result c.in-Some.slot found
    c.groups.ensures.some c.groups.ensures.few c.in-Some.is in
    may_pass-adopted groups a v (g.B.Board.view c.adopt.new.board) c.args.owner _ _ c.args.tag.now c.args.mode looks.result
    found has c.in-Ok.ensures.adopted (next-before groups a b c.args.owner c.args.tag.now c.args.mode begun c.requires.next)

pub returns-in-Ok-clause-passed : goal.returns-in-Ok-clause-passed
returns-in-Ok-clause-passed g c = λ a begun.
    let looks = c.look_through-of_relation in
    let v = g.B.Board.view looks.new.board in
    let groups = (g.B.Board.seat c.args.board.now).groups in
    let its_group = c.group_of-group.ensures.value
    ∙ ap (λ (k : ℕ). group_of_relation k c.relation_number-relation.result) c.groups.ensures.value in
    let found = finds groups a (g.B.Board.view c.args.board.now) v c.args.owner c.group_of-group.result _ c.args.tag.now
    looks.result begun.looked c.relation_number-relation.ensures its_group looks.ensures.loaded looks.ensures.sighted in
    let has = relation-found groups a v c.args.owner c.args.tag.now looks.result c.in-Some.slot found
    c.groups.ensures.some c.groups.ensures.few c.in-Some.is in
    passes-adopting groups (g.B.Board.seat c.adopt.new.board).number a v (g.B.Board.view c.adopt.new.board)
    (g.B.Board.view c.pass_fast-in-Ok.new.self) c.args.owner _ _ c.args.tag.now c.args.mode looks.result begun.unlocked
    found has (group-found groups a v c.args.owner c.args.tag.now looks.result c.in-Some.slot found c.in-Some.is) c.in-Ok.ensures.adopted c.pass_fast-in-Ok.ensures.view

pub returns-in-Err-clause-passed : goal.returns-in-Err-clause-passed
returns-in-Err-clause-passed g c = λ a begun.
    let looks = c.look_through-of_relation in
    let v = g.B.Board.view looks.new.board in
    let groups = (g.B.Board.seat c.args.board.now).groups in
    let its_group = c.group_of-group.ensures.value
    ∙ ap (λ (k : ℕ). group_of_relation k c.relation_number-relation.result) c.groups.ensures.value in
    let found = finds groups a (g.B.Board.view c.args.board.now) v c.args.owner c.group_of-group.result _ c.args.tag.now
    looks.result begun.looked c.relation_number-relation.ensures its_group looks.ensures.loaded looks.ensures.sighted in
    let has = relation-found groups a v c.args.owner c.args.tag.now looks.result c.in-Some.slot found
    c.groups.ensures.some c.groups.ensures.few c.in-Some.is in
    stops-adopting groups (g.B.Board.seat c.adopt.new.board).number a v (g.B.Board.view c.adopt.new.board)
    (g.B.Board.view c.put_fast.new.self) c.args.owner _ _ c.args.tag.now looks.result begun.unlocked found has
    (group-found groups a v c.args.owner c.args.tag.now looks.result c.in-Some.slot found c.in-Some.is) c.in-Err.ensures.adopted c.put_fast.ensures.view
