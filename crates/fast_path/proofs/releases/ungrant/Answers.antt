use Rattle.std.proofs.Common.{◌≡◌, ◌∙◌, ◌∷◌, ℕ, false, sym, ap, inr, rules}
use Rattle.lw_word.specs.SlotWord.{in_use, word_without}
use Rattle.lock_table.specs.Put.{set_at}
use Rattle.lock_world.specs.SlotHolds.{group_of_relation, slot_holds, used_in}
use Rattle.shared_rule.specs.Boards.{Seated}
use Rattle.shared_rule.specs.Quiet.{TakesSlots}
use Rattle.fast_path.specs.Quiet.{quiet_ungranting}
use Rattle.fast_path.proofs.Lemmas.Quiet.{quiet-some}
use Rattle.fast_path.specs.Slots.{group_of_tag, count_in}
use Rattle.fast_path.proofs.Lemmas.Releases.{none-used, no-its, no-mode, some-used, may_put-cleared, clears, finds_none}
use Rattle.fast_path.proofs.Lemmas.Releases.{recounted-kept, recounted-less}
use Rattle.fast_path.proofs.releases.ungrant.Goals as goal
use Rattle.fast_path.proofs.releases.ungrant.Goals.{then-in_use, else-in_use, in-Some+else-has, in_default}

pub returns-then-of-eq0-clause-in_no_slot : goal.returns-then-of-eq0-clause-in_no_slot
returns-then-of-eq0-clause-in_no_slot g c =
    let a = g.B.Board.view c.args.board.now in
    let groups = (g.B.Board.seat c.args.board.now).groups in
    let of_tag : c.group_of-group.result ≡ group_of_tag groups c.args.tag.now = c.group_of-group.ensures.value
    ∙ ap (λ (k : ℕ). group_of_relation k c.relation_number-relation.result) c.groups.ensures.value
    ∙ ap (group_of_relation groups) c.relation_number-relation.ensures in
    let none = ap (count_in c.args.uses.now) (sym of_tag) ∙ sym c.of.ensures ∙ c.if-of-eq0.true in
    λ no. none-used (g.B.Board.seat c.args.board.now).groups a c.args.uses.now c.args.tag.now c.args.mode
    c.groups.ensures.some c.groups.ensures.few c.requires.ready none

pub returns-then-of-eq0-clause-quiet : goal.returns-then-of-eq0-clause-quiet
returns-then-of-eq0-clause-quiet g c =
    let groups = (g.B.Board.seat c.args.board.now).groups in
    let of_tag : c.group_of-group.result ≡ group_of_tag groups c.args.tag.now = c.group_of-group.ensures.value
    ∙ ap (λ (k : ℕ). group_of_relation k c.relation_number-relation.result) c.groups.ensures.value
    ∙ ap (group_of_relation groups) c.relation_number-relation.ensures in
    let none = ap (count_in c.args.uses.now) (sym of_tag) ∙ sym c.of.ensures ∙ c.if-of-eq0.true in
    sym (ap (λ (count : ℕ). quiet_ungranting (g.B.Board.seat c.args.board.now).number count (g.B.Board.quiet c.args.board.now)) none)

pub put_fast-requires-clause-lawful : goal.put_fast-requires-clause-lawful
put_fast-requires-clause-lawful g c =
    let its_group = c.group_of-group.ensures.value
    ∙ ap (λ (k : ℕ). group_of_relation k c.relation_number-relation.result) c.groups.ensures.value in
    let took = c.take_fast in
    let looks = c.look_through-used_count in
    let cleared = c.clear_slot in
    may_put-cleared (g.B.Board.seat c.args.board.now).groups (g.B.Board.seat c.args.board.now).number (g.B.Board.view c.args.board.now) c.args.uses.now
    c.number-own.result c.requires.ready c.number-own.ensures.value (g.B.Board.view took.new.self) took.ensures.taken
    c.groups.ensures.some c.groups.ensures.few (g.B.Board.view looks.new.board) c.group_of-group.result looks.ensures.loaded c.args.tag.now c.args.mode c.relation_number-relation.result
    c.relation_number-relation.ensures its_group looks.result looks.ensures.sighted (g.B.Board.view cleared.new.self) _ c.in-Some.slot
    (ap (λ (s : Seated). s.number) (looks.ensures.seat ∙ took.ensures.seat)) cleared.ensures.view

pub overflow_sub-left : goal.overflow_sub-left
overflow_sub-left g c =
    let its_group = c.group_of-group.ensures.value
    ∙ ap (λ (k : ℕ). group_of_relation k c.relation_number-relation.result) c.groups.ensures.value in
    let took = c.take_fast in
    let looks = c.look_through-used_count in
    some-used (g.B.Board.seat c.args.board.now).groups (g.B.Board.seat c.args.board.now).number (g.B.Board.view c.args.board.now) c.args.uses.now
    c.number-own.result c.requires.ready c.number-own.ensures.value (g.B.Board.view took.new.self) took.ensures.taken
    c.groups.ensures.some c.groups.ensures.few (g.B.Board.view looks.new.board) c.group_of-group.result looks.ensures.loaded c.args.tag.now c.args.mode c.relation_number-relation.result
    c.relation_number-relation.ensures its_group looks.result looks.ensures.sighted c.in-Some.slot c.in-Some.is

pub returns-then-has : goal.returns-then-has
returns-then-has g c =
    let groups = (g.B.Board.seat c.args.board.now).groups in
    let number = (g.B.Board.seat c.args.board.now).number in
    let a = g.B.Board.view c.args.board.now in
    let its_group = c.group_of-group.ensures.value
    ∙ ap (λ (k : ℕ). group_of_relation k c.relation_number-relation.result) c.groups.ensures.value in
    let of_tag : c.group_of-group.result ≡ group_of_tag groups c.args.tag.now = its_group
    ∙ ap (group_of_relation groups) c.relation_number-relation.ensures in
    let took = c.take_fast in
    let looks = c.look_through-used_count in
    let cleared = c.clear_slot in
    let same = ap (λ (s : Seated). s.number) (looks.ensures.seat ∙ took.ensures.seat) in
    let counted : c.if-in_use.left ≡ used_in c.group_of-group.result
    (set_at took.ensures.taken.slots.word c.in-Some.slot.number (word_without (took.ensures.taken.slots.word c.in-Some.slot.number) c.args.mode)) =
    elim c.if-in_use.branch [
      | then-in_use w ↦
          w.left-is ∙ recounted-kept groups number a c.args.uses.now c.number-own.result c.requires.ready
          c.number-own.ensures.value (g.B.Board.view took.new.self) took.ensures.taken c.groups.ensures.some c.groups.ensures.few (g.B.Board.view looks.new.board) c.group_of-group.result
          looks.ensures.loaded c.args.tag.now c.args.mode c.relation_number-relation.result c.relation_number-relation.ensures its_group looks.result
          looks.ensures.sighted (g.B.Board.view cleared.new.self) _ c.in-Some.slot same cleared.ensures.view c.in-Some.is
          (ap in_use (sym c.without.ensures.number) ∙ sym c.in_use.ensures ∙ w.if-in_use.true)
      | else-in_use w ↦
          recounted-less groups number a c.args.uses.now c.number-own.result c.requires.ready
          c.number-own.ensures.value (g.B.Board.view took.new.self) took.ensures.taken c.groups.ensures.some c.groups.ensures.few (g.B.Board.view looks.new.board) c.group_of-group.result
          looks.ensures.loaded c.args.tag.now c.args.mode c.relation_number-relation.result c.relation_number-relation.ensures its_group looks.result
          looks.ensures.sighted (g.B.Board.view cleared.new.self) _ c.in-Some.slot same cleared.ensures.view _ c.in-Some.is
          (ap in_use (sym c.without.ensures.number) ∙ sym c.in_use.ensures ∙ w.if-in_use.false) w.left-is
    ] in
    let both = clears groups number a c.args.uses.now c.number-own.result c.requires.ready c.number-own.ensures.value
    (g.B.Board.view took.new.self) took.ensures.taken c.groups.ensures.some c.groups.ensures.few (g.B.Board.view looks.new.board) c.group_of-group.result looks.ensures.loaded
    c.args.tag.now c.args.mode c.relation_number-relation.result c.relation_number-relation.ensures its_group looks.result looks.ensures.sighted
    (g.B.Board.view cleared.new.self) _ c.in-Some.slot same cleared.ensures.view (g.B.Board.view c.put_fast.new.self) _
    (ap (λ (s : Seated). s.number) cleared.ensures.seat) c.put_fast.ensures.view c.set.new.self c.if-in_use.left
    c.requires.eligible c.in-Some.is (sym c.has.ensures ∙ c.if-has.true) counted c.set.ensures in
    record {
      ungranted = ((λ unused. c.if-of-eq0.false (c.of.ensures ∙ ap (count_in c.args.uses.now) of_tag ∙ unused)), both.0);
      untouched = λ unused. absurd (c.if-of-eq0.false (c.of.ensures ∙ ap (count_in c.args.uses.now) of_tag ∙ unused));
      in_no_slot = search rules;
      ready = both.1;
      seat = search rules;
      stack = search rules;
      quiet = c.put_fast.ensures.quiet ∙ cleared.ensures.quiet ∙ looks.ensures.quiet ∙ took.ensures.quiet
          ∙ ap (λ owner. TakesSlots owner ∷ g.B.Board.quiet c.args.board.now) c.number-own.ensures.value
          ∙ sym (quiet-some number (count_in c.args.uses.now (group_of_tag groups c.args.tag.now)) (g.B.Board.quiet c.args.board.now)
          (λ unused. c.if-of-eq0.false (c.of.ensures ∙ ap (count_in c.args.uses.now) of_tag ∙ unused)));
    }

pub returns : goal.returns
returns g c =
    let groups = (g.B.Board.seat c.args.board.now).groups in
    let number = (g.B.Board.seat c.args.board.now).number in
    let a = g.B.Board.view c.args.board.now in
    let its_group = c.group_of-group.ensures.value
    ∙ ap (λ (k : ℕ). group_of_relation k c.relation_number-relation.result) c.groups.ensures.value in
    let of_tag : c.group_of-group.result ≡ group_of_tag groups c.args.tag.now = its_group
    ∙ ap (group_of_relation groups) c.relation_number-relation.ensures in
    let took = c.take_fast in
    let looks = c.look_through-used_count in
    let none : slot_holds a.fast.database took.ensures.taken.slots.word c.args.tag.now c.args.mode ≡ false =
    elim c.match-of_relation.branch [
      | in-Some+else-has w ↦
          no-mode groups number a c.args.uses.now c.number-own.result c.requires.ready c.number-own.ensures.value
          (g.B.Board.view took.new.self) took.ensures.taken c.groups.ensures.some c.groups.ensures.few (g.B.Board.view looks.new.board) c.group_of-group.result looks.ensures.loaded
          c.args.tag.now c.args.mode c.relation_number-relation.result c.relation_number-relation.ensures its_group looks.result looks.ensures.sighted
          w.in-Some.slot w.in-Some.is (sym w.has.ensures ∙ w.if-has.false)
      | in_default w ↦
          no-its groups number a c.args.uses.now c.number-own.result c.requires.ready c.number-own.ensures.value
          (g.B.Board.view took.new.self) took.ensures.taken c.groups.ensures.some c.groups.ensures.few (g.B.Board.view looks.new.board) c.group_of-group.result looks.ensures.loaded
          c.args.tag.now c.args.mode c.relation_number-relation.result c.relation_number-relation.ensures its_group looks.result looks.ensures.sighted
          w.in_default.is
    ] in
    let all = finds_none groups number a c.args.uses.now c.number-own.result c.requires.ready c.number-own.ensures.value
    (g.B.Board.view took.new.self) took.ensures.taken c.groups.ensures.some c.groups.ensures.few (g.B.Board.view looks.new.board) c.group_of-group.result looks.ensures.loaded
    c.args.tag.now c.args.mode c.relation_number-relation.result c.relation_number-relation.ensures its_group looks.result looks.ensures.sighted
    (g.B.Board.view c.put_fast-2.new.self) _
    (ap (λ (s : Seated). s.number) (looks.ensures.seat ∙ took.ensures.seat)) c.put_fast-2.ensures.view
    c.set-2.new.self none c.set-2.ensures in
    record {
      ungranted = inr ((λ unused. c.if-of-eq0.false (c.of.ensures ∙ ap (count_in c.args.uses.now) of_tag ∙ unused)), all.0);
      untouched = λ unused. absurd (c.if-of-eq0.false (c.of.ensures ∙ ap (count_in c.args.uses.now) of_tag ∙ unused));
      in_no_slot = λ no. all.2;
      ready = all.1;
      seat = search rules;
      stack = search rules;
      quiet = c.put_fast-2.ensures.quiet ∙ looks.ensures.quiet ∙ took.ensures.quiet
          ∙ ap (λ owner. TakesSlots owner ∷ g.B.Board.quiet c.args.board.now) c.number-own.ensures.value
          ∙ sym (quiet-some number (count_in c.args.uses.now (group_of_tag groups c.args.tag.now)) (g.B.Board.quiet c.args.board.now)
          (λ unused. c.if-of-eq0.false (c.of.ensures ∙ ap (count_in c.args.uses.now) of_tag ∙ unused)));
    }
