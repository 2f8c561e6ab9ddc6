use Rattle.std.proofs.Common.{◌≡◌, ◌∙◌, sym, ap, subst, inl}
use Rattle.modes_core.specs.Tag.{is_eligible_for}
use Rattle.shared_rule.specs.Boards.{Seated}
use Rattle.fast_path.specs.Slots.{count_in, group_of_tag}
use Rattle.fast_path.specs.Quiet.{quiet_ungranting}
use Rattle.lock_manager.specs.Releases.{ReleasesHold}
use Rattle.lock_manager.specs.Quiet.{quiet_releasing}
use Rattle.lock_manager.proofs.Lemmas.Releases.InPart.{looks-nowhere, looks-found, table-released}
use Rattle.lock_manager.proofs.Lemmas.Quiet.{releasing-looks, releasing-nowhere}
use Rattle.lock_manager.proofs.releases.release_hold.Given as given
use Rattle.lock_manager.proofs.releases.release_hold.Goals as goal
use Rattle.lock_manager.proofs.releases.release_hold.Goals.{After-ungrant}

pub returns-then-not-is_eligible-clause-steps : goal.returns-then-not-is_eligible-clause-steps
returns-then-not-is_eligible-clause-steps g c =
    let before = g.B.Board.view c.args.board.now in
    table-released (g.B.Board.seat c.args.board.now).groups (g.B.Board.seat c.args.board.now).number before before (g.B.Board.view c.release_in_table.new.board) c.args.uses.now c.args.uses.now c.args.tag.now c.args.mode
    (looks-nowhere (g.B.Board.seat c.args.board.now).groups (g.B.Board.seat c.args.board.now).number before c.args.uses.now c.args.tag.now c.args.mode
    (inl (ap (λ database. is_eligible_for database c.args.tag.now c.args.mode) c.requires.database ∙ sym c.if-not-is_eligible.ensures)))
    c.release_in_table.ensures.released

pub returns-then-not-ungrant-clause-steps : goal.returns-then-not-ungrant-clause-steps
returns-then-not-ungrant-clause-steps g c =
    let number = (g.B.Board.seat c.args.board.now).number in
    let before = g.B.Board.view c.args.board.now in
    let between = g.B.Board.view c.ungrant.new.board in
    table-released (g.B.Board.seat c.args.board.now).groups number before between (g.B.Board.view c.release_in_table-then-not-ungrant.new.board) c.args.uses.now c.ungrant.new.uses c.args.tag.now c.args.mode
    (looks-found (g.B.Board.seat c.args.board.now).groups number before between c.args.uses.now c.ungrant.new.uses c.args.tag.now c.args.mode
    (ap (λ database. is_eligible_for database c.args.tag.now c.args.mode) c.requires.database ∙ sym c.if-not-is_eligible.ensures) c.if-not-ungrant.ensures.ungranted)
    (subst (λ (s : Seated). ReleasesHold s.number between c.args.tag.now c.args.mode (g.B.Board.view c.release_in_table-then-not-ungrant.new.board))
    c.ungrant.ensures.seat c.release_in_table-then-not-ungrant.ensures.released)

-- Its quiet steps.

pub returns-then-not-is_eligible-clause-quiet : goal.returns-then-not-is_eligible-clause-quiet
returns-then-not-is_eligible-clause-quiet g c =
    let seat = g.B.Board.seat c.args.board.now in
    c.release_in_table.ensures.quiet
    ∙ sym (releasing-nowhere seat.groups seat.number (g.B.Board.view c.args.board.now) c.args.uses.now c.args.tag.now c.args.mode (g.B.Board.quiet c.args.board.now)
    (ap (λ database. is_eligible_for database c.args.tag.now c.args.mode) c.requires.database ∙ sym c.if-not-is_eligible.ensures))

-- Where the session looked in its slots they are those of that look.
quiet_looked : (g : given.Over) (c : goal.After-ungrant g)
    → quiet_releasing (g.B.Board.seat c.args.board.now).groups (g.B.Board.seat c.args.board.now).number (g.B.Board.view c.args.board.now) c.args.uses.now
    c.args.tag.now c.args.mode (g.B.Board.quiet c.args.board.now)
    ≡ quiet_ungranting (g.B.Board.seat c.args.board.now).number
    (count_in c.args.uses.now (group_of_tag (g.B.Board.seat c.args.board.now).groups c.args.tag.now)) (g.B.Board.quiet c.args.board.now)
quiet_looked g c =
    let seat = g.B.Board.seat c.args.board.now in
    releasing-looks seat.groups seat.number (g.B.Board.view c.args.board.now) c.args.uses.now c.args.tag.now c.args.mode (g.B.Board.quiet c.args.board.now)
    (ap (λ database. is_eligible_for database c.args.tag.now c.args.mode) c.requires.database ∙ sym c.if-not-is_eligible.ensures)

pub returns-then-not-ungrant-clause-quiet : goal.returns-then-not-ungrant-clause-quiet
returns-then-not-ungrant-clause-quiet g c =
    c.release_in_table-then-not-ungrant.ensures.quiet ∙ c.ungrant.ensures.quiet ∙ sym (quiet_looked g (goal.at.returns-then-not-ungrant-clause-quiet g c).After-ungrant)

pub returns-else-not-ungrant-clause-quiet : goal.returns-else-not-ungrant-clause-quiet
returns-else-not-ungrant-clause-quiet g c = c.ungrant.ensures.quiet ∙ sym (quiet_looked g (goal.at.returns-else-not-ungrant-clause-quiet g c).After-ungrant)
