use Rattle.shared_rule.specs.Plays.{side_of}
use Rattle.std.proofs.Common.{sym, subst}
use Rattle.local_locks.specs.declared.ends.End.TheVariants.{Close}
use Rattle.local_locks.specs.Owned.{ended_by}
use Rattle.lock_manager.specs.Keeper.{content_of}
use Rattle.shared_rule.specs.Boards.{Seated}
use Rattle.shared_rule.specs.History.{first_account}
use Rattle.lock_manager.specs.Managers.{TakesBack}
use Rattle.shared_rule.specs.Quiet.{first_quiet}
use Rattle.lock_manager.specs.Quiet.{QuietOfReleases}
use Rattle.lock_manager.proofs.sessions.OwnSession+Part+SeatBoard+Part.close.Goals as goal

pub returns : goal.returns
returns g c =
    let before = c.args.self in
    let last = first_account content_of (side_of c.end-board.result.seat).0.sessions in
    let quiet = c.end-board.ensures.quiet in
    record {
      closed = record {
        last = last;
        left = c.end-board.ensures.released.0;
        released = c.end-board.ensures.released.1;
        opener = subst (λ (seat : Seated). TakesBack seat.number last.trace c.args.opener.now c.take_back.new.self) c.end-board.ensures.seat c.take_back.ensures.closed;
      };
      quiet = λ history others is. (
        last,
        quiet.0,
        subst (QuietOfReleases before.board.sizes.groups before.board.number (first_account content_of (side_of before.board.seat).0.sessions) before.uses
            (ended_by Close before.owned.entries) last quiet.0 (first_quiet (side_of before.board.seat).0.sessions))
            (sym (c.take_back.ensures.quiet history others is)) quiet.1,
      );
    }
