use Rattle.std.proofs.Common.{sym, ap, ◌∙◌}
use Rattle.lock_manager.specs.Keeper.{KeptPart, PartView}
use Rattle.shared_rule.specs.declared.seat_board.SeatBoard.{SeatBoard}
use Rattle.shared_rule.specs.Openers.{OpenerState}
use Rattle.lock_manager.proofs.Lemmas.Audits.Counts.{may_count-more}
use Rattle.lock_manager.proofs.Lemmas.Audits.Results.{all-tables}
use Rattle.lock_manager.proofs.audit.gather_next.Goals as goal

pub returns-clause-table : goal.returns-clause-table
returns-clause-table c =
    let opener = c.gather.ensures.gathered.opener in (
      ap (λ (o : OpenerState PartView). o.table) opener ∙ c.requires.table.0,
      ap (λ (o : OpenerState PartView). o.limit) opener ∙ c.requires.table.1,
      ap (λ (o : OpenerState PartView). o.groups) opener ∙ c.requires.table.2,
    )

pub returns-clause-left_own : goal.returns-clause-left_own
returns-clause-left_own c =
    all-tables {B = SeatBoard KeptPart} (λ board. record {
      number = board.number;
      limit = board.sizes.sessions;
      groups = board.sizes.groups;
      table = board.table.now.table_id;
    })
    c.args.numbers.now.table c.gather.new.self.table c.args.left.now.items (sym (ap (λ (o : OpenerState PartView). o.table) c.gather.ensures.gathered.opener)) c.requires.left_own

pub returns-clause-ready : goal.returns-clause-ready
returns-clause-ready c = may_count-more _ c.args.numbers.now c.gather.new.self _ _ _ c.requires.ready c.gather.ensures.gathered c.requires.no_wait
