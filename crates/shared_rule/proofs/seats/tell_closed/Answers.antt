use Rattle.shared_rule.specs.Seats.{ToldClosed}
use Rattle.shared_rule.specs.Plays.{side_of}
use Rattle.std.proofs.Common.{rules}
use mathlib.Core.Option.{none}
use Rattle.atomic_table.specs.Table.{step}
use Rattle.shared_rule.proofs.Lemmas.Placed.{allowed}
use Rattle.shared_rule.proofs.Lemmas.Events.Seats.{tells_closed}
use Rattle.shared_rule.proofs.seats.tell_closed.Goals as goal

pub load-requires : goal.load-requires
load-requires g c =
    let opener = c.args.opener.now in
    let slots = c.args.words.now.table_id.slots in (
      c.requires.table.at,
      search rules,
      allowed g.T.PartTable.content g.T.PartTable.begun c.args.words.now.key c.args.words.now.table_id.slots c.args.opener.now.id c.args.opener.now.me 0
          (λ n. n) (ToldClosed (step slots 0 0 0 none) (side_of opener))
          (tells_closed g.T.PartTable.content g.T.PartTable.begun c.args.words.now.key slots opener.id 0 (side_of opener) (step slots 0 0 0 none) c.requires.opener),
    )
