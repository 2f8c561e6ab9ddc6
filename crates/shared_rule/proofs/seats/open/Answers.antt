use Rattle.shared_rule.specs.Plays.{side_of}
use Rattle.std.proofs.Common.{rules}
use Rattle.shared_rule.proofs.Lemmas.Placed.{opens-in-order}
use Rattle.shared_rule.proofs.Lemmas.Events.Seats.{opens}
use Rattle.shared_rule.proofs.seats.open.Goals as goal

pub split_seat-requires : goal.split_seat-requires
split_seat-requires g c =
    let seat = c.args.opener.now in (
      c.requires.table.at,
      search rules,
      opens-in-order g.T.PartTable.content g.T.PartTable.begun c.args.words.now.key seat.id seat.me.0 (opens g.T.PartTable.content g.T.PartTable.begun c.args.words.now.key seat.id (side_of seat).0 c.requires.number),
    )
