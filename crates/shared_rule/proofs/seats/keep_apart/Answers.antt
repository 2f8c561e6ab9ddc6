use Rattle.shared_rule.specs.Plays.{side_of}
use Rattle.std.proofs.Common.{rules}
use Rattle.shared_rule.proofs.Lemmas.Placed.{keeps-apart-in-order}
use Rattle.shared_rule.proofs.Lemmas.Events.Seats.{keeps_apart}
use Rattle.shared_rule.proofs.seats.keep_apart.Goals as goal

pub join_seat-requires : goal.join_seat-requires
join_seat-requires g c =
    let seat = c.args.seat.now in
    let other = c.args.other in (
      c.requires.table.at,
      c.requires.other_table.at,
      c.requires.nothing_in_hand,
      search rules,
      keeps-apart-in-order g.T.PartTable.content g.T.PartTable.begun c.args.words.now.key seat.id seat.me.0 other.id other.me.0 c.requires.one (keeps_apart g.T.PartTable.content g.T.PartTable.begun c.args.words.now.key seat.id (side_of seat).0 other.id (side_of other).0 c.requires.one c.requires.lawful c.requires.free),
    )
