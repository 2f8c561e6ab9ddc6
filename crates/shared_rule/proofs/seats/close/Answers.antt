use Rattle.shared_rule.specs.Plays.{side_of}
use Rattle.std.proofs.Common.{rules}
use Rattle.shared_rule.proofs.Lemmas.Placed.{closes-in-order}
use Rattle.shared_rule.proofs.Lemmas.Events.Seats.{closes}
use Rattle.shared_rule.proofs.seats.close.Goals as goal

pub join_seat-requires : goal.join_seat-requires
join_seat-requires g c =
    let seat = c.args.opener.now in
    let other = c.args.session in (
      c.requires.table.at,
      c.requires.session_table.at,
      c.requires.nothing_in_hand,
      search rules,
      closes-in-order g.T.PartTable.content g.T.PartTable.begun c.args.words.now.key seat.id seat.me.0 other.id other.me.0 c.requires.one (closes g.T.PartTable.content g.T.PartTable.begun c.args.words.now.key seat.id (side_of seat).0 other.id (side_of other).0 c.requires.opener c.requires.one c.requires.lawful c.requires.todo c.requires.wakes_nobody),
    )
