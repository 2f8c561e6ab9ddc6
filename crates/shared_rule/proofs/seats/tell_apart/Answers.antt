use Rattle.shared_rule.specs.Seats.{ToldApart}
use Rattle.shared_rule.specs.Plays.{side_of}
use Rattle.std.proofs.Common.{rules}
use mathlib.Core.Option.{none}
use Rattle.atomic_table.specs.Table.{step}
use Rattle.shared_rule.proofs.Lemmas.Placed.{allowed}
use Rattle.shared_rule.proofs.Lemmas.Events.Seats.{tells_apart}
use Rattle.shared_rule.proofs.seats.tell_apart.Goals as goal

pub load-requires : goal.load-requires
load-requires g c =
    let seat = c.args.seat.now in
    let slots = c.args.words.now.table_id.slots in (
      c.requires.table.at,
      search rules,
      allowed g.T.PartTable.content g.T.PartTable.begun c.args.words.now.key c.args.words.now.table_id.slots c.args.seat.now.id c.args.seat.now.me 0
          (λ n. n) (ToldApart g.T.PartTable.content (step slots 0 0 0 none) (side_of seat))
          (tells_apart g.T.PartTable.content g.T.PartTable.begun c.args.words.now.key slots seat.id 0 (side_of seat) (step slots 0 0 0 none) c.requires.two),
    )
