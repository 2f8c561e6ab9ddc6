use Rattle.shared_rule.specs.Plays.{SawHeldOr}
use Rattle.atomic_table.specs.Table.{step}
use mathlib.Core.Option.{none}
use Rattle.std.proofs.Common.{rules, ap}
use Rattle.shared_rule.specs.Marks.{SawHeld}
use Rattle.shared_rule.specs.LwLocks.{lock_number}
use Rattle.shared_rule.specs.Plays.{side_of, Side}
use Rattle.shared_rule.proofs.Lemmas.Placed.{allowed}
use Rattle.shared_rule.proofs.Lemmas.Taken.{tries-known}
use Rattle.shared_rule.proofs.Lemmas.Events.Lists.{sees_held_at}
use Rattle.shared_rule.proofs.Lemmas.Led.{led-noted}
use Rattle.shared_rule.proofs.lists.look_at_lock.Goals as goal

pub load-requires : goal.load-requires
load-requires g c =
    let seat = c.args.seat.now in
    let session = c.requires.session in (
      c.requires.table.at,
      search rules,
      allowed g.T.PartTable.content g.T.PartTable.begun c.args.words.now.key c.args.words.now.table_id.slots c.args.seat.now.id c.args.seat.now.me c.word.result
          (λ n. n) (SawHeldOr g.W.Seeking.mode (step c.args.words.now.table_id.slots c.word.result 0 0 none) (side_of seat))
          (sees_held_at g.T.PartTable.content g.T.PartTable.begun c.args.words.now.key c.args.words.now.table_id.slots seat.id (side_of seat)
          session.history session.others session.sessions c.args.lock.now c.requires.exists g.W.Seeking.mode (tries-known (side_of seat).0 session (lock_number c.args.lock.now) c.requires.no_other_try) c.word.result (c.word.ensures.index c.args.words.now.key.sessions)),
    )

pub returns-clause-held : goal.returns-clause-held
returns-clause-held g c = λ held.
    let seat = c.args.seat.now in
    let saw = c.load.ensures.2.1 held c.args.words.now.key.sessions c.args.lock.now c.requires.exists (c.word.ensures.index c.args.words.now.key.sessions) in
    record {
      nothing = record {
        led = led-noted g.T.PartTable.content seat c.load.new.seat (SawHeld (lock_number c.args.lock.now) c.load.result) c.requires.session
            (record { table_id = c.load.ensures.0; id = c.load.ensures.1 }) (ap (λ (side : Side g.row.T.Denot). side.0) saw) (λ owed i. owed);
        shelves = ap (λ (side : Side g.row.T.Denot). side.1) saw;
      };
      shown = c.load.result;
      noted = ap (λ (side : Side g.row.T.Denot). side.0) saw;
      in_the_way = held;
    }
