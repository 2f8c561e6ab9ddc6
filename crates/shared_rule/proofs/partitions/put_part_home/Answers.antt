use Rattle.std.proofs.Common.{List, sym, ap, ◌∙◌, subst}
use Rattle.atomic_table.specs.Table.{rest}
use Rattle.lock_world.specs.Account.{InHand}
use Rattle.shared_rule.specs.Lawful.{MayPutPart}
use Rattle.shared_rule.specs.declared.history.History.{History}
use Rattle.shared_rule.specs.declared.kept.Kept.TheVariants.{Part}
use Rattle.shared_rule.specs.Plays.{side_in, side_of, Side}
use Rattle.shared_rule.specs.Layout.{content_shelf_of}
use Rattle.shared_rule.specs.History.{first_account, first_number, noting}
use Rattle.shared_rule.proofs.Lemmas.Taken.{due-known}
use Rattle.shared_rule.proofs.Lemmas.Events.Partitions.{puts_part_at}
use Rattle.shared_rule.specs.Marks.{PutPart}
use Rattle.shared_rule.proofs.Lemmas.Led.{led-noted}
use Rattle.shared_rule.proofs.Lemmas.Sides.{last-shelf}
use Rattle.shared_rule.proofs.partitions.put_part_home.Goals as goal

pub put_home_as-requires-clause-allowed : goal.put_home_as-requires-clause-allowed
put_home_as-requires-clause-allowed g c =
    let content = g.T.PartTable.content in
    let seat = c.exchange.new.seat in
    let session = c.requires.session in
    let set = (ap side_in c.exchange.ensures.3) in
    let is = ap (λ (m : Side g.row.T.Denot). m.0.sessions) set ∙ session.sessions in
    let shelf = c.content_shelf.ensures.shelf in
    let may = subst (λ (sessions : List (History g.row.T.Denot)). (mine : InHand) × MayPutPart c.args.words.now.key.sessions (first_number sessions) (first_account content sessions) c.args.part mine c.args.done.now (content c.args.content))
    session.sessions c.requires.lawful in
    puts_part_at content g.T.PartTable.begun c.args.words.now.key seat.id (side_of seat) session.history session.others is
    c.args.part c.requires.exists c.args.words.now.table_id.slots c.partition_word.result c.requires.table.sized.shelves (c.partition_word.ensures.index c.args.words.now.key.sessions)
    may.0 c.args.done.now c.args.content may.1 c.requires.none_begun
    (last-shelf (side_of seat) (side_of c.args.seat.now).0 (content_shelf_of c.args.part) c.content_shelf.result (Part c.args.content) (rest (side_of c.args.seat.now).1) set (sym shelf))
    (due-known (side_of c.args.seat.now).0 session c.requires.no_look) g.M.Marking.mark c.requires.mark

pub returns-clause-led : goal.returns-clause-led
returns-clause-led g c =
    let seat = c.args.seat.now in
    let set = (ap side_in c.exchange.ensures.3) in
    led-noted g.T.PartTable.content seat c.put_home_as.new.seat (PutPart c.args.part c.args.done.now c.args.content c.put_home_as.result)
    c.requires.session
    (record {
      table_id = c.put_home_as.ensures.same_seat.table_id ∙ c.exchange.ensures.0;
      id = c.put_home_as.ensures.same_seat.id ∙ c.exchange.ensures.1;
    })
    (ap (λ (s : Side g.row.T.Denot). s.0) c.put_home_as.ensures.side
    ∙ ap (λ (s : Side g.row.T.Denot). noting s.0 (g.M.Marking.mark c.put_home_as.result)) set
    ∙ ap (λ m. noting (side_of seat).0 (m c.put_home_as.result)) c.requires.mark) (λ owed i. owed)

pub returns-clause-shelves : goal.returns-clause-shelves
returns-clause-shelves g c =
    ap (λ (s : Side g.row.T.Denot). s.1) (c.put_home_as.ensures.side
    ∙ ap (λ (s : Side g.row.T.Denot). (noting s.0 (g.M.Marking.mark c.put_home_as.result), rest s.1)) (ap side_in c.exchange.ensures.3))
