use Rattle.shared_rule.specs.Plays.{TookPartition}
use Rattle.atomic_table.specs.Table.{step}
use mathlib.Core.Option.{none}
use prog.Atomic.{either}
use Rattle.std.specs.Prelude.{◌==◌}
use Rattle.std.proofs.Common.{rules, ◌≡◌, sym, ap, ◌∙◌, subst}
use Rattle.lock_world.specs.AccountFacts.{KnowsContent}
use Rattle.shared_rule.specs.Marks.{TookPart}
use Rattle.shared_rule.specs.declared.kept.Kept.TheVariants.{Part, Nothing}
use Rattle.shared_rule.specs.Layout.{content_shelf_of}
use Rattle.shared_rule.specs.History.{noting}
use Rattle.lock_world.specs.WaitLists.{partition_lock}
use Rattle.shared_rule.proofs.Lemmas.Placed.{allowed}
use Rattle.shared_rule.proofs.Lemmas.Taken.{attempt-known}
use Rattle.shared_rule.proofs.Lemmas.Events.Partitions.{takes_part_at, part-same}
use Rattle.lock_world.specs.AccountSteps.{account_taking}
use Rattle.shared_rule.specs.Plays.{side_in, side_of, Side, account_at, number_at}
use Rattle.shared_rule.proofs.Lemmas.Led.{led-noted, led_to-as}
use Rattle.shared_rule.proofs.Lemmas.Sides.{last-shelf, last-came, last-set}
use Rattle.shared_rule.specs.declared.rule.TableSizes.{TableSizes}
use Rattle.shared_rule.specs.Waiters.{WaitsExist}
use Rattle.shared_rule.proofs.partitions.attempt_part.Goals as goal

pub compare_exchange-requires : goal.compare_exchange-requires
compare_exchange-requires g c =
    let seat = c.args.seat.now in
    let sized = c.requires.table.sized in
    let session = c.requires.session in (
      c.requires.table.at,
      search rules,
      allowed g.T.PartTable.content g.T.PartTable.begun c.args.words.now.key c.args.words.now.table_id.slots c.args.seat.now.id c.args.seat.now.me c.partition_word.result
          (λ n. either (n == c.args.shown) c.args.taken n) (TookPartition g.T.PartTable.content g.T.PartTable.begun g.G.Sizing.sizes.sessions (step c.args.words.now.table_id.slots c.partition_word.result c.args.shown c.args.taken none) (side_of seat))
          (takes_part_at g.T.PartTable.content g.T.PartTable.begun c.args.words.now.key seat.id (side_of seat) session.history session.others session.sessions
          c.args.part c.requires.exists c.args.words.now.table_id.slots c.partition_word.result sized.shelves (c.partition_word.ensures.index c.args.words.now.key.sessions)
          g.G.Sizing.sizes.sessions c.args.shown c.args.taken (ap (λ (s : TableSizes). s.sessions) c.requires.sizes) c.requires.free.0 c.requires.free.1 (attempt-known g.T.PartTable.content (side_of seat).0 session (partition_lock c.args.part) c.requires.no_other_try c.requires.no_other_list)),
    )

pub exchange-requires : goal.exchange-requires
exchange-requires g c =
    let took = c.compare_exchange.ensures.2.0 (search rules) c.args.part c.requires.exists (c.partition_word.ensures.index g.G.Sizing.sizes.sessions) in (
      c.compare_exchange.ensures.0 ∙ c.requires.table.at,
      (
        Part took.part,
        last-shelf (side_of c.compare_exchange.new.seat) (noting (side_of c.args.seat.now).0 (TookPart c.args.part took.part)) c.content_shelf.result (content_shelf_of c.args.part) (Part took.part)
            (side_of c.args.seat.now).1 took.side c.content_shelf.ensures.shelf,
      ),
    )

pub into_part-requires : goal.into_part-requires
into_part-requires g c =
    let took = c.compare_exchange.ensures.2.0 (search rules) c.args.part c.requires.exists (c.partition_word.ensures.index g.G.Sizing.sizes.sessions) in
    let came : c.exchange.result ≡ Part took.part =
    last-came (side_of c.compare_exchange.new.seat) (noting (side_of c.args.seat.now).0 (TookPart c.args.part took.part)) c.content_shelf.result (content_shelf_of c.args.part) (Part took.part) c.exchange.result
    (side_of c.args.seat.now).1 took.side c.exchange.ensures.2 in
    (took.part, came)

pub returns-clause-won : goal.returns-clause-won
returns-clause-won g c =
    let content = g.T.PartTable.content in
    let seat = c.args.seat.now in
    let after = c.exchange.new.seat in
    let part = c.args.part in
    let took = c.compare_exchange.ensures.2.0 (search rules) part c.requires.exists (c.partition_word.ensures.index g.G.Sizing.sizes.sessions) in
    let came : c.exchange.result ≡ Part took.part =
    last-came (side_of c.compare_exchange.new.seat) (noting (side_of seat).0 (TookPart part took.part)) c.content_shelf.result (content_shelf_of part)
    (Part took.part) c.exchange.result (side_of seat).1 took.side c.exchange.ensures.2 in
    let same : took.part ≡ c.into_part.result = part-same took.part c.into_part.result (sym came ∙ c.into_part.ensures) in
    let side = last-set (side_of c.compare_exchange.new.seat) (side_of after) (noting (side_of seat).0 (TookPart part took.part)) c.content_shelf.result
    (content_shelf_of part) (Part took.part) Nothing (side_of seat).1 took.side c.content_shelf.ensures.shelf (ap side_in c.exchange.ensures.3) in
    record {
      led = led_to-as content seat after _ _ _
          (led-noted content seat after (TookPart part took.part) c.requires.session
          (record {
            table_id = c.exchange.ensures.0 ∙ c.compare_exchange.ensures.0;
            id = c.exchange.ensures.1 ∙ c.compare_exchange.ensures.1;
          })
          (ap (λ (s : Side g.row.T.Denot). s.0) side) (λ owed i. owed))
          (ap (λ its. account_taking (account_at content seat) part (content its)) same);
      shelves = ap (λ (s : Side g.row.T.Denot). s.1) side;
      none_begun = ap g.T.PartTable.begun (sym same) ∙ took.none_begun;
      knows = subst (λ its. KnowsContent (number_at seat) (account_at content seat) part (content its)) same took.knows;
      waiters = subst (λ its. WaitsExist c.args.words.now.key.sessions (content its)) same
          (subst (λ n. WaitsExist n (content took.part)) (ap (λ (s : TableSizes). s.sessions) c.requires.sizes) took.waiters);
    }
