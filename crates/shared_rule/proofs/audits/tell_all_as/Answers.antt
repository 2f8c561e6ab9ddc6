use Rattle.shared_rule.specs.Gatherings.{ToldAll}
use Rattle.shared_rule.specs.Plays.{side_of}
use Rattle.std.proofs.Common.{ap, rules, subst}
use mathlib.Core.Option.{none}
use Rattle.atomic_table.specs.Table.{step}
use Rattle.shared_rule.specs.Gatherings.{KnowsAll}
use Rattle.shared_rule.proofs.Lemmas.Placed.{allowed}
use Rattle.shared_rule.proofs.Lemmas.Events.Gatherings.{tells_all_at}
use Rattle.shared_rule.specs.declared.rule.TableSizes.{TableSizes}
use Rattle.shared_rule.proofs.audits.tell_all_as.Goals as goal

pub load-requires : goal.load-requires
load-requires g c =
    let seat = c.args.seat.now in
    let session = c.requires.session in
    let slots = c.args.words.now.table_id.slots in (
      c.requires.table.at,
      search rules,
      allowed g.T.PartTable.content g.T.PartTable.begun c.args.words.now.key c.args.words.now.table_id.slots c.args.seat.now.id c.args.seat.now.me 0
          (λ n. n) (ToldAll g.T.PartTable.content g.G.Sizing.sizes.groups (step slots 0 0 0 none) (side_of seat))
          (tells_all_at g.T.PartTable.content g.T.PartTable.begun c.args.words.now.key slots seat.id (side_of seat) session.history session.others session.sessions
          g.G.Sizing.sizes.groups (ap (λ (s : TableSizes). s.groups) c.requires.sizes) 0 (step slots 0 0 0 none)),
    )

pub returns-clause-knows : goal.returns-clause-knows
returns-clause-knows g c = λ issued are.
    subst (λ n. KnowsAll g.T.PartTable.content n issued (side_of c.args.seat.now).0) (ap (λ (s : TableSizes). s.groups) c.requires.sizes) (c.load.ensures.2.1 issued are)
