use Rattle.shared_rule.specs.Plays.{TookSlotsOr, unnoted}
use Rattle.atomic_table.specs.Table.{step}
use mathlib.Core.Option.{none}
use prog.Atomic.{either}
use Rattle.std.specs.Prelude.{◌==◌}
use Rattle.shared_rule.specs.Plays.{side_of}
use Rattle.std.proofs.Common.{rules, ap, subst}
use Rattle.lw_word.specs.declared.words.LwMode.TheVariants.{Exclusive}
use Rattle.shared_rule.specs.Acquires.{GetsSlots}
use Rattle.lock_world.specs.WaitLists.{fast_lock}
use Rattle.shared_rule.proofs.Lemmas.Placed.{allowed}
use Rattle.shared_rule.proofs.Lemmas.Taken.{attempt-known}
use Rattle.shared_rule.proofs.Lemmas.Acquires.{took-slots}
use Rattle.shared_rule.proofs.Lemmas.Events.Locks.{takes_fast_at}
use Rattle.shared_rule.specs.declared.rule.TableSizes.{TableSizes}
use Rattle.shared_rule.proofs.locks.attempt_fast.Goals as goal

pub compare_exchange-requires : goal.compare_exchange-requires
compare_exchange-requires g c =
    let seat = c.args.seat.now in
    let session = c.requires.session in (
      c.requires.table.at,
      search rules,
      allowed g.T.PartTable.content g.T.PartTable.begun c.args.words.now.key c.args.words.now.table_id.slots c.args.seat.now.id c.args.seat.now.me c.fast_word.result
          (λ n. either (n == c.args.shown) c.args.taken n) (TookSlotsOr g.T.PartTable.content g.G.Sizing.sizes.groups unnoted (step c.args.words.now.table_id.slots c.fast_word.result c.args.shown c.args.taken none) (side_of seat))
          (takes_fast_at g.T.PartTable.content g.T.PartTable.begun c.args.words.now.key c.args.words.now.table_id.slots
          seat.id (side_of seat) session.history session.others session.sessions
          c.args.owner c.requires.exists g.G.Sizing.sizes.groups c.args.shown c.args.taken (ap (λ (s : TableSizes). s.groups) c.requires.sizes) c.requires.free.0 c.requires.free.1 (attempt-known g.T.PartTable.content (side_of seat).0 session (fast_lock c.args.owner) c.requires.no_other_try c.requires.no_other_list)
          c.fast_word.result (c.fast_word.ensures.index c.args.words.now.key.sessions)),
    )

pub returns-clause-won : goal.returns-clause-won
returns-clause-won g c =
    subst (λ n. GetsSlots g.T.PartTable.content n Exclusive c.args.owner c.args.seat.now c.compare_exchange.new.seat) (ap (λ (s : TableSizes). s.groups) c.requires.sizes)
    (took-slots g.T.PartTable.content g.G.Sizing.sizes.groups c.args.owner c.args.seat.now c.compare_exchange.new.seat c.requires.session
    (record { table_id = c.compare_exchange.ensures.0; id = c.compare_exchange.ensures.1 })
    (c.compare_exchange.ensures.2.0 (search rules) c.args.words.now.key.sessions c.args.owner (c.fast_word.ensures.index c.args.words.now.key.sessions)))
