use Rattle.std.proofs.Common.{sym, subst}
use Rattle.shared_rule.specs.Allowed.{AllowsStep}
use Rattle.std.specs.Prelude.{◌+◌, ◌-◌, ◌^◌, ◌%◌}
use mathlib.Core.Option.{none}
use Rattle.atomic_table.specs.Table.{step}
use Rattle.shared_rule.specs.Plays.{side_of, WentHome}
use Rattle.shared_rule.proofs.Lemmas.Placed.{allowed}
use Rattle.shared_rule.proofs.words.put_home_as.Goals as goal

pub fetch_sub-requires : goal.fetch_sub-requires
fetch_sub-requires g c = (
  c.requires.table.0.at,
  c.requires.table.1,
  allowed g.T.PartTable.content g.T.PartTable.begun c.args.words.now.key c.args.words.now.table_id.slots c.args.seat.now.id c.args.seat.now.me c.args.word
      (λ n. (n + (2 ^ 64 - c.amount.result)) % 2 ^ 64) (WentHome g.M.Marking.mark (step c.args.words.now.table_id.slots c.args.word c.amount.result 0 none) (side_of c.args.seat.now))
      (subst
      (λ k. AllowsStep g.T.PartTable.content g.T.PartTable.begun c.args.words.now.key c.args.words.now.table_id.slots c.args.seat.now.id (side_of c.args.seat.now) c.args.word
      (λ n. (n + (2 ^ 64 - k)) % 2 ^ 64) (WentHome g.M.Marking.mark (step c.args.words.now.table_id.slots c.args.word k 0 none) (side_of c.args.seat.now)))
      (sym c.amount.ensures) c.requires.allowed),
)
