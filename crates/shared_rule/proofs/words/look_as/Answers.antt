use mathlib.Core.Option.{none}
use Rattle.atomic_table.specs.Table.{step}
use Rattle.shared_rule.specs.Plays.{side_of, Looked}
use Rattle.shared_rule.proofs.Lemmas.Placed.{allowed}
use Rattle.shared_rule.proofs.words.look_as.Goals as goal

pub load-requires : goal.load-requires
load-requires g c = (
  c.requires.table.0.at,
  c.requires.table.1,
  allowed g.T.PartTable.content g.T.PartTable.begun c.args.words.now.key c.args.words.now.table_id.slots c.args.seat.now.id c.args.seat.now.me c.args.word
      (λ n. n) (Looked g.T.PartTable.content g.M.Marking.mark (step c.args.words.now.table_id.slots c.args.word 0 0 none) (side_of c.args.seat.now)) c.requires.allowed,
)
