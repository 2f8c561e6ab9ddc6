use Rattle.shared_rule.proofs.Lemmas.Opening.{others-empty, last-new}
use Rattle.shared_rule.proofs.table.next_part.Goals as goal

pub returns-in-Some-clause-empty : goal.returns-in-Some-clause-empty
returns-in-Some-clause-empty g c =
    others-empty g.T.PartTable.content g.T.PartTable.begun c.args.parts.now.items c.pop.new.self.items c.pop.result c.pop.ensures.items c.requires.empty

pub returns-in-Some-clause-part : goal.returns-in-Some-clause-part
returns-in-Some-clause-part g c = λ _.
    last-new g.T.PartTable.content g.T.PartTable.begun c.args.parts.now.items c.pop.new.self.items c.in-Some.part
    (c.in-Some.ensures {u = tt}).items c.requires.empty
