use Rattle.std.proofs.Common.{◌<◌, ◌∙◌, arith}
use Rattle.std.proofs.lemmas.Bool.{false≢true}
use Rattle.place_index.specs.Notes.{times}
use Rattle.lock_records.proofs.Lemmas.Indexes.{is_on-at, noted-at}
use Rattle.lock_records.proofs.locks.find_lock_by_index.Goals as goal

pub returns-in-None-clause-absent : goal.returns-in-None-clause-absent
returns-in-None-clause-absent c = λ place i.
    let once = noted-at c.args.locks.now.slots c.args.index.now c.args.tag.now place c.requires i in
    let noted : 0 < times c.args.index.now c.key_of.result place = rw c.key_of.ensures (omega arith) in
    false≢true ((c.in-None.ensures {u = tt}).absent place noted ∙ is_on-at c.args.locks.now.slots c.args.tag.now place i)
