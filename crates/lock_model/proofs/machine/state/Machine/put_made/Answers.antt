use Rattle.std.proofs.Common.{◌<◌, length, sym, subst, arith}
use Rattle.lock_model.specs.declared.machine.state.Machine.{Machine}
use Rattle.lock_table.specs.declared.moves.Move.TheVariants.{Keep}
use Rattle.lock_world.specs.declared.events.Step.TheVariants.{PutExclusive}
use Rattle.lock_world.specs.declared.events.Word.TheVariants.{Partition}
use Rattle.lock_world.specs.World.{World}
use Rattle.lock_world.specs.Happens.{Next}
use Rattle.lock_world.specs.Happens.Partitions.{IsMadeByPutting}
use Rattle.lock_model.specs.Shows.{Shows}
use Rattle.lock_model.proofs.Lemmas.Follows.Partitions.{kept, not_put, exists_from}
use Rattle.lock_model.proofs.machine.state.Machine.put_made.Goals as goal

pub set_free-requires : goal.set_free-requires
set_free-requires c = let shown = c.requires.shown in exists_from c.args.self.now shown.0 shown.1 shown.2 c.args.session c.args.partition c.requires.in_hand

pub returns-in-Keep : goal.returns-in-Keep
returns-in-Keep c = λ w safe shows.
    let now = c.args.self.now in
    let in_hand = c.requires.in_hand in
    let below = exists_from now w safe shows c.args.session c.args.partition in_hand in
    let in_words : c.args.partition < length now.words.partitions = omega (arith, below) in
    let P : Machine → Type 0 = λ m. (v : World) × Next w (record { session = c.args.session; step = PutExclusive (Partition c.args.partition) Keep }) v × Shows m v in
    rw c.in-Keep.is (subst P (sym c.set_free.ensures) (kept now w safe shows c.args.session c.args.partition in_hand in_words))

pub returns-in-Grant : goal.returns-in-Grant
returns-in-Grant c = rw c.in-Grant.is c.put_granting.ensures

pub returns-in-Release : goal.returns-in-Release
returns-in-Release c = rw c.in-Release.is c.put_releasing.ensures

pub returns-in-Join : goal.returns-in-Join
returns-in-Join c = λ w safe shows. not_put c.args.self.now w safe shows c.args.session c.args.partition c.args.done c.requires.in_hand (subst IsMadeByPutting c.in-Join.is)

pub returns-in-Leave : goal.returns-in-Leave
returns-in-Leave c = λ w safe shows. not_put c.args.self.now w safe shows c.args.session c.args.partition c.args.done c.requires.in_hand (subst IsMadeByPutting c.in-Leave.is)

pub returns-in-Adopt : goal.returns-in-Adopt
returns-in-Adopt c = λ w safe shows. not_put c.args.self.now w safe shows c.args.session c.args.partition c.args.done c.requires.in_hand (subst IsMadeByPutting c.in-Adopt.is)
