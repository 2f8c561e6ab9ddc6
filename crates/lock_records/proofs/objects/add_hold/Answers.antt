use Rattle.std.proofs.Common.{◌<◌, ap, ◌∙◌, refl, arith}
use Rattle.lock_records.specs.declared.locks.LockRecord.{LockRecord}
use Rattle.lock_records.specs.Holders.{holds_in}
use Rattle.lock_records.specs.Locks.{IsLockAt}
use Rattle.lock_records.proofs.Lemmas.GrantedCounts.{granted-le}
use Rattle.lock_records.proofs.Lemmas.Indexes.{same-lock}
use Rattle.lock_records.proofs.Lemmas.Relocked.{relocked-set, room-set, counts-raised}
use Rattle.lock_records.proofs.objects.add_hold.Goals as goal
use Rattle.lock_records.proofs.objects.add_hold.Goals.{After-index_mut-lock}
use Rattle.modes_core.specs.Sessions.{most_sessions}

abbrev its : (c : After-index_mut-lock) → IsLockAt c.args.locks.now.slots c.args.tag.now c.args.place
its c =
    let there = c.requires.there in
    record {
      lock = c.index_mut-lock.result.now;
      there = c.index_mut-lock.ensures.value;
      on = ap (λ (l : LockRecord). l.tag) (same-lock c.args.locks.now.slots c.args.place _ _ c.index_mut-lock.ensures.value there.there) ∙ there.on;
    }

pub raise-requires : goal.raise-requires
raise-requires c =
    let counted = (c.requires.held (its (goal.at.raise-requires c).After-index_mut-lock)).granted c.args.mode in
    omega (arith, counted, granted-le (holds_in c.args.holders.now.slots) c.args.tag.now c.args.mode)

pub returns-clause-lock : goal.returns-clause-lock
returns-clause-lock c =
    let i = its (goal.at.returns-clause-lock c).After-index_mut-lock in
    let small : c.args.session < most_sessions = omega (arith, c.number-number.ensures.within, c.number-number.ensures.value) in (
      relocked-set c.args.locks.now.slots c.args.tag.now c.args.place c.index_mut-lock.result.now _ c.index_mut-lock.ensures.value i.on i.on,
      record {
        chain = c.raise_holder.ensures.chain;
        granted =
            counts-raised (holds_in c.args.holders.now.slots) (holds_in c.raise_holder.new.slots.slots) c.args.session c.args.tag.now c.args.mode
            c.index_mut-lock.result.now.granted c.raise.new.self small c.requires.new c.raise_holder.ensures.set.holds (c.requires.held i).granted c.raise.ensures;
      },
      λ m. refl,
    )

pub returns-clause-room : goal.returns-clause-room
returns-clause-room c = λ room. room-set c.args.locks.now.slots c.args.place c.index_mut-lock.result.now _ c.args.locks.now.capacity c.index_mut-lock.ensures.value room
