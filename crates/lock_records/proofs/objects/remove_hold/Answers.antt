use Rattle.std.proofs.Common.{◌<◌, ap, ◌∙◌, refl, arith}
use Rattle.lock_records.specs.declared.locks.LockRecord.{LockRecord}
use Rattle.lock_records.specs.Holders.{holds_in}
use Rattle.lock_records.specs.Locks.{IsLockAt}
use Rattle.lock_records.proofs.Lemmas.GrantedCounts.{granted-some}
use Rattle.lock_records.proofs.Lemmas.Indexes.{same-lock}
use Rattle.lock_records.proofs.Lemmas.Relocked.{relocked-set, room-set, counts-lowered}
use Rattle.lock_records.proofs.objects.remove_hold.Goals as goal
use Rattle.lock_records.proofs.objects.remove_hold.Goals.{After-index_mut-lock}
use Rattle.modes_core.specs.Sessions.{most_sessions}

abbrev its : (c : After-index_mut-lock) → IsLockAt c.args.locks.now.slots c.args.tag.now c.args.place
its c =
    let there = c.requires.there in
    record {
      lock = c.index_mut-lock.result.now;
      there = c.index_mut-lock.ensures.value;
      on = ap (λ (l : LockRecord). l.tag) (same-lock c.args.locks.now.slots c.args.place _ _ c.index_mut-lock.ensures.value there.there) ∙ there.on;
    }

pub lower-requires : goal.lower-requires
lower-requires c =
    let counted = (c.requires.held (its (goal.at.lower-requires c).After-index_mut-lock)).granted c.args.mode in
    let small : c.args.session < most_sessions = omega (arith, c.number-number.ensures.within, c.number-number.ensures.value) in
    omega (arith, counted, granted-some (holds_in c.args.holders.now.slots) c.args.session c.args.tag.now c.args.mode small c.requires.there_is)

pub returns-clause-lock : goal.returns-clause-lock
returns-clause-lock c =
    let i = its (goal.at.returns-clause-lock c).After-index_mut-lock in
    let small : c.args.session < most_sessions = omega (arith, c.number-number.ensures.within, c.number-number.ensures.value) in (
      relocked-set c.args.locks.now.slots c.args.tag.now c.args.place c.index_mut-lock.result.now _ c.index_mut-lock.ensures.value i.on i.on,
      record {
        chain = c.lower_holder.ensures.chain;
        granted =
            counts-lowered (holds_in c.args.holders.now.slots) (holds_in c.lower_holder.new.slots.slots) c.args.session c.args.tag.now c.args.mode
            c.index_mut-lock.result.now.granted c.lower.new.self small c.requires.there_is c.lower_holder.ensures.set.holds (c.requires.held i).granted c.lower.ensures;
      },
      λ m. refl,
    )

pub returns-clause-room : goal.returns-clause-room
returns-clause-room c = λ room. room-set c.args.locks.now.slots c.args.place c.index_mut-lock.result.now _ c.args.locks.now.capacity c.index_mut-lock.ensures.value room
