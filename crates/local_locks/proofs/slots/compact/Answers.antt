use Rattle.std.proofs.Common.{List, length, sym, ap, subst, arith}
use Rattle.std.specs.List.{IsDistinct}
use Rattle.local_locks.specs.declared.records.Entry.{Entry}
use Rattle.local_locks.specs.Owned.{are_of_same}
use Rattle.local_locks.specs.Slots.{IsOnce, opened}
use Rattle.local_locks.proofs.Lemmas.Indexes.{noted_many}
use Rattle.local_locks.proofs.Lemmas.Kept.{distinct_of, once_of}
use Rattle.local_locks.proofs.slots.compact.Goals as goal

pub note_all-requires-clause-once : goal.note_all-requires-clause-once
note_all-requires-clause-once c =
    let distinct = subst (λ (l : List Entry). IsDistinct are_of_same l) (sym c.gather.ensures.entries) (distinct_of (opened c.args.slots.now.items) c.requires.indexed.once) in
    subst (λ (es : List Entry). IsOnce (opened es)) (sym c.as_slice.ensures.value) (once_of (opened c.gather.new.slots.items) distinct)

pub note_all-requires-clause-room : goal.note_all-requires-clause-room
note_all-requires-clause-room c =
    omega (
      arith,
      ap (λ (es : List Entry). length es) c.as_slice.ensures.value,
      c.gather.ensures.number,
      c.clear.ensures.room,
      noted_many (opened c.args.slots.now.items) c.args.index.now c.requires.indexed,
    )

pub returns-clause-index_room : goal.returns-clause-index_room
returns-clause-index_room c =
    omega (
      arith,
      ap (λ (es : List Entry). length es) c.as_slice.ensures.value,
      c.gather.ensures.number,
      c.clear.ensures.room,
      c.note_all.ensures.room,
      noted_many (opened c.args.slots.now.items) c.args.index.now c.requires.indexed,
    )
