use Rattle.std.proofs.Common.{ℕ, None, length, refl, sym, ap, ◌∙◌, inl, inr, arith}
use Rattle.std.proofs.lemmas.Bool.{cases_lt}
use Rattle.std.proofs.lemmas.List.{take-set-le}
use Rattle.local_locks.specs.Slots.{IsCut, IsIndexed, IsTakenOut, opened, entry_at, key_hash}
use Rattle.local_locks.proofs.Lemmas.Indexes.{noted_some}
use Rattle.local_locks.proofs.Lemmas.OpenSlots.{length-opened, opened-take}
use Rattle.local_locks.proofs.Lemmas.SlotSteps.{leaves}
use Rattle.local_locks.proofs.slots.take_last.Goals as goal

-- the hash that the place is noted under
pub remove_last-requires-clause-noted : goal.remove_last-requires-clause-noted
remove_last-requires-clause-noted c =
    let es = c.args.slots.now.items in
    let hash : ℕ = key_hash (entry_at es c.args.place).tag (entry_at es c.args.place).mode in
    (hash, noted_some (opened es) c.args.index.now c.requires.indexed c.args.place hash (entry_at es c.args.place) c.requires.there refl)

pub remove_last-requires-clause-last : goal.remove_last-requires-clause-last
remove_last-requires-clause-last c = λ h p some.
    elim (cases_lt p (length (opened c.args.slots.now.items))) [
      | inl before ↦ omega (arith, c.requires.last, length-opened c.args.slots.now.items)
      | inr past ↦ absurd (omega (arith, c.requires.indexed.within h p past))
    ]

-- the slots are cut before the place
left : (c : goal.After-remove_last) → IsTakenOut c.args.slots.now.items c.truncate.new.self.items c.args.place × IsIndexed (opened c.truncate.new.self.items) c.remove_last.new.self
left c =
    let es = c.args.slots.now.items in
    let place = c.args.place in
    let hash : ℕ = key_hash (entry_at es place).tag (entry_at es place).mode in
    let cut : IsCut (length (opened es)) (length c.remove_last.new.self.notes) place place = inr (inl (refl, c.requires.last ∙ sym (length-opened es))) in
    leaves es c.truncate.new.self.items c.args.index.now c.remove_last.new.self hash (length c.remove_last.new.self.notes) place place c.requires.indexed c.requires.there refl
    (c.remove_last.ensures.notes hash (noted_some (opened es) c.args.index.now c.requires.indexed place hash (entry_at es place) c.requires.there refl)) refl cut
    (ap opened c.truncate.ensures.items ∙ (opened-take place es ∙ sym (take-set-le place (opened es) place None (omega arith))))

pub returns-clause-taken : goal.returns-clause-taken
returns-clause-taken c = (left c).0

pub returns-clause-indexed : goal.returns-clause-indexed
returns-clause-indexed c = (left c).1
