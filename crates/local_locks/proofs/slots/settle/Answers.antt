use Rattle.std.proofs.Common.{◌≡◌, ◌≢◌, ◌+◌, ◌<◌, List, length, set, sym, ap, subst, ◌∙◌, inl, inr, arith}
use Rattle.std.proofs.lemmas.List.{get_or_default}
use Rattle.std.proofs.lemmas.Bool.{false≢true, ne_eqb, cases_eq}
use Rattle.local_locks.specs.declared.records.Entry.{Entry}
use Rattle.local_locks.specs.Owned.{count_in_all, after_end}
use Rattle.local_locks.specs.Slots.{entry_at}
use Rattle.local_locks.proofs.Lemmas.OpenSlots.{Settled, settled-empty, settled-left, slot_at-opened, entry_in-held, entry_in-empty}
use Rattle.local_locks.proofs.slots.settle.Goals as goal
use Rattle.local_locks.proofs.slots.settle.Goals.{then-is_held+else-total-eq0, else-is_held}

pub loop-place-preserved : goal.loop-place-preserved
loop-place-preserved c =
    let now = c.loop-place.slots in
    let within : c.loop-place.place < length now = omega (arith, c.loop-place-test.true, c.loop-place.auto.slots) in
    let read = get_or_default now c.loop-place.place _ _ within in
    elim c.if-is_held.branch [
      | then-is_held+else-total-eq0 w ↦
          let held : count_in_all (entry_at now c.loop-place.place) ≢ 0 = λ none. c.is_held.ensures.0 w.if-is_held.true (ap count_in_all read ∙ none) in
          let left = w.counts_left-left.ensures ∙ ap (after_end c.args.end) read in
          let more : count_in_all (after_end c.args.end (entry_at now c.loop-place.place)) ≢ 0 = λ none. w.if-total-eq0.false (w.total.ensures ∙ (ap count_in_all left ∙ none)) in
          subst (λ (s : List Entry). Settled c.args.end c.args.slots.now s (c.loop-place.place + 1)) (sym (w.slots-is ∙ ap (set now c.loop-place.place) left))
          (settled-left c.args.end c.args.slots.now now c.loop-place.place (entry_at now c.loop-place.place) c.loop-place.invariant
          (slot_at-opened now c.loop-place.place ∙ entry_in-held (entry_at now c.loop-place.place) held) (ne_eqb _ 0 more))
      | else-is_held w ↦
          let none : count_in_all (entry_at now c.loop-place.place) ≡ 0 = elim (cases_eq (count_in_all (entry_at now c.loop-place.place)) 0) [
            | inl same ↦ same
            | inr held ↦ absurd (false≢true (sym w.if-is_held.false ∙ c.is_held.ensures.1 (λ z. held (sym (ap count_in_all read) ∙ z))))
          ] in
          subst (λ (s : List Entry). Settled c.args.end c.args.slots.now s (c.loop-place.place + 1)) (sym w.slots-is)
          (settled-empty c.args.end c.args.slots.now now c.loop-place.place c.loop-place.invariant (slot_at-opened now c.loop-place.place ∙ entry_in-empty (entry_at now c.loop-place.place) none))
    ]
