use Rattle.std.proofs.Common.{◌≡◌, ◌<◌, true, [], length, get_or, sym, ap, ◌∙◌, subst, arith}
use Rattle.std.proofs.Math.ListN.{set}
use Rattle.std.specs.Vec.{with_item}
use Rattle.std.specs.Prelude.{OnErr, Result, Ok, Err}
use Rattle.modes_core.specs.Tag.{partition_of}
use Rattle.lw_word.specs.SlotWord.{word_without}
use Rattle.lock_table.specs.Content.{Content, add_hold}
use Rattle.lock_table.specs.PartView.{content_of}
use Rattle.lock_table.specs.Queue.{awaits_mode}
use Rattle.lock_model.specs.declared.machine.state.Machine.{Machine}
use Rattle.lock_model.specs.Shows.{Shows, hand_of}
use Rattle.lock_model.specs.SlotLooks.{slots_at}
use Rattle.lock_model.specs.Transfers.{may_adopt, may_transfer}
use Rattle.lock_world.specs.declared.events.Step.TheVariants.{TransferSlot}
use Rattle.lock_world.specs.World.{World}
use Rattle.lock_world.specs.Happens.{Next}
use Rattle.lock_model.proofs.Lemmas.Follows.Beyond.{transferring-beyond}
use Rattle.lock_model.proofs.Lemmas.Shows.Places.{partition_read}
use Rattle.lock_model.proofs.Lemmas.Follows.SlotSteps.{slot_read}
use Rattle.lock_model.proofs.Lemmas.Follows.Transfers.{transfer_within, transfer_is_eligible, not_in_content, not_in_queue, was_transferred, transfer_without_hand, transfer_after_move, not_transferred, transfer_refused}
use Rattle.lock_model.proofs.machine.state.Machine.transfer_slot.Goals as goal
use Rattle.lock_model.proofs.machine.state.Machine.transfer_slot.Goals.{then-not-may_adopt-via-then-not-may_adopt, then-not-may_adopt-via-else-not-may_adopt+then-not-may_transfer}

-- What holds in any case holds after an error.
on_err : {T E : Type 0} (r : Result T E) (P : Type 0) → P → OnErr r P
on_err (Ok value) P p = tt
on_err (Err e) P p = p

pub returns-in_default-clause-followed : goal.returns-in_default-clause-followed
returns-in_default-clause-followed c = λ w safe shows.
    let now = c.args.self.now in
    transfer_without_hand now w safe shows c.args.session c.args.owner c.args.slot c.args.tag c.args.mode c.args.strong
    (ap (hand_of now c.args.session) (sym c.partition-partition.ensures.value) ∙ sym c.hand_of.ensures ∙ c.in_default.is)

pub returns-then-not-may_adopt-clause-followed : goal.returns-then-not-may_adopt-clause-followed
returns-then-not-may_adopt-clause-followed c = λ w safe shows.
    let now = c.args.self.now in
    let hand = ap (hand_of now c.args.session) (sym c.partition-partition.ensures.value) ∙ sym c.hand_of.ensures ∙ c.in-Some.is in
    elim c.then-not-may_adopt.branch [
      | then-not-may_adopt-via-then-not-may_adopt b ↦
          transfer_after_move now w safe shows c.args.session c.args.owner c.args.slot c.args.tag c.args.mode c.args.strong c.in-Some.hand hand
          (ap (λ k. may_adopt c.in-Some.hand.recorded k c.args.slot) (sym c.number-number.ensures.value) ∙ sym b.if-not-may_adopt.ensures)
      | then-not-may_adopt-via-else-not-may_adopt+then-not-may_transfer b ↦
          not_transferred now w safe shows c.args.session c.args.owner c.args.slot c.args.tag c.args.mode c.args.strong
          (ap (λ k. may_transfer now c.args.session c.args.owner k c.args.tag c.args.mode c.args.strong) (sym c.from-place.ensures) ∙ sym b.if-not-may_transfer.ensures)
    ]

pub begin-requires-clause-new : goal.begin-requires-clause-new
begin-requires-clause-new c =
    let now = c.args.self.now in
    let shown = c.requires.shown in
    let part = partition_read now.contents.parts.items c.from.result _ (partition_of c.args.tag) c.index_mut-part.result.now shown.2.contents.sixteen c.from.ensures c.partition-partition.ensures.value c.partition-partition.ensures.within c.index_mut-part.ensures.value in
    ap (λ x. (content_of x).holds c.args.owner c.args.tag c.args.mode) part
    ∙ not_in_content now shown.0 shown.1 shown.2 c.args.session c.args.owner c.from-place.result c.args.tag c.args.mode c.args.strong (sym c.if-not-may_transfer.ensures)

pub begin-requires-clause-not_awaited : goal.begin-requires-clause-not_awaited
begin-requires-clause-not_awaited c =
    let now = c.args.self.now in
    let shown = c.requires.shown in
    let part = partition_read now.contents.parts.items c.from.result _ (partition_of c.args.tag) c.index_mut-part.result.now shown.2.contents.sixteen c.from.ensures c.partition-partition.ensures.value c.partition-partition.ensures.within c.index_mut-part.ensures.value in
    ap (λ x. awaits_mode ((content_of x).waits c.args.tag) c.args.owner c.args.mode) part
    ∙ not_in_queue now shown.0 shown.1 shown.2 c.args.session c.args.owner c.from-place.result c.args.tag c.args.mode c.args.strong (sym c.if-not-may_transfer.ensures)

pub returns-in_err-begin-clause-refused : goal.returns-in_err-begin-clause-refused
returns-in_err-begin-clause-refused c =
    let now = c.args.self.now in
    let place : c.from.result ≡ partition_of c.args.tag = c.from.ensures ∙ c.partition-partition.ensures.value in
    let part = partition_read now.contents.parts.items c.from.result _ (partition_of c.args.tag) c.index_mut-part.result.now c.requires.shown.2.contents.sixteen c.from.ensures c.partition-partition.ensures.value c.partition-partition.ensures.within c.index_mut-part.ensures.value in
    let P : Machine → Type 0 = λ m. (w : World) → Shows now w → Shows m w in
    let refused : P (record now { contents = record (now.contents) { parts = with_item now.contents.parts c.from.result c.begin.new.self } }) = λ w shows.
    rw place (transfer_refused now w (partition_of c.args.tag) c.begin.new.self shows (omega arith) (c.begin.ensures.content ∙ ap content_of part) c.in_err-begin.ensures.err) in
    on_err c.from_residual.result _ refused

pub without-requires : goal.without-requires
without-requires c = transfer_is_eligible c.args.self.now c.args.session c.args.owner c.from-place.result c.args.tag c.args.mode c.args.strong (sym c.if-not-may_transfer.ensures)

pub returns-clause-followed : goal.returns-clause-followed
returns-clause-followed c = λ w safe shows.
    let now = c.args.self.now in
    let in_part : c.from.result ≡ partition_of c.args.tag = c.from.ensures ∙ c.partition-partition.ensures.value in
    let part = partition_read now.contents.parts.items c.from.result _ (partition_of c.args.tag) c.index_mut-part.result.now shows.contents.sixteen c.from.ensures c.partition-partition.ensures.value c.partition-partition.ensures.within c.index_mut-part.ensures.value in
    let place : c.from-place.result ≡ c.args.slot = c.from-place.ensures in
    let whose : c.from-index.result ≡ c.args.owner = c.from-index.ensures ∙ c.number-number.ensures.value in
    let may : may_transfer now c.args.session c.args.owner c.args.slot c.args.tag c.args.mode c.args.strong ≡ true =
    ap (λ k. may_transfer now c.args.session c.args.owner k c.args.tag c.args.mode c.args.strong) (sym place) ∙ sym c.if-not-may_transfer.ensures in
    let within : c.args.slot < length (slots_at now c.args.owner) =
    subst (λ n. c.args.slot < n) (sym (shows.fast_path.each_slots c.args.owner (omega arith))) (transfer_within now c.args.session c.args.owner c.args.slot c.args.tag c.args.mode c.args.strong may) in
    let slots_read =
    ap (λ (m : Machine). get_or (get_or m.fast_path.slots c.from-index.result []) c.from-place.result c.index-self-index.result) c.record.ensures
    ∙ slot_read now.fast_path.slots c.from-index.result c.args.owner c.from-place.result c.args.slot c.index-self-index.result whose place within in
    let word : c.without.result ≡ word_without (get_or (slots_at now c.args.owner) c.args.slot 0) c.args.mode =
    c.without.ensures.number ∙ ap (λ x. word_without x c.args.mode) slots_read in
    let P : Machine → Type 0 = λ m. (v : World) × Next w (record { session = c.args.session; step = TransferSlot c.args.owner c.args.slot c.args.tag c.args.mode c.args.strong }) v
    × Shows (record m {
      fast_path = record (m.fast_path) {
        slots = set m.fast_path.slots c.from-index.result (set (get_or m.fast_path.slots c.from-index.result []) c.from-place.result c.without.result);
      };
    }) v in
    subst P (sym c.record.ensures)
    (rw (word, place, whose, in_part, c.number-number.ensures.value, c.partition-partition.ensures.value)
    (was_transferred now w safe shows c.args.session c.args.owner c.args.slot c.args.tag c.args.mode c.args.strong c.in-Some.hand c.grant.new.self
    (ap (hand_of now c.args.session) (sym c.partition-partition.ensures.value) ∙ sym c.hand_of.ensures ∙ c.in-Some.is)
    (ap (λ k. may_adopt c.in-Some.hand.recorded k c.args.slot) (sym c.number-number.ensures.value) ∙ sym c.if-not-may_adopt.ensures) may (omega arith)
    (c.grant.ensures.content ∙ ap (λ (x : Content). add_hold x c.args.owner c.args.tag c.args.mode) (c.begin.ensures.content ∙ ap content_of part)) c.grant.ensures.ended))

pub returns-then-number-ge-USUAL_SESSIONS-clause-followed : goal.returns-then-number-ge-USUAL_SESSIONS-clause-followed
returns-then-number-ge-USUAL_SESSIONS-clause-followed c = λ w safe shows. transferring-beyond c.args.self.now w safe shows c.args.session c.args.owner c.args.slot c.args.tag c.args.mode c.args.strong (omega arith)
