use Rattle.std.proofs.Common.{◌≡◌, ◌≢◌, ◌-◌, ◌<◌, ◌+◌, List, length, set, take, refl, sym, ap, subst, ◌∙◌, ◌⊎◌, inl, inr, arith}
use Rattle.std.proofs.lemmas.Bool.{false≢true, cases_eq}
use Rattle.std.proofs.lemmas.List.{get_or_default, length-set}
use Rattle.local_locks.specs.declared.records.Entry.{Entry}
use Rattle.local_locks.specs.Owned.{count_in_all}
use Rattle.local_locks.specs.Slots.{entry_at}
use Rattle.local_locks.specs.Levels.{Rows, row_at, had_in, without_level}
use Rattle.local_locks.proofs.Lemmas.Rows.{Goes_on, goes_on-start, goes_on-next, goes_on-ended}
use Rattle.local_locks.proofs.slots.settle_inner.Goals as goal
use Rattle.local_locks.proofs.slots.settle_inner.Goals.{else-is_held-via-then-is_held+else-total-eq0, else-is_held-via-else-is_held}

pub loop-place-init : goal.loop-place-init
loop-place-init c =
    record { goes_on = goes_on-start (c.args.depth - 1) c.args.slots.now.items c.args.outer.now.items c.args.from c.requires.past; number = refl; lists = refl; capacity = refl }

pub loop-place-preserved : goal.loop-place-preserved
loop-place-preserved c =
    let inv = c.loop-place.invariant in
    let now = c.loop-place.slots.items in
    let rows = c.loop-place.outer.items in
    let place = c.loop-place.place in
    let within : place < length now = omega (arith, c.loop-place-test.true, inv.number, c.len-place-end.ensures, c.args.slots.now.ok.0) in
    let listed : place < length rows = omega (arith, within, inv.lists, inv.number, c.requires.lists) in
    let read : c.index.result.now ≡ entry_at now place = c.index.ensures ∙ get_or_default now place c.index.result.now _ within in
    let row : c.index-in-loop-place.result.now ≡ row_at rows place = c.index-in-loop-place.ensures ∙ get_or_default rows place c.index-in-loop-place.result.now _ listed in
    let had : c.at.result ≡ had_in (row_at rows place) (c.args.depth - 1) (entry_at now place).transaction =
    c.at.ensures ∙ (λ i. had_in (row i) (c.args.depth - 1) (read i).transaction) in
    let left : c.with_transaction-left.result ≡ without_level (c.args.depth - 1) (row_at rows place) (entry_at now place) =
    c.with_transaction-left.ensures ∙ (λ i. record (read i) { transaction = had i }) in
    let cut : c.cut.new.self ≡ take (c.args.depth - 1) (row_at rows place) =
    c.cut.ensures ∙ ap (take (c.args.depth - 1)) (c.index_mut-in-loop-place.ensures.value ∙ get_or_default rows place c.index_mut-in-loop-place.result.now _ listed) in
    let which : (count_in_all (entry_at now place) ≡ 0) ⊎ (count_in_all (without_level (c.args.depth - 1) (row_at rows place) (entry_at now place)) ≢ 0) =
    elim c.else-is_held.branch [
      | else-is_held-via-then-is_held+else-total-eq0 w ↦ inr (λ none. w.if-total-eq0.false (w.total.ensures ∙ (ap count_in_all left ∙ none)))
      | else-is_held-via-else-is_held w ↦
          elim (cases_eq (count_in_all (entry_at now place)) 0) [
            | inl none ↦ inl none
            | inr some ↦ absurd (false≢true (sym w.if-is_held.false ∙ c.is_held.ensures.1 (λ none. some (sym (ap count_in_all read) ∙ none))))
          ]
    ] in
    record {
      goes_on =
          subst (λ (p : List Entry × Rows). Goes_on (c.args.depth - 1) c.args.slots.now.items p.0 c.args.outer.now.items p.1 (place + 1)) (λ i. (set now place (sym left i), set rows place (sym cut i)))
          (goes_on-next (c.args.depth - 1) c.args.slots.now.items now c.args.outer.now.items rows place inv.goes_on within listed c.requires.empty which);
      number = length-set now place c.with_transaction-left.result ∙ inv.number;
      lists = length-set rows place c.cut.new.self ∙ inv.lists;
      capacity = inv.capacity;
    }

pub returns-then-total-eq0-clause-ended : goal.returns-then-total-eq0-clause-ended
returns-then-total-eq0-clause-ended c = λ _.
    let inv = c.loop-place.invariant in
    let now = c.loop-place.slots.items in
    let rows = c.loop-place.outer.items in
    let place = c.loop-place.place in
    let within : place < length now = omega (arith, c.loop-place-test.true, inv.number, c.len-place-end.ensures, c.args.slots.now.ok.0) in
    let listed : place < length rows = omega (arith, within, inv.lists, inv.number, c.requires.lists) in
    let read : c.index.result.now ≡ entry_at now place = c.index.ensures ∙ get_or_default now place c.index.result.now _ within in
    let row : c.index-in-loop-place.result.now ≡ row_at rows place = c.index-in-loop-place.ensures ∙ get_or_default rows place c.index-in-loop-place.result.now _ listed in
    let had : c.at.result ≡ had_in (row_at rows place) (c.args.depth - 1) (entry_at now place).transaction =
    c.at.ensures ∙ (λ i. had_in (row i) (c.args.depth - 1) (read i).transaction) in
    let left : c.with_transaction-left.result ≡ without_level (c.args.depth - 1) (row_at rows place) (entry_at now place) =
    c.with_transaction-left.ensures ∙ (λ i. record (read i) { transaction = had i }) in
    goes_on-ended (c.args.depth - 1) c.args.slots.now.items now c.args.outer.now.items rows place inv.goes_on
    (λ none. (c.if-is_held.ensures {u = tt}).0 refl (ap count_in_all read ∙ none)) (sym (ap count_in_all left) ∙ (sym c.total.ensures ∙ c.if-total-eq0.true))
