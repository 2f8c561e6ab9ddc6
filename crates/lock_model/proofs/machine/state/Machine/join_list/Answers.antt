use Rattle.std.proofs.Common.{◌≡◌, get_or, sym, ap, ◌∙◌, arith}
use Rattle.lock_model.specs.declared.machine.state.Lists.{Lists}
use Rattle.lock_model.proofs.Lemmas.Follows.Lists.{has_joined, not_joined, joined_not_idle}
use Rattle.lock_model.proofs.machine.state.Machine.join_list.Goals as goal

pub returns-in_ok-push-clause-followed : goal.returns-in_ok-push-clause-followed
returns-in_ok-push-clause-followed c = λ w safe shows.
    let now = c.args.self.now in
    let after : Lists = record (now.lists) { sleepers = c.push.new.self } in
    let place : c.from-index.result ≡ c.args.session = c.from-index.ensures ∙ c.number.ensures.value in
    rw place
    (has_joined now w safe shows c.args.session c.in-Some.lock c.args.mode after (sym c.list_to_change.ensures ∙ c.in-Some.is)
    (ap (λ i. get_or now.lists.sleep i 0) (sym place) ∙ c.if-self-index-eq0.true) (omega arith) c.in_ok-push.ensures.items)

pub returns-in_default-clause-followed : goal.returns-in_default-clause-followed
returns-in_default-clause-followed c = λ w safe shows. not_joined c.args.self.now w safe shows c.args.session c.args.mode (sym c.list_to_change.ensures ∙ c.in_default.is)

pub returns-else-self-index-eq0-clause-followed : goal.returns-else-self-index-eq0-clause-followed
returns-else-self-index-eq0-clause-followed c = λ w safe shows.
    let now = c.args.self.now in
    let place : c.from-index.result ≡ c.args.session = c.from-index.ensures ∙ c.number.ensures.value in
    joined_not_idle now w safe shows c.args.session c.args.mode (λ idle. c.if-self-index-eq0.false (ap (λ i. get_or now.lists.sleep i 0) place ∙ idle))
