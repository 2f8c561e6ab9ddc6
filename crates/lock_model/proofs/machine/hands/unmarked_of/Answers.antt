use Rattle.std.proofs.Common.{◌≡◌, ◌<◌, ◌∙◌, length, refl, false, true, arith, ap}
use Rattle.std.proofs.Math.ListN.{length-set}
use Rattle.std.proofs.lemmas.List.{take_all}
use Rattle.lock_model.specs.Shows.{names_in}
use Rattle.lock_model.proofs.Lemmas.Shows.Places.{get_or-one_value}
use Rattle.lock_model.proofs.Lemmas.Shows.Hands.{marks-one_more}
use Rattle.lock_model.proofs.machine.hands.unmarked_of.Goals as goal

pub loop-whose-init : goal.loop-whose-init
loop-whose-init c = (refl, λ k. get_or-one_value 1024 false k)

pub loop-whose-preserved : goal.loop-whose-preserved
loop-whose-preserved c =
    let marks = c.loop-whose.marks in
    let as_many : length marks ≡ 1024 = c.loop-whose.invariant.0 in
    let place : c.from.result ≡ c.whose-item.result.0 = c.from.ensures ∙ c.number.ensures.value in
    let below = c.number.ensures.within in
    let within : c.from.result < length marks = omega arith in (
      length-set marks c.from.result true ∙ as_many,
      marks-one_more marks c.args.woken.now c.loop-whose.whose-index c.whose-item.result c.from.result within place c.loop-whose-test.true c.whose-item.is c.loop-whose.invariant.1,
    )

pub returns : goal.returns
returns c = λ k.
    c.loop-whose.invariant.1 k
    ∙ ap (λ xs. names_in xs k) (take_all c.loop-whose.whose-index c.args.woken.now c.loop-whose-test.false)
