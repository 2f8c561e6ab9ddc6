use Rattle.std.proofs.Common.{ap, sym, ◌∙◌}
use Rattle.lock_records.specs.Holders.{holds_in}
use Rattle.lock_records.proofs.Lemmas.Relocked.{nobody-holds, conflict-found}
use Rattle.lock_records.proofs.objects.holder_in_the_way.Goals as goal

pub returns-then-not-meets : goal.returns-then-not-meets
returns-then-not-meets c = λ other n another has.
    nobody-holds c.args.holders.now.slots c.args.tag.now c.args.lock.now.granted c.args.mode c.requires.are c.requires.held.granted
    (λ k hit. c.meets.ensures.none c.if-not-meets.true k (ap (λ f. f k) c.conflicts-conflicting.ensures ∙ hit)) other n has

pub returns-in-None : goal.returns-in-None
returns-in-None c = λ other n another has. ap (λ f. f n) (sym c.conflicts-conflicting.ensures) ∙ c.in-None.ensures {u = tt} other n another has

pub returns-in-Some : goal.returns-in-Some
returns-in-Some c =
    conflict-found (holds_in c.args.holders.now.slots) c.args.session c.args.tag.now c.args.mode c.conflicts-conflicting.result c.in-Some.found c.lowest_mode.result
    c.conflicts-conflicting.ensures (c.in-Some.ensures {u = tt}) c.lowest_mode.ensures.held c.lowest_mode.ensures.met c.lowest_mode.ensures.lowest
