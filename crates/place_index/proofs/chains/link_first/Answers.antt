use Rattle.std.proofs.Common.{ℕ, ◌<◌, length, set, sym, ap, subst, ◌∙◌}
use Rattle.place_index.specs.Chains.{head_at, start_of, IsLinked}
use Rattle.place_index.proofs.Lemmas.Links.{linked-first}
use Rattle.place_index.proofs.chains.link_first.Goals as goal

pub returns-clause-linked : goal.returns-clause-linked
returns-clause-linked c =
    let heads = c.args.heads.now in
    let is = c.start_of-start.ensures.is in
    let begins : start_of (length heads) c.args.hash < length heads = subst (λ (s : ℕ). s < length heads) is (c.start_of-start.ensures.within c.requires.starts.some) in
    subst (λ (s : ℕ). IsLinked (set heads s c.args.place) (set c.args.links.now c.args.place c.noted.result)) (sym is)
    (linked-first heads c.args.links.now c.args.hash c.args.place c.noted.result c.requires.linked c.requires.few c.requires.within c.requires.free begins c.requires.first
    (c.noted.ensures ∙ ap (λ s. record { hash = c.args.hash; next = head_at heads s }) is))
