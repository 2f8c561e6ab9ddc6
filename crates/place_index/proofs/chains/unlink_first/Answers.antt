use Rattle.std.proofs.Common.{ℕ, ◌<◌, length, set, sym, ap, subst, ◌∙◌}
use Rattle.place_index.specs.declared.links.Link.{Link}
use Rattle.place_index.specs.Chains.{note_at, start_of, IsLinked}
use Rattle.place_index.proofs.Lemmas.Notes.{link_read, under_of, noted_within}
use Rattle.place_index.proofs.Lemmas.Links.{unlinked-first}
use Rattle.place_index.proofs.chains.unlink_first.Goals as goal

pub returns-clause-linked : goal.returns-clause-linked
returns-clause-linked c =
    let heads = c.args.heads.now in
    let links = c.args.links.now in
    let is = c.start_of-start.ensures.is in
    let begins : start_of (length heads) c.args.hash < length heads = subst (λ (s : ℕ). s < length heads) is (c.start_of-start.ensures.within c.requires.starts.some) in
    let within = noted_within links c.args.place c.args.hash (under_of c.args.hash (note_at links c.args.place) c.requires.there) in
    subst (λ (s : ℕ). IsLinked (set heads s c.next.result) (set links c.args.place c.free.result)) (sym is)
    (subst (λ (l : Link). IsLinked (set heads (start_of (length heads) c.args.hash) c.next.result) (set links c.args.place l)) (sym c.free.ensures)
    (unlinked-first heads links c.args.hash c.args.place c.next.result c.requires.linked c.requires.few c.requires.there begins
    c.requires.first (c.next.ensures ∙ ap (λ (l : Link). l.next) (link_read links c.args.place _ within))))
