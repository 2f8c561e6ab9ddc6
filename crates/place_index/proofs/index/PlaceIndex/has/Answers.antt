use Rattle.std.proofs.Common.{ℕ, ◌<◌, length, sym, ap, subst, ◌∙◌, arith}
use Rattle.place_index.specs.Chains.{link_at, is_noted, note_at, is_under}
use Rattle.place_index.proofs.Lemmas.Notes.{one_if, link_read, note_of-noted, note_of-free, note_past, is_under-some, times-view}
use Rattle.place_index.proofs.Lemmas.Index.{some_of}
use Rattle.place_index.proofs.index.PlaceIndex.has.Goals as goal

pub returns-then-place-len-clause-noted : goal.returns-then-place-len-clause-noted
returns-then-place-len-clause-noted c = λ is.
    let links = c.self.inside.links.items in
    let within : c.args.place < length links = omega (arith, c.if-place-len.true, c.len.ensures, c.self.inside.links.ok.0) in
    let read = c.index.ensures ∙ link_read links c.args.place c.index.result.now within in
    let noted = note_of-noted (link_at links c.args.place) (ap is_noted (sym read) ∙ (sym c.is_noted.ensures ∙ is)) in
    let was = times-view links _ c.args.self.now (sym c.self.view_is) (link_at links c.args.place).hash c.args.place in
    ((link_at links c.args.place).hash, subst (λ (n : ℕ). 0 < n) (sym was) (some_of _ (is_under-some (link_at links c.args.place).hash (note_at links c.args.place) noted)))

pub returns-then-place-len-clause-free : goal.returns-then-place-len-clause-free
returns-then-place-len-clause-free c = λ is h.
    let links = c.self.inside.links.items in
    let within : c.args.place < length links = omega (arith, c.if-place-len.true, c.len.ensures, c.self.inside.links.ok.0) in
    let read = c.index.ensures ∙ link_read links c.args.place c.index.result.now within in
    let free = note_of-free (link_at links c.args.place) (ap is_noted (sym read) ∙ (sym c.is_noted.ensures ∙ is)) in
    times-view links _ c.args.self.now (sym c.self.view_is) h c.args.place ∙ ap (λ n. one_if (is_under h n)) free

pub returns-else-place-len-clause-free : goal.returns-else-place-len-clause-free
returns-else-place-len-clause-free c = λ _ h.
    let links = c.self.inside.links.items in
    times-view links _ c.args.self.now (sym c.self.view_is) h c.args.place
    ∙ ap (λ n. one_if (is_under h n)) (note_past links c.args.place (omega (arith, c.if-place-len.false, c.len.ensures, c.self.inside.links.ok.0)))
