use Rattle.std.proofs.Common.{◌≡◌, ℕ, ◌<◌, length, sym, ap, subst, ◌∙◌, inl, inr, arith}
use Rattle.std.proofs.lemmas.Bool.{cases_eq}
use Rattle.std.proofs.lemmas.List.{get_or_default}
use Rattle.place_index.specs.Chains.{end_of_chain, note_at, head_at, start_of}
use Rattle.place_index.proofs.Lemmas.Notes.{is_under-some, times-view}
use Rattle.place_index.proofs.Lemmas.Links.{none_first, some_first}
use Rattle.place_index.proofs.Lemmas.Index.{some_of, none_of}
use Rattle.place_index.proofs.index.PlaceIndex.first.Goals as goal

pub returns-else-head-len : goal.returns-else-head-len
returns-else-head-len c = λ p.
    let heads = c.self.inside.heads.items in
    let links = c.self.inside.links.items in
    let starts : c.len.result ≡ length heads = c.len.ensures ∙ c.self.inside.heads.ok.0 in
    let within : c.start_of.result < length heads = omega (arith, c.start_of.ensures.within (omega (arith, starts, c.self.invariant.starts.some))) in
    let start : c.start_of.result ≡ start_of (length heads) c.args.hash = c.start_of.ensures.is ∙ ap (λ n. start_of n c.args.hash) starts in
    let read : c.index-head.result.now ≡ head_at heads c.start_of.result = c.index-head.ensures ∙ get_or_default heads c.start_of.result c.index-head.result.now 0 within in
    let past = c.if-head-len.false in
    let few = c.len-2.ensures ∙ c.self.inside.links.ok.0 in
    let ends : head_at heads c.start_of.result ≡ end_of_chain
    = elim (cases_eq (head_at heads c.start_of.result) end_of_chain) [
      | inl is ↦ is
      | inr goes ↦ absurd (omega (arith, (c.self.invariant.linked.firsts c.start_of.result within).within goes, read, past, few))
    ] in
    times-view links _ c.args.self.now (sym c.self.view_is) c.args.hash p
    ∙ none_of _ (none_first heads links c.args.hash p c.self.invariant.linked (subst (λ (s : ℕ). s < length heads) start within) (ap (head_at heads) (sym start) ∙ ends))

pub returns-then-head-len : goal.returns-then-head-len
returns-then-head-len c =
    let heads = c.self.inside.heads.items in
    let links = c.self.inside.links.items in
    let starts : c.len.result ≡ length heads = c.len.ensures ∙ c.self.inside.heads.ok.0 in
    let within : c.start_of.result < length heads = omega (arith, c.start_of.ensures.within (omega (arith, starts, c.self.invariant.starts.some))) in
    let read = c.index-head.ensures ∙ get_or_default heads c.start_of.result c.index-head.result.now 0 within in
    let found = some_first heads links c.start_of.result c.self.invariant.linked within (λ ends. omega (arith, read, ends, c.if-head-len.true, c.len-2.ensures, c.self.inside.links.ok.0, c.self.invariant.few)) in
    let noted = ap (note_at links) read ∙ found.1 in
    let was = times-view links _ c.args.self.now (sym c.self.view_is) found.0 c.index-head.result.now in
    (found.0, subst (λ (n : ℕ). 0 < n) (sym was) (some_of _ (is_under-some found.0 (note_at links c.index-head.result.now) noted)))
