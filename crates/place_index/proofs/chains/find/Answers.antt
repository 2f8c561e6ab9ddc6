use Rattle.std.proofs.Common.{ℕ, ◌<◌, false, length, sym, ap, subst, ◌∙◌, inl, inr, arith}
use Rattle.std.proofs.lemmas.Bool.{false≢true, cases_eq, cases_lt}
use Rattle.place_index.specs.declared.links.Link.{Link}
use Rattle.place_index.specs.Chains.{link_at, note_at, head_at, is_under, chain, start_of, IsLast}
use Rattle.place_index.proofs.Lemmas.Notes.{link_read, note_past, under_of, noted_of}
use Rattle.place_index.proofs.Lemmas.Links.{in_chain, next_of, under_read, walk_ends}
use Rattle.place_index.proofs.chains.find.Goals as goal
use Rattle.place_index.proofs.chains.find.Given as given
use Rattle.place_index.proofs.chains.find.Goals.{else-hash-via-then-hash+else-is_it, else-hash-via-else-hash}

pub loop-at-init : goal.loop-at-init
loop-at-init g c =
    let links = c.args.links.now in
    let starts : ℕ = length c.args.heads.now in (
      length links,
      omega arith,
      subst (λ (s : ℕ). IsLast (chain starts (note_at links) s) (length links) (head_at c.args.heads.now c.start_of.result)) c.start_of.ensures.is
          (c.requires.linked.firsts c.start_of.result (c.start_of.ensures.within c.requires.starts.some)),
      λ p past under. absurd (false≢true (sym (ap (is_under c.args.hash) (note_past links p past)) ∙ under)),
    )

pub bounds-links-at : goal.bounds-links-at
bounds-links-at g c = omega (arith, c.loop-at.invariant.1, c.loop-at.invariant.2.within c.loop-at-test.true)

pub is_it-requires : goal.is_it-requires
is_it-requires g c =
    let links = c.args.links.now in
    let within : c.loop-at.at < length links = omega (arith, c.loop-at.invariant.1, c.loop-at.invariant.2.within c.loop-at-test.true) in
    c.requires.callable c.loop-at.at
    (under_read (length c.args.heads.now) (start_of (length c.args.heads.now) c.args.hash) links c.args.hash c.loop-at.at (c.loop-at.invariant.2.there c.loop-at-test.true)
    (ap (λ (l : Link). l.hash) (sym (link_read links c.loop-at.at _ within)) ∙ (sym c.hash.ensures ∙ c.if-hash.true)))

pub returns-then-is_it-clause-found : goal.returns-then-is_it-clause-found
returns-then-is_it-clause-found g c =
    let links = c.args.links.now in
    let within : c.loop-at.at < length links = omega (arith, c.loop-at.invariant.1, c.loop-at.invariant.2.within c.loop-at-test.true) in (
      under_read (length c.args.heads.now) (start_of (length c.args.heads.now) c.args.hash) links c.args.hash c.loop-at.at (c.loop-at.invariant.2.there c.loop-at-test.true)
          (ap (λ (l : Link). l.hash) (sym (link_read links c.loop-at.at _ within)) ∙ (sym c.hash.ensures ∙ c.if-hash.true)),
      c.if-is_it.ensures,
    )

-- what comes next in the chain
next_last : (g : given.Over) (c : goal.After-next-at g) → IsLast (chain (length c.args.heads.now) (note_at c.args.links.now) (start_of (length c.args.heads.now) c.args.hash)) c.loop-at.at c.next-at.result
next_last g c =
    let links = c.args.links.now in
    let within : c.loop-at.at < length links = omega (arith, c.loop-at.invariant.1, c.loop-at.invariant.2.within c.loop-at-test.true) in
    subst (λ (p : ℕ). IsLast (chain (length c.args.heads.now) (note_at links) (start_of (length c.args.heads.now) c.args.hash)) c.loop-at.at p)
    (sym (c.next-at.ensures ∙ ap (λ (l : Link). l.next) (link_read links c.loop-at.at _ within)))
    (next_of c.args.heads.now links (length links) (start_of (length c.args.heads.now) c.args.hash) c.loop-at.at c.requires.linked within (c.loop-at.invariant.2.there c.loop-at-test.true))

pub loop-at-smaller : goal.loop-at-smaller
loop-at-smaller g c = walk_ends c.loop-at.at c.next-at.result c.loop-at-test.true (next_last g c).within

pub loop-at-preserved : goal.loop-at-preserved
loop-at-preserved g c =
    let links = c.args.links.now in
    let within : c.loop-at.at < length links = omega (arith, c.loop-at.invariant.1, c.loop-at.invariant.2.within c.loop-at-test.true) in (
      c.loop-at.at,
      omega arith,
      next_last g c,
      λ p past under. elim (cases_eq p c.loop-at.at) [
        | inl same ↦ elim c.else-hash.branch [
          | else-hash-via-then-hash+else-is_it w ↦ subst (λ (q : ℕ). goal.F-post g c.args.is_it q false) (sym same) w.if-is_it.ensures
          | else-hash-via-else-hash w ↦
              let here = under_of c.args.hash (note_at links c.loop-at.at) (ap (λ q. is_under c.args.hash (note_at links q)) (sym same) ∙ under) in
              absurd (w.if-hash.false (c.hash.ensures ∙ (ap (λ (l : Link). l.hash) (link_read links c.loop-at.at _ within) ∙ (noted_of (link_at links c.loop-at.at) c.args.hash here).1)))
        ]
        | inr apart ↦ elim (cases_lt p c.loop-at.invariant.0) [
          | inl below ↦ absurd (omega (arith, (c.loop-at.invariant.2.behind p below (in_chain (length c.args.heads.now) links c.args.hash p under)).1))
          | inr over ↦ c.loop-at.invariant.3 p over under
        ]
      ],
    )

pub returns-clause-absent : goal.returns-clause-absent
returns-clause-absent g c = λ p under.
    elim (cases_lt p c.loop-at.invariant.0) [
      | inl below ↦ absurd ((c.loop-at.invariant.2.behind p below (in_chain (length c.args.heads.now) c.args.links.now c.args.hash p under)).0 c.loop-at-test.false)
      | inr over ↦ c.loop-at.invariant.3 p over under
    ]
