use Rattle.std.proofs.Common.{◌≡◌, ℕ, ◌+◌, ◌<◌, ◌≤◌, List, length, set, count_by, refl, sym, ap, subst, ◌∙◌, arith}
use Rattle.std.specs.Prelude.{Some, None}
use Rattle.place_index.specs.declared.links.Link.{Link}
use Rattle.place_index.specs.Notes.{no_place}
use Rattle.place_index.specs.Chains.{link_at, note_at, head_at, is_noted, start_of, IsLinkedTo}
use Rattle.place_index.proofs.Lemmas.Notes.{link_read, note_of-noted, note_of-free, noted_of, count-alike}
use Rattle.place_index.proofs.Lemmas.Links.{linked-none, linked-past, linked-here, here_noted, relinked}
use Rattle.place_index.proofs.chains.link_all.Goals as goal
use Rattle.place_index.proofs.chains.link_all.Goals.{then-is_noted, else-is_noted}

pub loop-place-init : goal.loop-place-init
loop-place-init c = record { linked = linked-none c.args.heads.now c.args.links.now c.requires.empty; notes = λ k. refl; counted = refl }

pub loop-place-preserved : goal.loop-place-preserved
loop-place-preserved c =
    let heads = c.loop-place.heads in
    let links = c.loop-place.links in
    let within : c.loop-place.place < length links = omega (arith, c.loop-place-test.true, c.loop-place.auto.links) in
    let read = link_read links c.loop-place.place _ within in
    elim c.if-is_noted.branch [
      | then-is_noted w ↦
          let noted : note_at links c.loop-place.place ≡ Some (link_at links c.loop-place.place).hash = note_of-noted (link_at links c.loop-place.place) (ap is_noted (sym read) ∙ (sym c.is_noted.ensures ∙ w.if-is_noted.true)) in
          let hash : ℕ = (link_at links c.loop-place.place).hash in
          let hashed : w.hash.result ≡ hash = w.hash.ensures ∙ ap (λ (l : Link). l.hash) read in
          let start : w.start_of-start.result ≡ start_of (length heads) hash = w.start_of-start.ensures.is ∙ ap (start_of (length heads)) hashed in
          let begins : start_of (length heads) hash < length heads
          = subst (λ (s : ℕ). s < length heads) start (w.start_of-start.ensures.within (omega (arith, c.requires.starts.some, c.loop-place.auto.heads))) in
          let is : w.noted.result ≡ record { hash = hash; next = head_at heads (start_of (length heads) hash) }
          = w.noted.ensures ∙ (λ i. record { hash = (w.hash-then-is_noted.ensures ∙ ap (λ (l : Link). l.hash) read) i; next = head_at heads (start i) }) in
          let few : length links ≤ no_place = omega (arith, c.requires.few, c.loop-place.auto.links) in
          let own = here_noted heads links c.loop-place.place hash w.noted.result (omega arith) begins is c.loop-place.invariant.linked in
          let stays : is_noted (link_at links c.loop-place.place) ≡ is_noted w.noted.result = (noted_of (link_at links c.loop-place.place) hash noted).0 ∙ sym (noted_of w.noted.result hash own).0 in
          record {
            linked = subst (λ (ls : List Link). IsLinkedTo c.if-is_noted.heads ls (c.loop-place.place + 1)) (sym w.links-is)
                (subst (λ (hs : List ℕ). IsLinkedTo hs (set links c.loop-place.place w.noted.result) (c.loop-place.place + 1)) (sym (w.heads-is ∙ ap (λ s. set heads s c.loop-place.place) start))
                (linked-here heads links c.loop-place.place hash w.noted.result within few noted begins is c.loop-place.invariant.linked));
            notes = λ k. ap (λ (ls : List Link). note_at ls k) w.links-is ∙ (relinked links c.loop-place.place hash w.noted.result within noted own k ∙ c.loop-place.invariant.notes k);
            counted = ap (count_by is_noted) w.links-is ∙ (count-alike links c.loop-place.place w.noted.result within stays ∙ c.loop-place.invariant.counted);
          }
      | else-is_noted w ↦
          let free : note_at links c.loop-place.place ≡ None = note_of-free (link_at links c.loop-place.place) (ap is_noted (sym read) ∙ (sym c.is_noted.ensures ∙ w.if-is_noted.false)) in
          record {
            linked = subst (λ (ls : List Link). IsLinkedTo c.if-is_noted.heads ls (c.loop-place.place + 1)) (sym w.links-is)
                (subst (λ (hs : List ℕ). IsLinkedTo hs links (c.loop-place.place + 1)) (sym w.heads-is) (linked-past heads links c.loop-place.place free c.loop-place.invariant.linked));
            notes = λ k. ap (λ (ls : List Link). note_at ls k) w.links-is ∙ c.loop-place.invariant.notes k;
            counted = ap (count_by is_noted) w.links-is ∙ c.loop-place.invariant.counted;
          }
    ]

pub returns-clause-linked : goal.returns-clause-linked
returns-clause-linked c =
    let all : c.loop-place.place ≡ length c.loop-place.links = omega (arith, c.loop-place-test.false, c.loop-place.auto.links, c.loop-place.auto.place-end) in
    subst (λ (n : ℕ). IsLinkedTo c.loop-place.heads c.loop-place.links n) all c.loop-place.invariant.linked

pub returns-clause-notes : goal.returns-clause-notes
returns-clause-notes c = c.loop-place.invariant.notes

pub returns-clause-counted : goal.returns-clause-counted
returns-clause-counted c = c.loop-place.invariant.counted
