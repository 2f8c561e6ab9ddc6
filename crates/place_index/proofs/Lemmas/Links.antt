-- The chains after a step on heads and links.
use Rattle.std.proofs.Common.{◌≡◌, ◌≢◌, ℕ, ◌+◌, ◌<◌, ◌≤◌, true, false, not, cond, eqb, List, length, set, replicate, sym, ap, subst, ◌∙◌, inl, inr, arith}
use Rattle.std.specs.Prelude.{Some, None}
use Rattle.std.proofs.lemmas.Bool.{cases_Bool, cases_eq, cases_lt, eq-eqb, ne_eqb}
use Rattle.std.proofs.lemmas.List.{get_or-set_same, get_or-set_other, get_or-replicate, length-set}
use Rattle.place_index.specs.declared.links.Link.{Link}
use Rattle.place_index.specs.Notes.{no_place}
use Rattle.place_index.specs.Chains.{end_of_chain, free_link, link_at, note_of, note_at, next_at, head_at, is_under, is_in, chain, start_of, IsLast, HasHeads, HasNexts, IsLinked, IsLinkedTo}
use Rattle.place_index.proofs.Lemmas.Notes.{note_of-noted, noted_of, under_of, is_under-some, note_at-set, note_at-set_other, next_at-set, next_at-set_other, noted_within}
use Rattle.place_index.proofs.Lemmas.Chains.{Adds, Drops, in_own, in_some, heads-added, heads-behind, nexts-added, nexts-between, heads-left, heads-stay, nexts-left, heads-past, nexts-past, heads-here, nexts-here}

-- ---- what links say

-- a link that names another place, or an end, is one of a place that is noted
pub noted_by : (hash next : ℕ) → next ≢ no_place → note_of (record { hash = hash; next = next }) ≡ Some hash
noted_by hash next apart = note_of-noted (record { hash = hash; next = next }) (ap not (ne_eqb next no_place apart))

-- what comes after a place of a chain
pub next_of : (heads : List ℕ) (links : List Link) (n start front : ℕ) → IsLinkedTo heads links n → front < n → is_in (length heads) start (note_at links front) ≡ true → IsLast (chain (length heads) (note_at links) start) front (next_at links front)
next_of heads links n start front linked within own =
    let found = in_some (length heads) start (note_at links front) own in
    subst (λ (s : ℕ). IsLast (chain (length heads) (note_at links) s) front (next_at links front)) found.2 (linked.nexts front found.0 within found.1)

-- what a walk along a chain has read of a place, which comes after it
pub read_behind :
    (heads : List ℕ) (links : List Link) (start front next : ℕ) → IsLinked heads links → front < length links → is_in (length heads) start (note_at links front) ≡ true → next ≡ next_at links front →
    IsLast (chain (length heads) (note_at links) start) front next
read_behind heads links start front next linked within own read =
    subst (λ (p : ℕ). IsLast (chain (length heads) (note_at links) start) front p) (sym read) (next_of heads links (length links) start front linked within own)

-- the same on the way to another place of the chain, which it has not come to
pub read_before :
    (heads : List ℕ) (links : List Link) (hash place front next : ℕ) → IsLinked heads links → is_under hash (note_at links place) ≡ true → front < length links →
    is_in (length heads) (start_of (length heads) hash) (note_at links front) ≡ true → next ≡ next_at links front → place < front →
    (next ≢ end_of_chain) × (next < front) × (place ≤ next) × (is_in (length heads) (start_of (length heads) hash) (note_at links next) ≡ true)
read_before heads links hash place front next linked under within own read before =
    let last = read_behind heads links (start_of (length heads) hash) front next linked within own read in
    let far = last.behind place before (in_own (length heads) hash place (note_at links) (under_of hash (note_at links place) under)) in
    (far.0, last.within far.0, far.1, last.there far.0)

-- a place that is noted under a hash is in its chain
pub in_chain : (starts : ℕ) (links : List Link) (hash place : ℕ) → is_under hash (note_at links place) ≡ true → is_in starts (start_of starts hash) (note_at links place) ≡ true
in_chain starts links hash place under = in_own starts hash place (note_at links) (under_of hash (note_at links place) under)

-- a place of a chain whose link has the hash is noted under it
pub under_read : (starts start : ℕ) (links : List Link) (hash place : ℕ) → is_in starts start (note_at links place) ≡ true → (link_at links place).hash ≡ hash → is_under hash (note_at links place) ≡ true
under_read starts start links hash place own same =
    let found = in_some starts start (note_at links place) own in
    let has = noted_of (link_at links place) found.0 found.1 in
    is_under-some hash (note_at links place) (found.1 ∙ ap (λ n. Some n) (sym has.1 ∙ same))

-- a walk along a chain comes to an end
pub walk_ends : (at next : ℕ) → at ≢ end_of_chain → (next ≢ end_of_chain → next < at) → cond (eqb next end_of_chain) 0 (next + 1) < cond (eqb at end_of_chain) 0 (at + 1)
walk_ends at next some before =
    let here : cond (eqb at end_of_chain) 0 (at + 1) ≡ at + 1 = ap (λ b. cond b 0 (at + 1)) (ne_eqb at end_of_chain some) in
    elim (cases_eq next end_of_chain) [
      | inl ends ↦
          let there : cond (eqb next end_of_chain) 0 (next + 1) ≡ 0 = ap (λ b. cond b 0 (next + 1)) (eq-eqb next end_of_chain ends) in
          omega arith
      | inr goes ↦
          let there : cond (eqb next end_of_chain) 0 (next + 1) ≡ next + 1 = ap (λ b. cond b 0 (next + 1)) (ne_eqb next end_of_chain goes) in
          omega (arith, before goes)
    ]

-- as many links as there were
as_many : (heads : List ℕ) (links : List Link) (n m : ℕ) → n ≡ m → IsLinkedTo heads links m → IsLinkedTo heads links n
as_many heads links n m same linked = subst (λ (k : ℕ). IsLinkedTo heads links k) (sym same) linked

-- a chain that is at its end at once has no place
pub none_first :
    (heads : List ℕ) (links : List Link) (hash place : ℕ) → IsLinked heads links → start_of (length heads) hash < length heads →
    head_at heads (start_of (length heads) hash) ≡ end_of_chain → is_under hash (note_at links place) ≡ false
none_first heads links hash place linked begins ends =
    elim (cases_Bool (is_under hash (note_at links place))) [
      | inl under ↦
          let within = noted_within links place hash (under_of hash (note_at links place) under) in
          absurd (((linked.firsts (start_of (length heads) hash) begins).behind place within (in_chain (length heads) links hash place under)).0 ends)
      | inr apart ↦ apart
    ]

-- the head of a chain is noted
pub some_first :
    (heads : List ℕ) (links : List Link) (start : ℕ) → IsLinked heads links → start < length heads → head_at heads start ≢ end_of_chain →
    (hash : ℕ) × (note_at links (head_at heads start) ≡ Some hash)
some_first heads links start linked begins goes =
    let found = in_some (length heads) start (note_at links (head_at heads start)) ((linked.firsts start begins).there goes) in
    (found.0, found.1)

-- a place of a chain is its head where no higher one is noted
pub head_of_last :
    (heads : List ℕ) (links : List Link) (hash place : ℕ) → IsLinked heads links → start_of (length heads) hash < length heads → is_under hash (note_at links place) ≡ true →
    ((h p : ℕ) → note_at links p ≡ Some h → p ≤ place) → head_at heads (start_of (length heads) hash) ≡ place
head_of_last heads links hash place linked begins under last =
    let start : ℕ = start_of (length heads) hash in
    let within = noted_within links place hash (under_of hash (note_at links place) under) in
    let far = (linked.firsts start begins).behind place within (in_chain (length heads) links hash place under) in
    let head = some_first heads links start linked begins far.0 in
    omega (arith, far.1, last head.0 (head_at heads start) head.1)

-- ---- a place is noted

-- it becomes the head of its chain
pub linked-first :
    (heads : List ℕ) (links : List Link) (hash place : ℕ) (own : Link) → IsLinked heads links → length links ≤ no_place → place < length links → note_at links place ≡ None →
    start_of (length heads) hash < length heads → (head_at heads (start_of (length heads) hash) ≢ end_of_chain → head_at heads (start_of (length heads) hash) < place) →
    own ≡ record { hash = hash; next = head_at heads (start_of (length heads) hash) } →
    IsLinked (set heads (start_of (length heads) hash) place) (set links place own)
linked-first heads links hash place own linked few within free begins before is =
    let start : ℕ = start_of (length heads) hash in
    let links' : List Link = set links place own in
    let heads' : List ℕ = set heads start place in
    let starts : length heads' ≡ length heads = length-set heads start place in
    let noted : note_of own ≡ Some hash = ap note_of is ∙ noted_by hash (head_at heads start) (λ same. elim (cases_eq (head_at heads start) end_of_chain) [ inl ends ↦ omega arith | inr goes ↦ omega (arith, before goes) ]) in
    let adds : Adds (note_at links) (note_at links') hash place = record {
      free = free;
      here = note_at-set links place own within ∙ noted;
      others = λ k apart. note_at-set_other links place k own apart;
    } in
    as_many heads' links' (length links') (length links) (length-set links place own)
    (subst (λ (n : ℕ). HasHeads n (note_at links') (head_at heads') (length links) × HasNexts n (note_at links') (next_at links') (length links) → IsLinkedTo heads' links' (length links)) starts
    (λ both. record { firsts = both.0; nexts = both.1 }) (
      heads-added (length heads) (length links) hash place (note_at links) (note_at links') (head_at heads) (head_at heads') adds within (omega arith) before
          (get_or-set_same heads start place 0 begins) (λ s apart. get_or-set_other heads start s place 0 apart) linked.firsts,
      nexts-added (length heads) (length links) hash place (head_at heads start) (note_at links) (note_at links') (next_at links) (next_at links') adds within before (linked.firsts start begins)
          (next_at-set links place own within ∙ ap (λ (l : Link). l.next) is) (λ k apart. next_at-set_other links place k own apart) linked.nexts,
    ))

-- it comes between a place of its chain and the next one
pub linked-between :
    (heads : List ℕ) (links : List Link) (hash place front : ℕ) (own link : Link) → IsLinked heads links → length links ≤ no_place → place < length links → note_at links place ≡ None →
    front < length links → place < front → is_in (length heads) (start_of (length heads) hash) (note_at links front) ≡ true → (next_at links front ≢ end_of_chain → next_at links front < place) →
    own ≡ record { hash = hash; next = next_at links front } → link ≡ record { hash = (link_at links front).hash; next = place } →
    IsLinked heads (set (set links place own) front link)
linked-between heads links hash place front own link linked few within free inside behind ours before is is_link =
    let starts : ℕ = length heads in
    let start : ℕ = start_of starts hash in
    let once : List Link = set links place own in
    let links' : List Link = set once front link in
    let inside' : front < length once = omega (arith, length-set links place own) in
    let apart : place ≢ front = λ same. omega arith in
    let noted : note_of own ≡ Some hash = ap note_of is ∙ noted_by hash (next_at links front) (λ same. elim (cases_eq (next_at links front) end_of_chain) [ inl ends ↦ omega arith | inr goes ↦ omega (arith, before goes) ]) in
    let found = in_some starts start (note_at links front) ours in
    let has = noted_of (link_at links front) found.0 found.1 in
    let stays : note_of link ≡ note_at links front = ap note_of is_link ∙ (noted_by (link_at links front).hash place (λ same. omega arith) ∙ (ap (λ n. Some n) has.1 ∙ sym found.1)) in
    let adds : Adds (note_at links) (note_at links') hash place = record {
      free = free;
      here = note_at-set_other once front place link apart ∙ (note_at-set links place own within ∙ noted);
      others = λ k unlike. elim (cases_eq k front) [
        | inl same ↦ ap (note_at links') same ∙ (note_at-set once front link inside' ∙ (stays ∙ ap (note_at links) (sym same)))
        | inr other ↦ note_at-set_other once front k link other ∙ note_at-set_other links place k own unlike
      ];
    } in
    as_many heads links' (length links') (length links) (length-set once front link ∙ length-set links place own)
    (record {
      firsts = heads-behind starts (length links) hash place (note_at links) (note_at links') (head_at heads) adds
          (λ below. let far = (linked.firsts start below).behind front inside ours in (far.0, omega (arith, far.1))) linked.firsts;
      nexts = nexts-between starts (length links) hash place front (note_at links) (note_at links') (next_at links) (next_at links') adds (omega arith) inside behind ours before
          (next_at-set_other once front place link apart ∙ (next_at-set links place own within ∙ ap (λ (l : Link). l.next) is))
          (next_at-set once front link inside' ∙ ap (λ (l : Link). l.next) is_link)
          (λ k unlike other. next_at-set_other once front k link other ∙ next_at-set_other links place k own unlike) linked.nexts;
    })

-- ---- a note is taken away

-- it was the head of its chain
pub unlinked-first :
    (heads : List ℕ) (links : List Link) (hash place next : ℕ) → IsLinked heads links → length links ≤ no_place → is_under hash (note_at links place) ≡ true →
    start_of (length heads) hash < length heads → head_at heads (start_of (length heads) hash) ≡ place → next ≡ next_at links place →
    IsLinked (set heads (start_of (length heads) hash) next) (set links place free_link)
unlinked-first heads links hash place next linked few under begins is is_next =
    let start : ℕ = start_of (length heads) hash in
    let links' : List Link = set links place free_link in
    let heads' : List ℕ = set heads start next in
    let starts : length heads' ≡ length heads = length-set heads start next in
    let note : note_at links place ≡ Some hash = under_of hash (note_at links place) under in
    let within : place < length links = noted_within links place hash note in
    let drops : Drops (note_at links) (note_at links') hash place = record {
      here = note;
      free = note_at-set links place free_link within;
      others = λ k apart. note_at-set_other links place k free_link apart;
    } in
    as_many heads' links' (length links') (length links) (length-set links place free_link)
    (subst (λ (n : ℕ). HasHeads n (note_at links') (head_at heads') (length links) × HasNexts n (note_at links') (next_at links') (length links) → IsLinkedTo heads' links' (length links)) starts
    (λ both. record { firsts = both.0; nexts = both.1 }) (
      heads-left (length heads) (length links) hash place (note_at links) (note_at links') (head_at heads) (head_at heads') (next_at links) drops within (omega arith) is
          (get_or-set_same heads start next 0 begins ∙ is_next) (λ s apart. get_or-set_other heads start s next 0 apart) linked.nexts linked.firsts,
      nexts-left (length heads) (length links) hash place (note_at links) (note_at links') (next_at links) (next_at links') drops
          (λ k own below apart was one. inl (
            (λ same.
                let ours = ap (λ s. chain (length heads) (note_at links) s k) (sym one) ∙ in_own (length heads) own k (note_at links) was in
                let far = (linked.firsts start begins).behind k below ours in
                omega (arith, far.1, is, (linked.nexts k own below was).within (λ ends. omega arith))),
            next_at-set_other links place k free_link apart,
          ))
          (λ k own apart was two. next_at-set_other links place k free_link apart) within (omega arith) linked.nexts,
    ))

-- the place comes after another place of its chain
pub unlinked-behind :
    (heads : List ℕ) (links : List Link) (hash place front : ℕ) (link : Link) → IsLinked heads links → length links ≤ no_place → is_under hash (note_at links place) ≡ true →
    place < head_at heads (start_of (length heads) hash) → front < length links → place < front → is_in (length heads) (start_of (length heads) hash) (note_at links front) ≡ true →
    next_at links front ≡ place → link ≡ record { hash = (link_at links front).hash; next = next_at links place } →
    IsLinked heads (set (set links place free_link) front link)
unlinked-behind heads links hash place front link linked few under ahead inside behind ours is is_link =
    let starts : ℕ = length heads in
    let start : ℕ = start_of starts hash in
    let once : List Link = set links place free_link in
    let links' : List Link = set once front link in
    let inside' : front < length once = omega (arith, length-set links place free_link) in
    let apart : place ≢ front = λ same. omega arith in
    let note : note_at links place ≡ Some hash = under_of hash (note_at links place) under in
    let within : place < length links = noted_within links place hash note in
    let found = in_some starts start (note_at links front) ours in
    let has = noted_of (link_at links front) found.0 found.1 in
    let last = linked.nexts place hash within note in
    let goes : next_at links place ≢ no_place = λ same. (let below = last.within (λ ends. omega arith) in omega arith) in
    let stays : note_of link ≡ note_at links front = ap note_of is_link ∙ (noted_by (link_at links front).hash (next_at links place) goes ∙ (ap (λ n. Some n) has.1 ∙ sym found.1)) in
    let drops : Drops (note_at links) (note_at links') hash place = record {
      here = note;
      free = note_at-set_other once front place link apart ∙ note_at-set links place free_link within;
      others = λ k unlike. elim (cases_eq k front) [
        | inl same ↦ ap (note_at links') same ∙ (note_at-set once front link inside' ∙ (stays ∙ ap (note_at links) (sym same)))
        | inr other ↦ note_at-set_other once front k link other ∙ note_at-set_other links place k free_link unlike
      ];
    } in
    as_many heads links' (length links') (length links) (length-set once front link ∙ length-set links place free_link)
    (record {
      firsts = heads-stay starts (length links) hash place (note_at links) (note_at links') (head_at heads) drops (λ same. omega arith) linked.firsts;
      nexts = nexts-left starts (length links) hash place (note_at links) (note_at links') (next_at links) (next_at links') drops
          (λ k own below unlike was one. elim (cases_eq k front) [
            | inl same ↦ inr (ap (next_at links) same ∙ is, ap (next_at links') same ∙ (next_at-set once front link inside' ∙ ap (λ (l : Link). l.next) is_link))
            | inr other ↦ inl (
              (λ at.
                  let mine = linked.nexts k own below was in
                  let under_k = mine.within (λ ends. omega arith) in
                  elim (cases_lt k front) [
                    | inl sooner ↦
                        let theirs = next_of heads links (length links) start front linked inside ours in
                        let far = theirs.behind k sooner (ap (λ s. chain starts (note_at links) s k) (sym one) ∙ in_own starts own k (note_at links) was) in
                        omega (arith, far.1, under_k)
                    | inr later ↦
                        let far = mine.behind front (omega arith) (ap (λ s. chain starts (note_at links) s front) one ∙ ours) in
                        omega (arith, far.1)
                  ]),
              next_at-set_other once front k link other ∙ next_at-set_other links place k free_link unlike,
            )
          ])
          (λ k own unlike was two. elim (cases_eq k front) [
            | inl same ↦ absurd (two (
                let both : Some own ≡ Some found.0 = sym was ∙ (ap (note_at links) same ∙ found.1) in
                let alike : own ≡ found.0 = cc in
                ap (start_of starts) alike ∙ found.2))
            | inr other ↦ next_at-set_other once front k link other ∙ next_at-set_other links place k free_link unlike
          ]) within (omega arith) linked.nexts;
    })

-- ---- chains are made, place by place

-- with no place at all each chain is at its end
pub linked-none : (heads : List ℕ) (links : List Link) → heads ≡ replicate (length heads) end_of_chain → IsLinkedTo heads links 0
linked-none heads links empty =
    record {
      firsts = λ start below.
          let is : head_at heads start ≡ end_of_chain = ap (λ (l : List ℕ). head_at l start) empty ∙ get_or-replicate (length heads) start end_of_chain 0 below in
          record {
            within = λ some. absurd (some is);
            there = λ some. absurd (some is);
            behind = λ k under here. absurd (omega arith);
          };
      nexts = λ k hash under noted. absurd (omega arith);
    }

-- the next place isn't noted
pub linked-past : (heads : List ℕ) (links : List Link) (n : ℕ) → note_at links n ≡ None → IsLinkedTo heads links n → IsLinkedTo heads links (n + 1)
linked-past heads links n none linked =
    record {
      firsts = heads-past (length heads) n (note_at links) (head_at heads) none linked.firsts;
      nexts = nexts-past (length heads) n (note_at links) (next_at links) none linked.nexts;
    }

-- a link with another place next notes the same
pub relinked : (links : List Link) (n hash : ℕ) (link : Link) → n < length links → note_at links n ≡ Some hash → note_of link ≡ Some hash → (k : ℕ) → note_at (set links n link) k ≡ note_at links k
relinked links n hash link within noted is k =
    elim (cases_eq k n) [
      | inl same ↦ ap (note_at (set links n link)) same ∙ (note_at-set links n link within ∙ (is ∙ (sym noted ∙ ap (note_at links) (sym same))))
      | inr apart ↦ note_at-set_other links n k link apart
    ]

-- its link then notes it too
pub here_noted :
    (heads : List ℕ) (links : List Link) (n hash : ℕ) (link : Link) → n ≤ no_place → start_of (length heads) hash < length heads →
    link ≡ record { hash = hash; next = head_at heads (start_of (length heads) hash) } → IsLinkedTo heads links n → note_of link ≡ Some hash
here_noted heads links n hash link few begins is linked =
    let first = linked.firsts (start_of (length heads) hash) begins in
    ap note_of is ∙ noted_by hash (head_at heads (start_of (length heads) hash)) (λ same. (let below = first.within (λ ends. omega arith) in omega arith))

-- the next place is noted, and becomes the head of its chain
pub linked-here :
    (heads : List ℕ) (links : List Link) (n hash : ℕ) (link : Link) → n < length links → length links ≤ no_place → note_at links n ≡ Some hash → start_of (length heads) hash < length heads →
    link ≡ record { hash = hash; next = head_at heads (start_of (length heads) hash) } → IsLinkedTo heads links n →
    IsLinkedTo (set heads (start_of (length heads) hash) n) (set links n link) (n + 1)
linked-here heads links n hash link within few noted begins is linked =
    let start : ℕ = start_of (length heads) hash in
    let links' : List Link = set links n link in
    let heads' : List ℕ = set heads start n in
    let starts : length heads' ≡ length heads = length-set heads start n in
    let stays = here_noted heads links n hash link (omega arith) begins is linked in
    subst (λ (m : ℕ). HasHeads m (note_at links') (head_at heads') (n + 1) × HasNexts m (note_at links') (next_at links') (n + 1) → IsLinkedTo heads' links' (n + 1)) starts
    (λ both. record { firsts = both.0; nexts = both.1 }) (
      heads-here (length heads) n hash (note_at links) (note_at links') (head_at heads) (head_at heads') (relinked links n hash link within noted stays) noted (omega arith)
          (get_or-set_same heads start n 0 begins) (λ s apart. get_or-set_other heads start s n 0 apart) linked.firsts,
      nexts-here (length heads) n hash (note_at links) (note_at links') (head_at heads) (next_at links) (next_at links') (relinked links n hash link within noted stays) noted begins
          (next_at-set links n link within ∙ ap (λ (l : Link). l.next) is) (λ k apart. next_at-set_other links n k link apart) linked.firsts linked.nexts,
    )
