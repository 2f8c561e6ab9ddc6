-- The chains after a place is noted or its note is taken away, over plain functions: what each place is noted
-- under, each chain's head, and each place's next one.
use Rattle.std.proofs.Common.{◌≡◌, ◌≢◌, ℕ, ◌+◌, ◌*◌, ◌^◌, ◌<◌, ◌≤◌, true, false, sym, ap, subst, refl, ◌∙◌, inl, inr, arith}
use Rattle.std.specs.Prelude.{Option, Some, None, ◌⊎◌}
use Rattle.std.proofs.lemmas.Bool.{false≢true, cases_eq, cases_lt, eqb-true, eq-eqb, ne_eqb}
use Rattle.std.proofs.lemmas.Nat.{div_below, mul-le}
use Rattle.place_index.specs.Chains.{end_of_chain, start_of, is_in, chain, IsLast, HasHeads, HasNexts}
use Rattle.place_index.proofs.Lemmas.LastPlaces.{last-alike, last-below, last-past, last-here, last-added, last-kept, last-left, last-stays}

-- ---- starts

pub product_below : (starts hash : ℕ) → hash < 2 ^ 32 → 0 < starts → hash * starts < starts * 2 ^ 32
product_below starts hash few some = omega (arith, mul-le (hash + 1) starts (2 ^ 32) starts (omega arith) (omega arith))

pub start_of-below : (starts hash : ℕ) → hash < 2 ^ 32 → 0 < starts → start_of starts hash < starts
unfolding start_of
start_of-below starts hash few some = div_below (hash * starts) (2 ^ 32) starts (omega arith) (product_below starts hash few some)

-- ---- who is in a chain

pub in_own : (starts hash place : ℕ) (note : ℕ → Option ℕ) → note place ≡ Some hash → chain starts note (start_of starts hash) place ≡ true
in_own starts hash place note is = ap (is_in starts (start_of starts hash)) is ∙ eq-eqb (start_of starts hash) (start_of starts hash) refl

pub in_other : (starts hash start place : ℕ) (note : ℕ → Option ℕ) → note place ≡ Some hash → start_of starts hash ≢ start → chain starts note start place ≡ false
in_other starts hash start place note is apart = ap (is_in starts start) is ∙ ne_eqb (start_of starts hash) start apart

pub in_none : (starts start place : ℕ) (note : ℕ → Option ℕ) → note place ≡ None → chain starts note start place ≡ false
in_none starts start place note is = ap (is_in starts start) is

-- each place in a chain is noted under a hash of its start
pub in_some : (starts start : ℕ) (note : Option ℕ) → is_in starts start note ≡ true → (hash : ℕ) × (note ≡ Some hash) × (start_of starts hash ≡ start)
in_some starts start None here = absurd (false≢true here)
in_some starts start (Some hash) here = (hash, refl, eqb-true (start_of starts hash) start here)

-- ---- a place is noted

-- What changes: this place is noted under this hash, and was not noted before.
pub record Adds (note note' : ℕ → Option ℕ) (hash place : ℕ) : Type 0 where
  pub free : note place ≡ None
  pub here : note' place ≡ Some hash
  pub others : (k : ℕ) → k ≢ place → note' k ≡ note k

-- other places are in the chains that they were in
chain-others : (starts start place : ℕ) (note note' : ℕ → Option ℕ) → ((k : ℕ) → k ≢ place → note' k ≡ note k) → (k : ℕ) → k ≢ place → chain starts note' start k ≡ chain starts note start k
chain-others starts start place note note' others k apart = ap (is_in starts start) (others k apart)

-- a chain of another start has whom it had
chain-apart : (starts start hash place : ℕ) (note note' : ℕ → Option ℕ) → Adds note note' hash place → start_of starts hash ≢ start → (k : ℕ) → chain starts note' start k ≡ chain starts note start k
chain-apart starts start hash place note note' adds apart k =
    elim (cases_eq k place) [
      | inl same ↦
          ap (chain starts note' start) same
          ∙ (in_other starts hash start place note' adds.here apart
          ∙ (sym (in_none starts start place note adds.free) ∙ ap (chain starts note start) (sym same)))
      | inr unlike ↦ chain-others starts start place note note' adds.others k unlike
    ]

-- it comes before all others of its chain
pub heads-added :
    (starts n hash place : ℕ) (note note' : ℕ → Option ℕ) (head head' : ℕ → ℕ) → Adds note note' hash place → place < n → place < end_of_chain →
    (head (start_of starts hash) ≢ end_of_chain → head (start_of starts hash) < place) →
    head' (start_of starts hash) ≡ place → ((start : ℕ) → start ≢ start_of starts hash → head' start ≡ head start) →
    HasHeads starts note head n → HasHeads starts note' head' n
heads-added starts n hash place note note' head head' adds within few before is others has start below =
    elim (cases_eq start (start_of starts hash)) [
      | inl same ↦
          subst (λ (s : ℕ). IsLast (chain starts note' s) n (head' s)) (sym same)
          (subst (λ (p : ℕ). IsLast (chain starts note' (start_of starts hash)) n p) (sym is)
          (last-added (chain starts note (start_of starts hash)) (chain starts note' (start_of starts hash)) n (head (start_of starts hash)) place within few
          (in_own starts hash place note' adds.here) (chain-others starts (start_of starts hash) place note note' adds.others) before
          (has (start_of starts hash) (subst (λ (s : ℕ). s < starts) same below))))
      | inr apart ↦
          subst (λ (p : ℕ). IsLast (chain starts note' start) n p) (sym (others start apart))
          (last-alike (chain starts note start) (chain starts note' start) n (head start)
          (λ k _. chain-apart starts start hash place note note' adds (λ same. apart (sym same)) k) (has start below))
    ]

-- the place comes after the head of its chain
pub heads-behind :
    (starts n hash place : ℕ) (note note' : ℕ → Option ℕ) (head : ℕ → ℕ) → Adds note note' hash place →
    (start_of starts hash < starts → (head (start_of starts hash) ≢ end_of_chain) × (place < head (start_of starts hash))) →
    HasHeads starts note head n → HasHeads starts note' head n
heads-behind starts n hash place note note' head adds behind has start below =
    elim (cases_eq start (start_of starts hash)) [
      | inl same ↦
          let is = behind (subst (λ (s : ℕ). s < starts) same below) in
          subst (λ (s : ℕ). IsLast (chain starts note' s) n (head s)) (sym same)
          (last-kept (chain starts note (start_of starts hash)) (chain starts note' (start_of starts hash)) n (head (start_of starts hash)) place is.0 is.1
          (chain-others starts (start_of starts hash) place note note' adds.others) (has (start_of starts hash) (subst (λ (s : ℕ). s < starts) same below)))
      | inr apart ↦
          last-alike (chain starts note start) (chain starts note' start) n (head start)
          (λ k _. chain-apart starts start hash place note note' adds (λ same. apart (sym same)) k) (has start below)
    ]

-- next to it comes the one that was first
pub nexts-added :
    (starts n hash place first : ℕ) (note note' : ℕ → Option ℕ) (next next' : ℕ → ℕ) → Adds note note' hash place → place < n →
    (first ≢ end_of_chain → first < place) → IsLast (chain starts note (start_of starts hash)) n first →
    next' place ≡ first → ((k : ℕ) → k ≢ place → next' k ≡ next k) →
    HasNexts starts note next n → HasNexts starts note' next' n
nexts-added starts n hash place first note note' next next' adds within before last is others has k own below noted =
    elim (cases_eq k place) [
      | inl same ↦
          let own_is : hash ≡ own = (let both : Some hash ≡ Some own = sym adds.here ∙ (ap note' (sym same) ∙ noted) in cc) in
          subst (λ (h : ℕ). IsLast (chain starts note' (start_of starts h)) k (next' k)) own_is
          (subst (λ (p : ℕ). IsLast (chain starts note' (start_of starts hash)) p (next' p)) (sym same)
          (subst (λ (p : ℕ). IsLast (chain starts note' (start_of starts hash)) place p) (sym is)
          (last-alike (chain starts note (start_of starts hash)) (chain starts note' (start_of starts hash)) place first
          (λ j under. chain-others starts (start_of starts hash) place note note' adds.others j (λ at. omega arith))
          (last-below (chain starts note (start_of starts hash)) n place first (omega arith) before last))))
      | inr apart ↦
          let was : note k ≡ Some own = sym (adds.others k apart) ∙ noted in
          subst (λ (p : ℕ). IsLast (chain starts note' (start_of starts own)) k p) (sym (others k apart))
          (last-alike (chain starts note (start_of starts own)) (chain starts note' (start_of starts own)) k (next k)
          (λ j under. elim (cases_eq (start_of starts hash) (start_of starts own)) [
            | inl one ↦
                let here : chain starts note (start_of starts hash) k ≡ true = ap (λ s. chain starts note s k) one ∙ in_own starts own k note was in
                let far = last.behind k below here in
                let soon = before far.0 in
                chain-others starts (start_of starts own) place note note' adds.others j (λ at. omega (arith, far.1))
            | inr two ↦ chain-apart starts (start_of starts own) hash place note note' adds two j
          ]) (has k own below was))
    ]

-- A place comes between a place of its chain and the next one of that.
pub nexts-between :
    (starts n hash place front : ℕ) (note note' : ℕ → Option ℕ) (next next' : ℕ → ℕ) → Adds note note' hash place → n ≤ end_of_chain →
    front < n → place < front → chain starts note (start_of starts hash) front ≡ true → (next front ≢ end_of_chain → next front < place) →
    next' place ≡ next front → next' front ≡ place → ((k : ℕ) → k ≢ place → k ≢ front → next' k ≡ next k) →
    HasNexts starts note next n → HasNexts starts note' next' n
nexts-between starts n hash place front note note' next next' adds few within behind own_front before is is_front others has k own below noted =
    elim (cases_eq k place) [
      | inl same ↦
          let own_is : hash ≡ own = (let both : Some hash ≡ Some own = sym adds.here ∙ (ap note' (sym same) ∙ noted) in cc) in
          subst (λ (h : ℕ). IsLast (chain starts note' (start_of starts h)) k (next' k)) own_is
          (subst (λ (p : ℕ). IsLast (chain starts note' (start_of starts hash)) p (next' p)) (sym same)
          (subst (λ (p : ℕ). IsLast (chain starts note' (start_of starts hash)) place p) (sym is)
          (last-alike (chain starts note (start_of starts hash)) (chain starts note' (start_of starts hash)) place (next front)
          (λ j under. chain-others starts (start_of starts hash) place note note' adds.others j (λ at. omega arith))
          (last-below (chain starts note (start_of starts hash)) front place (next front) (omega arith) before last))))
      | inr apart ↦ elim (cases_eq k front) [
        | inl same ↦
            let was : note front ≡ Some own = ap note (sym same) ∙ (sym (adds.others k apart) ∙ noted) in
            let one : start_of starts hash ≡ start_of starts own = (let found = in_some starts (start_of starts hash) (note front) own_front in
            let both : Some found.0 ≡ Some own = sym found.1 ∙ was in
            let alike : found.0 ≡ own = cc in
            sym found.2 ∙ ap (start_of starts) alike) in
            subst (λ (s : ℕ). IsLast (chain starts note' s) k (next' k)) one
            (subst (λ (p : ℕ). IsLast (chain starts note' (start_of starts hash)) p (next' p)) (sym same)
            (subst (λ (p : ℕ). IsLast (chain starts note' (start_of starts hash)) front p) (sym is_front)
            (last-added (chain starts note (start_of starts hash)) (chain starts note' (start_of starts hash)) front (next front) place behind (omega arith)
            (in_own starts hash place note' adds.here) (chain-others starts (start_of starts hash) place note note' adds.others) before last)))
        | inr unlike ↦
            let was : note k ≡ Some own = sym (adds.others k apart) ∙ noted in
            subst (λ (p : ℕ). IsLast (chain starts note' (start_of starts own)) k p) (sym (others k apart unlike))
            (elim (cases_eq (start_of starts hash) (start_of starts own)) [
              | inl one ↦ elim (cases_lt k front) [
                | inl sooner ↦
                    let here : chain starts note (start_of starts hash) k ≡ true = ap (λ s. chain starts note s k) one ∙ in_own starts own k note was in
                    let far = last.behind k sooner here in
                    let soon = before far.0 in
                    last-alike (chain starts note (start_of starts own)) (chain starts note' (start_of starts own)) k (next k)
                    (λ j under. chain-others starts (start_of starts own) place note note' adds.others j (λ at. omega (arith, far.1))) (has k own below was)
                | inr later ↦
                    let far = (has k own below was).behind front (omega arith) (ap (λ s. chain starts note s front) (sym one) ∙ own_front) in
                    last-kept (chain starts note (start_of starts own)) (chain starts note' (start_of starts own)) k (next k) place far.0 (omega (arith, far.1))
                    (chain-others starts (start_of starts own) place note note' adds.others) (has k own below was)
              ]
              | inr two ↦
                  last-alike (chain starts note (start_of starts own)) (chain starts note' (start_of starts own)) k (next k)
                  (λ j _. chain-apart starts (start_of starts own) hash place note note' adds two j) (has k own below was)
            ])
      ]
    ] where
      last : IsLast (chain starts note (start_of starts hash)) front (next front)
      last =
          let found = in_some starts (start_of starts hash) (note front) own_front in
          subst (λ (s : ℕ). IsLast (chain starts note s) front (next front)) found.2 (has front found.0 within found.1)

-- ---- a note is taken away

-- What changes: this place is noted no more.
pub record Drops (note note' : ℕ → Option ℕ) (hash place : ℕ) : Type 0 where
  pub here : note place ≡ Some hash
  pub free : note' place ≡ None
  pub others : (k : ℕ) → k ≢ place → note' k ≡ note k

-- a chain of another start has whom it had
left-apart : (starts start hash place : ℕ) (note note' : ℕ → Option ℕ) → Drops note note' hash place → start_of starts hash ≢ start → (k : ℕ) → chain starts note' start k ≡ chain starts note start k
left-apart starts start hash place note note' drops apart k =
    elim (cases_eq k place) [
      | inl same ↦
          ap (chain starts note' start) same
          ∙ (in_none starts start place note' drops.free
          ∙ (sym (in_other starts hash start place note drops.here apart) ∙ ap (chain starts note start) (sym same)))
      | inr unlike ↦ chain-others starts start place note note' drops.others k unlike
    ]

-- it was the first of its chain
pub heads-left :
    (starts n hash place : ℕ) (note note' : ℕ → Option ℕ) (head head' next : ℕ → ℕ) → Drops note note' hash place → place < n → n ≤ end_of_chain →
    head (start_of starts hash) ≡ place → head' (start_of starts hash) ≡ next place → ((start : ℕ) → start ≢ start_of starts hash → head' start ≡ head start) →
    HasNexts starts note next n → HasHeads starts note head n → HasHeads starts note' head' n
heads-left starts n hash place note note' head head' next drops within few is was others nexts has start below =
    elim (cases_eq start (start_of starts hash)) [
      | inl same ↦
          subst (λ (s : ℕ). IsLast (chain starts note' s) n (head' s)) (sym same)
          (subst (λ (p : ℕ). IsLast (chain starts note' (start_of starts hash)) n p) (sym was)
          (last-left (chain starts note (start_of starts hash)) (chain starts note' (start_of starts hash)) n place (next place) (λ ends. omega arith)
          (in_none starts (start_of starts hash) place note' drops.free) (chain-others starts (start_of starts hash) place note note' drops.others)
          (subst (λ (p : ℕ). IsLast (chain starts note (start_of starts hash)) n p) is (has (start_of starts hash) (subst (λ (s : ℕ). s < starts) same below)))
          (nexts place hash within drops.here)))
      | inr apart ↦
          subst (λ (p : ℕ). IsLast (chain starts note' start) n p) (sym (others start apart))
          (last-alike (chain starts note start) (chain starts note' start) n (head start)
          (λ k _. left-apart starts start hash place note note' drops (λ same. apart (sym same)) k) (has start below))
    ]

-- it was not the first
pub heads-stay :
    (starts n hash place : ℕ) (note note' : ℕ → Option ℕ) (head : ℕ → ℕ) → Drops note note' hash place → head (start_of starts hash) ≢ place →
    HasHeads starts note head n → HasHeads starts note' head n
heads-stay starts n hash place note note' head drops unlike has start below =
    elim (cases_eq start (start_of starts hash)) [
      | inl same ↦
          last-stays (chain starts note start) (chain starts note' start) n (head start) place (λ is. unlike (ap head (sym same) ∙ is))
          (in_none starts start place note' drops.free) (chain-others starts start place note note' drops.others) (has start below)
      | inr apart ↦
          last-alike (chain starts note start) (chain starts note' start) n (head start)
          (λ k _. left-apart starts start hash place note note' drops (λ same. apart (sym same)) k) (has start below)
    ]

-- where it is next to none of its chain
pub nexts-left :
    (starts n hash place : ℕ) (note note' : ℕ → Option ℕ) (next next' : ℕ → ℕ) → Drops note note' hash place →
    ((k own : ℕ) → k < n → k ≢ place → note k ≡ Some own → start_of starts own ≡ start_of starts hash →
    ((next k ≢ place) × (next' k ≡ next k)) ⊎ ((next k ≡ place) × (next' k ≡ next place))) →
    ((k own : ℕ) → k ≢ place → note k ≡ Some own → start_of starts own ≢ start_of starts hash → next' k ≡ next k) →
    place < n → n ≤ end_of_chain → HasNexts starts note next n → HasNexts starts note' next' n
nexts-left starts n hash place note note' next next' drops nears fars within few has k own below noted =
    elim (cases_eq k place) [
      | inl same ↦ absurd (let bad : None ≡ Some own = sym drops.free ∙ (ap note' (sym same) ∙ noted) in cc)
      | inr apart ↦
          let was : note k ≡ Some own = sym (drops.others k apart) ∙ noted in
          elim (cases_eq (start_of starts own) (start_of starts hash)) [
            | inl one ↦ elim (nears k own below apart was one) [
              | inl unlike ↦
                  subst (λ (p : ℕ). IsLast (chain starts note' (start_of starts own)) k p) (sym unlike.1)
                  (last-stays (chain starts note (start_of starts own)) (chain starts note' (start_of starts own)) k (next k) place unlike.0
                  (in_none starts (start_of starts own) place note' drops.free) (chain-others starts (start_of starts own) place note note' drops.others) (has k own below was))
              | inr alike ↦
                  subst (λ (p : ℕ). IsLast (chain starts note' (start_of starts own)) k p) (sym alike.1)
                  (last-left (chain starts note (start_of starts own)) (chain starts note' (start_of starts own)) k place (next place) (λ ends. omega arith)
                  (in_none starts (start_of starts own) place note' drops.free) (chain-others starts (start_of starts own) place note note' drops.others)
                  (subst (λ (p : ℕ). IsLast (chain starts note (start_of starts own)) k p) alike.0 (has k own below was))
                  (subst (λ (s : ℕ). IsLast (chain starts note s) place (next place)) (sym one) (has place hash within drops.here)))
            ]
            | inr two ↦
                subst (λ (p : ℕ). IsLast (chain starts note' (start_of starts own)) k p) (sym (fars k own apart was two))
                (last-alike (chain starts note (start_of starts own)) (chain starts note' (start_of starts own)) k (next k)
                (λ j _. left-apart starts (start_of starts own) hash place note note' drops (λ same. two (sym same)) j) (has k own below was))
          ]
    ]

-- ---- chains are made, place by place

-- the next place isn't noted
pub heads-past : (starts n : ℕ) (note : ℕ → Option ℕ) (head : ℕ → ℕ) → note n ≡ None → HasHeads starts note head n → HasHeads starts note head (n + 1)
heads-past starts n note head none has start below = last-past (chain starts note start) n (head start) (in_none starts start n note none) (has start below)

pub nexts-past : (starts n : ℕ) (note : ℕ → Option ℕ) (next : ℕ → ℕ) → note n ≡ None → HasNexts starts note next n → HasNexts starts note next (n + 1)
nexts-past starts n note next none has k own below noted =
    elim (cases_eq k n) [
      | inl same ↦ absurd (let bad : None ≡ Some own = sym none ∙ (ap note (sym same) ∙ noted) in cc)
      | inr apart ↦ has k own (omega arith) noted
    ]

-- the next place is noted, and becomes the head of its chain
pub heads-here :
    (starts n hash : ℕ) (note note' : ℕ → Option ℕ) (head head' : ℕ → ℕ) → ((k : ℕ) → note' k ≡ note k) → note n ≡ Some hash → n < end_of_chain →
    head' (start_of starts hash) ≡ n → ((start : ℕ) → start ≢ start_of starts hash → head' start ≡ head start) →
    HasHeads starts note head n → HasHeads starts note' head' (n + 1)
heads-here starts n hash note note' head head' same_notes noted few is others has start below =
    last-alike (chain starts note start) (chain starts note' start) (n + 1) (head' start) (λ k _. ap (is_in starts start) (same_notes k))
    (elim (cases_eq start (start_of starts hash)) [
      | inl same ↦
          subst (λ (s : ℕ). IsLast (chain starts note s) (n + 1) (head' s)) (sym same)
          (subst (λ (p : ℕ). IsLast (chain starts note (start_of starts hash)) (n + 1) p) (sym is)
          (last-here (chain starts note (start_of starts hash)) n few (in_own starts hash n note noted)))
      | inr apart ↦
          subst (λ (p : ℕ). IsLast (chain starts note start) (n + 1) p) (sym (others start apart))
          (last-past (chain starts note start) n (head start) (in_other starts hash start n note noted (λ same. apart (sym same))) (has start below))
    ])

pub nexts-here :
    (starts n hash : ℕ) (note note' : ℕ → Option ℕ) (head next next' : ℕ → ℕ) → ((k : ℕ) → note' k ≡ note k) → note n ≡ Some hash → start_of starts hash < starts →
    next' n ≡ head (start_of starts hash) → ((k : ℕ) → k ≢ n → next' k ≡ next k) →
    HasHeads starts note head n → HasNexts starts note next n → HasNexts starts note' next' (n + 1)
nexts-here starts n hash note note' head next next' same_notes noted within is others heads has k own below own_noted =
    last-alike (chain starts note (start_of starts own)) (chain starts note' (start_of starts own)) k (next' k) (λ j _. ap (is_in starts (start_of starts own)) (same_notes j))
    (elim (cases_eq k n) [
      | inl same ↦
          let own_is : hash ≡ own = (let both : Some hash ≡ Some own = sym noted ∙ (ap note (sym same) ∙ (sym (same_notes k) ∙ own_noted)) in cc) in
          subst (λ (h : ℕ). IsLast (chain starts note (start_of starts h)) k (next' k)) own_is
          (subst (λ (p : ℕ). IsLast (chain starts note (start_of starts hash)) p (next' p)) (sym same)
          (subst (λ (p : ℕ). IsLast (chain starts note (start_of starts hash)) n p) (sym is) (heads (start_of starts hash) within)))
      | inr apart ↦
          subst (λ (p : ℕ). IsLast (chain starts note (start_of starts own)) k p) (sym (others k apart)) (has k own (omega arith) (sym (same_notes k) ∙ own_noted))
    ])
