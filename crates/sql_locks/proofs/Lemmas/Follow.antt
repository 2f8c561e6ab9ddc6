-- What stays true while the steps of a path are gone.
use Rattle.std.proofs.Common.{◌≡◌, ℕ, List, [], ◌∷◌, ◌++◌, length, Bool, true, refl, sym, subst, arith, inl, inr, ◌⊎◌, Contains}
use Rattle.std.proofs.lemmas.List.{length_push}
use Rattle.std.proofs.lemmas.List.Elements.{Contains-append_left, Contains-push, Contains-push_cases}
use Rattle.sql_locks.specs.Follow.{IsFollowed}
use Rattle.sql_locks.specs.Reach.{IsClosure}
use Rattle.sql_locks.specs.declared.edges.Edge.{Edge}

-- nothing was looked at
pub follow_none : (old : List ℕ) → IsFollowed old [] old []
follow_none old = record {
  kept = λ x h. h;
  taken = λ edge h. absurd (none_of edge h);
  sub = λ edge h. h;
  least = λ is_in start closed x h. start x h;
  shorter = omega arith;
  stays = λ e. (refl, λ edge h. absurd (none_of edge h));
}
  where
    none_of : (edge : Edge) → Contains [] edge → ⊥
    none_of edge h = omega (arith, h.1)

-- a step that begins at nothing that was found
pub follow_rest : (old : List ℕ) (seen : List Edge) (found : List ℕ) (rest : List Edge) (edge : Edge) →
    IsFollowed old seen found rest → (Contains found edge.from → ⊥) →
    IsFollowed old (seen ++ edge ∷ []) found (rest ++ edge ∷ [])
follow_rest old seen found rest edge known apart = record {
  kept = known.kept;
  taken = λ e h. elim (Contains-push_cases seen edge e h) [
    | inl was ↦ elim (known.taken e was) [ inl left ↦ inl (Contains-append_left rest (edge ∷ []) e left) | inr done ↦ inr done ]
    | inr same ↦ inl (subst (λ (x : Edge). Contains (rest ++ edge ∷ []) x) same (Contains-push rest edge))
  ];
  sub = λ e h. elim (Contains-push_cases rest edge e h) [
    | inl was ↦ Contains-append_left seen (edge ∷ []) e (known.sub e was)
    | inr same ↦ subst (λ (x : Edge). Contains (seen ++ edge ∷ []) x) same (Contains-push seen edge)
  ];
  least = λ is_in start closed x h.
      known.least is_in start (λ e was. closed e (Contains-append_left seen (edge ∷ []) e was)) x h;
  shorter = omega (arith, known.shorter, length_push rest edge, length_push seen edge);
  stays = λ same.
      let before : length rest ≡ length seen = omega (arith, same, length_push rest edge, length_push seen edge) in
      let stays = known.stays before in (
        stays.0,
        λ e h was. elim (Contains-push_cases seen edge e h) [
          | inl earlier ↦ stays.1 e earlier was
          | inr now ↦ apart (subst (λ (x : Edge). Contains found x.from) (sym now) (known.kept e.from was))
        ],
      );
}

-- a step that is taken, to what is found with it
pub follow_taken : (old : List ℕ) (seen : List Edge) (found : List ℕ) (rest : List Edge) (edge : Edge) (more : List ℕ) →
    IsFollowed old seen found rest → Contains found edge.from → ((x : ℕ) → Contains found x → Contains more x) →
    Contains more edge.to → ((x : ℕ) → Contains more x → Contains found x ⊎ (edge.to ≡ x)) →
    IsFollowed old (seen ++ edge ∷ []) more rest
follow_taken old seen found rest edge more known begins grows ends only = record {
  kept = λ x h. grows x (known.kept x h);
  taken = λ e h. elim (Contains-push_cases seen edge e h) [
    | inl was ↦ elim (known.taken e was) [ inl left ↦ inl left | inr done ↦ inr (grows e.to done) ]
    | inr same ↦ inr (subst (λ (x : Edge). Contains more x.to) same ends)
  ];
  sub = λ e h. Contains-append_left seen (edge ∷ []) e (known.sub e h);
  least = λ is_in start closed x h.
      let earlier : (y : ℕ) → Contains found y → is_in y ≡ true =
      known.least is_in start (λ e was. closed e (Contains-append_left seen (edge ∷ []) e was)) in
      elim (only x h) [
        | inl was ↦ earlier x was
        | inr same ↦ subst (λ (y : ℕ). is_in y ≡ true) same (closed edge (Contains-push seen edge) (earlier edge.from begins))
      ];
  shorter = omega (arith, known.shorter, length_push seen edge);
  stays = λ same. absurd (omega (arith, same, known.shorter, length_push seen edge));
}

-- Relations were found by some of the steps, and these steps are left.
pub record IsUnderWay (edges : List Edge) (start : ℕ) (found : List ℕ) (rest : List Edge) : Type 0 where
  pub starts : Contains found start
  pub taken : (edge : Edge) → Contains edges edge → Contains rest edge ⊎ Contains found edge.to
  pub sub : (edge : Edge) → Contains rest edge → Contains edges edge
  pub least : (is_in : ℕ → Bool) → is_in start ≡ true →
      ((edge : Edge) → Contains edges edge → is_in edge.from ≡ true → is_in edge.to ≡ true) →
      (x : ℕ) → Contains found x → is_in x ≡ true

-- no step was gone
pub under_way_first : (edges : List Edge) (start : ℕ) → IsUnderWay edges start (start ∷ []) edges
under_way_first edges start = record {
  starts = Contains-push [] start;
  taken = λ edge h. inl h;
  sub = λ edge h. h;
  least = λ is_in first closed x h. elim (Contains-push_cases [] start x h) [
    | inl none ↦ absurd (omega (arith, none.1))
    | inr same ↦ subst (λ (y : ℕ). is_in y ≡ true) same first
  ];
}

-- the steps that were left are looked at
pub under_way_more : (edges : List Edge) (start : ℕ) (found : List ℕ) (rest : List Edge) (more : List ℕ) (left : List Edge) →
    IsUnderWay edges start found rest → IsFollowed found rest more left → IsUnderWay edges start more left
under_way_more edges start found rest more left known followed = record {
  starts = followed.kept start known.starts;
  taken = λ edge h. elim (known.taken edge h) [
    | inl was ↦ followed.taken edge was
    | inr done ↦ inr (followed.kept edge.to done)
  ];
  sub = λ edge h. known.sub edge (followed.sub edge h);
  least = λ is_in first closed x h.
      followed.least is_in (known.least is_in first closed) (λ edge was. closed edge (known.sub edge was)) x h;
}

-- no step was taken: all that are left begin elsewhere
pub under_way_last : (edges : List Edge) (start : ℕ) (found : List ℕ) (rest : List Edge) (more : List ℕ) (left : List Edge) →
    IsUnderWay edges start found rest → IsFollowed found rest more left → length left ≡ length rest →
    IsClosure edges start more
under_way_last edges start found rest more left known followed same =
    let stays = followed.stays same in
    let next = under_way_more edges start found rest more left known followed in
    record {
      starts = next.starts;
      closed = λ edge h begins. elim (known.taken edge h) [
        | inl was ↦ absurd (stays.1 edge was (subst (λ (xs : List ℕ). Contains xs edge.from) stays.0 begins))
        | inr done ↦ followed.kept edge.to done
      ];
      least = next.least;
    }

-- no step is left
pub under_way_done : (edges : List Edge) (start : ℕ) (found : List ℕ) (rest : List Edge) →
    IsUnderWay edges start found rest → length rest ≡ 0 → IsClosure edges start found
under_way_done edges start found rest known none = record {
  starts = known.starts;
  closed = λ edge h begins. elim (known.taken edge h) [
    | inl was ↦ absurd (omega (arith, was.1, none))
    | inr done ↦ done
  ];
  least = known.least;
}
