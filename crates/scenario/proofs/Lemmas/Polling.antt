-- A pass over those who wait, one by one.
use Rattle.std.proofs.Common.{◌≡◌, ◌∙◌, ℕ, ◌+◌, ◌<◌, List, [], ◌∷◌, ◌++◌, length, length-append, refl, sym, subst, ap, inl, inr, arith, true, false}
use Rattle.std.specs.Prelude.{Bool, remove, ◌≢◌}
use Rattle.std.specs.List.{HoldsAt}
use Rattle.std.proofs.lemmas.Bool.{false≢true}
use Rattle.arrayvec.specs.declared.array_string.ArrayString.{ArrayString}
use Rattle.lock_script.specs.declared.sessions.Named.{Named}
use Rattle.lock_script.specs.Lending.{with_session}
use Rattle.lock_script.specs.Names.{PutsIn}
use Rattle.scenario.specs.Heard.{Heard, HearsAll, Told}
use Rattle.scenario.proofs.Lemmas.Hearing.{hears-more}
use Rattle.scenario.specs.Polled.{PollsEach}
use Rattle.scenario.specs.declared.answers.Said.{Said}
use Rattle.lock_script.specs.declared.names.Names.{Names}

-- the one behind those that stay
pub at-length : {X : Type 0} (P : X → Type 0) (stay : List X) (x : X) (rest : List X) → HoldsAt P (stay ++ x ∷ rest) (length stay) → P x
at-length P [] x rest at = at x
at-length P (one ∷ stay) x rest at = at-length P stay x rest at

pub remove-length : {X : Type 0} (stay : List X) (x : X) (rest : List X) → remove (stay ++ x ∷ rest) (length stay) ≡ stay ++ rest
remove-length [] x rest = refl
remove-length {X} (one ∷ stay) x rest = ap (λ (those : List X). one ∷ those) (remove-length stay x rest)

pub with_session-length :
    {S : Type 0} (stay : List (Named S)) (x : Named S) (rest : List (Named S)) (after : S) →
    with_session (stay ++ x ∷ rest) (length stay) after ≡ stay ++ record { name = x.name; session = after } ∷ rest
with_session-length [] x rest after = refl
with_session-length {S} (one ∷ stay) x rest after = ap (λ (those : List (Named S)). one ∷ those) (with_session-length stay x rest after)

module _ {S W : Type 0} (looks_on : W → W → Type 0) (goes_on : W → Said → S → Type 0) (names : Names) where
  -- One more is polled, and waits on.
  pub one-stays :
      (done : List (Named W)) (resting now : List (Named S)) (heard : List Heard) (stay : List (Named W)) (x : Named W) (after : W) →
      PollsEach looks_on goes_on names done resting heard stay now → looks_on x.session after →
      PollsEach looks_on goes_on names (done ++ x ∷ []) resting heard (stay ++ record { name = x.name; session = after } ∷ []) now
  one-stays [] resting now heard stay x after before looks =
      inl (after, looks, [], ap (λ (those : List (Named W)). those ++ record { name = x.name; session = after } ∷ []) before.1, (before.0, refl, before.2))
  one-stays (one ∷ done) resting now heard stay x after (inl (a, l, later, e, rest)) looks =
      inl (
        a,
        l,
        later ++ record { name = x.name; session = after } ∷ [],
        ap (λ (those : List (Named W)). those ++ record { name = x.name; session = after } ∷ []) e,
        one-stays done resting now heard later x after rest looks,
      )
  one-stays (one ∷ done) resting now heard stay x after (inr (t, a, g, next, put, later, e, rest)) looks =
      inr (t, a, g, next, put, later, e, one-stays done next now later stay x after rest looks)

  -- One more is polled, and goes on.
  pub one-goes :
      (done : List (Named W)) (resting now new : List (Named S)) (heard : List Heard) (stay : List (Named W)) (x : Named W) (told : Said) (after : S) →
      PollsEach looks_on goes_on names done resting heard stay now → goes_on x.session told after → PutsIn now (record { name = x.name; session = after }) new →
      PollsEach looks_on goes_on names (done ++ x ∷ []) resting (heard ++ Told names x.name told ∷ []) stay new
  one-goes [] resting now new heard stay x told after before goes puts =
      inr (
        told,
        after,
        goes,
        new,
        subst (λ (from : List (Named S)). PutsIn from (record { name = x.name; session = after }) new) before.2 puts,
        [],
        ap (λ (those : List Heard). those ++ Told names x.name told ∷ []) before.0,
        (refl, before.1, refl),
      )
  one-goes (one ∷ done) resting now new heard stay x told after (inl (a, l, later, e, rest)) goes puts =
      inl (a, l, later, e, one-goes done resting now new heard later x told after rest goes puts)
  one-goes (one ∷ done) resting now new heard stay x told after (inr (t, a, g, next, put, later, e, rest)) goes puts =
      inr (
        t,
        a,
        g,
        next,
        put,
        later ++ Told names x.name told ∷ [],
        ap (λ (those : List Heard). those ++ Told names x.name told ∷ []) e,
        one-goes done next now new later stay x told after rest goes puts,
      )

behind : {X : Type 0} (first : List X) (x : X) (rest : List X) → first ++ x ∷ rest ≡ (first ++ x ∷ []) ++ rest
behind [] x rest = refl
behind {X} (one ∷ first) x rest = ap (λ (those : List X). one ∷ those) (behind first x rest)

length-one_more : {X : Type 0} (first : List X) (x : X) → length (first ++ x ∷ []) ≡ length first + 1
length-one_more [] x = refl
length-one_more (one ∷ first) x = omega (arith, length-one_more first x)

not_empty : {X : Type 0} (first : List X) (x : X) → first ++ x ∷ [] ≢ []
not_empty {X} first x e = absurd (omega (arith, length-one_more first x, ap (λ (those : List X). length those) e))

-- A pass that is under way: some who waited have been polled, and the rest stand behind those that wait on.
pub record IsPolling {S W L : Type 0} (looks_on : W → W → Type 0) (goes_on : W → Said → S → Type 0) (hears : L → Heard → L → Type 0)
    (names : Names) (waited : List (Named W)) (rested : List (Named S)) (before : L)
    (went_on : Bool) (place : ℕ) (waiting : List (Named W)) (resting : List (Named S)) (now : L) : Type 0 where
  pub done : List (Named W)
  pub rest : List (Named W)
  pub stay : List (Named W)
  pub heard : List Heard
  pub parts : waited ≡ done ++ rest
  pub polled : PollsEach looks_on goes_on names done rested heard stay resting
  pub left : waiting ≡ stay ++ rest
  pub at : length stay ≡ place
  pub hears_ : HearsAll hears before heard now
  pub none : went_on ≡ false → heard ≡ []
  pub some : went_on ≡ true → heard ≢ []

module _ {S W L : Type 0} (looks_on : W → W → Type 0) (goes_on : W → Said → S → Type 0) (hears : L → Heard → L → Type 0)
    (names : Names) (waited : List (Named W)) (rested : List (Named S)) (before : L) where
  pub begins-polling : IsPolling looks_on goes_on hears names waited rested before false 0 waited rested before
  begins-polling = record {
    done = [];
    rest = waited;
    stay = [];
    heard = [];
    parts = refl;
    polled = (refl, refl, refl);
    left = refl;
    at = refl;
    hears_ = refl;
    none = λ _. refl;
    some = λ e. absurd (false≢true e);
  }

  stays-next :
      (went_on : Bool) (place : ℕ) (waiting new : List (Named W)) (resting : List (Named S)) (now : L) (after : W) →
      (it : IsPolling looks_on goes_on hears names waited rested before went_on place waiting resting now) (rest : List (Named W)) → it.rest ≡ rest →
      place < length waiting → HoldsAt (λ one. looks_on one.session after) waiting place → new ≡ with_session waiting place after →
      IsPolling looks_on goes_on hears names waited rested before went_on (place + 1) new resting now
  stays-next went_on place waiting new resting now after it [] e inside looks there =
      absurd (omega (arith, inside, it.at, ap (λ (those : List (Named W)). length those) it.left, length-append it.stay it.rest, ap (λ (those : List (Named W)). length those) e))
  stays-next went_on place waiting new resting now after it (x ∷ rest) e inside looks there = record {
    done = it.done ++ x ∷ [];
    rest = rest;
    stay = it.stay ++ record { name = x.name; session = after } ∷ [];
    heard = it.heard;
    parts = it.parts ∙ ap (λ (those : List (Named W)). it.done ++ those) e ∙ behind it.done x rest;
    polled = one-stays looks_on goes_on names it.done rested resting it.heard it.stay x after it.polled
        (at-length (λ one. looks_on one.session after) it.stay x rest (subst (λ (k : ℕ). HoldsAt (λ one. looks_on one.session after) (it.stay ++ x ∷ rest) k) (sym it.at)
        (subst (λ (those : List (Named W)). HoldsAt (λ one. looks_on one.session after) those place) is looks)));
    left = there ∙ ap (λ (those : List (Named W)). with_session those place after) is ∙ ap (λ (k : ℕ). with_session (it.stay ++ x ∷ rest) k after) (sym it.at)
        ∙ with_session-length it.stay x rest after ∙ behind it.stay (record { name = x.name; session = after }) rest;
    at = length-one_more it.stay (record { name = x.name; session = after }) ∙ ap (λ (k : ℕ). k + 1) it.at;
    hears_ = it.hears_;
    none = it.none;
    some = it.some;
  } where
    is : waiting ≡ it.stay ++ x ∷ rest
    is = it.left ∙ ap (λ (those : List (Named W)). it.stay ++ those) e

  goes-next :
      (went_on : Bool) (place : ℕ) (waiting new : List (Named W)) (resting other : List (Named S)) (now then : L) (name : ArrayString 16) (told : Said) (after : S) →
      (it : IsPolling looks_on goes_on hears names waited rested before went_on place waiting resting now) (rest : List (Named W)) → it.rest ≡ rest →
      place < length waiting → HoldsAt (λ one. goes_on one.session told after) waiting place → HoldsAt (λ one. name ≡ one.name) waiting place →
      PutsIn resting (record { name = name; session = after }) other → new ≡ remove waiting place → hears now (Told names name told) then →
      IsPolling looks_on goes_on hears names waited rested before true place new other then
  goes-next went_on place waiting new resting other now then name told after it [] e inside goes called puts removed heard =
      absurd (omega (arith, inside, it.at, ap (λ (those : List (Named W)). length those) it.left, length-append it.stay it.rest, ap (λ (those : List (Named W)). length those) e))
  goes-next went_on place waiting new resting other now then name told after it (x ∷ rest) e inside goes called puts removed heard = record {
    done = it.done ++ x ∷ [];
    rest = rest;
    stay = it.stay;
    heard = it.heard ++ Told names x.name told ∷ [];
    parts = it.parts ∙ ap (λ (those : List (Named W)). it.done ++ those) e ∙ behind it.done x rest;
    polled = one-goes looks_on goes_on names it.done rested resting other it.heard it.stay x told after it.polled
        (at-length (λ one. goes_on one.session told after) it.stay x rest (subst (λ (k : ℕ). HoldsAt (λ one. goes_on one.session told after) (it.stay ++ x ∷ rest) k) (sym it.at)
        (subst (λ (those : List (Named W)). HoldsAt (λ one. goes_on one.session told after) those place) is goes)))
        (subst (λ (n : ArrayString 16). PutsIn resting (record { name = n; session = after }) other) same puts);
    left = removed ∙ ap (λ (those : List (Named W)). remove those place) is ∙ ap (λ (k : ℕ). remove (it.stay ++ x ∷ rest) k) (sym it.at) ∙ remove-length it.stay x rest;
    at = it.at;
    hears_ = hears-more hears before now then it.heard (Told names x.name told) it.hears_ (subst (λ (n : ArrayString 16). hears now (Told names n told) then) same heard);
    none = λ e. absurd (false≢true (sym e));
    some = λ _. not_empty it.heard (Told names x.name told);
  } where
    is : waiting ≡ it.stay ++ x ∷ rest
    is = it.left ∙ ap (λ (those : List (Named W)). it.stay ++ those) e

    same : name ≡ x.name
    same = at-length (λ one. name ≡ one.name) it.stay x rest (subst (λ (k : ℕ). HoldsAt (λ one. name ≡ one.name) (it.stay ++ x ∷ rest) k) (sym it.at)
        (subst (λ (those : List (Named W)). HoldsAt (λ one. name ≡ one.name) those place) is called))

  -- One more was polled.
  pub polls-next :
      (went_on : Bool) (place : ℕ) (waiting new : List (Named W)) (resting : List (Named S)) (now : L) (after : W) →
      IsPolling looks_on goes_on hears names waited rested before went_on place waiting resting now →
      place < length waiting → HoldsAt (λ one. looks_on one.session after) waiting place → new ≡ with_session waiting place after →
      IsPolling looks_on goes_on hears names waited rested before went_on (place + 1) new resting now
  polls-next went_on place waiting new resting now after it = stays-next went_on place waiting new resting now after it it.rest refl

  pub polls-gone :
      (went_on : Bool) (place : ℕ) (waiting new : List (Named W)) (resting other : List (Named S)) (now then : L) (name : ArrayString 16) (told : Said) (after : S) →
      IsPolling looks_on goes_on hears names waited rested before went_on place waiting resting now →
      place < length waiting → HoldsAt (λ one. goes_on one.session told after) waiting place → HoldsAt (λ one. name ≡ one.name) waiting place →
      PutsIn resting (record { name = name; session = after }) other → new ≡ remove waiting place → hears now (Told names name told) then →
      IsPolling looks_on goes_on hears names waited rested before true place new other then
  polls-gone went_on place waiting new resting other now then name told after it = goes-next went_on place waiting new resting other now then name told after it it.rest refl
