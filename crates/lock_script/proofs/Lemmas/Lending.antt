-- Sessions of which one was lent out, and is as it was left.
use Rattle.std.proofs.Common.{◌≡◌, ℕ, ◌<◌, ◌∙◌, refl, ap, sym, subst, arith, List, [], ◌∷◌, length, get_or, set, zero, suc}
use Rattle.std.specs.Prelude.{All, insert, remove}
use Rattle.std.specs.List.{HoldsAt}
use Rattle.lock_script.specs.declared.sessions.Named.{Named}
use Rattle.lock_script.specs.Lending.{with_session}
use Rattle.lock_script.specs.Names.{IsByName}

-- the one at a place is set to itself with the session that is left
pub set-session :
    {S : Type 0} (items : List (Named S)) (place : ℕ) (one : Named S) (session : S) → one ≡ get_or items place one →
    set items place (record { name = one.name; session = session }) ≡ with_session items place session
set-session [] place one session at = refl
set-session {S} (first ∷ others) zero one session at = ap (λ (it : Named S). record { name = it.name; session = session } ∷ others) at
set-session {S} (first ∷ others) (suc place) one session at = ap (λ (those : List (Named S)). first ∷ those) (set-session others place one session at)

pub length-with_session : {S : Type 0} (items : List (Named S)) (place : ℕ) (session : S) → length (with_session items place session) ≡ length items
length-with_session [] place session = refl
length-with_session (one ∷ others) zero session = refl
length-with_session (one ∷ others) (suc place) session = ap suc (length-with_session others place session)

-- of the session that is lent
pub session_at :
    {S : Type 0} (items : List (Named S)) (place : ℕ) (session : S) → place < length items → HoldsAt (λ one. session ≡ one.session) items place →
    (Q : S → Type 0) → All (λ one. Q one.session) items → Q session
session_at [] place session inside at Q each = absurd (omega (arith, inside))
session_at (one ∷ others) place session inside at Q each = subst Q (sym (at one)) (each place one inside)

-- of all, where it is true of the session that is left
pub All-with_session :
    {S : Type 0} (items : List (Named S)) (place : ℕ) (session : S) (Q : S → Type 0) → All (λ one. Q one.session) items → Q session →
    All (λ one. Q one.session) (with_session items place session)
All-with_session [] place session Q each here k d inside = each k d inside
All-with_session (one ∷ others) zero session Q each here zero d inside = here
All-with_session (one ∷ others) zero session Q each here (suc k) d inside = each (suc k) d inside
All-with_session (one ∷ others) (suc place) session Q each here zero d inside = each zero d (omega arith)
All-with_session (one ∷ others) (suc place) session Q each here (suc k) d inside =
    All-with_session others place session Q (λ j e within. each (suc j) e (omega (arith, within))) here k d (omega (arith, inside))

-- of all, where one is called in its place, and is as it was in this
pub All-called :
    {S : Type 0} (items : List (Named S)) (place : ℕ) (out back : S) → place < length items → HoldsAt (λ one. out ≡ one.session) items place →
    (Q : S → Type 0) → All (λ one. Q one.session) items → (Q out → Q back) → All (λ one. Q one.session) (with_session items place back)
All-called items place out back inside at Q each same = All-with_session items place back Q each (same (session_at items place out inside at Q each))

-- One that is taken out and put back in at its place is as one that was lent.
pub insert-remove :
    {S : Type 0} (items : List (Named S)) (place : ℕ) (out : Named S) (session : S) → place < length items → HoldsAt (λ one. out ≡ one) items place →
    insert (remove items place) place (record { name = out.name; session = session }) ≡ with_session items place session
insert-remove [] place out session inside at = absurd (omega (arith, inside))
insert-remove {S} (first ∷ others) zero out session inside at = ap (λ (it : Named S). record { name = it.name; session = session } ∷ others) (at first)
insert-remove {S} (first ∷ others) (suc place) out session inside at =
    ap (λ (those : List (Named S)). first ∷ those) (insert-remove others place out session (omega (arith, inside)) at)

-- the names stay as they are
name-with_session :
    {S : Type 0} (items : List (Named S)) (place : ℕ) (session : S) (k : ℕ) (d : Named S) →
    (get_or (with_session items place session) k d).name ≡ (get_or items k d).name
name-with_session [] place session k d = refl
name-with_session (one ∷ others) zero session zero d = refl
name-with_session (one ∷ others) zero session (suc k) d = refl
name-with_session (one ∷ others) (suc place) session zero d = refl
name-with_session (one ∷ others) (suc place) session (suc k) d = name-with_session others place session k d

-- and so does their order
pub IsByName-with_session : {S : Type 0} (items : List (Named S)) (place : ℕ) (session : S) → IsByName items → IsByName (with_session items place session)
IsByName-with_session items place session ordered j k d earlier inside =
    rw (name-with_session items place session j d, name-with_session items place session k d)
    (ordered j k d earlier (rw (← length-with_session items place session) inside))

-- where one is taken out and put back in at its place
pub put_back-there :
    {S : Type 0} (old left new : List (Named S)) (place : ℕ) (out : Named S) (session : S) → place < length old → HoldsAt (λ one. out ≡ one) old place → left ≡ remove old place →
    new ≡ insert left place (record { name = out.name; session = session }) → new ≡ with_session old place session
put_back-there {S} old left new place out session inside at e put =
    put ∙ ap (λ (those : List (Named S)). insert those place (record { name = out.name; session = session })) e ∙ insert-remove old place out session inside at

pub put_back-in_order :
    {S : Type 0} (old left : List (Named S)) (place : ℕ) (out : Named S) (session : S) → place < length old → HoldsAt (λ one. out ≡ one) old place → left ≡ remove old place →
    IsByName old → IsByName (insert left place (record { name = out.name; session = session }))
put_back-in_order {S} old left place out session inside at e ordered =
    let there = put_back-there old left (insert left place (record { name = out.name; session = session })) place out session inside at e refl in
    subst (λ (those : List (Named S)). IsByName those) (sym there) (IsByName-with_session old place session ordered)
