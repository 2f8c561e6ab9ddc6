use Rattle.std.proofs.Common.{◌≡◌, ◌≢◌, ℕ, ◌+◌, ◌<◌, ◌≤◌, true, false, not, ◌==◌, List, [], ◌∷◌, length, filter, refl, sym, ap, subst, ◌∙◌, inl, inr, arith}
use Rattle.std.specs.Prelude.{Some, None, All, find}
use Rattle.std.specs.List.{IsDistinct}
use Rattle.std.proofs.lemmas.Bool.{cases_Bool, false≢true, eqb-true}
use Rattle.std.proofs.lemmas.List.{length-map}
use Rattle.std.proofs.lemmas.List.Elements.{All-tail}
use Rattle.std.proofs.lemmas.List.Filters.{length-filter_both}
use Rattle.modes_core.specs.declared.modes.Mode.{Mode}
use Rattle.modes_core.specs.declared.tags.Tag.{Tag}
use Rattle.modes_core.specs.declared.tags.LockMethod.TheVariants.{User}
use Rattle.modes_core.specs.declared.sessions.Owner.TheVariants.{Session}
use Rattle.modes_core.specs.Tag.{method_of}
use Rattle.local_locks.specs.declared.records.Entry.{Entry}
use Rattle.local_locks.specs.Owned.{is_of, are_of_same, count_in_all, owner_count_of, total_of, has_entry, lowered, change, entries_but, with_one_less, IsCounted}
use Rattle.local_locks.proofs.Lemmas.Entries.{same_key-refl, owned-entry, has_entry-some, has_entry-with_one_less}
use Rattle.lock_world.specs.Account.{Account}
use Rattle.shared_rule.specs.Boards.{Seated}
use Rattle.shared_rule.specs.Quiet.{Quiet}
use Rattle.fast_path.specs.declared.use_counts.UseCounts.{UseCounts}
use Rattle.lock_manager.specs.Advisory.{kept_by_unlock_all, is_unlocked, unlocked_by_all, left_by_unlock_all, is_owned_advisory}
use Rattle.lock_manager.specs.Releases.{Releases, ReleasesAll}
use Rattle.lock_manager.specs.Quiet.{QuietOfReleases, quiet_releasing}
use Rattle.lock_manager.proofs.Lemmas.Unlocked.{after-same, at-first, but-apart, but-left, but-unlocked, change-left, change-unlocked, left-cons, owned-user, passes, stays, total-found, unlocked-skip}

-- ---- one count given back

-- how often the session owns anything
abbrev pub session_counts : List Entry → ℕ
session_counts [] = 0
session_counts (x ∷ es) = x.session + session_counts es

fewer-change : (es : List Entry) (tag : Tag) (mode : Mode) → session_counts (change (lowered Session) es tag mode) ≤ session_counts es
fewer-change [] tag mode = omega arith
fewer-change (x ∷ es) tag mode =
    let rest = fewer-change es tag mode in
    elim (cases_Bool (is_of tag mode x)) [
      | inl it ↦ rw it (omega (arith, rest))
      | inr other ↦ rw other (omega (arith, rest))
    ]

less-but :
    (es : List Entry) (e : Entry) → IsDistinct are_of_same es → find is_owned_advisory es ≡ Some e
    → session_counts (entries_but es e.tag e.mode) < session_counts es
less-but es e once found =
    at-first e (λ ys. session_counts (entries_but ys e.tag e.mode) < session_counts ys)
    (λ ys owned apart.
    let some = (owned-user (method_of e.tag) e.session owned).1 in
    let rest : session_counts (entries_but ys e.tag e.mode) ≡ session_counts ys = ap session_counts (but-apart e ys apart) in
    rw (same_key-refl e.tag e.mode) (omega (arith, some, rest)))
    (λ x ys none other rest. rw other (omega (arith, rest))) es once found

less-change :
    (es : List Entry) (e : Entry) → IsDistinct are_of_same es → find is_owned_advisory es ≡ Some e
    → session_counts (change (lowered Session) es e.tag e.mode) < session_counts es
less-change es e once found =
    at-first e (λ ys. session_counts (change (lowered Session) ys e.tag e.mode) < session_counts ys)
    (λ ys owned apart.
    let some = (owned-user (method_of e.tag) e.session owned).1 in
    let rest = fewer-change ys e.tag e.mode in
    rw (same_key-refl e.tag e.mode) (omega (arith, some, rest)))
    (λ x ys none other rest. rw other (omega (arith, rest))) es once found

-- how often the session owns the first one
owned-found :
    (es : List Entry) (e : Entry) → IsDistinct are_of_same es → find is_owned_advisory es ≡ Some e → owner_count_of es e.tag e.mode Session ≡ e.session
owned-found es e once found =
    at-first e (λ ys. owner_count_of ys e.tag e.mode Session ≡ e.session) (λ ys owned apart. rw (same_key-refl e.tag e.mode) refl)
    (λ x ys none other rest. rw other rest) es once found

-- One count of the first one, of whose entries these are, is given back.
module _ (es new : List Entry) (e : Entry) (once : IsDistinct are_of_same es) (counted : All IsCounted es) (found : find is_owned_advisory es ≡ Some e) (less : new ≡ with_one_less es e.tag e.mode Session) where
  user : (method_of e.tag ≡ User) × (0 < e.session)
  user = owned-user (method_of e.tag) e.session (passes es e found)

  pub given-some : owner_count_of es e.tag e.mode Session ≢ 0
  given-some none = let some = user.1 in omega (arith, none, owned-found es e once found, some)

  pub given-had : has_entry es e.tag e.mode ≡ true
  given-had = owned-entry es e.tag e.mode Session given-some

  last-gone : count_in_all e ≡ 1 → is_unlocked e ≡ true
  last-gone one =
      let some = user.1 in
      let no_transaction : e.transaction ≡ 0 = omega (arith, one, some) in
      ap (λ m. e.transaction + kept_by_unlock_all m e.session == 0) user.0 ∙ ap (λ n. n + 0 == 0) no_transaction

  taken : total_of es e.tag e.mode == 1 ≡ true → new ≡ entries_but es e.tag e.mode
  taken last = less ∙ rw last refl

  kept : total_of es e.tag e.mode == 1 ≡ false → new ≡ change (lowered Session) es e.tag e.mode
  kept more = less ∙ rw more refl

  one : total_of es e.tag e.mode == 1 ≡ true → count_in_all e ≡ 1
  one last = sym (total-found es e once found) ∙ eqb-true _ _ last

  -- What is left stays so,
  pub given-left : left_by_unlock_all new ≡ left_by_unlock_all es
  given-left =
      elim (cases_Bool (total_of es e.tag e.mode == 1)) [
        | inl last ↦ ap left_by_unlock_all (taken last) ∙ but-left es e once counted found (last-gone (one last))
        | inr more ↦ ap left_by_unlock_all (kept more) ∙ change-left es e.tag e.mode user.0
      ]

  -- less is owned,
  pub given-fewer : session_counts new < session_counts es
  given-fewer =
      elim (cases_Bool (total_of es e.tag e.mode == 1)) [
        | inl last ↦ subst (λ ys. session_counts ys < session_counts es) (sym (taken last)) (less-but es e once found)
        | inr more ↦ subst (λ ys. session_counts ys < session_counts es) (sym (kept more)) (less-change es e once found)
      ]

  -- and it is the next one that goes, if it was the last count,
  pub given-next : has_entry new e.tag e.mode ≡ false → unlocked_by_all es ≡ (e.tag, e.mode) ∷ unlocked_by_all new
  given-next gone =
      elim (cases_Bool (total_of es e.tag e.mode == 1)) [
        | inl last ↦ but-unlocked es e once counted found (last-gone (one last)) ∙ ap (λ ys. (e.tag, e.mode) ∷ unlocked_by_all ys) (sym (taken last))
        | inr more ↦
            let still : has_entry new e.tag e.mode ≡ has_entry es e.tag e.mode =
            ap (λ ys. has_entry ys e.tag e.mode) less ∙ has_entry-with_one_less es e.tag e.mode Session e.tag e.mode ∙ rw (same_key-refl e.tag e.mode, more) refl in
            absurd (false≢true (sym gone ∙ still ∙ given-had))
      ]

  -- or as many go as before.
  pub given-none : 0 < total_of new e.tag e.mode → unlocked_by_all new ≡ unlocked_by_all es
  given-none some =
      elim (cases_Bool (total_of es e.tag e.mode == 1)) [
        | inl last ↦
            let gone : has_entry new e.tag e.mode ≡ false =
            ap (λ ys. has_entry ys e.tag e.mode) less ∙ has_entry-with_one_less es e.tag e.mode Session e.tag e.mode ∙ rw (same_key-refl e.tag e.mode, last) refl in
            absurd (false≢true (sym gone ∙ has_entry-some new e.tag e.mode some))
        | inr more ↦ ap unlocked_by_all (kept more) ∙ change-unlocked es e.tag e.mode user.0
      ]

-- So, with the object and mode as they are handed on,
pub record GivenBack (es new : List Entry) (tag : Tag) (mode : Mode) : Type 0 where
  pub some : owner_count_of es tag mode Session ≢ 0
  pub had : has_entry es tag mode ≡ true
  pub left : left_by_unlock_all new ≡ left_by_unlock_all es
  pub fewer : session_counts new < session_counts es
  pub next : has_entry new tag mode ≡ false → unlocked_by_all es ≡ (tag, mode) ∷ unlocked_by_all new
  pub none : 0 < total_of new tag mode → unlocked_by_all new ≡ unlocked_by_all es

pub given-back :
    (es new : List Entry) (tag : Tag) (mode : Mode) → IsDistinct are_of_same es → All IsCounted es
    → (e : Entry) × (find is_owned_advisory es ≡ Some e) × (◌≡◌ {A = Tag × Mode} (tag, mode) (e.tag, e.mode)) → new ≡ with_one_less es tag mode Session → GivenBack es new tag mode
given-back es new tag mode once counted first less =
    let e = first.0 in
    let found = first.1 in
    subst (λ (key : Tag × Mode). new ≡ with_one_less es key.0 key.1 Session → GivenBack es new key.0 key.1) {x = (e.tag, e.mode)} {y = (tag, mode)} (sym first.2)
    (λ its. record {
      some = given-some es new e once counted found its;
      had = given-had es new e once counted found its;
      left = given-left es new e once counted found its;
      fewer = given-fewer es new e once counted found its;
      next = given-next es new e once counted found its;
      none = given-none es new e once counted found its;
    }) less

-- no more go than there are
pub unlocked-few : (es : List Entry) → length (unlocked_by_all es) ≤ length es
unlocked-few es =
    let counted : length (unlocked_by_all es) ≡ length (filter is_unlocked es) = length-map (filter is_unlocked es) (λ entry. (entry.tag, entry.mode)) in
    let both = length-filter_both is_unlocked (λ entry. not (is_unlocked entry)) (λ entry. refl) es in
    omega (arith, counted, both)

-- ---- where none is owned

-- nothing goes,
pub none-unlocked : (es : List Entry) → All IsCounted es → find is_owned_advisory es ≡ None → unlocked_by_all es ≡ []
none-unlocked [] counted none = refl
none-unlocked (x ∷ es) counted none =
    elim (cases_Bool (is_owned_advisory x)) [
      | inl owned ↦ absurd (let bad : Some x ≡ None = rw owned at none in cc)
      | inr not_owned ↦
          unlocked-skip x es (stays x (counted 0 x (omega arith)) not_owned) ∙ none-unlocked es (All-tail IsCounted x es counted) (rw not_owned at none)
    ]

-- and all is left.
pub none-left : (es : List Entry) → All IsCounted es → find is_owned_advisory es ≡ None → left_by_unlock_all es ≡ es
none-left [] counted none = refl
none-left (x ∷ es) counted none =
    elim (cases_Bool (is_owned_advisory x)) [
      | inl owned ↦ absurd (let bad : Some x ≡ None = rw owned at none in cc)
      | inr not_owned ↦
          left-cons x es (stays x (counted 0 x (omega arith)) not_owned)
          ∙ (λ i. after-same x not_owned i ∷ none-left es (All-tail IsCounted x es counted) (rw not_owned at none) i)
    ]

-- ---- the releases

-- The release of the next hold leads on to the releases of those left,
pub unlocks-next :
    (seat its : Seated) (a b c : Account) (uses between left : UseCounts) (old new : List (Tag × Mode)) (key : Tag × Mode) → its ≡ seat
    → old ≡ key ∷ new → Releases its.groups its.number a uses key.0 key.1 b between
    → ReleasesAll seat.groups seat.number b between new c left → ReleasesAll seat.groups seat.number a uses old c left
unlocks-next seat its a b c uses between left old new key same next first others =
    subst (λ keys. ReleasesAll seat.groups seat.number a uses keys c left) {x = key ∷ new} {y = old} (sym next)
    (b, between, subst (λ (v : Seated). Releases v.groups v.number a uses key.0 key.1 b between) same first, others)

-- and so do its quiet steps.
pub unlocks-quiet :
    (seat its : Seated) (a b c : Account) (uses between left : UseCounts) (old new : List (Tag × Mode)) (key : Tag × Mode) (before middle after : List Quiet)
    → its ≡ seat → old ≡ key ∷ new → Releases its.groups its.number a uses key.0 key.1 b between
    → middle ≡ quiet_releasing its.groups its.number a uses key.0 key.1 before
    → QuietOfReleases seat.groups seat.number b between new c left middle after
    → QuietOfReleases seat.groups seat.number a uses old c left before after
unlocks-quiet seat its a b c uses between left old new key before middle after same next first is others =
    subst (λ keys. QuietOfReleases seat.groups seat.number a uses keys c left before after) {x = key ∷ new} {y = old} (sym next) (
      b,
      between,
      subst (λ (v : Seated). Releases v.groups v.number a uses key.0 key.1 b between) same first,
      subst (λ steps. QuietOfReleases seat.groups seat.number b between new c left steps after)
          (subst (λ (v : Seated). middle ≡ quiet_releasing v.groups v.number a uses key.0 key.1 before) same is) others,
    )
