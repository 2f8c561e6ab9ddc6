use Rattle.std.proofs.Common.{◌≡◌, ℕ, ◌+◌, List, [], ◌∷◌, ◌++◌, map, reverse, length, None, refl, sym, ap, ◌∙◌, subst, arith, append_assoc}
use Rattle.std.specs.Prelude.{filter, sum, sum_by, Result, Ok, Err, IfOk}
use Rattle.std.specs.List.{AllZip}
use Rattle.std.proofs.lemmas.List.{map-append}
use Rattle.std.proofs.lemmas.List.Sums.{sum_by-cons}
use Rattle.std.proofs.lemmas.List.Elements.{AllZip-push}
use Rattle.modes_core.specs.Tag.{is_strong_on}
use Rattle.local_locks.specs.declared.records.Entry.{Entry}
use Rattle.local_locks.specs.Owned.{IsWellOwned}
use Rattle.lock_table.specs.declared.no_memory.NoMemory.{NoMemory}
use Rattle.lock_manager.specs.Keeper.{PartView, content_of}
use Rattle.lock_world.specs.Account.{Account}
use Rattle.lock_world.specs.Tallies.{AreSoMany}
use Rattle.lock_world.specs.World.{TraceEntry}
use Rattle.shared_rule.specs.declared.audits.Audit.{Audit}
use Rattle.shared_rule.specs.declared.history.History.{History}
use Rattle.shared_rule.specs.Audits.{AddsUp, Counts, OwnSoMany}
use Rattle.shared_rule.specs.Boards.{Seated, Stack, nothing_due}
use Rattle.shared_rule.specs.Gatherings.{Gathered, NoneWaits, gathered_in}
use Rattle.shared_rule.specs.History.{told, first_account, first_number}
use Rattle.shared_rule.specs.Openers.{OpenerState, HasGathered, HasLastOf}
use Rattle.shared_rule.specs.Seats.{MayBeKeptApartBy, behind_of}
use Rattle.shared_rule.specs.Quiet.{Quiet, quiet_told, first_quiet}
use Rattle.lock_manager.specs.Sessions.{SessionView, IsResting, IsUnchanged}
use Rattle.lock_manager.specs.Audits.{MayCount, HasTraced, Audits, gathered_of, AreOwners, CountsWith, entries_owned, strong_owned}
use Rattle.lock_manager.proofs.Lemmas.Audits.Lists.{all-push, all-reverse, entries-so_many, length-counted, reverse-last, zip-reverse}

-- ---- the opener

pub may_count-more : (left : ℕ) (old new : OpenerState PartView) (number : ℕ) (a : Account) (q : List Quiet) → MayCount (left + 1) old → HasGathered content_of number a q old new → a.awaited ≡ None → MayCount left new
may_count-more left old new number a q may gathers no_wait =
    let h = gathers.last in
    let more : new.gathered ≡ may.first ∷ (may.others ++ h ∷ []) = ap (λ (o : OpenerState PartView). o.gathered) gathers.opener ∙ ap (λ xs. xs ++ h ∷ []) may.gathered in
    record {
      first = may.first;
      others = may.others ++ h ∷ [];
      gathered = more;
      all =
          let all = may.all in
          let old_long : length old.gathered ≡ length (may.first ∷ may.others) = ap length may.gathered in
          let long : length new.gathered ≡ length (may.first ∷ (may.others ++ h ∷ [])) = ap length more in
          let rest = length-push may.others h in
          let closed : length new.closed ≡ length old.closed = ap (λ (o : OpenerState PartView). length o.closed) gathers.opener in
          let issued : new.issued ≡ old.issued = ap (λ (o : OpenerState PartView). o.issued) gathers.opener in
          omega (arith, all, old_long, long, rest, closed, issued);
      nobody_waits = subst (λ xs. NoneWaits (gathered_in content_of xs)) (sym (ap (λ (o : OpenerState PartView). o.gathered) gathers.opener))
          (none_waits-push old.gathered h may.nobody_waits (ap (λ (b : Account). b.awaited) gathers.account_ ∙ no_wait));
      nothing_in_hand = subst (λ xs. MayBeKeptApartBy (first_account content_of xs)) (sym more)
          (subst (λ xs. MayBeKeptApartBy (first_account content_of xs)) may.gathered may.nothing_in_hand);
    } where
      length-push : (xs : List (History PartView)) (x : History PartView) → length (xs ++ x ∷ []) ≡ length xs + 1
      length-push [] x = refl
      length-push (y ∷ xs) x = let rest = length-push xs x in omega (arith, rest)

      none_waits-push : (xs : List (History PartView)) (x : History PartView) → NoneWaits (gathered_in content_of xs) → (told content_of x.number x.marks).awaited ≡ None
          → NoneWaits (gathered_in content_of (xs ++ x ∷ []))
      none_waits-push [] x none its = (its, tt)
      none_waits-push (y ∷ xs) x none its = (none.0, none_waits-push xs x none.1 its)

-- the first of an empty seat
pub may_count-first : (left : ℕ) (old new : OpenerState PartView) (number : ℕ) (a : Account) (q : List Quiet) → old.gathered ≡ [] → left + 1 + length old.closed ≡ old.issued
    → HasGathered content_of number a q old new → a.awaited ≡ None → MayBeKeptApartBy a → MayCount left new
may_count-first left old new number a q none all gathers no_wait may =
    let h = gathers.last in
    let one : new.gathered ≡ h ∷ [] = ap (λ (o : OpenerState PartView). o.gathered) gathers.opener ∙ ap (λ xs. xs ++ h ∷ []) none in
    record {
      first = h;
      others = [];
      gathered = one;
      all =
          let long : length new.gathered ≡ 1 = ap length one in
          let closed : length new.closed ≡ length old.closed = ap (λ (o : OpenerState PartView). length o.closed) gathers.opener in
          let issued : new.issued ≡ old.issued = ap (λ (o : OpenerState PartView). o.issued) gathers.opener in
          omega (arith, all, long, closed, issued);
      nobody_waits = subst (λ xs. NoneWaits (gathered_in content_of xs)) (sym one) (ap (λ (b : Account). b.awaited) gathers.account_ ∙ no_wait, tt);
      nothing_in_hand = subst (λ xs. MayBeKeptApartBy (first_account content_of xs)) (sym one) (subst MayBeKeptApartBy (sym gathers.account_) may);
    }

-- The one that came last is sent back after the first has counted.
pub last-of : (old old1 new1 : OpenerState PartView) (number : ℕ) (a : Account) (q : List Quiet) (g : History PartView) (gs : List (History PartView)) → old.gathered ≡ g ∷ gs → (gathers : HasGathered content_of number a q old old1)
    → (first : History PartView) → new1.gathered ≡ first ∷ behind_of old1.gathered → new1.gathered ≡ (first ∷ gs) ++ gathers.last ∷ []
last-of old old1 new1 number a q g gs some gathers first is =
    is ∙ ap (λ xs. first ∷ behind_of xs) (ap (λ (o : OpenerState PartView). o.gathered) gathers.opener ∙ ap (λ xs. xs ++ gathers.last ∷ []) some)

pub has-last : (old old1 new1 : OpenerState PartView) (number absent : ℕ) (a : Account) (q : List Quiet) (g : History PartView) (gs : List (History PartView)) → old.gathered ≡ g ∷ gs
    → (gathers : HasGathered content_of number a q old old1) → (first : History PartView) → new1.gathered ≡ first ∷ behind_of old1.gathered → absent ≡ number → HasLastOf absent new1
has-last old old1 new1 number absent a q g gs some gathers first is same = record {
  before = first ∷ gs;
  last = gathers.last;
  gathered = last-of old old1 new1 number a q g gs some gathers first is;
  number_ = gathers.number_ ∙ sym same;
}

last-only : (old old1 new1 : OpenerState PartView) (number : ℕ) (a : Account) (q : List Quiet) → old.gathered ≡ [] → (gathers : HasGathered content_of number a q old old1)
    → (first : History PartView) → new1.gathered ≡ first ∷ behind_of old1.gathered → new1.gathered ≡ [] ++ first ∷ []
last-only old old1 new1 number a q none gathers first is =
    is ∙ ap (λ xs. first ∷ behind_of xs) (ap (λ (o : OpenerState PartView). o.gathered) gathers.opener ∙ ap (λ xs. xs ++ gathers.last ∷ []) none)

-- The last one of those gathered is sent back: the others stay, and its account is the one that its marks
-- show,
abbrev SendsLast : OpenerState PartView → OpenerState PartView → Account → Type 0
SendsLast old new a =
    (before : List (History PartView)) (last : History PartView) → old.gathered ≡ before ++ last ∷ []
    → (new ≡ record old { gathered = before }) × (a ≡ told content_of last.number last.marks)

-- with the quiet steps that these marks show.
abbrev TellsQuiet : OpenerState PartView → List Quiet → Type 0
TellsQuiet old quiet = (before : List (History PartView)) (last : History PartView) → old.gathered ≡ before ++ last ∷ [] → quiet ≡ quiet_told last.marks

-- ---- sessions

abbrev pub owned-entries : {B : Type 0} → SessionView B → List Entry
owned-entries session = session.owned.entries

module _ {B : Type 0} (seat : B → Seated) (view : B → Account) (stack : B → Stack) (quiet : B → List Quiet) where
  own-lists : (sessions : List (SessionView B)) → AreOwners seat view stack quiet sessions → OwnSoMany (map (gathered_of seat view stack quiet) sessions) (map (λ session. length session.owned.entries) sessions)
  own-lists [] own = tt
  own-lists (s ∷ sessions) own = (
    subst (λ (a : Account). AreSoMany a.own (length s.owned.entries)) (sym own.0.0.account) (entries-so_many s.owned.entries own.0.1.once),
    own-lists sessions own.1,
  )

  sum-entries : (sessions : List (SessionView B)) → sum (map (λ session. length session.owned.entries) sessions) ≡ entries_owned owned-entries sessions
  sum-entries [] = refl
  sum-entries (s ∷ sessions) =
      let rest = sum-entries sessions in
      let one = sum_by-cons (λ (n : ℕ). n) (length s.owned.entries) (map (λ session. length session.owned.entries) sessions) in
      let whole = sum_by-cons (λ (session : SessionView B). length session.owned.entries) s sessions in
      omega (arith, rest, one, whole)

  sum-strong : (sessions : List (SessionView B)) → AreOwners seat view stack quiet sessions
      → sum_by (λ (one : Gathered). length one.account.fast.counted) (map (gathered_of seat view stack quiet) sessions) ≡ strong_owned owned-entries sessions
  sum-strong [] own = refl
  sum-strong (s ∷ sessions) own =
      let rest = sum-strong sessions own.1 in
      let one = sum_by-cons (λ (g : Gathered). length g.account.fast.counted) (gathered_of seat view stack quiet s) (map (gathered_of seat view stack quiet) sessions) in
      let whole = sum_by-cons (λ (session : SessionView B). length (filter (λ entry. is_strong_on entry.tag entry.mode) session.owned.entries)) s sessions in
      let here : length (view s.board).fast.counted ≡ length (filter (λ entry. is_strong_on entry.tag entry.mode) s.owned.entries) =
      ap (λ (a : Account). length a.fast.counted) own.0.0.account ∙ length-counted (seat s.board).limit s.owned.entries in
      omega (arith, rest, one, whole, here)

  -- One more was gathered, and its account is sent back as it was.
  sent-back :
      (old old1 new1 new2 : OpenerState PartView) (result : Result Audit NoMemory) (number : ℕ) (a a2 : Account) (q : List Quiet) (rest after1 : List (SessionView B))
      (g : History PartView) (gs : List (History PartView)) → old.gathered ≡ g ∷ gs → (gathers : HasGathered content_of number a q old old1)
      → (counts : CountsWith seat view stack quiet old1 rest result new1 after1) → SendsLast new1 new2 a2
      → (new2 ≡ record new1 { gathered = counts.first ∷ gs }) × (a2 ≡ told content_of gathers.last.number gathers.last.marks)
  sent-back old old1 new1 new2 result number a a2 q rest after1 g gs some gathers counts left =
      left (counts.first ∷ gs) gathers.last (last-of old old1 new1 number a q g gs some gathers counts.first counts.gathered)

  pub view-back :
      (old old1 new1 new2 : OpenerState PartView) (result : Result Audit NoMemory) (number : ℕ) (a a2 : Account) (q : List Quiet) (rest after1 : List (SessionView B))
      (g : History PartView) (gs : List (History PartView)) → old.gathered ≡ g ∷ gs → HasGathered content_of number a q old old1
      → CountsWith seat view stack quiet old1 rest result new1 after1 → SendsLast new1 new2 a2 → a2 ≡ a
  view-back old old1 new1 new2 result number a a2 q rest after1 g gs some gathers counts left =
      (sent-back old old1 new1 new2 result number a a2 q rest after1 g gs some gathers counts left).1 ∙ gathers.account_

  module _ (old old1 new1 new2 : OpenerState PartView) (result : Result Audit NoMemory) (s s2 : SessionView B) (rest sessions after1 after : List (SessionView B))
      (is : sessions ≡ rest ++ s ∷ []) (is_after : after ≡ after1 ++ s2 ∷ []) (g : History PartView) (gs : List (History PartView)) (some : old.gathered ≡ g ∷ gs)
      (gathers : HasGathered content_of (seat s.board).number (view s.board) (quiet s.board) old old1) (counts : CountsWith seat view stack quiet old1 rest result new1 after1)
      (left : SendsLast new1 new2 (view s2.board)) (left_quiet : TellsQuiet new1 (quiet s2.board))
      (same_seat : seat s2.board ≡ seat s.board) (nothing : stack s2.board ≡ nothing_due) (rests : IsResting seat view stack s) (well : IsWellOwned s.owned)
      (database : s2.database ≡ s.database) (uses : s2.uses ≡ s.uses) (owned : s2.owned ≡ s.owned) where
    back : (new2 ≡ record new1 { gathered = counts.first ∷ gs }) × (view s2.board ≡ told content_of gathers.last.number gathers.last.marks)
    back = sent-back old old1 new1 new2 result (seat s.board).number (view s.board) (view s2.board) (quiet s.board) rest after1 g gs some gathers counts left

    back-quiet : quiet s2.board ≡ quiet_told gathers.last.marks
    back-quiet = left_quiet (counts.first ∷ gs) gathers.last (last-of old old1 new1 (seat s.board).number (view s.board) (quiet s.board) g gs some gathers counts.first counts.gathered)

    more : old1.gathered ≡ old.gathered ++ gathers.last ∷ []
    more = ap (λ (o : OpenerState PartView). o.gathered) gathers.opener

    first-same : first_account content_of old1.gathered ≡ first_account content_of old.gathered
    first-same = ap (first_account content_of) more ∙ ap (λ xs. first_account content_of (xs ++ gathers.last ∷ [])) some ∙ sym (ap (first_account content_of) some)

    number-same : first_number old1.gathered ≡ first_number old.gathered
    number-same = ap first_number more ∙ ap (λ xs. first_number (xs ++ gathers.last ∷ [])) some ∙ sym (ap first_number some)

    quiet-same : first_quiet old1.gathered ≡ first_quiet old.gathered
    quiet-same = ap first_quiet more ∙ ap (λ xs. first_quiet (xs ++ gathers.last ∷ [])) some ∙ sym (ap first_quiet some)

    new-first : first_account content_of new2.gathered ≡ first_account content_of new1.gathered
    new-first = ap (λ (o : OpenerState PartView). first_account content_of o.gathered) back.0 ∙ sym (ap (first_account content_of) counts.gathered)

    all : gathered_in content_of old1.gathered ++ map (gathered_of seat view stack quiet) (reverse rest) ≡ gathered_in content_of old.gathered ++ map (gathered_of seat view stack quiet) (reverse sessions)
    all =
        ap (λ xs. gathered_in content_of xs ++ map (gathered_of seat view stack quiet) (reverse rest)) more
        ∙ ap (λ xs. xs ++ map (gathered_of seat view stack quiet) (reverse rest)) (map-append (λ (h : History PartView). record { number = h.number; account = told content_of h.number h.marks }) old.gathered (gathers.last ∷ []))
        ∙ append_assoc (gathered_in content_of old.gathered) (gathered_in content_of (gathers.last ∷ [])) (map (gathered_of seat view stack quiet) (reverse rest))
        ∙ (λ i. gathered_in content_of old.gathered ++ record { number = gathers.number_ i; account = gathers.account_ i } ∷ map (gathered_of seat view stack quiet) (reverse rest))
        ∙ ap (λ xs. gathered_in content_of old.gathered ++ map (gathered_of seat view stack quiet) xs) (sym (ap reverse is ∙ reverse-last rest s))

    adds : (r : Result Audit NoMemory) → IfOk r (AddsUp (gathered_in content_of old1.gathered ++ map (gathered_of seat view stack quiet) (reverse rest)))
        → IfOk r (AddsUp (gathered_in content_of old.gathered ++ map (gathered_of seat view stack quiet) (reverse sessions)))
    adds (Ok audit) up = subst (λ xs. AddsUp xs audit) all up
    adds (Err e) up = tt

    unchanged-last : IsUnchanged seat view stack quiet s s2
    unchanged-last = record {
      seat_ = same_seat;
      view_ = back.1 ∙ gathers.account_;
      stack_ = nothing ∙ sym rests.nothing_left;
      quiet_ = back-quiet ∙ gathers.quiet_;
      database = database;
      uses = uses;
      owned = owned;
    }

    pub counts-one : CountsWith seat view stack quiet old sessions result new2 after
    counts-one = record {
      counts =
          subst (λ (t : List TraceEntry). Counts old.limit old.groups (first_account content_of old.gathered).trace result t) (sym (ap (λ (a : Account). a.trace) new-first))
          (subst (λ (t : List TraceEntry). Counts old.limit old.groups t result (first_account content_of new1.gathered).trace) (ap (λ (a : Account). a.trace) first-same)
          (subst (λ (o : OpenerState PartView). Counts o.limit o.groups (first_account content_of old1.gathered).trace result
          (first_account content_of new1.gathered).trace) gathers.opener counts.counts));
      adds_up = adds result counts.adds_up;
      opener =
          back.0 ∙ (λ i. record (counts.opener i) { gathered = counts.first ∷ gs }) ∙ (λ i. record (gathers.opener i) { gathered = counts.first ∷ gs })
          ∙ (λ i. record old { gathered = sym (ap (λ (o : OpenerState PartView). o.gathered) back.0) i });
      first = counts.first;
      gathered = ap (λ (o : OpenerState PartView). o.gathered) back.0 ∙ ap (λ xs. counts.first ∷ xs) (sym (ap behind_of some));
      number = counts.number ∙ number-same;
      first_quiet_ = counts.first_quiet_ ∙ quiet-same;
      account = counts.account ∙ (λ i. record (first-same i) { trace = sym (ap (λ (a : Account). a.trace) new-first) i });
      unchanged =
          subst (λ xs. AllZip (IsUnchanged seat view stack quiet) xs after) (sym is)
          (subst (AllZip (IsUnchanged seat view stack quiet) (rest ++ s ∷ [])) (sym is_after)
          (AllZip-push (IsUnchanged seat view stack quiet) rest after1 s s2 counts.unchanged unchanged-last));
      owners = subst (AreOwners seat view stack quiet) (sym is) (all-push _ rest s counts.owners (rests, well));
    }

  -- The first one was gathered, and is sent back last.
  module _ (old old1 new1 new2 : OpenerState PartView) (result : Result Audit NoMemory) (number : ℕ) (a a2 : Account) (q : List Quiet)
      (rest after1 : List (SessionView B)) (none : old.gathered ≡ []) (gathers : HasGathered content_of number a q old old1)
      (counts : CountsWith seat view stack quiet old1 rest result new1 after1) (left : SendsLast new1 new2 a2) where
    back_first : (new2 ≡ record new1 { gathered = [] }) × (a2 ≡ told content_of counts.first.number counts.first.marks)
    back_first = left [] counts.first (last-only old old1 new1 number a q none gathers counts.first counts.gathered)

    only : old1.gathered ≡ gathers.last ∷ []
    only = ap (λ (o : OpenerState PartView). o.gathered) gathers.opener ∙ ap (λ xs. xs ++ gathers.last ∷ []) none

    first-is : first_account content_of old1.gathered ≡ a
    first-is = ap (first_account content_of) only ∙ gathers.account_

    last-is : first_account content_of new1.gathered ≡ a2
    last-is = ap (first_account content_of) counts.gathered ∙ sym back_first.1

    -- Its account is as it was, but for the trace,
    pub view-traced : a2 ≡ record a { trace = a2.trace }
    view-traced = back_first.1 ∙ counts.account ∙ (λ i. record (first-is i) { trace = ap (λ (b : Account). b.trace) last-is i })

    -- and the opener is as it was.
    pub opener-back : new2 ≡ old
    opener-back =
        back_first.0 ∙ (λ i. record (counts.opener i) { gathered = [] }) ∙ (λ i. record (gathers.opener i) { gathered = [] }) ∙ (λ i. record old { gathered = sym none i })

  module _ (old old1 new1 new2 : OpenerState PartView) (result : Result Audit NoMemory) (s s2 : SessionView B) (rest sessions after1 after : List (SessionView B))
      (is : sessions ≡ rest ++ s ∷ []) (is_after : after ≡ after1 ++ s2 ∷ []) (none : old.gathered ≡ [])
      (gathers : HasGathered content_of (seat s.board).number (view s.board) (quiet s.board) old old1) (counts : CountsWith seat view stack quiet old1 rest result new1 after1)
      (left : SendsLast new1 new2 (view s2.board)) (left_quiet : TellsQuiet new1 (quiet s2.board))
      (same_seat : seat s2.board ≡ seat s.board) (nothing : stack s2.board ≡ nothing_due) (rests : IsResting seat view stack s) (well : IsWellOwned s.owned)
      (database : s2.database ≡ s.database) (uses : s2.uses ≡ s.uses) (owned : s2.owned ≡ s.owned) where
    back_first-quiet : quiet s2.board ≡ quiet_told counts.first.marks
    back_first-quiet = left_quiet [] counts.first (last-only old old1 new1 (seat s.board).number (view s.board) (quiet s.board) none gathers counts.first counts.gathered)

    one : old1.gathered ≡ gathers.last ∷ []
    one = only old old1 new1 new2 result (seat s.board).number (view s.board) (view s2.board) (quiet s.board) rest after1 none gathers counts left

    traced-first : HasTraced seat view stack quiet s s2
    traced-first = record {
      seat_ = same_seat;
      view_ = view-traced old old1 new1 new2 result (seat s.board).number (view s.board) (view s2.board) (quiet s.board) rest after1 none gathers counts left;
      stack_ = nothing ∙ sym rests.nothing_left;
      quiet_ = back_first-quiet ∙ counts.first_quiet_ ∙ ap first_quiet one ∙ gathers.quiet_;
      database = database;
      uses = uses;
      owned = owned;
    }

    owners : AreOwners seat view stack quiet (s ∷ reverse rest)
    owners = ((rests, well), all-reverse _ rest counts.owners)

    all-are : gathered_in content_of old1.gathered ++ map (gathered_of seat view stack quiet) (reverse rest) ≡ map (gathered_of seat view stack quiet) (s ∷ reverse rest)
    all-are =
        ap (λ xs. gathered_in content_of xs ++ map (gathered_of seat view stack quiet) (reverse rest)) one
        ∙ (λ i. record { number = gathers.number_ i; account = gathers.account_ i } ∷ map (gathered_of seat view stack quiet) (reverse rest))

    holds-of : (r : Result Audit NoMemory) → IfOk r (AddsUp (gathered_in content_of old1.gathered ++ map (gathered_of seat view stack quiet) (reverse rest)))
        → IfOk r (λ audit. audit.fast + audit.table ≡ entries_owned owned-entries (s ∷ reverse rest))
    holds-of (Ok audit) up =
        up.held (map (λ session. length session.owned.entries) (s ∷ reverse rest))
        (subst (λ xs. OwnSoMany xs (map (λ session. length session.owned.entries) (s ∷ reverse rest))) (sym all-are) (own-lists (s ∷ reverse rest) owners))
        ∙ sum-entries (s ∷ reverse rest)
    holds-of (Err e) up = tt

    strong-of : (r : Result Audit NoMemory) → IfOk r (AddsUp (gathered_in content_of old1.gathered ++ map (gathered_of seat view stack quiet) (reverse rest)))
        → IfOk r (λ audit. audit.strong ≡ strong_owned owned-entries (s ∷ reverse rest))
    strong-of (Ok audit) up =
        up.strong ∙ ap (sum_by (λ (one : Gathered). length one.account.fast.counted)) all-are ∙ sum-strong (s ∷ reverse rest) owners
    strong-of (Err e) up = tt

    pub audits-first : Audits seat view stack quiet old.limit old.groups (reverse sessions) (reverse after) result
    audits-first =
        subst (λ xs. Audits seat view stack quiet old.limit old.groups xs (reverse after) result) (sym (ap reverse is ∙ reverse-last rest s)) (record {
          first_after = s2;
          others_after = reverse after1;
          sessions = ap reverse is_after ∙ reverse-last after1 s2;
          traced = traced-first;
          unchanged = zip-reverse (IsUnchanged seat view stack quiet) rest after1 counts.unchanged;
          counts =
              subst (λ (t : List TraceEntry). Counts old.limit old.groups (view s.board).trace result t) (ap (λ (a : Account). a.trace)
              (last-is old old1 new1 new2 result (seat s.board).number (view s.board) (view s2.board) (quiet s.board) rest after1 none gathers counts left))
              (subst (λ (t : List TraceEntry). Counts old.limit old.groups t result (first_account content_of new1.gathered).trace) (ap (λ (a : Account). a.trace)
              (first-is old old1 new1 new2 result (seat s.board).number (view s.board) (view s2.board) (quiet s.board) rest after1 none gathers counts left))
              (subst (λ (o : OpenerState PartView). Counts o.limit o.groups (first_account content_of old1.gathered).trace result
              (first_account content_of new1.gathered).trace) gathers.opener counts.counts));
          holds = holds-of result counts.adds_up;
          strong = strong-of result counts.adds_up;
        })
