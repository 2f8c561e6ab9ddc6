use Rattle.std.proofs.Common.{◌≡◌, true, false, not, cond, List, [], ◌∷◌, ◌++◌, refl, sym, ap, subst, ◌∙◌, arith, append_assoc, append-nil}
use Rattle.std.specs.Prelude.{All, map, filter, Result, Ok, Err, OnOk}
use Rattle.std.proofs.lemmas.List.{map-append}
use Rattle.std.proofs.lemmas.List.Elements.{filter-append, All-append, All-cons}
use Rattle.lock_table.specs.declared.rows.TableRow.{TableRow}
use Rattle.lock_table.specs.Content.{Content}
use Rattle.lock_table.specs.Listing.{IsListing, AppendsListing}
use Rattle.lock_table.specs.declared.no_memory.NoMemory as no_memory
use Rattle.lock_manager.specs.declared.blocked.Blocked.{Blocked}
use Rattle.lock_manager.specs.Blocked.{row_of_wait, HasBlockers, AreBlockedIn, AppendsBlocked}

-- The waits of a content are made out row by row.

-- Of these rows the waits are behind what the list had.
pub record BlockedSoFar (content : Content) (rows : List TableRow) (old new : List Blocked) : Type 0 where
  pub added : List Blocked
  pub behind : new ≡ old ++ added
  pub waits : map row_of_wait added ≡ filter (λ row. not row.granted) rows
  pub in_the_way : All (HasBlockers content) added

pub so_far-none : (content : Content) (old new : List Blocked) → new ≡ old → BlockedSoFar content [] old new
so_far-none content old new same = record {
  added = [];
  behind = same ∙ sym (append-nil old);
  waits = refl;
  in_the_way = λ k d below. absurd (omega arith);
}

module _ (content : Content) (rows : List TableRow) (old new : List Blocked) (so_far : BlockedSoFar content rows old new) (row : TableRow) where
  -- A row of a hold adds nothing,
  pub so_far-granted : row.granted ≡ true → BlockedSoFar content (rows ++ row ∷ []) old new
  so_far-granted granted = record {
    added = so_far.added;
    behind = so_far.behind;
    waits =
        so_far.waits
        ∙ sym (append-nil (filter (λ (r : TableRow). not r.granted) rows))
        ∙ ap (λ more. filter (λ (r : TableRow). not r.granted) rows ++ more) (sym none)
        ∙ sym (filter-append (λ (r : TableRow). not r.granted) rows (row ∷ []));
    in_the_way = so_far.in_the_way;
  } where
    none : filter (λ (r : TableRow). not r.granted) (row ∷ []) ≡ []
    none = ap (λ b. cond (not b) (row ∷ []) []) granted

  -- and one of a wait its wait.
  pub so_far-awaited :
      (wait : Blocked) (next : List Blocked) → row.granted ≡ false → row_of_wait wait ≡ row → HasBlockers content wait → next ≡ new ++ wait ∷ []
      → BlockedSoFar content (rows ++ row ∷ []) old next
  so_far-awaited wait next awaited is has more = record {
    added = so_far.added ++ wait ∷ [];
    behind = more ∙ ap (λ waits. waits ++ wait ∷ []) so_far.behind ∙ append_assoc old so_far.added (wait ∷ []);
    waits =
        map-append row_of_wait so_far.added (wait ∷ [])
        ∙ (λ i. so_far.waits i ++ is i ∷ [])
        ∙ ap (λ more. filter (λ (r : TableRow). not r.granted) rows ++ more) (sym one)
        ∙ sym (filter-append (λ (r : TableRow). not r.granted) rows (row ∷ []));
    in_the_way = All-append (HasBlockers content) so_far.added (wait ∷ []) so_far.in_the_way single;
  } where
    one : filter (λ (r : TableRow). not r.granted) (row ∷ []) ≡ row ∷ []
    one = ap (λ b. cond (not b) (row ∷ []) []) awaited

    single : All (HasBlockers content) (wait ∷ [])
    single = All-cons (HasBlockers content) wait [] has (λ k d below. absurd (omega arith))

-- Once all rows were looked at, which are those of the content's listing, its waits are there.
pub so_far-all :
    (content : Content) (rows : List TableRow) (old new : List Blocked) → BlockedSoFar content rows old new → AppendsListing content [] rows
    → AppendsBlocked content old new
so_far-all content rows old new so_far listing = record {
  added = so_far.added;
  behind = so_far.behind;
  blocked = record {
    rows = rows;
    listed = subst (IsListing content) (sym listing.behind) listing.listed;
    waits = so_far.waits;
    in_the_way = so_far.in_the_way;
  };
}

-- ---- partition by partition

-- Behind the waits of a content those of the others follow.
pub blocked-more :
    (result : Result (Unit {0}) no_memory.NoMemory) (content : Content) (contents : List Content) (old middle new : List Blocked) → AppendsBlocked content old middle
    → OnOk result ((added : List Blocked) × (new ≡ middle ++ added) × AreBlockedIn contents added)
    → OnOk result ((added : List Blocked) × (new ≡ old ++ added) × AreBlockedIn (content ∷ contents) added)
blocked-more (Ok done) content contents old middle new first more = (
  first.added ++ more.0,
  more.1 ∙ ap (λ waits. waits ++ more.0) first.behind ∙ append_assoc old first.added more.0,
  (first.added, more.0, refl, first.blocked, more.2),
)
blocked-more (Err refusal) content contents old middle new first more = tt

-- Where no partition is left there is no wait.
pub blocked-none : (old new : List Blocked) → new ≡ old → (added : List Blocked) × (new ≡ old ++ added) × AreBlockedIn [] added
blocked-none old new same = ([], same ∙ sym (append-nil old), refl)
