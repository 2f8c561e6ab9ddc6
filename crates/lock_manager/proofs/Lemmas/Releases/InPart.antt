use Rattle.std.proofs.Common.{◌≡◌, ◌≢◌, ◌⊎◌, ℕ, Bool, true, false, ap, List, [], ◌∷◌, ◌++◌, append-nil, None, refl, sym, ◌∙◌, subst, inl, inr}
use Rattle.std.specs.Prelude.{map}
use Rattle.modes_core.specs.declared.modes.Mode.{Mode}
use Rattle.modes_core.specs.declared.tags.Tag.{Tag}
use Rattle.modes_core.specs.Tag.{partition_of, is_eligible_for}
use Rattle.lock_table.specs.declared.moves.Move.TheVariants.{Release}
use Rattle.lock_table.specs.Content.{Wait, Content}
use Rattle.lock_table.specs.Moves.{Moves}
use Rattle.lock_table.specs.Waiter.{whose_and_mode}
use Rattle.lock_world.specs.Account.{Account, InHand}
use Rattle.lock_world.specs.AccountFacts.{OwnHoldsStand, KnowsContent}
use Rattle.lock_world.specs.AccountLaw.{MayMoveBy, MayPutBy}
use Rattle.lock_world.specs.AccountSteps.{account_taking, account_putting}
use Rattle.lock_world.specs.World.{TraceEntry, Took, Episode}
use Rattle.fast_path.specs.Slots.{group_of_tag, group_loads, account_tried}
use Rattle.fast_path.specs.Releases.{Ungrants, IsUnused}
use Rattle.shared_rule.specs.Boards.{Seated}
use Rattle.shared_rule.specs.Waiters.{WaitsExist}
use Rattle.shared_rule.specs.Lawful.{MayPutPart}
use Rattle.shared_rule.specs.History.{taken_of}
use Rattle.shared_rule.specs.Episodes.{account_episode}
use Rattle.shared_rule.proofs.Lemmas.Episodes.{fresh_hand, taken-in_hand, taken-put}
use Rattle.fast_path.specs.declared.use_counts.UseCounts.{UseCounts}
use Rattle.lock_manager.specs.Releases.{Wakens, Tells, ReleasesInPart, ReleasesHold, LooksNowhere, FindsNone, Releases, account_released}
use Rattle.lock_manager.proofs.Lemmas.Moves.{may_make}
use Rattle.lock_manager.proofs.Lemmas.Releases.Marks.{release-once, release-stood}

-- Releasing a hold in a partition that was just taken.

module _ (seat : Seated) (a : Account) (p : ℕ) (tag : Tag) (mode : Mode) (taken put : Content) (granted : List Wait) (woken : List (ℕ × Mode))
    (object : partition_of tag ≡ p) (own : a.own tag mode ≡ true)
    (moved : Moves taken seat.number (Release tag mode) granted put) (whose : woken ≡ map whose_and_mode granted) where
  -- The session may make the move,
  may_release : MayMoveBy seat.limit seat.number (account_taking a p taken) p (fresh_hand taken) (Release tag mode) granted put
  may_release = may_make seat.limit seat.number (account_taking a p taken) p taken put (Release tag mode) granted (taken-in_hand a p taken) object own tt moved

  -- and put the partition by it where it lets nobody go,
  pub may_put_released :
      (its : Seated) (b : Account) → its ≡ seat → b ≡ account_taking a p taken → granted ≡ []
      → (mine : InHand) × MayPutPart its.limit its.number b p mine (Release tag mode) put
  may_put_released its b same_seat same none =
      let alone : MayPutBy seat.limit seat.number (account_taking a p taken) p (fresh_hand taken) (Release tag mode) put =
      record {
        may_move = subst (λ waits. MayMoveBy seat.limit seat.number (account_taking a p taken) p (fresh_hand taken) (Release tag mode) waits put)
            none may_release;
        by_putting = tt;
      } in (
        fresh_hand taken,
        inl (subst (λ (v : Seated). MayPutBy v.limit v.number b p (fresh_hand taken) (Release tag mode) put) {x = seat} {y = its} (sym same_seat)
            (subst (λ v. MayPutBy seat.limit seat.number v p (fresh_hand taken) (Release tag mode) put) {x = account_taking a p taken} {y = b}
            (sym same) alone)),
      )

  -- and else tell those whom it lets go.
  pub release-tells :
      (its : Seated) (b : Account) → its ≡ seat → b ≡ account_taking a p taken → KnowsContent seat.number a p taken
      → WaitsExist seat.limit taken → woken ≢ [] → Tells its b p (Release tag mode) woken put
  release-tells its b same_seat same knows exist some =
      let wakens : Wakens seat (account_taking a p taken) p (Release tag mode) woken put =
      record {
        mine = fresh_hand taken;
        granted = granted;
        whose = whose;
        may_move = may_release;
        once = λ session. release-once taken put seat.number tag mode granted woken session moved whose (knows.once session tag);
        exist = λ session there. exist session tag (release-stood taken put seat.number tag mode granted moved session there);
      } in
      record {
        from = b;
        wakens = subst (λ v. Wakens v b p (Release tag mode) woken put) {x = seat} {y = its} (sym same_seat)
            (subst (λ v. Wakens seat v p (Release tag mode) woken put) {x = account_taking a p taken} {y = b} (sym same) wakens);
        so_far = inl (refl, some, refl);
      }

-- A release that ends by a wakeup is an episode.
pub woken-released :
    (number : ℕ) (a b c : Account) (p : ℕ) (tag : Tag) (mode : Mode) (taken put : Content) (granted : List Wait)
    → p ≡ partition_of tag → a.hand p ≡ None → b ≡ account_taking a p taken → OwnHoldsStand number a.own a.fast.database a.fast.remembered p taken
    → Moves taken number (Release tag mode) granted put → c ≡ account_putting b p (taken_of (b.hand p)) put (Release tag mode)
    → ReleasesInPart number a tag mode c
woken-released number a b c p tag mode taken put granted object none same stand moved ended = record {
  taken = taken;
  put = put;
  granted = granted;
  own_stand = subst (λ q. OwnHoldsStand number a.own a.fast.database a.fast.remembered q taken) object stand;
  moved = moved;
  account =
      ended
      ∙ ap (λ (x : Account). account_putting x p (taken_of (x.hand p)) put (Release tag mode)) same
      ∙ taken-put a p taken put (Release tag mode) none
      ∙ ap (λ q. account_episode a q taken put (Release tag mode)) object;
}

-- ---- the whole release

-- The account once the session has looked in its slots, or without that.
pub record HasLookedForHold (groups number : ℕ) (a : Account) (uses : UseCounts) (tag : Tag) (mode : Mode) (b : Account) (left : UseCounts) : Type 0 where
  pub loads : List TraceEntry
  pub before : LooksNowhere groups a uses tag mode loads left ⊎ FindsNone groups number a uses tag mode loads left
  pub account : b ≡ account_tried a b.fast.remembered (a.trace ++ loads)

pub looks-nowhere :
    (groups number : ℕ) (a : Account) (uses : UseCounts) (tag : Tag) (mode : Mode) → (is_eligible_for a.fast.database tag mode ≡ false) ⊎ IsUnused groups uses tag
    → HasLookedForHold groups number a uses tag mode a uses
looks-nowhere groups number a uses tag mode why = record {
  loads = [];
  before = inl (record { not_tried = why; no_step = refl; same = refl });
  account = λ i. record a { trace = sym (append-nil a.trace) i };
}

pub looks-found :
    (groups number : ℕ) (a b : Account) (uses left : UseCounts) (tag : Tag) (mode : Mode) → is_eligible_for a.fast.database tag mode ≡ true
    → Ungrants groups number a uses tag mode false b left → HasLookedForHold groups number a uses tag mode b left
looks-found groups number a b uses left tag mode eligible (inl untried) =
    subst (λ (its : UseCounts). HasLookedForHold groups number a uses tag mode b its) (sym untried.2)
    (subst (λ (x : Account). HasLookedForHold groups number a uses tag mode x uses) (sym untried.1) (looks-nowhere groups number a uses tag mode (inr untried.0)))
looks-found groups number a b uses left tag mode eligible (inr looked) = record {
  loads = group_loads number (group_of_tag groups tag) looked.1.word;
  before = inr (record {
    looks = record { eligible = eligible; some = looked.0 };
    word = looked.1.word;
    in_none = looked.1.in_none;
    loaded = refl;
    recomputed = looked.1.recomputed;
  });
  account = looked.1.account ∙ (λ i. account_tried a (sym (ap (λ (x : Account). x.fast.remembered) looked.1.account) i) (a.trace ++ group_loads number (group_of_tag groups tag) looked.1.word));
}

-- A hold that no slot has is released in the table.
module _ (groups number : ℕ) (a b c : Account) (uses left : UseCounts) (tag : Tag) (mode : Mode) (looked : HasLookedForHold groups number a uses tag mode b left)
    (released : ReleasesHold number b tag mode c) where
  table-trace : c.trace ≡ a.trace ++ looked.loads ++ Took (partition_of tag) released.taken ∷ Episode (partition_of tag) released.taken released.put ∷ []
  table-trace =
      ap (λ (x : Account). x.trace) released.account
      ∙ ap (λ (x : Account). x.trace ++ Took (partition_of tag) released.taken ∷ Episode (partition_of tag) released.taken released.put ∷ []) looked.account

  pub table-released_account : c ≡ account_released a tag mode c.fast.remembered c.trace
  table-released_account =
      released.account
      ∙ (λ i. account_released b tag mode (sym (ap (λ (x : Account). x.fast.remembered) released.account) i) (sym (ap (λ (x : Account). x.trace) released.account) i))
      ∙ ap (λ (x : Account). account_released x tag mode c.fast.remembered c.trace) looked.account

  table-stand : OwnHoldsStand number a.own a.fast.database c.fast.remembered (partition_of tag) released.taken
  table-stand =
      subst (λ (words : ℕ → ℕ). OwnHoldsStand number a.own a.fast.database words (partition_of tag) released.taken) (sym (ap (λ (x : Account). x.fast.remembered) released.account))
      (subst (λ (own : Tag → Mode → Bool). OwnHoldsStand number own a.fast.database b.fast.remembered (partition_of tag) released.taken) (ap (λ (x : Account). x.own) looked.account)
      (subst (λ (database : ℕ). OwnHoldsStand number b.own database b.fast.remembered (partition_of tag) released.taken) (ap (λ (x : Account). x.fast.database) looked.account) released.own_stand))

  pub table-released : Releases groups number a uses tag mode c left
  table-released = inr (record {
    loads = looked.loads;
    before = looked.before;
    taken = released.taken;
    put = released.put;
    granted = released.granted;
    own_stand = table-stand;
    moved = released.moved;
    trace = table-trace;
    account = table-released_account;
  })
