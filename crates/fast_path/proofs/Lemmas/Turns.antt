use Rattle.std.proofs.Common.{◌≡◌, ◌≢◌, ℕ, ◌<◌, ◌≤◌, Bool, true, false, List, [], ◌∷◌, ◌++◌, Some, None}
use Rattle.std.proofs.Common.{inl, inr, refl, sym, ap, ◌∙◌, subst, append_assoc}
use Rattle.std.specs.Prelude.{◌==◌, nat_lt, not, ◌&&◌, if◌then◌else◌, IfSome, IfNone}
use Rattle.std.proofs.lemmas.Bool.{cases_Bool, eqb-true}
use Rattle.modes_core.specs.declared.modes.Mode.{Mode}
use Rattle.modes_core.specs.declared.tags.Tag.{Tag}
use Rattle.modes_core.specs.Mode.{number_of}
use Rattle.modes_core.specs.Tag.{database_of, partition_of, is_strong_on}
use Rattle.lock_table.specs.Content.{Content}
use Rattle.lock_table.specs.Put.{set_at}
use Rattle.lock_table.proofs.Lemmas.Put.{set_at-here, set_at-same, set_at-twice}
use Rattle.lock_world.specs.declared.events.Word.TheVariants.{Database}
use Rattle.lock_world.specs.SlotHolds.{group_size, most_groups, place_in_group, group_of_relation}
use Rattle.lock_world.specs.SlotHolds.{relation_of, slot_holds, OneSlotEach, AreInGroups, ShowsNoMore}
use Rattle.lock_world.specs.Counted.{Counted, is_at, passing}
use Rattle.lock_world.specs.World.{TraceEntry, Loaded, Took, Episode}
use Rattle.lock_world.specs.Account.{Account, SlotsInHand}
use Rattle.lock_world.specs.AccountFacts.{KnowsSlots}
use Rattle.lock_world.specs.AccountSteps.{account_tracing, account_putting_fast, account_passing}
use Rattle.lock_world.specs.AccountLaw.{MayPassBy}
use Rattle.shared_rule.specs.History.{slots_here}
use Rattle.shared_rule.specs.Slots.{TakesFast}
use Rattle.fast_path.specs.declared.slot_words.SeenSlot.{SeenSlot}
use Rattle.fast_path.specs.declared.slot_words.Sighting.{Sighting}
use Rattle.fast_path.specs.Slots.{group_of_tag, group_loads, account_loading, IsOfGroup, NoneInGroup, IsSeenOf, Sights}
use Rattle.fast_path.specs.Transfers.{adopting, finding, Adopts}
use Rattle.fast_path.specs.Transfers.{IsAfterScan, Passes, StopsAt}
use Rattle.fast_path.specs.Turns.{account_holding, IsUnlocked, Looks, BeginsTurn, HasRelation, AdoptsBelow, AdoptsSome}
use Rattle.fast_path.proofs.Lemmas.Shows.{elsewhere-none, no_slot-none, not_weak-none, within-of_group}

-- One turn of a transfer.

-- what the session remembers of its own slots once it has taken the lock of those of this owner
abbrev pub remembered_then : ℕ → Account → ℕ → SlotsInHand → ℕ → ℕ
remembered_then number a owner slots = if owner == number then slots.word else a.fast.remembered

-- What the session remembers of its own slots then is no more than before.
pub remembered-no_more :
    (groups number : ℕ) (a : Account) (owner : ℕ) (slots : SlotsInHand) → KnowsSlots groups number a owner slots
    → ShowsNoMore (remembered_then number a owner slots) a.fast.remembered
remembered-no_more groups number a owner slots knows = at (owner == number)
    (λ own. knows.as_remembered (eqb-true owner number own)) where
      at : (own : Bool) → (own ≡ true → ShowsNoMore slots.word a.fast.remembered)
          → ShowsNoMore (if own then slots.word else a.fast.remembered) a.fast.remembered
      at true seen = seen refl
      at false seen = λ slot relation mode within shown. shown

-- The lock of a session's slots is taken, and its database is loaded.
pub looks :
    (groups number : ℕ) (a taken b : Account) (owner shown : ℕ) → TakesFast groups number a owner taken
    → ((slots : SlotsInHand) → taken.fast.slots owner ≡ Some slots → slots.holds ≡ slot_holds shown slots.word)
    → b ≡ account_tracing taken (Loaded (Database owner) shown) → Looks groups a owner shown b
looks groups number a taken b owner shown takes of_slots loaded = record {
  slots = takes.slots;
  remembered = remembered_then number a owner takes.slots;
  no_more = remembered-no_more groups number a owner takes.slots takes.knows;
  one_each = takes.knows.one_each;
  in_groups = takes.knows.in_groups;
  holds = of_slots takes.slots
      ((λ i. (takes.account i).fast.slots owner) ∙ set_at-here a.fast.slots owner (Some takes.slots) owner refl);
  account = loaded ∙ (λ i. account_tracing (takes.account i) (Loaded (Database owner) shown));
}

pub slots-looked : (groups : ℕ) (a b : Account) (owner shown : ℕ) (looked : Looks groups a owner shown b)
    → b.fast.slots owner ≡ Some looked.slots
slots-looked groups a b owner shown looked = (λ i. (looked.account i).fast.slots owner)
    ∙ set_at-here a.fast.slots owner (Some looked.slots) owner refl

-- Then the slots of a group are loaded.
pub looked-loads :
    (groups : ℕ) (a b c : Account) (owner shown group : ℕ) (looked : Looks groups a owner shown b)
    → c ≡ account_loading b owner (place_in_group group) (slots_here (b.fast.slots owner)).word group_size
    → c ≡ account_holding a owner looked.slots looked.remembered
    (Loaded (Database owner) shown ∷ group_loads owner group looked.slots.word)
looked-loads groups a b c owner shown group looked loaded =
    loaded
    ∙ (λ i. account_loading b owner (place_in_group group)
    (slots_here (slots-looked groups a b owner shown looked i)).word group_size)
    ∙ (λ i. account_loading (looked.account i) owner (place_in_group group) looked.slots.word group_size)
    ∙ (λ i. record (account_holding a owner looked.slots looked.remembered []) {
      trace = append_assoc a.trace (Loaded (Database owner) shown ∷ [])
          (group_loads owner group looked.slots.word) i;
    })

-- The owner is in the tag's database, and its slots of the relation's group were looked through.
pub record Finds (groups : ℕ) (a : Account) (owner : ℕ) (tag : Tag) (seen : Sighting) (b : Account) : Type 0 where
  pub slots : SlotsInHand
  pub remembered : ℕ → ℕ
  pub no_more : ShowsNoMore remembered a.fast.remembered
  pub one_each : OneSlotEach slots.word
  pub in_groups : AreInGroups groups slots.word
  pub holds : slots.holds ≡ slot_holds (database_of tag) slots.word
  pub sighted : Sights (group_of_tag groups tag) slots.word (relation_of tag) seen
  pub account : b ≡ account_holding a owner slots remembered (finding groups owner tag slots.word)

pub finds :
    (groups : ℕ) (a b c : Account) (owner group relation : ℕ) (tag : Tag) (seen : Sighting)
    → Looks groups a owner (database_of tag) b → relation ≡ relation_of tag
    → group ≡ group_of_relation groups relation
    → c ≡ account_loading b owner (place_in_group group) (slots_here (b.fast.slots owner)).word group_size
    → Sights group (slots_here (b.fast.slots owner)).word relation seen
    → Finds groups a owner tag seen c
finds groups a b c owner group relation tag seen looked same its_group loaded sighted = record {
  slots = looked.slots;
  remembered = looked.remembered;
  no_more = looked.no_more;
  one_each = looked.one_each;
  in_groups = looked.in_groups;
  holds = looked.holds;
  sighted = subst (λ (k : ℕ). Sights k looked.slots.word (relation_of tag) seen) of_tag
      (subst (λ (r : ℕ). Sights group looked.slots.word r seen) same
      (subst (λ found. Sights group (slots_here found).word relation seen)
      (slots-looked groups a b owner (database_of tag) looked) sighted));
  account = looked-loads groups a b c owner (database_of tag) group looked loaded
      ∙ (λ i. account_holding a owner looked.slots looked.remembered
      (Loaded (Database owner) (database_of tag) ∷ group_loads owner (of_tag i) looked.slots.word));
} where
  of_tag : group ≡ group_of_tag groups tag
  of_tag = its_group ∙ ap (group_of_relation groups) same

-- The strong lock is to go past the session next, as it was before.
pub next-before :
    (groups : ℕ) (a b : Account) (owner : ℕ) (tag : Tag) (mode : Mode) → BeginsTurn groups a owner tag b
    → is_at owner b.fast.counted tag mode ≡ true → is_at owner a.fast.counted tag mode ≡ true
next-before groups a b owner tag mode begun next =
    ap (λ (x : Account). is_at owner x.fast.counted tag mode) (sym begun.looked.account) ∙ next

-- What it finds: no slot of the relation,
none-found :
    (groups : ℕ) (a b : Account) (owner : ℕ) (tag : Tag) (seen : Sighting) (found : Finds groups a owner tag seen b)
    → seen.of_relation ≡ None → NoneInGroup (group_of_tag groups tag) found.slots.word (relation_of tag)
none-found groups a b owner tag seen found none =
    subst (λ its. IfNone its (NoneInGroup (group_of_tag groups tag) found.slots.word (relation_of tag))) none
    found.sighted.none

-- or one.
its-found :
    (groups : ℕ) (a b : Account) (owner : ℕ) (tag : Tag) (seen : Sighting) (slot : SeenSlot)
    (found : Finds groups a owner tag seen b) → seen.of_relation ≡ Some slot
    → IsSeenOf (group_of_tag groups tag) found.slots.word (relation_of tag) slot
its-found groups a b owner tag seen slot found is =
    subst (λ found_slot. IfSome found_slot (IsSeenOf (group_of_tag groups tag) found.slots.word (relation_of tag))) is
    found.sighted.found

pub group-found :
    (groups : ℕ) (a b : Account) (owner : ℕ) (tag : Tag) (seen : Sighting) (slot : SeenSlot)
    → Finds groups a owner tag seen b → seen.of_relation ≡ Some slot → IsOfGroup (group_of_tag groups tag) slot.number
group-found groups a b owner tag seen slot found is = (its-found groups a b owner tag seen slot found is).within

pub relation-found :
    (groups : ℕ) (a b : Account) (owner : ℕ) (tag : Tag) (seen : Sighting) (slot : SeenSlot)
    (found : Finds groups a owner tag seen b) → 0 < groups → groups ≤ most_groups
    → seen.of_relation ≡ Some slot → HasRelation found.slots slot.number slot.word tag
relation-found groups a b owner tag seen slot found some few is =
    let its = its-found groups a b owner tag seen slot found is in
    record {
      holds = found.holds;
      one_each = found.one_each;
      within = within-of_group groups (relation_of tag) slot.number some few its.within;
      is_word = its.shown;
      its = its.its;
    }

-- Where no slot holds the object the strong lock may go past the session.
may_pass :
    (a b : Account) (owner : ℕ) (slots : SlotsInHand) (remembered : ℕ → ℕ) (steps : List TraceEntry) (tag : Tag)
    (mode : Mode)
    → b ≡ account_holding a owner slots remembered steps → is_at owner a.fast.counted tag mode ≡ true
    → ((its : Mode) → slots.holds tag its ≡ false)
    → MayPassBy b owner slots tag mode
may_pass a b owner slots remembered steps tag mode is at none =
    subst (λ (v : Account). MayPassBy v owner slots tag mode) (sym is) (record {
      in_hand = set_at-here a.fast.slots owner (Some slots) owner refl;
      next = at;
      no_slot = none;
    })

pub may_pass-elsewhere :
    (groups : ℕ) (a b : Account) (owner shown : ℕ) (tag : Tag) (mode : Mode) → Looks groups a owner shown b → shown ≢ database_of tag
    → is_strong_on tag mode ≡ true
    → is_at owner a.fast.counted tag mode ≡ true → (slots : SlotsInHand) × MayPassBy b owner slots tag mode
may_pass-elsewhere groups a b owner shown tag mode looked other strong at = (
  looked.slots,
  may_pass a b owner looked.slots looked.remembered (Loaded (Database owner) shown ∷ []) tag mode looked.account at
      (λ its. (λ i. looked.holds i tag its) ∙ elsewhere-none tag mode shown looked.slots.word its strong other),
)

pub may_pass-nothing :
    (groups : ℕ) (a b : Account) (owner : ℕ) (tag : Tag) (mode : Mode) (seen : Sighting) → Finds groups a owner tag seen b
    → seen.of_relation ≡ None
    → is_at owner a.fast.counted tag mode ≡ true → (slots : SlotsInHand) × MayPassBy b owner slots tag mode
may_pass-nothing groups a b owner tag mode seen found none at = (
  found.slots,
  may_pass a b owner found.slots found.remembered (finding groups owner tag found.slots.word) tag mode found.account at
      (λ its. (λ i. found.holds i tag its)
      ∙ no_slot-none groups tag (database_of tag) found.slots.word found.in_groups
      (none-found groups a b owner tag seen found none) its),
)

-- The steps of a turn in which modes with numbers below this one were adopted,
abbrev adopting_steps : ℕ → ℕ → Tag → (ℕ → ℕ) → ℕ → Content → ℕ → List TraceEntry
adopting_steps groups owner tag slots word taken below =
    finding groups owner tag slots ++ Took (partition_of tag) taken ∷ Episode (partition_of tag) taken
    (adopting taken owner tag word below) ∷ []

-- and the account after them.
adopted-holding :
    (groups : ℕ) (a b c : Account) (owner word below : ℕ) (tag : Tag) (seen : Sighting) (found : Finds groups a owner tag seen b)
    (adopts : AdoptsBelow b owner word tag below c)
    → c ≡ account_holding a owner adopts.rest found.remembered
    (adopting_steps groups owner tag found.slots.word word adopts.taken below)
adopted-holding groups a b c owner word below tag seen found adopts =
    adopts.account
    ∙ (λ i. record (found.account i) {
      fast = record ((found.account i).fast) { slots = set_at (found.account i).fast.slots owner (Some adopts.rest) };
      trace = (found.account i).trace ++ episode;
    })
    ∙ (λ i. record a {
      fast = record (a.fast) {
        slots = set_at-twice a.fast.slots owner (Some found.slots) (Some adopts.rest) i;
        remembered =
            found.remembered;
      };
      trace = append_assoc a.trace (finding groups owner tag found.slots.word) episode i;
    }) where
      episode : List TraceEntry
      episode = Took (partition_of tag) adopts.taken ∷ Episode (partition_of tag) adopts.taken
          (adopting adopts.taken owner tag word below) ∷ []

pub may_pass-adopted :
    (groups : ℕ) (a b c : Account) (owner slot word : ℕ) (tag : Tag) (mode : Mode) (seen : Sighting)
    (found : Finds groups a owner tag seen b) → HasRelation found.slots slot word tag
    → AdoptsBelow b owner word tag 4 c → is_at owner a.fast.counted tag mode ≡ true → (slots : SlotsInHand)
    × MayPassBy c owner slots tag mode
may_pass-adopted groups a b c owner slot word tag mode seen found has adopts at = (
  adopts.rest,
  may_pass a c owner adopts.rest found.remembered (adopting_steps groups owner tag found.slots.word word adopts.taken 4) tag
      mode
      (adopted-holding groups a b c owner word 4 tag seen found adopts) at
      (λ its. adopts.without found.slots in_hand its ∙ gone its),
) where
  in_hand : b.fast.slots owner ≡ Some found.slots
  in_hand = (λ i. (found.account i).fast.slots owner) ∙ set_at-here a.fast.slots owner (Some found.slots) owner refl

  gone : (its : Mode) → (not (nat_lt (number_of its) 4) && found.slots.holds tag its) ≡ false
  gone its =
      elim (cases_Bool (nat_lt (number_of its) 4)) [
        | inl below ↦ ap (λ b. not b && found.slots.holds tag its) below
        | inr from ↦ ap (λ b. not b && found.slots.holds tag its) from
            ∙ not_weak-none found.slots slot word tag its has from
      ]

-- What a session remembers of its slots, named by the account that it comes to.
pub after-from :
    (a b : Account) (remembered : ℕ → ℕ) (counted : List Counted) (steps : List TraceEntry)
    → ShowsNoMore remembered a.fast.remembered
    → b ≡ record a { fast = record (a.fast) { remembered = remembered; counted = counted }; trace = a.trace ++ steps }
    → IsAfterScan a counted steps b
after-from a b remembered counted steps no_more all = record {
  no_more = subst (λ (words : ℕ → ℕ). ShowsNoMore words a.fast.remembered) (sym (λ i. (all i).fast.remembered)) no_more;
  account = all ∙ (λ i. record a {
    fast = record (a.fast) { remembered = sym (λ j. (all j).fast.remembered) i; counted = counted };
    trace = a.trace ++ steps;
  });
}

-- Putting the one lock of slots in hand leaves none in hand, and no counter read as 0.
slots-put : (a : Account) (owner : ℕ) (slots : SlotsInHand) → IsUnlocked a
    → set_at (set_at a.fast.slots owner (Some slots)) owner None ≡ a.fast.slots
slots-put a owner slots unlocked =
    set_at-twice a.fast.slots owner (Some slots) None ∙ set_at-same a.fast.slots owner None
    (sym (λ i. unlocked.no_slots i owner))

zero-unread : (a : Account) (own : Bool) → IsUnlocked a → (if own then None else a.fast.zero) ≡ a.fast.zero
zero-unread a true unlocked = sym unlocked.no_zero
zero-unread a false unlocked = refl

-- Past it the session has no lightweight lock in hand, and remembers of its own slots no more than before.
after-pass :
    (number : ℕ) (a b c : Account) (owner : ℕ) (slots : SlotsInHand) (remembered : ℕ → ℕ) (steps : List TraceEntry)
    (tag : Tag) (mode : Mode) → IsUnlocked a
    → ShowsNoMore remembered a.fast.remembered → b ≡ account_holding a owner slots remembered steps
    → c ≡ account_passing number b owner tag mode
    → IsAfterScan a (passing a.fast.counted tag mode owner) steps c
after-pass number a b c owner slots remembered steps tag mode unlocked no_more is passed =
    after-from a c remembered (passing a.fast.counted tag mode owner) steps no_more
    (passed ∙ (λ i. account_passing number (is i) owner tag mode) ∙ (λ i. record a {
      fast = record (a.fast) {
        slots = slots-put a owner slots unlocked i;
        zero = zero-unread a (owner == number) unlocked i;
        remembered = remembered;
        counted = passing a.fast.counted tag mode owner;
      };
      trace = a.trace ++ steps;
    }))

-- Past an owner whose lock is put the session has none in hand either.
pub after-put :
    (number : ℕ) (a b c : Account) (owner : ℕ) (slots : SlotsInHand) (remembered : ℕ → ℕ) (steps : List TraceEntry)
    → IsUnlocked a
    → ShowsNoMore remembered a.fast.remembered → b ≡ account_holding a owner slots remembered steps
    → c ≡ account_putting_fast number b owner
    → IsAfterScan a a.fast.counted steps c
after-put number a b c owner slots remembered steps unlocked no_more is put =
    after-from a c remembered a.fast.counted steps no_more
    (put ∙ (λ i. account_putting_fast number (is i) owner) ∙ (λ i. record a {
      fast = record (a.fast) {
        slots = slots-put a owner slots unlocked i;
        zero =
            zero-unread a (owner == number) unlocked i;
        remembered = remembered;
      };
      trace = a.trace ++ steps;
    }))

-- A turn that goes past a session with no slot of the relation,
pub passes-nothing :
    (groups number : ℕ) (a b c : Account) (owner : ℕ) (tag : Tag) (mode : Mode) (seen : Sighting) → IsUnlocked a
    → Finds groups a owner tag seen b
    → seen.of_relation ≡ None
    → c ≡ account_passing number b owner tag mode → Passes groups a owner tag mode c
passes-nothing groups number a b c owner tag mode seen unlocked found none passed = record {
  steps = finding groups owner tag found.slots.word;
  turn = inr (inl (record {
    word = found.slots.word;
    none = none-found groups a b owner tag seen found none;
    loads = refl;
  }));
  after = after-pass number a b c owner found.slots found.remembered
      (finding groups owner tag found.slots.word) tag mode unlocked found.no_more found.account passed;
}

adopts-found :
    (groups : ℕ) (a b : Account) (owner slot word below : ℕ) (tag : Tag) (seen : Sighting) (taken : Content)
    (found : Finds groups a owner tag seen b)
    → HasRelation found.slots slot word tag → IsOfGroup (group_of_tag groups tag) slot → Adopts groups owner tag word below
    (adopting_steps groups owner tag found.slots.word word taken below)
adopts-found groups a b owner slot word below tag seen taken found has its_group = record {
  word = found.slots.word;
  slot = slot;
  within = has.within;
  its_group = its_group;
  is_shown = has.is_word;
  its = has.its;
  taken = taken;
  joined = refl;
}

-- A turn that adopts all its modes,
pub passes-adopting :
    (groups number : ℕ) (a b c d : Account) (owner slot word : ℕ) (tag : Tag) (mode : Mode) (seen : Sighting) → IsUnlocked a
    → (found : Finds groups a owner tag seen b)
    → HasRelation found.slots slot word tag → IsOfGroup (group_of_tag groups tag) slot
    → AdoptsBelow b owner word tag 4 c
    → d ≡ account_passing number c owner tag mode → Passes groups a owner tag mode d
passes-adopting groups number a b c d owner slot word tag mode seen unlocked found has its_group adopts passed = record {
  steps = adopting_steps groups owner tag found.slots.word word adopts.taken 4;
  turn = inr (inr (word, adopts-found groups a b owner slot word 4 tag seen adopts.taken found has its_group));
  after = after-pass number a c d owner adopts.rest found.remembered
      (adopting_steps groups owner tag found.slots.word word adopts.taken 4) tag mode
      unlocked found.no_more (adopted-holding groups a b c owner word 4 tag seen found adopts) passed;
}

-- and one that is cut short.
pub stops-adopting :
    (groups number : ℕ) (a b c d : Account) (owner slot word : ℕ) (tag : Tag) (seen : Sighting) → IsUnlocked a
    → (found : Finds groups a owner tag seen b)
    → HasRelation found.slots slot word tag → IsOfGroup (group_of_tag groups tag) slot
    → AdoptsSome b owner word tag c → d ≡ account_putting_fast number c owner
    → StopsAt groups a owner tag d
stops-adopting groups number a b c d owner slot word tag seen unlocked found has its_group some put =
    let below : ℕ = number_of some.refused in
    record {
      steps = adopting_steps groups owner tag found.slots.word word some.adopts.taken below;
      turn = record {
        shown = word;
        refused = some.refused;
        in_slot = some.in_slot;
        adopts = adopts-found groups a b owner slot word below tag seen some.adopts.taken found has its_group;
      };
      after = after-put number a c d owner some.adopts.rest found.remembered
          (adopting_steps groups owner tag found.slots.word word some.adopts.taken below)
          unlocked found.no_more (adopted-holding groups a b c owner word below tag seen found some.adopts) put;
    }
