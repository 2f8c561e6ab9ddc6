-- What is in all parts of the lock table, in one list.
use Rattle.std.proofs.Common.{◌≡◌, ◌≢◌, ℕ, ◌+◌, ◌<◌, ◌≤◌, Bool, true, false, not, ◌&&◌, ◌||◌, List, [], ◌∷◌, ◌++◌, take, length, get_or, arith, refl, sym, ap, ◌∙◌, subst, inl, inr, zero, suc, rules}
use Rattle.std.specs.Prelude.{map, filter, count_by, if◌then◌else◌}
use Rattle.std.specs.List.{list_any, flat_map}
use Rattle.std.proofs.lemmas.Bool.{cases_Bool, cases_lt, false≢true, false_from_ne_true}
use Rattle.std.proofs.lemmas.List.{flat_map_more, get_or_past, get_or_default, take_all}
use Rattle.std.proofs.lemmas.List.Elements.{filter-append, All-nil, All-map, All-append}
use Rattle.std.proofs.lemmas.List.Sums.{length-filter}
use Rattle.std.specs.List.Sorted.{IsStableByKey}
use Rattle.std.specs.Ordering.{nat_cmp, on, is_lt, is_eq, ordering_reverse}
use Rattle.std.specs.declared.cmp.Ordering.{Ordering}
use Rattle.std.specs.declared.cmp.Ordering.TheVariants.{Less, Equal, Greater}
use Rattle.std.specs.Cmp.{IsTotalOrder}
use Rattle.std.specs.Cmp.Rules.{comparing}
use Rattle.std.specs.Cmp.Lexicographic.{slice_cmp}
use Rattle.modes_core.specs.declared.modes.Mode.{Mode}
use Rattle.modes_core.specs.declared.modes.Mode.TheVariants.{AccessShare}
use Rattle.modes_core.specs.declared.tags.Tag.{Tag}
use Rattle.modes_core.specs.Tag.{tag_eq, numbers_of, partition_of}
use Rattle.modes_core.specs.TagOrder.{same_tag-by_numbers}
use Rattle.modes_core.proofs.Lemmas.Conflicts.{tag_eq-same, tag_eq-refl}
use Rattle.lock_table.specs.declared.request.Request.{Request}
use Rattle.lock_table.specs.declared.part_waits.PartWait.{PartWait}
use Rattle.lock_model.specs.declared.machine.plain.QueuedWait.{QueuedWait}
use Rattle.lock_table.specs.Request.{is_request_of}
use Rattle.lock_table.specs.PartView.{PartView}
use Rattle.lock_table.specs.PartWaits.{EachOnce, queues_in}
use Rattle.lock_table.specs.Parts.{no_part, part_at, contents_in, AreAtHome}
use Rattle.lock_model.specs.PlainLists.{table_hold_of, table_holds_of, queued_of}
use Rattle.lock_model.specs.Shows.{is_hold, ListsHolds, AreInTable}
use Rattle.lock_model.specs.declared.machine.plain.Spot.TheVariants.{Table}
use Rattle.lock_model.specs.Plain.{as_wait}
use Rattle.lock_table.proofs.Lemmas.Same.{same_triple-comm}
use Rattle.lock_table.proofs.Lemmas.HoldLists.{take_one_more}
use Rattle.lock_table.proofs.Lemmas.Lists.{any_weaker}
use Rattle.lock_table.proofs.Lemmas.Listing.{count_by-map, count_by-same, once_or_not}

-- the waits of a part, as the plain list has them
abbrev pub queued_waits_of : PartView → List QueuedWait
queued_waits_of part = map queued_of part.waits

-- Of lists that are joined, a filter keeps what it keeps of each.
filter-flat_map : {X Y : Type 0} (p : Y → Bool) (f : X → List Y) (xs : List X) → filter p (flat_map f xs) ≡ flat_map (λ x. filter p (f x)) xs
filter-flat_map p f [] = refl
filter-flat_map p f (x ∷ xs) = filter-append p (f x) (flat_map f xs) ∙ ap (λ ys. filter p (f x) ++ ys) (filter-flat_map p f xs)

-- Where each list is empty, so is their join; where all but one are, it is that one.
flat_map-none : {X Y : Type 0} (f : X → List Y) (xs : List X) (d : X) → ((r : ℕ) → f (get_or xs r d) ≡ []) → flat_map f xs ≡ []
flat_map-none f [] d none = refl
flat_map-none f (x ∷ xs) d none = ap (λ ys. ys ++ flat_map f xs) (none 0) ∙ flat_map-none f xs d (λ r. none (suc r))

append-nothing : {Y : Type 0} (ys : List Y) → ys ++ [] ≡ ys
append-nothing [] = refl
append-nothing (y ∷ ys) = ap (λ zs. y ∷ zs) (append-nothing ys)

flat_map-one : {X Y : Type 0} (f : X → List Y) (xs : List X) (d : X) (q : ℕ) → f d ≡ [] → ((r : ℕ) → r ≢ q → f (get_or xs r d) ≡ []) → flat_map f xs ≡ f (get_or xs q d)
flat_map-one f [] d q nothing others = sym nothing
flat_map-one f (x ∷ xs) d zero nothing others =
    ap (λ ys. f x ++ ys) (flat_map-none f xs d (λ r. others (suc r) (λ e. absurd (omega (arith, e))))) ∙ append-nothing (f x)
flat_map-one f (x ∷ xs) d (suc q) nothing others =
    ap (λ ys. ys ++ flat_map f xs) (others 0 (λ e. absurd (omega (arith, e))))
    ∙ flat_map-one f xs d q nothing (λ r apart. others (suc r) (λ e. apart (omega (arith, e))))

-- What a filter keeps of lists that are joined, where it keeps nothing of all but one.
pub filter-one :
    {X Y : Type 0} (p : Y → Bool) (f : X → List Y) (xs : List X) (d : X) (q : ℕ) → f d ≡ [] →
    ((r : ℕ) → r ≢ q → filter p (f (get_or xs r d)) ≡ []) → filter p (flat_map f xs) ≡ filter p (f (get_or xs q d))
filter-one p f xs d q nothing others =
    filter-flat_map p f xs ∙ flat_map-one (λ x. filter p (f x)) xs d q (ap (filter p) nothing) others

filter-nothing : {X Y : Type 0} (p : Y → Bool) (f : X → Y) (xs : List X) → list_any (λ x. p (f x)) xs ≡ false → filter p (map f xs) ≡ []
filter-nothing p f [] none = refl
filter-nothing p f (x ∷ xs) none =
    elim (cases_Bool (p (f x))) [
      | inl pass ↦ absurd (false≢true (sym none ∙ ap (λ b. b || list_any (λ y. p (f y)) xs) pass))
      | inr fail ↦ rw fail (filter-nothing p f xs (sym (ap (λ b. b || list_any (λ y. p (f y)) xs) fail) ∙ none))
    ]

-- The list that grows by what one part has.
pub gathered-more :
    {Y : Type 0} (f : PartView → List Y) (parts : List PartView) (i : ℕ) (part : PartView) (before after : List Y) →
    i < length parts → part ≡ get_or parts i part → before ≡ flat_map f (take i parts) → after ≡ before ++ f part → after ≡ flat_map f (take (i + 1) parts)
gathered-more f parts i part before after within is so_far more =
    more ∙ ap (λ ys. ys ++ f part) so_far ∙ flat_map_more f [] (take i parts) part ∙ ap (flat_map f) (sym (take_one_more parts i part within is))

pub EachOnce-more :
    (parts : List PartView) (i : ℕ) (part : PartView) → i < length parts → part ≡ get_or parts i part →
    ((p : ℕ) → p < i → EachOnce (part_at parts p).holds (part_at parts p).waits) → EachOnce part.holds part.waits →
    (p : ℕ) → p < i + 1 → EachOnce (part_at parts p).holds (part_at parts p).waits
EachOnce-more parts i part within is before new p below =
    elim (cases_lt p i) [
      | inl earlier ↦ before p earlier
      | inr reached ↦
          let last : p ≡ i = omega arith in
          let read : part ≡ part_at parts p = is ∙ get_or_default parts i part no_part within ∙ ap (part_at parts) (sym last) in
          subst (λ (x : PartView). EachOnce x.holds x.waits) read new
    ]

-- A hold of the plain list is a session's where the request is.
table_hold-is : (s : ℕ) (o : Tag) (m : Mode) (hold : Request) → is_hold s o m (table_hold_of hold) ≡ is_request_of hold s o m
table_hold-is s o m hold = same_triple-comm hold.session hold.tag hold.mode s o m

-- The list of the holds of all parts has each of them once, where each is in its partition.
pub ListsHolds-gathered :
    (parts : List PartView) → ((p : ℕ) → p < length parts → EachOnce (part_at parts p).holds (part_at parts p).waits) → AreAtHome parts →
    ListsHolds (flat_map table_holds_of parts) (λ session tag mode. (contents_in parts (partition_of tag)).holds session tag mode)
ListsHolds-gathered parts once home s o m = counted where
  none_elsewhere : (r : ℕ) → r ≢ partition_of o → filter (is_hold s o m) (table_holds_of (part_at parts r)) ≡ []
  none_elsewhere r apart =
      filter-nothing (is_hold s o m) table_hold_of (part_at parts r).holds
      (false_from_ne_true _ (λ any. apart (sym (home.holds r s o m (any_weaker (λ hold. is_hold s o m (table_hold_of hold)) (λ hold. is_request_of hold s o m) (part_at parts r).holds (λ hold e. sym (table_hold-is s o m hold) ∙ e) any)))))

  at_most : count_by (λ hold. is_request_of hold s o m) (part_at parts (partition_of o)).holds ≤ 1
  at_most =
      elim (cases_lt (partition_of o) (length parts)) [
        | inl within ↦ let total = once (partition_of o) within s o m in omega (arith, total)
        | inr past ↦ rw (get_or_past parts (partition_of o) no_part past) (omega arith)
      ]

  counted : count_by (is_hold s o m) (flat_map table_holds_of parts) ≡ (if (contents_in parts (partition_of o)).holds s o m then 1 else 0)
  counted =
      sym (length-filter (is_hold s o m) (flat_map table_holds_of parts))
      ∙ ap length (filter-one (is_hold s o m) table_holds_of parts no_part (partition_of o) refl none_elsewhere)
      ∙ length-filter (is_hold s o m) (table_holds_of (part_at parts (partition_of o)))
      ∙ count_by-map (is_hold s o m) table_hold_of (part_at parts (partition_of o)).holds
      ∙ count_by-same (λ hold. is_hold s o m (table_hold_of hold)) (λ hold. is_request_of hold s o m) (part_at parts (partition_of o)).holds (table_hold-is s o m)
      ∙ once_or_not (λ hold. is_request_of hold s o m) (part_at parts (partition_of o)).holds at_most

-- Each of them is in the lock table.
pub AreInTable-gathered : (parts : List PartView) → AreInTable (flat_map table_holds_of parts)
AreInTable-gathered [] = All-nil (λ hold. hold.spot ≡ Table)
AreInTable-gathered (part ∷ parts) =
    All-append (λ hold. hold.spot ≡ Table) (table_holds_of part) (flat_map table_holds_of parts)
    (All-map (λ hold. hold.spot ≡ Table) table_hold_of part.holds (λ k d within. refl)) (AreInTable-gathered parts)

-- whether two tags are the same one goes both ways
tag_eq_comm : (x y : Tag) → tag_eq x y ≡ tag_eq y x
tag_eq_comm x y =
    elim (cases_Bool (tag_eq x y)) [
      | inl same ↦ same ∙ sym (ap (λ z. tag_eq z x) (sym (tag_eq-same x y same)) ∙ tag_eq-refl x)
      | inr apart ↦ apart ∙ sym (false_from_ne_true (tag_eq y x) (λ same. false≢true (sym apart ∙ ap (λ z. tag_eq z y) (sym (tag_eq-same y x same)) ∙ tag_eq-refl y)))
    ]

-- The waits of the plain list on an object are its queue.
queue-queued : (ws : List PartWait) (o : Tag) → map as_wait (filter (λ queued. tag_eq queued.tag o) (map queued_of ws)) ≡ queues_in ws o
queue-queued [] o = refl
queue-queued (w ∷ ws) o =
    elim (cases_Bool (tag_eq o w.tag)) [
      | inl on ↦ let too : tag_eq w.tag o ≡ true = tag_eq_comm w.tag o ∙ on in rw (on, too) (ap (λ q. as_wait (queued_of w) ∷ q) (queue-queued ws o))
      | inr off ↦ let too : tag_eq w.tag o ≡ false = tag_eq_comm w.tag o ∙ off in rw (off, too) (queue-queued ws o)
    ]

map-nothing : {X Y : Type 0} (f : X → Y) (xs : List X) → map f xs ≡ [] → xs ≡ []
map-nothing f [] e = refl
map-nothing f (x ∷ xs) e = absurd cc

pub waits-gathered :
    (parts : List PartView) → AreAtHome parts → (o : Tag) →
    map as_wait (filter (λ queued. tag_eq queued.tag o) (flat_map queued_waits_of parts)) ≡ (contents_in parts (partition_of o)).waits o
waits-gathered parts home o =
    ap (map as_wait) (filter-one (λ queued. tag_eq queued.tag o) queued_waits_of parts no_part (partition_of o) refl none_elsewhere)
    ∙ queue-queued (part_at parts (partition_of o)).waits o where
      none_elsewhere : (r : ℕ) → r ≢ partition_of o → filter (λ queued. tag_eq queued.tag o) (queued_waits_of (part_at parts r)) ≡ []
      none_elsewhere r apart =
          map-nothing as_wait _ (queue-queued (part_at parts r).waits o ∙ home.waits r o (λ e. apart (sym e)))

-- Two tags that the order does not distinguish are one.
tag_order : IsTotalOrder (on numbers_of (slice_cmp nat_cmp))
tag_order = search (comparing, rules)

ties_by : (r : Ordering) → (not (is_lt r) && not (is_lt (ordering_reverse r))) ≡ is_eq r
ties_by Less = refl
ties_by Equal = refl
ties_by Greater = refl

tags_tie :
    (x y : Tag) →
    (not (is_lt (on numbers_of (slice_cmp nat_cmp) x y)) && not (is_lt (on numbers_of (slice_cmp nat_cmp) y x))) ≡ tag_eq y x
tags_tie x y =
    ap (λ r. not (is_lt (on numbers_of (slice_cmp nat_cmp) x y)) && not (is_lt r)) (tag_order.antisymm y x)
    ∙ ties_by (on numbers_of (slice_cmp nat_cmp) x y)
    ∙ sym (same_tag-by_numbers tag_eq (λ _ _ _ _. refl) (λ _ _ _ _ _ _ _ _. refl) (λ _ _ _ _ _ _ _ _. refl) (λ _ _ _ _ _ _. refl)
    (λ _ _ _ _ _ _. refl) (λ _ _ _ _ _ _. refl) (λ _ _ _ _ _ _. refl) (λ _ _ _ _ _ _ _ _. refl) (λ _ _ _ _ _ _ _ _. refl) x y)
    ∙ tag_eq_comm x y

filter-same : {X : Type 0} (p q : X → Bool) (xs : List X) → ((x : X) → p x ≡ q x) → filter p xs ≡ filter q xs
filter-same p q xs same = λ i. filter (λ x. same x i) xs

-- A stable sort by tag keeps the waits on an object in their order.
queue-sorted :
    (before after : List QueuedWait) → IsStableByKey (λ queued. queued.tag) (on numbers_of (slice_cmp nat_cmp)) before after →
    (o : Tag) → filter (λ queued. tag_eq queued.tag o) after ≡ filter (λ queued. tag_eq queued.tag o) before
queue-sorted before after stable o =
    filter-same (λ queued. tag_eq queued.tag o) ties_with after (λ queued. sym (tags_tie o queued.tag))
    ∙ stable (record { session = 0; tag = o; mode = AccessShare; held = 0 })
    ∙ filter-same ties_with (λ queued. tag_eq queued.tag o) before (λ queued. tags_tie o queued.tag) where
      ties_with : QueuedWait → Bool
      ties_with queued =
          not (is_lt (on numbers_of (slice_cmp nat_cmp) o queued.tag)) && not (is_lt (on numbers_of (slice_cmp nat_cmp) queued.tag o))

pub waits-sorted :
    (parts : List PartView) (before after : List QueuedWait) → before ≡ flat_map queued_waits_of parts →
    IsStableByKey (λ queued. queued.tag) (on numbers_of (slice_cmp nat_cmp)) before after → AreAtHome parts → (o : Tag) →
    map as_wait (filter (λ queued. tag_eq queued.tag o) after) ≡ (contents_in parts (partition_of o)).waits o
waits-sorted parts before after all stable home o =
    ap (map as_wait) (queue-sorted before after stable o)
    ∙ ap (λ list. map as_wait (filter (λ queued. tag_eq queued.tag o) list)) all
    ∙ waits-gathered parts home o

-- All parts are gathered once the loop is past the last one.
pub gathered-all : {Y : Type 0} (f : PartView → List Y) (parts : List PartView) (i : ℕ) (list : List Y) → length parts ≤ i → list ≡ flat_map f (take i parts) → list ≡ flat_map f parts
gathered-all f parts i list past so_far = so_far ∙ ap (flat_map f) (take_all i parts past)
