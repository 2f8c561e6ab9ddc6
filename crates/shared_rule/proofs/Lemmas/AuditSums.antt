use Rattle.std.proofs.Common.{◌≡◌, ℕ, ◌+◌, ◌*◌, ◌<◌, ◌≤◌, true, List, [], ◌∷◌, length, Some, refl, sym, ap, ◌∙◌, subst, inl, inr, arith}
use Rattle.std.specs.Prelude.{◌==◌, sum, sum_by, count_by, if◌then◌else◌, Result, Ok, Err, IfOk, OnOk}
use Rattle.std.proofs.lemmas.Bool.{cases_eq, cond-true, cond-false, eq-eqb, ne_eqb}
use Rattle.std.proofs.lemmas.List.Sums.{sum_by-cons}
use Rattle.modes_core.specs.declared.modes.Mode.{Mode}
use Rattle.modes_core.specs.declared.tags.Tag.{Tag}
use Rattle.lock_table.specs.declared.rows.TableRow.{TableRow}
use Rattle.lock_table.specs.Put.{set_at}
use Rattle.lock_table.specs.Content.{Content}
use Rattle.lock_table.specs.Total.{total}
use Rattle.lock_table.specs.Listing.{HasEachRow}
use Rattle.lock_table.specs.WholeContent.{whole_of}
use Rattle.lock_table.proofs.Lemmas.Put.{set_at-here, set_at-else}
use Rattle.lock_table.proofs.Lemmas.Totals.{total-same, total-nothing, total-change}
use Rattle.lock_world.specs.Account.{Account}
use Rattle.lock_world.specs.Counted.{count_at}
use Rattle.lock_world.specs.SlotHolds.{group_size, most_groups}
use Rattle.lock_world.specs.Tallies.{AreSoMany, OwnStand, ShowsLeft, shown_in_slots}
use Rattle.lock_world.proofs.Lemmas.Tallies.Sums.{total-add}
use Rattle.lock_world.proofs.Lemmas.Tallies.Counters.{all-counted}
use Rattle.lock_world.proofs.Lemmas.Tallies.Sessions.{all-sum}
use Rattle.atomic_table.specs.Seated.{TableId}
use Rattle.lock_table.specs.declared.no_memory.NoMemory.{NoMemory}
use Rattle.lock_table.specs.WholeContent.{content_at}
use Rattle.lock_table.proofs.Lemmas.PartitionRows.{RowsMore, each-all}
use Rattle.shared_rule.specs.declared.audits.Audit.{Audit}
use Rattle.shared_rule.specs.declared.history.History.{History}
use Rattle.shared_rule.specs.declared.history.View.{View}
use Rattle.shared_rule.specs.History.{first_account, first_number}
use Rattle.shared_rule.specs.Openers.{OpenerState}
use Rattle.shared_rule.specs.Quiet.{first_quiet}
use Rattle.shared_rule.specs.Plays.{HasSession}
use Rattle.shared_rule.proofs.Lemmas.Auditing.{after-both, finds-traced}
use Rattle.shared_rule.proofs.Lemmas.FurtherViews.{further-then, further-all, sessions-split}
use Rattle.shared_rule.specs.Gatherings.{Gathered, account_among, IsNone, AreDistinct, NoneWaits, AreAll, counted_at, gathered_in}
use Rattle.shared_rule.specs.Audits.{OwnSoMany, account_after, counter_loads, all_slot_loads, holding_steps, audit_steps, IsFurther, CountersSeen, CountsFrom, CountsTo, Finds, AddsUp, CountsAll}

-- What an audit finds adds up to what those gathered own and have counted.

pub distinct-more : (issued limit : ℕ) (gathered : List Gathered) → issued ≤ limit → AreDistinct issued gathered → AreDistinct limit gathered
distinct-more issued limit [] within distinct = tt
distinct-more issued limit (one ∷ others) within distinct =
    let young : one.number < issued = distinct.0 in
    (omega (arith, young, within), distinct.1, distinct-more issued limit others within distinct.2)

-- how much the session of this number owns
many_among : List Gathered → List ℕ → ℕ → ℕ
many_among [] many number = 0
many_among (one ∷ others) [] number = 0
many_among (one ∷ others) (n ∷ ns) number = if one.number == number then n else many_among others ns number

many-none : (gathered : List Gathered) (many : List ℕ) (k : ℕ) → IsNone k gathered → many_among gathered many k ≡ 0
unfolding many_among
many-none [] many k none = refl
many-none (one ∷ others) [] k none = refl
many-none (one ∷ others) (n ∷ ns) k none = cond-false (one.number == k) n (many_among others ns k) (ne_eqb one.number k none.0) ∙ many-none others ns k none.1

sum-many : (limit : ℕ) (gathered : List Gathered) (many : List ℕ) → AreDistinct limit gathered → OwnSoMany gathered many → total limit (many_among gathered many) ≡ sum many
unfolding many_among
sum-many limit [] [] distinct own = total-nothing limit (many_among [] []) (λ k below. refl)
sum-many limit [] (n ∷ ns) distinct own = absurd own
sum-many limit (one ∷ others) [] distinct own = absurd own
sum-many limit (one ∷ others) (n ∷ ns) distinct own =
    let rest = sum-many limit others ns distinct.2 own.1 in
    let with_one : total limit (many_among (one ∷ others) (n ∷ ns)) ≡ total limit (set_at (many_among others ns) one.number n) =
    total-same limit _ _ (λ k below.
    elim (cases_eq k one.number) [
      | inl same ↦ cond-true (one.number == k) n (many_among others ns k) (eq-eqb one.number k (sym same)) ∙ sym (set_at-here (many_among others ns) one.number n k same)
      | inr other ↦ cond-false (one.number == k) n (many_among others ns k) (ne_eqb one.number k (λ e. other (sym e))) ∙ sym (set_at-else (many_among others ns) one.number n k other)
    ]) in
    let change = total-change limit (many_among others ns) one.number n distinct.0 in
    let zeroth = many-none others ns one.number distinct.1 in
    let whole = sum_by-cons (λ (k : ℕ). k) n ns in
    omega (arith, rest, with_one, change, zeroth, whole)

owned-among : (gathered : List Gathered) (many : List ℕ) → OwnSoMany gathered many → (k : ℕ) → AreSoMany (account_among gathered k).own (many_among gathered many k)
unfolding many_among
owned-among [] many own k = record { listed = []; each_once = λ tag mode. refl; as_many = refl }
owned-among (one ∷ others) [] own k = absurd own
owned-among (one ∷ others) (n ∷ ns) own k =
    elim (cases_eq one.number k) [
      | inl same ↦
          subst (λ (a : Account). AreSoMany a.own (many_among (one ∷ others) (n ∷ ns) k)) (sym (cond-true (one.number == k) one.account (account_among others k) (eq-eqb one.number k same)))
          (subst (AreSoMany one.account.own) (sym (cond-true (one.number == k) n (many_among others ns k) (eq-eqb one.number k same))) own.0)
      | inr other ↦
          subst (λ (a : Account). AreSoMany a.own (many_among (one ∷ others) (n ∷ ns) k)) (sym (cond-false (one.number == k) one.account (account_among others k) (ne_eqb one.number k other)))
          (subst (AreSoMany (account_among others k).own) (sym (cond-false (one.number == k) n (many_among others ns k) (ne_eqb one.number k other))) (owned-among others ns own.1 k))
    ]

within-among : (limit : ℕ) (gathered : List Gathered) → AreDistinct limit gathered → (k : ℕ) (tag : Tag) (mode : Mode) → (account_among gathered k).own tag mode ≡ true → k < limit
within-among limit [] distinct k tag mode own = absurd (cc (own))
within-among limit (one ∷ others) distinct k tag mode own =
    elim (cases_eq one.number k) [
      | inl same ↦ subst (λ n. n < limit) same distinct.0
      | inr other ↦
          within-among limit others distinct.2 k tag mode
          (ap (λ (a : Account). a.own tag mode) (sym (cond-false (one.number == k) one.account (account_among others k) (ne_eqb one.number k other))) ∙ own)
    ]

-- Slots and rows,
pub held-sum : (limit groups : ℕ) → 0 < groups → groups ≤ most_groups → (gathered : List Gathered) (contents : ℕ → Content) (word : ℕ → ℕ → ℕ) (rows : List TableRow) (many : List ℕ) → AreDistinct limit gathered
    → ((k : ℕ) → OwnStand groups k (account_among gathered k) contents)
    → ((k slot : ℕ) → k < limit → slot < group_size * groups → ShowsLeft k (account_among gathered k) contents slot (word k slot))
    → HasEachRow (whole_of contents) rows → OwnSoMany gathered many
    → shown_in_slots limit groups word + count_by (λ (row : TableRow). row.granted) rows ≡ sum many
held-sum limit groups some few gathered contents word rows many distinct stand left each own =
    all-sum limit groups some few (account_among gathered) contents word (many_among gathered many) stand left (owned-among gathered many own) (within-among limit gathered distinct) rows each
    ∙ sum-many limit gathered many distinct own

-- and counters.
pub strong-sum : (gathered : List Gathered) → total 1024 (λ index. counted_at index gathered) ≡ sum_by (λ one. length one.account.fast.counted) gathered
strong-sum [] = total-nothing 1024 (λ index. 0) (λ index below. refl)
strong-sum (one ∷ others) =
    let rest = strong-sum others in
    let split : total 1024 (λ index. counted_at index (one ∷ others)) ≡ total 1024 (λ index. count_at index one.account.fast.counted + counted_at index others) =
    total-same 1024 _ _ (λ index below. sum_by-cons (λ (g : Gathered). count_at index g.account.fast.counted) one others) in
    let both = total-add 1024 (λ index. count_at index one.account.fast.counted) (λ index. counted_at index others) in
    let here = all-counted one.account.fast.counted in
    let whole = sum_by-cons (λ (g : Gathered). length g.account.fast.counted) one others in
    omega (arith, rest, split, both, here, whole)

pub has-first : {T : Type 0} (view : View T) (gathered : List (History T)) → view.sessions ≡ gathered → (first : History T) × (others : List (History T)) × (gathered ≡ first ∷ others)
    → HasSession view
has-first view gathered is some = record { history = some.0; others = some.1; sessions = is ∙ some.2 }

pub are-all : {T : Type 0} (view : View T) (issued : ℕ) → view.next ≡ Some issued → length view.sessions + length view.closed ≡ issued → AreAll issued view
are-all view issued next all = record { next = next; all = all }

-- All that an audit of those gathered does and finds.
module _ {T : Type 0} (content : T → Content) (table later : TableId) (limit groups issued strong fast : ℕ) (some_groups : 0 < groups) (few_groups : groups ≤ most_groups) (v0 v1 v2 : View T) (rows : List TableRow) (r : Result (Unit {0}) NoMemory)
    (same_table : later ≡ table) (has : HasSession v0) (are : AreAll issued v0) (within : issued ≤ limit) (nobody : NoneWaits (gathered_in content v0.sessions))
    (seen : CountersSeen content 1024 v0 v1 strong) (counts : CountsFrom content groups 0 limit v1 [] r fast v2 rows) where
  abbrev before : OpenerState T
  before = record { table = table; issued = issued; limit = limit; groups = groups; closed = v0.closed; gathered = v0.sessions }

  abbrev after : OpenerState T
  after = record { table = later; issued = issued; limit = limit; groups = groups; closed = v2.closed; gathered = v2.sessions }

  abbrev gathered : List Gathered
  gathered = gathered_in content v0.sessions

  abbrev shown : ℕ → ℕ
  shown index = counted_at index gathered

  further : IsFurther v0 v2
  further = further-then v0 v1 v2 seen.further counts.further

  sixteen : length counts.contents ≡ 16
  sixteen = let last = counts.last in omega (arith, last)

  account : first_account content v2.sessions ≡ account_after (first_account content v0.sessions) (audit_steps limit groups shown counts.word counts.contents)
  account =
      after-both (first_account content v0.sessions) (first_account content v1.sessions) (first_account content v2.sessions)
      (counter_loads 1024 shown) (holding_steps 0 counts.contents (all_slot_loads limit groups counts.word)) seen.account counts.account

  made : (result : Result Audit NoMemory) → IfOk result (CountsTo limit groups shown counts.word counts.contents) → IfOk result (AddsUp gathered) → CountsAll content before after result
  made result counted adds_up = record {
    counts = record { counters = shown; word = counts.word; contents = counts.contents; sixteen = sixteen; trace = ap (λ (a : Account). a.trace) account; counted = counted };
    adds_up = adds_up;
    opener = λ i. record { table = same_table i; issued = issued; limit = limit; groups = groups; closed = further.closed i; gathered = v2.sessions };
    first = further.some.history;
    gathered = sessions-split v2 further.some ∙ ap (λ xs. further.some.history ∷ xs) further.behind;
    number = sym (ap first_number further.some.sessions) ∙ further.number;
    quiet = sym (ap first_quiet further.some.sessions) ∙ further.quiet;
    account =
        sym (ap (first_account content) further.some.sessions) ∙ account
        ∙ (λ i. record (first_account content v0.sessions) { trace = sym (ap (λ (a : Account). a.trace) account) i });
  }

  pub counts-refused : (e : NoMemory) → CountsAll content before after (Err e)
  counts-refused e = made (Err e) tt tt

  found : Finds content groups issued limit v0 (content_at counts.contents) counts.word
  found =
      finds-traced content groups issued limit v0 v1 (counter_loads 1024 shown) has seen.further seen.account (content_at counts.contents) counts.word
      (counts.finds issued (further-all v0 v1 issued has seen.further are) (content_at counts.contents) (λ p below. absurd (omega (arith, below)))
      (λ k below. let same : 0 + k ≡ k = omega arith in ap (content_at counts.contents) same))

  pub counts-all : (in_table : ℕ) → r ≡ Ok tt → in_table ≡ count_by (λ (row : TableRow). row.granted) rows
      → CountsAll content before after (Ok (record { fast = fast; table = in_table; strong = strong }))
  counts-all in_table ok granted =
      let each : HasEachRow (whole_of (content_at counts.contents)) rows =
      each-all counts.contents rows sixteen counts.of_partitions (rows-ok-as r ok counts.rows) in
      made (Ok (record { fast = fast; table = in_table; strong = strong }))
      (record { fast = counts.fast_; rows = rows; each_once = each; table = granted; strong = seen.sum_ })
      (record {
        held = λ many own.
            let sum_of =
            held-sum limit groups some_groups few_groups gathered (content_at counts.contents) counts.word rows many (distinct-more issued limit gathered within found.distinct) (found.stand nobody) found.left each own in
            let shown_as = counts.fast_ in
            omega (arith, sum_of, shown_as, granted);
        strong = seen.sum_ ∙ strong-sum gathered;
      }) where
        rows-ok-as : (answer : Result (Unit {0}) NoMemory) → answer ≡ Ok tt → OnOk answer (RowsMore counts.contents [] rows) → RowsMore counts.contents [] rows
        rows-ok-as (Ok u) is more = more
        rows-ok-as (Err e) is more = absurd (cc (is))
