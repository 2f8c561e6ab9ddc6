use Rattle.std.proofs.Common.{◌≡◌, ◌≢◌, ℕ, zero, suc, ◌+◌, ◌-◌, ◌*◌, ◌<◌, ◌≤◌, true, false, List, [], ◌∷◌, ◌++◌, length, take}
use Rattle.std.proofs.Common.{Result, Ok, Err, OnOk, refl, sym, ap, ◌∙◌, subst, arith, append_assoc}
use Rattle.std.proofs.Common.{append-nil, inl, inr}
use Rattle.std.specs.Prelude.{◌==◌, is_ok}
use Rattle.std.proofs.lemmas.Bool.{cases_eq, both_ways, false_from_ne_true, and_from, eq-eqb, cond-false, true≢false, false≢true}
use Rattle.std.proofs.lemmas.List.{take_at}
use Rattle.modes_core.specs.declared.modes.Mode.{Mode}
use Rattle.modes_core.specs.declared.modes.Mode.TheVariants.{AccessShare, RowShare, RowExclusive}
use Rattle.lw_word.specs.SlotWord.{relation_in, in_use, has_mode}
use Rattle.lock_table.specs.declared.no_memory.NoMemory.{NoMemory}
use Rattle.lock_table.specs.declared.rows.SlotRow.{SlotRow}
use Rattle.lock_table.specs.Put.{set_at}
use Rattle.lock_table.proofs.Lemmas.Put.{set_at-here, set_at-else}
use Rattle.lock_world.specs.declared.events.Word.TheVariants.{Database}
use Rattle.lock_world.specs.SlotHolds.{group_size, most_groups, slot_count, AreInGroups, ShowsNoMore}
use Rattle.lock_world.proofs.Lemmas.Slots.Used.{shows-used, none_past-groups}
use Rattle.lock_world.specs.World.{TraceEntry, Loaded}
use Rattle.lock_world.specs.Account.{Account}
use Rattle.lock_world.specs.AccountSteps.{account_unsharing_fast}
use Rattle.shared_rule.specs.History.{slots_here}
use Rattle.fast_path.specs.Slots.{all_loads, account_loading}
use Rattle.fast_path.specs.Rows.{database_in, mode_row, rows_of_slot, rows_below, rows_of_session, rows_of_all, loads_of_all}
use Rattle.fast_path.specs.Rows.{ReadsSlots, ListsSlots, ListsSession, BeginsWith}
use Rattle.fast_path.specs.Turns.{IsUnlocked}
use Rattle.fast_path.specs.Transfers.{IsAfterScan}
use Rattle.fast_path.proofs.Lemmas.Turns.{remembered_then, remembered-no_more, after-from}
use Rattle.fast_path.proofs.Lemmas.Reads.{Reads, slots-shared, reads-slots, its_loads, read-unshared}
use Rattle.fast_path.proofs.Lemmas.Reads.{remembered-own, remembered-other}

-- Rows of what sessions' slots show.

-- ---- lists, one behind another

pub rows_below-start : (old : List SlotRow) (rows : ℕ → List SlotRow) → old ≡ old ++ rows_below 0 rows
unfolding rows_below
rows_below-start old rows = sym (append-nil old)

pub rows_below-more :
    (limit : ℕ) (rows : ℕ → List SlotRow) (old before after : List SlotRow) → before ≡ old ++ rows_below limit rows
    → after ≡ before ++ rows limit
    → after ≡ old ++ rows_below (limit + 1) rows
unfolding rows_below
rows_below-more limit rows old before after so_far more =
    let one : suc limit ≡ limit + 1 = omega arith in
    more ∙ ap (λ xs. xs ++ rows limit) so_far ∙ append_assoc old (rows_below limit rows) (rows limit)
    ∙ ap (λ n. old ++ rows_below n rows) one

-- One slot's rows more are listed, where those before it were.
pub listed-next :
    (limit : ℕ) (rows : ℕ → List SlotRow) (old before after : List SlotRow) (was now : Result (Unit {0}) NoMemory)
    → is_ok was ≡ true → OnOk was (before ≡ old ++ rows_below limit rows) → OnOk now (after ≡ before ++ rows limit)
    → OnOk now (after ≡ old ++ rows_below (limit + 1) rows)
listed-next limit rows old before after (Ok a) (Ok b) there so_far more = rows_below-more limit rows old before after so_far more
listed-next limit rows old before after (Ok a) (Err e) there so_far more = tt
listed-next limit rows old before after (Err e) now there so_far more = absurd (false≢true there)

-- Rows that are listed by an answer and a list are listed by equal ones.
pub listed-same : (all : List SlotRow) (a b : Result (Unit {0}) NoMemory) (x y : List SlotRow) → a ≡ b → x ≡ y → OnOk b (y ≡ all) → OnOk a (x ≡ all)
listed-same all a b x y same_answer same_list is =
    subst (λ r. OnOk r (x ≡ all)) (sym same_answer) (subst (λ l. OnOk b (l ≡ all)) (sym same_list) is)

-- Where memory ran out before, nothing more is said of the list.
pub listed-out : (P : Type 0) (was : Result (Unit {0}) NoMemory) → is_ok was ≡ false → OnOk was P
listed-out P (Ok a) none = absurd (true≢false none)
listed-out P (Err e) none = tt

rows_below-same : (limit : ℕ) (f g : ℕ → List SlotRow) → ((k : ℕ) → k < limit → f k ≡ g k)
    → rows_below limit f ≡ rows_below limit g
unfolding rows_below
rows_below-same zero f g same = refl
rows_below-same (suc limit) f g same =
    let before : rows_below limit f ≡ rows_below limit g = rows_below-same limit f g
    (λ k below. same k (omega (arith, below))) in
    let last : f limit ≡ g limit = same limit (omega arith) in
    (λ i. before i ++ last i)

loads-same :
    (groups limit : ℕ) (f g : ℕ → ℕ) (v w : ℕ → ℕ → ℕ) → ((k : ℕ) → k < limit → f k ≡ g k) → ((k : ℕ) → k < limit → v k ≡ w k)
    → loads_of_all groups limit f v ≡ loads_of_all groups limit g w
unfolding loads_of_all
loads-same groups zero f g v w same same_words = refl
loads-same groups (suc limit) f g v w same same_words =
    let before : loads_of_all groups limit f v ≡ loads_of_all groups limit g w =
    loads-same groups limit f g v w (λ k below. same k (omega (arith, below)))
    (λ k below. same_words k (omega (arith, below))) in
    let last : f limit ≡ g limit = same limit (omega arith) in
    let last_words : v limit ≡ w limit = same_words limit (omega arith) in
    (λ i. before i ++ Loaded (Database limit) (last i) ∷ all_loads groups limit (last_words i))

-- One session's more.
loads-more :
    (groups limit : ℕ) (database : ℕ → ℕ) (word : ℕ → ℕ → ℕ) (shown : ℕ) (its : ℕ → ℕ)
    → loads_of_all groups limit database word ++ Loaded (Database limit) shown ∷ all_loads groups limit its
    ≡ loads_of_all groups (suc limit) (set_at database limit shown) (set_at word limit its)
unfolding loads_of_all
loads-more groups limit database word shown its =
    let before : loads_of_all groups limit database word ≡ loads_of_all groups limit (set_at database limit shown)
    (set_at word limit its) =
    loads-same groups limit database (set_at database limit shown) word (set_at word limit its)
    (λ k below. sym (set_at-else database limit shown k (λ same. omega (arith, below, same))))
    (λ k below. sym (set_at-else word limit its k (λ same. omega (arith, below, same)))) in
    (λ i. before i ++ Loaded (Database limit) (sym (set_at-here database limit shown limit refl) i)
    ∷ all_loads groups limit (sym (set_at-here word limit its limit refl) i))

rows-more :
    (limit : ℕ) (database : ℕ → ℕ) (word : ℕ → ℕ → ℕ) (shown : ℕ) (its : ℕ → ℕ)
    → rows_of_all limit database word ++ rows_of_session limit (database_in shown) its
    ≡ rows_of_all (suc limit) (set_at database limit shown) (set_at word limit its)
unfolding rows_below
rows-more limit database word shown its =
    let before : rows_of_all limit database word ≡ rows_of_all limit (set_at database limit shown)
    (set_at word limit its) =
    rows_below-same limit (λ k. rows_of_session k (database_in (database k)) (word k))
    (λ k. rows_of_session k (database_in (set_at database limit shown k)) (set_at word limit its k))
    (λ k below. (λ i. rows_of_session k
    (database_in (sym (set_at-else database limit shown k (λ same. omega (arith, below, same))) i))
    (sym (set_at-else word limit its k (λ same. omega (arith, below, same))) i))) in
    (λ i. before i ++ rows_of_session limit (database_in (sym (set_at-here database limit shown limit refl) i))
    (sym (set_at-here word limit its limit refl) i))

-- ---- a list that begins with another

pub behind-more : (xs ys zs : List SlotRow) → BeginsWith xs ys → BeginsWith ys zs → BeginsWith xs zs
behind-more xs ys zs first second =
    (first.0 ++ second.0, second.1 ∙ ap (λ its. its ++ second.0) first.1 ∙ append_assoc xs first.0 second.0)

-- Cut to what it had it is what it was.
pub behind-cut : (xs ys zs : List SlotRow) (n : ℕ) → BeginsWith xs ys → n ≡ length xs → zs ≡ take n ys → zs ≡ xs
behind-cut xs ys zs n behind is cut = cut ∙ ap (take n) behind.1 ∙ take_at xs behind.0 n (sym is)

-- ---- one session

-- A slot that is not in use has no row.
rows-unused : (session database slot word : ℕ) → in_use word ≡ false → rows_of_slot session database slot word ≡ []
rows-unused session database slot word unused =
    (λ i. row_if AccessShare i ++ (row_if RowShare i ++ row_if RowExclusive i)) where
      none : (mode : Mode) → has_mode word mode ≡ false
      none mode = false_from_ne_true (has_mode word mode) (λ has.
          both_ways (in_use word) unused (shows-used word (relation_in word) mode
          (and_from (has_mode word mode) (relation_in word == relation_in word) has
          (eq-eqb (relation_in word) (relation_in word) refl))))

      row_if : (mode : Mode) → mode_row session database slot word mode ≡ []
      row_if mode = cond-false (has_mode word mode) _ [] (none mode)

-- Lists past a limit that are empty add nothing.
rows_below-past :
    (limit more : ℕ) (rows : ℕ → List SlotRow) → ((k : ℕ) → limit ≤ k → k < limit + more → rows k ≡ [])
    → rows_below (limit + more) rows ≡ rows_below limit rows
unfolding rows_below
rows_below-past limit zero rows none =
    let same : limit + 0 ≡ limit = omega arith in
    ap (λ n. rows_below n rows) same
rows_below-past limit (suc more) rows none =
    let next : limit + suc more ≡ suc (limit + more) = omega arith in
    let last : rows (limit + more) ≡ [] = none (limit + more) (omega arith) (omega arith) in
    ap (λ n. rows_below n rows) next ∙ ap (λ xs. rows_below (limit + more) rows ++ xs) last
    ∙ append-nil (rows_below (limit + more) rows)
    ∙ rows_below-past limit more rows (λ k from below. none k from (omega (arith, below)))

-- The rows of the slots of `groups` groups are those of all slots, where each in use is of its relation's
-- group.
pub rows-of_groups :
    (groups session database : ℕ) (words : ℕ → ℕ) → 0 < groups → groups ≤ most_groups → AreInGroups groups words
    → rows_below (group_size * groups) (λ slot. rows_of_slot session database slot (words slot))
    ≡ rows_of_session session database words
rows-of_groups groups session database words some few in_groups =
    let all : slot_count ≡ group_size * groups + (slot_count - group_size * groups) = omega (arith, few) in
    sym (ap (λ n. rows_below n (λ slot. rows_of_slot session database slot (words slot))) all
    ∙ rows_below-past (group_size * groups) (slot_count - group_size * groups)
    (λ slot. rows_of_slot session database slot (words slot))
    (λ k from below. rows-unused session database k (words k)
    (none_past-groups groups words in_groups some k from (omega (arith, below, few)))))

pub lists-session :
    (groups own : ℕ) (a b v c : Account) (owner shown database count : ℕ) (old new : List SlotRow)
    (result : Result (Unit {0}) NoMemory)
    → IsUnlocked a → 0 < groups → groups ≤ most_groups → count ≡ group_size * groups
    → (read : Reads groups own a owner shown b)
    → v ≡ account_loading b owner (λ k. k) (slots_here (b.fast.shared_slots owner)).word count
    → c ≡ account_unsharing_fast v owner
    → database ≡ database_in shown
    → OnOk result (new ≡ old ++ rows_below count
    (λ slot. rows_of_slot owner database slot ((slots_here (b.fast.shared_slots owner)).word slot)))
    → ListsSession groups own a owner old result new c
lists-session groups own a b v c owner shown database count old new result unlocked some few all read loaded put
    same listed =
    record {
      shown = shown;
      word = read.slots.word;
      shared = reads-slots groups own a b owner shown read;
      own = λ its. remembered ∙ remembered-own own a owner read.slots its;
      of_another = λ other. remembered ∙ remembered-other own a owner read.slots other;
      listed = at result listed;
      no_more = after.no_more;
      account = after.account;
    } where
      is : c ≡ record a {
        fast = record (a.fast) { remembered = remembered_then own a owner read.slots };
        trace = a.trace ++ its_loads groups own a b owner shown read;
      }
      is = read-unshared groups own a b owner shown read v count all loaded c unlocked.no_shared_slots put

      remembered : c.fast.remembered ≡ remembered_then own a owner read.slots
      remembered = ap (λ (x : Account). x.fast.remembered) is

      after : IsAfterScan a a.fast.counted (its_loads groups own a b owner shown read) c
      after = after-from a c (remembered_then own a owner read.slots) a.fast.counted
          (its_loads groups own a b owner shown read) (remembered-no_more groups own a owner read.slots read.knows) is

      its : ℕ → List SlotRow
      its slot = rows_of_slot owner database slot ((slots_here (b.fast.shared_slots owner)).word slot)

      rows : rows_below count its ≡ rows_of_session owner (database_in shown) read.slots.word
      rows = rows_below-same count its (λ slot. rows_of_slot owner (database_in shown) slot (read.slots.word slot))
          (λ slot within. (λ i. rows_of_slot owner (same i) slot
          ((slots_here (slots-shared groups own a b owner shown read i)).word slot)))
          ∙ ap (λ n. rows_below n (λ slot. rows_of_slot owner (database_in shown) slot (read.slots.word slot))) all
          ∙ rows-of_groups groups owner (database_in shown) read.slots.word some few read.knows.in_groups

      at : (r : Result (Unit {0}) NoMemory)
          → OnOk r (new ≡ old ++ rows_below count
          (λ slot. rows_of_slot owner database slot ((slots_here (b.fast.shared_slots owner)).word slot)))
          → OnOk r (new ≡ old ++ rows_of_session owner (database_in shown) read.slots.word)
      at (Ok done) is = is ∙ (λ i. old ++ rows i)
      at (Err refusal) is = tt

-- ---- one session after another

-- What it reads by an account with more steps, it reads by the earlier one.
has-before :
    (groups own : ℕ) (a b : Account) (session database : ℕ) (word : ℕ → ℕ) → b.own ≡ a.own → b.fast.database ≡ a.fast.database
    → ShowsNoMore b.fast.remembered a.fast.remembered → ReadsSlots groups own b session database word
    → ReadsSlots groups own a session database word
has-before groups own a b session database word same_own same_database no_more has = record {
  slots = has.slots;
  knows = record {
    database = has.knows.database;
    holds = has.knows.holds;
    one_each = has.knows.one_each;
    in_groups = has.knows.in_groups;
    in_use = has.knows.in_use;
    own_database = λ its. has.knows.own_database its ∙ same_database;
    own = λ its tag mode shown. ap (λ holds. holds tag mode) (sym same_own) ∙ has.knows.own its tag mode shown;
    as_remembered = λ its slot relation mode within shown.
        no_more slot relation mode within (has.knows.as_remembered its slot relation mode within shown);
  };
  words = has.words;
  holds = has.holds;
  own_database = λ its. has.own_database its ∙ same_database;
}

-- With one more session.
has-next :
    (groups own : ℕ) (a : Account) (limit : ℕ) (database : ℕ → ℕ) (word : ℕ → ℕ → ℕ) (shown : ℕ) (its : ℕ → ℕ)
    → ((session : ℕ) → session < limit → ReadsSlots groups own a session (database session) (word session))
    → ReadsSlots groups own a limit shown its
    → (session : ℕ) → session < limit + 1
    → ReadsSlots groups own a session (set_at database limit shown session) (set_at word limit its session)
has-next groups own a limit database word shown its so_far has session below = elim (cases_eq session limit) [
  | inl same ↦
      subst (λ (d : ℕ). ReadsSlots groups own a session d (set_at word limit its session))
      (sym (set_at-here database limit shown session same))
      (subst (λ (w : ℕ → ℕ). ReadsSlots groups own a session shown w) (sym (set_at-here word limit its session same))
      (subst (λ (k : ℕ). ReadsSlots groups own a k shown its) (sym same) has))
  | inr other ↦
      subst (λ (d : ℕ). ReadsSlots groups own a session d (set_at word limit its session))
      (sym (set_at-else database limit shown session other))
      (subst (λ (w : ℕ → ℕ). ReadsSlots groups own a session (database session) w) (sym (set_at-else word limit its session other))
      (so_far session (omega (arith, below, other))))
]

pub listing-begun : (groups own : ℕ) (a : Account) (old : List SlotRow) → ListsSlots groups own 0 a old (Ok tt) old a
unfolding loads_of_all
listing-begun groups own a old = record {
  database = λ _. 0;
  word = λ _ _. 0;
  listed = rows_below-start old (λ session. rows_of_session session 0 (λ _. 0));
  kept = tt;
  loaded = 0;
  within = omega arith;
  all_loaded = refl;
  shared = λ session below. absurd (omega (arith, below));
  own = λ below. absurd (omega (arith, below));
  no_more = λ slot relation mode within shown. shown;
  account = (λ i. record a { trace = sym (append-nil a.trace) i });
}

module _ (groups own k : ℕ) (a b c : Account) (old mid new : List SlotRow) (so_far : ListsSlots groups own k a old (Ok tt) mid b) where
  has-so_far :
      (shown : ℕ) (its : ℕ → ℕ) → ReadsSlots groups own b k shown its → (session : ℕ) → session < k + 1
      → ReadsSlots groups own a session (set_at so_far.database k shown session) (set_at so_far.word k its session)
  has-so_far shown its has =
      has-next groups own a k so_far.database so_far.word shown its
      (λ session below. so_far.shared session (omega (arith, below, so_far.all_loaded)))
      (has-before groups own a b k shown its (ap (λ (x : Account). x.own) so_far.account)
      (ap (λ (x : Account). x.fast.database) so_far.account) so_far.no_more has)

  -- What it remembers of its own slots, once their turn has come.
  own-so_far :
      (its : ℕ → ℕ) → (k ≡ own → c.fast.remembered ≡ its) → (k ≢ own → c.fast.remembered ≡ b.fast.remembered)
      → own < k + 1 → c.fast.remembered ≡ set_at so_far.word k its own
  own-so_far its here another below = elim (cases_eq k own) [
    | inl same ↦ here same ∙ sym (set_at-here so_far.word k its own (sym same))
    | inr other ↦
        another other ∙ so_far.own (omega (arith, below, other, so_far.all_loaded))
        ∙ sym (set_at-else so_far.word k its own (λ same. other (sym same)))
  ]

  -- the account with one more session
  account-next :
      (shown : ℕ) (its : ℕ → ℕ)
      → c ≡ record b {
        fast = record (b.fast) { remembered = c.fast.remembered };
        trace =
            b.trace ++ Loaded (Database k) shown ∷ all_loads groups k its;
      }
      → c ≡ record a {
        fast = record (a.fast) { remembered = c.fast.remembered };
        trace = a.trace ++ loads_of_all groups (k + 1) (set_at so_far.database k shown) (set_at so_far.word k its);
      }
  account-next shown its is =
      let one : suc k ≡ k + 1 = omega arith in
      let loads : List TraceEntry = Loaded (Database k) shown ∷ all_loads groups k its in
      is
      ∙ ap (λ (x : Account).
      record x { fast = record (x.fast) { remembered = c.fast.remembered }; trace = x.trace ++ loads })
      so_far.account
      ∙ (λ i. record a {
        fast = record (a.fast) { remembered = c.fast.remembered };
        trace = (a.trace ++ loads_of_all groups (so_far.all_loaded i) so_far.database so_far.word) ++ loads;
      })
      ∙ (λ i. record a {
        fast = record (a.fast) { remembered = c.fast.remembered };
        trace = append_assoc a.trace (loads_of_all groups k so_far.database so_far.word) loads i;
      })
      ∙ (λ i. record a {
        fast = record (a.fast) { remembered = c.fast.remembered };
        trace = a.trace ++ loads-more groups k so_far.database so_far.word shown its i;
      })
      ∙ (λ i. record a {
        fast = record (a.fast) { remembered = c.fast.remembered };
        trace = a.trace ++ loads_of_all groups (one i) (set_at so_far.database k shown) (set_at so_far.word k its);
      })

  pub listing-next : (done : Unit {0}) → ListsSession groups own b k mid (Ok done) new c → ListsSlots groups own (k + 1) a old (Ok tt) new c
  listing-next done session =
      let one : suc k ≡ k + 1 = omega arith in
      record {
        database = set_at so_far.database k session.shown;
        word = set_at so_far.word k session.word;
        listed = session.listed
            ∙ ap (λ xs. xs ++ rows_of_session k (database_in session.shown) session.word) so_far.listed
            ∙ append_assoc old (rows_of_all k so_far.database so_far.word)
            (rows_of_session k (database_in session.shown) session.word)
            ∙ ap (λ xs. old ++ xs) (rows-more k so_far.database so_far.word session.shown session.word)
            ∙ ap (λ n. old ++ rows_of_all n (set_at so_far.database k session.shown)
            (set_at so_far.word k session.word)) one;
        kept = tt;
        loaded = k + 1;
        within = omega arith;
        all_loaded = refl;
        shared = has-so_far session.shown session.word session.shared;
        own = own-so_far session.word session.own session.of_another;
        no_more = λ slot relation mode within shown.
            so_far.no_more slot relation mode within (session.no_more slot relation mode within shown);
        account = account-next session.shown session.word session.account;
      }

  pub listing-stops :
      (limit : ℕ) (refusal : NoMemory) (cut : List SlotRow) → k < limit → ListsSession groups own b k mid (Err refusal) new c
      → cut ≡ old
      → ListsSlots groups own limit a old (Err refusal) cut c
  listing-stops limit refusal cut exists session same = record {
    database = set_at so_far.database k session.shown;
    word = set_at so_far.word k session.word;
    listed = tt;
    kept = same;
    loaded = k + 1;
    within = omega (arith, exists);
    all_loaded = tt;
    shared = has-so_far session.shown session.word session.shared;
    own = own-so_far session.word session.own session.of_another;
    no_more = λ slot relation mode within shown.
        so_far.no_more slot relation mode within (session.no_more slot relation mode within shown);
    account = account-next session.shown session.word session.account;
  }
