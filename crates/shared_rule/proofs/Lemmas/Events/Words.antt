use Rattle.std.proofs.Common.{◌≡◌, ℕ, ◌<◌, ◌^◌, List, ◌∷◌, Option, Some, None, refl, sym, ap, ◌∙◌, subst, inl, inr}
use Rattle.std.specs.Prelude.{slice_set, slice_index}
use mathlib.Core.Option.{some, none}
use lib.ListN.{get_elem?}
use lib.Seq.{set-get_or}
use Rattle.atomic_table.specs.Table.{State, Step, step, keeps}
use Rattle.atomic_table.proofs.Lists.{set_again}
use Rattle.lw_word.specs.declared.wait_lists.LwWaiter.{LwWaiter}
use Rattle.lock_table.specs.declared.request.Request.{Request}
use Rattle.lock_table.specs.Content.{Content}
use Rattle.lock_world.specs.declared.events.Word.{Word}
use Rattle.lock_world.specs.declared.events.Word.TheVariants.{Partition, Fast, Database, Slot, Wait, Strong, Sleep}
use Rattle.lock_world.specs.SlotHolds.{slot_holds}
use Rattle.lock_world.specs.WaitWord.{wait_state}
use Rattle.lock_world.specs.SafeWorld.{SafeWorld}
use Rattle.lock_world.specs.Account.{SlotsInHand, account}
use Rattle.lock_world.proofs.Lemmas.Accounts.Lawful.{slots-known}
use Rattle.lock_world.proofs.Lemmas.Accounts.Slots.{slots_now}
use mathlib.Core.Option as maybe
use Rattle.lock_world.specs.World.{World, Words, Contents, Hand, word_in}
use Rattle.shared_rule.specs.Allowed.{changes_nothing, RuledNext, AllowsStep}
use Rattle.shared_rule.specs.declared.history.Mark.{Mark}
use Rattle.shared_rule.specs.declared.history.History.{History}
use Rattle.shared_rule.specs.declared.rule.TableSizes.{TableSizes}
use Rattle.shared_rule.specs.declared.history.View.{View}
use Rattle.shared_rule.specs.declared.kept.Kept.{Kept}
use Rattle.shared_rule.specs.Layout.{index_of_word, content_shelf_of, list_shelf_of, IsInTable}
use Rattle.shared_rule.specs.Looks.{word_looked_at}
use Rattle.shared_rule.specs.Shown.{WordsAreShown, set_word}
use Rattle.shared_rule.specs.History.{told, noting, first_account, first_number}
use Rattle.shared_rule.specs.Ruled.{IsHomeUnlessInHand, ContentsAreHome, IsInNoHand, ListIsAtHome, ListsAreHome, Ruled}
use Rattle.shared_rule.specs.Slots.{HasOrShares, KnowsWord}
use Rattle.shared_rule.specs.Plays.{Side, Marked, Looked, HasSession}
use Rattle.shared_rule.proofs.Lemmas.Shown.{words-set}
use Rattle.shared_rule.specs.Todos.{todo_told_by, flagged_told_by}
use Rattle.shared_rule.specs.Owed.{owed_told}
use Rattle.shared_rule.proofs.Lemmas.Frame.{Stepper, IsNoted, IsSeen, ruled-steps, ruled-noted, ruled-looked}

-- A step that only leaves a mark is allowed where in each World it is lawful and makes that of the account,
-- and no content comes or goes.

-- Whatever is at home after a step was at home before it, with the same content.
abbrev pub KeepsHome : Contents → Contents → Type 0
KeepsHome before after = (p : ℕ) → after.hand p ≡ None → (before.hand p ≡ None) × (after.now p ≡ before.now p)

home-kept :
    {T : Type 0} (content : T → Content) (begun : T → Option Request) (homes : List (maybe.Option (Kept T))) (before after : Contents) → KeepsHome before after
    → ContentsAreHome content begun homes before → ContentsAreHome content begun homes after
home-kept {T} content begun homes before after kept home p within = go (after.hand p) refl where
  go : (hand : Option Hand) → after.hand p ≡ hand → IsHomeUnlessInHand content begun hand (after.now p) (get_elem? homes (content_shelf_of p))
  go None home_now =
      let was = kept p home_now in
      subst (λ now. IsHomeUnlessInHand content begun None now (get_elem? homes (content_shelf_of p))) (sym was.1)
      (subst (λ h. IsHomeUnlessInHand content begun h (before.now p) (get_elem? homes (content_shelf_of p))) was.0 (home p within))
  go (Some hand) away = tt

-- Slots that a session has in hand, or shares, are what the words show.
slots-here : (w : World) (s k : ℕ) (slots : SlotsInHand) → HasOrShares (account w s) k slots → slots ≡ slots_now w k
slots-here w s k slots (inl has) = (slots-known (w.sessions.holds_fast s k) (w.words.database k) (w.words.slot k) slots has).1
slots-here w s k slots (inr shares) = (slots-known (w.sessions.shares_fast s k) (w.words.database k) (w.words.slot k) slots shares).1

-- A list that is at home after a step was at home before it, and the same ones stand in it.
abbrev pub KeepsLists : World → World → Type 0
KeepsLists before after =
    (lock : ℕ) → IsInNoHand lock after.sessions.has_list
    → IsInNoHand lock before.sessions.has_list × (after.words.list lock ≡ before.words.list lock)

pub lists-kept :
    {T : Type 0} (sessions : ℕ) (homes : List (maybe.Option (Kept T))) (before after : World) → KeepsLists before after
    → ListsAreHome sessions homes before.sessions.has_list before.words.list
    → ListsAreHome sessions homes after.sessions.has_list after.words.list
lists-kept sessions homes before after kept home lock within nobody =
    let was = kept lock nobody in
    subst (λ waiters. ListIsAtHome sessions waiters (get_elem? homes (list_shelf_of lock))) (sym was.1) (home lock within was.0)

-- No word shows who stands in a list.
listed-same : (words : Words) (list : ℕ → List LwWaiter) (word : Word)
    → word_in (record words { list = list }) word ≡ word_in words word
listed-same words list (Partition p) = refl
listed-same words list (Fast k) = refl
listed-same words list (Database k) = refl
listed-same words list (Slot k slot) = refl
listed-same words list (Wait k) = refl
listed-same words list (Strong index) = refl
listed-same words list (Sleep k) = refl

pub listed-shown : (sizes : TableSizes) (table : List ℕ) (words : Words) (list : ℕ → List LwWaiter) → WordsAreShown sizes table words
    → WordsAreShown sizes table (record words { list = list })
listed-shown sizes table words list shown =
    record {
      as_many = shown.as_many;
      word = λ word there. shown.word word there ∙ sym (listed-same words list word);
      gap = shown.gap;
    }

-- What a session knows of a word is so.
word-known : (w : World) → SafeWorld w → (s : ℕ) (word : Word) → KnowsWord s (account w s) word (word_in w.words word)
word-known w safe s (Partition p) = tt
word-known w safe s (Fast k) = tt
word-known w safe s (Database k) = (
  λ slots known.
      let is = slots-here w s k slots known in
      ap (λ (its : SlotsInHand). its.holds) is
      ∙ ap (slot_holds (w.words.database k)) (sym (ap (λ (its : SlotsInHand). its.word) is)),
  λ own. ap w.words.database own,
)
word-known w safe s (Slot k slot) = λ slots known.
    let is = slots-here w s k slots known in
    sym (ap (λ (its : SlotsInHand). its.word slot) is)
word-known w safe s (Wait k) = λ own no_wait.
    ap (λ session. wait_state (w.words.wait session)) own ∙ safe.but_slots.table.promise.wait_words.idle s no_wait
word-known w safe s (Strong index) = tt
word-known w safe s (Sleep k) = tt

module _ {T : Type 0} (content : T → Content) where
  -- Whatever the World is, the step on a word that shows this is noted so, and leaves the contents alone.
  pub record IsLawful (sizes : TableSizes) (x : History T) (word : Word) (shown next : ℕ) (mark : Mark T) (w : World) : Type 0 where
    -- who stands in lists after it
    pub list : ℕ → List LwWaiter
    pub noted :
        IsNoted content sizes.groups w x.number (told content x.number x.marks) (todo_told_by x.number x.marks) (flagged_told_by x.marks) mark
        (record (set_word w.words word next) { list = list })
    pub home : KeepsHome w.contents noted.after.contents
    pub lists : KeepsLists w noted.after

  abbrev pub IsAlwaysLawful : TableSizes → History T → Word → (ℕ → Type 0) → (ℕ → ℕ) → (ℕ → Mark T) → Type 0
  IsAlwaysLawful sizes x word expected next mark =
      (w : World) → Stepper sizes w x.number (told content x.number x.marks)
      → (n : ℕ) → n < 2 ^ 64 → n ≡ word_in w.words word → expected n
      → IsLawful sizes x word n (next n) (mark n) w

module _ {T : Type 0} (content : T → Content) (begun : T → Option Request) (sizes : TableSizes) (slots id : ℕ) (me : Side T) (x : History T) (others : List (History T)) (is : me.0.sessions ≡ x ∷ others)
    (word : Word) (exists : IsInTable sizes word) (next : ℕ → ℕ) (mark : ℕ → Mark T) where
  -- After it the rule holds.
  pub rule-after :
      (expected : ℕ → Type 0) → IsAlwaysLawful content sizes x word expected next mark
      → (s : State (Kept T) (View T)) (r : Ruled content begun sizes s) → get_elem? s.views id ≡ some me.0
      → (n : ℕ) → n < 2 ^ 64 → n ≡ slice_index s.words (index_of_word sizes.sessions word) → expected n
      → RuledNext content begun sizes r.events me.0 (noting me.0 (mark n)) (record { words = slice_set s.words (index_of_word sizes.sessions word) (next n); homes = s.homes; views = slice_set s.views id (noting me.0 (mark n)) })
  rule-after expected lawful s r at n below shows is_so =
      let steps = ruled-steps content begun sizes s r id me.0 x others at is in
      let now = lawful r.world steps n below (shows ∙ r.shown.of_words.word word exists) is_so in
      ruled-noted content begun sizes s r id me.0 x others at is (mark n)
      (record (set_word r.world.words word (next n)) { list = now.list })
      (slice_set s.words (index_of_word sizes.sessions word) (next n)) s.homes now.noted
      (listed-shown sizes (slice_set s.words (index_of_word sizes.sessions word) (next n)) (set_word r.world.words word (next n)) now.list
      (words-set sizes r.shown.some_groups s.words r.world.words word (next n) r.shown.of_words exists))
      (home-kept content begun s.homes r.world.contents now.noted.after.contents now.home r.shown.of_contents)
      (lists-kept sizes.sessions s.homes r.world now.noted.after now.lists r.shown.of_lists)

  -- A fetch-and-add, a fetch-and-subtract, or with `next` as it is a load.
  pub marks : (step : Step (Kept T)) → IsAlwaysLawful content sizes x word (λ _. Unit {0}) next mark
      → AllowsStep content begun sizes slots id me (index_of_word sizes.sessions word) next (Marked mark step me)
  marks step lawful s r many at below = (
    noting me.0 (mark (slice_index s.words (index_of_word sizes.sessions word))),
    keeps,
    tt,
    rule-after (λ _. Unit {0}) lawful s r
        at (slice_index s.words (index_of_word sizes.sessions word)) below refl tt,
    refl,
  )

-- A step that changes nothing.
pub nothing-changes :
    {T : Type 0} (content : T → Content) (begun : T → Option Request) (sizes : TableSizes) (id i : ℕ) (view : View T) (s : State (Kept T) (View T))
    → (r : Ruled content begun sizes s) → get_elem? s.views id ≡ some view
    → RuledNext content begun sizes r.events view view (record { words = slice_set s.words i (slice_index s.words i); homes = s.homes; views = slice_set s.views id view })
nothing-changes {T} content begun sizes id i view s r at =
    subst (λ (words : List ℕ). RuledNext content begun sizes r.events view view (record { words = words; homes = s.homes; views = slice_set s.views id view })) (sym (set-get_or s.words i 0))
    (subst (λ (views : List (View T)). RuledNext content begun sizes r.events view view (record { words = s.words; homes = s.homes; views = views })) (sym (set_again s.views id view at))
    (record { rule = r; goes_on = changes_nothing refl refl }))

-- What a mark says of a word is so of the word at its index: a play of a mark reads nothing else of its step.
pub marks_at :
    {T : Type 0} {content : T → Content} {begun : T → Option Request} {sizes : TableSizes} {slots : ℕ} (id : ℕ) {me : Side T} (session : HasSession me.0)
    → (word : Word) → IsInTable sizes word → (i : ℕ) → i ≡ index_of_word sizes.sessions word → (next : ℕ → ℕ) (mark its : ℕ → Mark T) → mark ≡ its
    → IsAlwaysLawful content sizes session.history word (λ _. Unit {0}) next its
    → AllowsStep content begun sizes slots id me i next (Marked mark (step 0 0 0 0 none) me)
marks_at {T} {content} {begun} {sizes} {slots} id {me} session word exists i at next mark its same lawful =
    subst (λ k. AllowsStep content begun sizes slots id me k next (Marked mark (step 0 0 0 0 none) me)) (sym at)
    (marks content begun sizes slots id me session.history session.others session.sessions word exists next mark (step 0 0 0 0 none)
    (subst (IsAlwaysLawful content sizes session.history word (λ _. Unit {0}) next) (sym same) lawful))

-- The mark of what is found in this word names no other word.
abbrev pub NamesNoOther : {T : Type 0} → Word → (ℕ → Mark T) → Type 0
NamesNoOther word mark = (n : ℕ) (other : Word) → word_looked_at (mark n) ≡ Some other → other ≡ word

-- So it is of a mark that names this word, or none.
pub names-one : {T : Type 0} (word : Word) (mark its : ℕ → Mark T) → mark ≡ its → ((n : ℕ) → word_looked_at (its n) ≡ Some word) → NamesNoOther word mark
names-one word mark its same named n other its_other =
    let both : Some word ≡ Some other = sym (named n) ∙ ap (λ m. word_looked_at (m n)) (sym same) ∙ its_other in
    let one : word ≡ other = cc (both) in
    sym one

pub names-none : {T : Type 0} (word : Word) (mark its : ℕ → Mark T) → mark ≡ its → ((n : ℕ) → word_looked_at (its n) ≡ None) → NamesNoOther word mark
names-none word mark its same named n other its_other =
    let never : ◌≡◌ {A = Option Word} None (Some other) = sym (named n) ∙ ap (λ m. word_looked_at (m n)) (sym same) ∙ its_other in
    absurd (cc (never))

-- A load, or a fetch operation, that tells what the account knows of the number found.
pub looks_at :
    {T : Type 0} {content : T → Content} {begun : T → Option Request} {sizes : TableSizes} {slots : ℕ} (id : ℕ) {me : Side T} (session : HasSession me.0)
    → (word : Word) → IsInTable sizes word → (i : ℕ) → i ≡ index_of_word sizes.sessions word → (first : ℕ) (next : ℕ → ℕ) (mark its : ℕ → Mark T) → mark ≡ its
    → NamesNoOther word mark → IsAlwaysLawful content sizes session.history word (λ _. Unit {0}) next its
    → AllowsStep content begun sizes slots id me i next (Looked content mark (step slots i first 0 none) me)
looks_at {T} {content} {begun} {sizes} {slots} id {me} session word exists i at first next mark its same names lawful =
    subst (λ k. AllowsStep content begun sizes slots id me k next (Looked content mark (step slots k first 0 none)
    me)) (sym at) here where
      x : History T
      x = session.history

      here : AllowsStep content begun sizes slots id me (index_of_word sizes.sessions word) next
          (Looked content mark (step slots (index_of_word sizes.sessions word) first 0 none) me)
      here s r many at_view below =
          let n : ℕ = slice_index s.words (index_of_word sizes.sessions word) in
          let steps = ruled-steps content begun sizes s r id me.0 x session.others at_view session.sessions in (
            noting me.0 (mark n),
            keeps,
            tt,
            rule-after content begun sizes slots id me x session.others session.sessions word exists next mark (λ _. Unit {0})
                (subst (IsAlwaysLawful content sizes x word (λ _. Unit {0}) next) (sym same) lawful) s r at_view n below refl tt,
            (
              refl,
              (λ other named.
                  let shown : word_in r.world.words other ≡ n = ap (word_in r.world.words) (names n other named) ∙ sym (r.shown.of_words.word word exists) in
                  subst (λ (sessions : List (History T)). KnowsWord (first_number sessions)
                  (first_account content sessions) other n) (sym session.sessions)
                  (subst (λ a. KnowsWord x.number a other n) (sym steps.account)
                  (subst (KnowsWord x.number (account r.world x.number) other) shown
                  (word-known r.world steps.safe x.number other)))),
            ),
          )

-- A store, which leaves the same mark whatever it found.
pub stores_at :
    {T : Type 0} {content : T → Content} {begun : T → Option Request} {sizes : TableSizes} {slots : ℕ} (id : ℕ) {me : Side T} (session : HasSession me.0)
    → (word : Word) → IsInTable sizes word → (i : ℕ) → i ≡ index_of_word sizes.sessions word → (new : ℕ) (mark : ℕ → Mark T) (left : Mark T) → mark ≡ (λ _. left)
    → IsAlwaysLawful content sizes session.history word (λ _. Unit {0}) (λ _. new) (λ _. left)
    → AllowsStep content begun sizes slots id me i (λ _. new) (λ _. Marked mark (step 0 0 0 0 none) me new)
stores_at {T} {content} {begun} {sizes} {slots} id {me} session word exists i at new mark left same lawful =
    subst (λ (m : ℕ → Mark T). AllowsStep content begun sizes slots id me i (λ _. new) (λ _. Marked m (step 0 0 0 0 none) me new)) (sym same)
    (marks_at id session word exists i at (λ _. new) (λ _. left) (λ _. left) refl lawful)

-- The session's own number is that of its history.
own-number : {T : Type 0} {view : View T} (session : HasSession view) (number : ℕ) → number ≡ first_number view.sessions → number ≡ session.history.number
own-number {T} session number own = own ∙ ap (λ (sessions : List (History T)). first_number sessions) session.sessions

-- A step of a session on a word of its own, that of its number: a mark of what is found there,
pub marks_at_own :
    {T : Type 0} {content : T → Content} {begun : T → Option Request} {sizes : TableSizes} {slots : ℕ} (id : ℕ) {me : Side T} (session : HasSession me.0)
    (number : ℕ) → number ≡ first_number me.0.sessions → number < sizes.sessions
    → (word : ℕ → Word) → ((k : ℕ) → k < sizes.sessions → IsInTable sizes (word k)) → (i : ℕ) → i ≡ index_of_word sizes.sessions (word number)
    → (next : ℕ → ℕ) (mark its : ℕ → Mark T) → mark ≡ its
    → IsAlwaysLawful content sizes session.history (word session.history.number) (λ _. Unit {0}) next its
    → AllowsStep content begun sizes slots id me i next (Marked mark (step 0 0 0 0 none) me)
marks_at_own {sizes = sizes} id session number own among word exists i at next mark its same lawful =
    let it = own-number session number own in
    marks_at id session (word session.history.number) (exists session.history.number (subst (λ n. n < sizes.sessions) it among)) i
    (at ∙ ap (λ n. index_of_word sizes.sessions (word n)) it) next mark its same lawful

-- and a store.
pub stores_at_own :
    {T : Type 0} {content : T → Content} {begun : T → Option Request} {sizes : TableSizes} {slots : ℕ} (id : ℕ) {me : Side T} (session : HasSession me.0)
    (number : ℕ) → number ≡ first_number me.0.sessions → number < sizes.sessions
    → (word : ℕ → Word) → ((k : ℕ) → k < sizes.sessions → IsInTable sizes (word k)) → (i : ℕ) → i ≡ index_of_word sizes.sessions (word number)
    → (new : ℕ) (mark : ℕ → Mark T) (left : Mark T) → mark ≡ (λ _. left)
    → IsAlwaysLawful content sizes session.history (word session.history.number) (λ _. Unit {0}) (λ _. new) (λ _. left)
    → AllowsStep content begun sizes slots id me i (λ _. new) (λ _. Marked mark (step 0 0 0 0 none) me new)
stores_at_own {sizes = sizes} id session number own among word exists i at new mark left same lawful =
    let it = own-number session number own in
    stores_at id session (word session.history.number) (exists session.history.number (subst (λ n. n < sizes.sessions) it among)) i
    (at ∙ ap (λ n. index_of_word sizes.sessions (word n)) it) new mark left same lawful

-- A look at a word that stays as it is.
pub looks-only :
    {T : Type 0} (content : T → Content) (begun : T → Option Request) (sizes : TableSizes) (id i : ℕ) (view : View T) (x : History T) (others : List (History T)) → view.sessions ≡ x ∷ others
    → (s : State (Kept T) (View T)) (r : Ruled content begun sizes s) → get_elem? s.views id ≡ some view → (mark : Mark T) → IsSeen r.world x.number (todo_told_by x.number x.marks) (owed_told x.marks) mark
    → RuledNext content begun sizes r.events view (noting view mark) (record { words = slice_set s.words i (slice_index s.words i); homes = s.homes; views = slice_set s.views id (noting view mark) })
looks-only {T} content begun sizes id i view x others is s r at mark seen =
    subst (λ (words : List ℕ). RuledNext content begun sizes r.events view (noting view mark) (record { words = words; homes = s.homes; views = slice_set s.views id (noting view mark) })) (sym (set-get_or s.words i 0))
    (ruled-looked content begun sizes s r id view x others at is mark seen)

-- A call: a load that leaves its mark, and changes nothing.
pub calls_at :
    {T : Type 0} {content : T → Content} {begun : T → Option Request} {sizes : TableSizes} {slots : ℕ} (id i : ℕ) {me : Side T} (session : HasSession me.0)
    → (mark : ℕ → Mark T) (left : Mark T) → mark ≡ (λ _. left) → ((w : World) → IsSeen w session.history.number (todo_told_by session.history.number session.history.marks) (owed_told session.history.marks) left)
    → AllowsStep content begun sizes slots id me i (λ n. n) (Marked mark (step 0 0 0 0 none) me)
calls_at {T} {content} {begun} {sizes} {slots} id i {me} session mark left same seen =
    subst (λ (m : ℕ → Mark T). AllowsStep content begun sizes slots id me i (λ n. n) (Marked m (step 0 0 0 0 none) me)) (sym same)
    (λ s r many at below.
    (noting me.0 left, keeps, tt, looks-only content begun sizes id i me.0 session.history session.others session.sessions s r at left (seen r.world), refl))

-- A look at a word of its own, right before the session parks there.
pub parks_at :
    {T : Type 0} {content : T → Content} {begun : T → Option Request} {sizes : TableSizes} {slots : ℕ} (id : ℕ) {me : Side T} (session : HasSession me.0)
    (number : ℕ) → number ≡ first_number me.0.sessions → number < sizes.sessions
    → (word : ℕ → Word) → ((k : ℕ) → k < sizes.sessions → IsInTable sizes (word k)) → (i : ℕ) → i ≡ index_of_word sizes.sessions (word number)
    → (mark its : ℕ → Mark T) → mark ≡ its
    → ((w : World) → Stepper sizes w session.history.number (told content session.history.number session.history.marks) → (n : ℕ) → n ≡ word_in w.words (word session.history.number)
    → IsSeen w session.history.number (todo_told_by session.history.number session.history.marks) (owed_told session.history.marks) (its n))
    → AllowsStep content begun sizes slots id me i (λ n. n) (Marked mark (step 0 0 0 0 none) me)
parks_at {T} {content} {begun} {sizes} {slots} id {me} session number own among word exists i at mark its same seen =
    let x : History T = session.history in
    let it = own-number session number own in
    let there = exists x.number (subst (λ n. n < sizes.sessions) it among) in
    let place : i ≡ index_of_word sizes.sessions (word x.number) = at ∙ ap (λ n. index_of_word sizes.sessions (word n)) it in
    subst (λ (m : ℕ → Mark T). AllowsStep content begun sizes slots id me i (λ n. n) (Marked m (step 0 0 0 0 none) me)) (sym same)
    (λ s r many at_view below.
    let n : ℕ = slice_index s.words i in (
      noting me.0 (its n),
      keeps,
      tt,
      looks-only content begun sizes id i me.0 x session.others session.sessions s r at_view (its n)
          (seen r.world (ruled-steps content begun sizes s r id me.0 x session.others at_view session.sessions) n
          (ap (λ k. slice_index s.words k) place ∙ r.shown.of_words.word (word x.number) there)),
      refl,
    ))
