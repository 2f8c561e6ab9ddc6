use Rattle.std.proofs.Common.{◌≡◌, ℕ, zero, suc, ◌+◌, ◌-◌, ◌*◌, ◌%◌, ◌^◌, ◌<◌, ◌≤◌, length, refl, sym, ap, ◌∙◌, subst, arith, length-append}
use Rattle.std.specs.Prelude.{not, ◌==◌}
use Rattle.std.proofs.lemmas.List.Sums.{length-filter, count_by-le-length}
use Rattle.modes_core.specs.declared.modes.Mode.{Mode}
use Rattle.modes_core.specs.declared.tags.Tag.{Tag}
use Rattle.modes_core.specs.Tag.{index_of}
use Rattle.lock_table.specs.Content.{Content}
use Rattle.lock_table.proofs.Lemmas.Put.{set_at-here}
use Rattle.lock_world.specs.declared.events.Word.TheVariants.{Strong}
use Rattle.lock_world.specs.declared.events.Step.TheVariants.{Count, Uncount}
use Rattle.lock_world.specs.World.{World}
use Rattle.lock_table.specs.Total.{total}
use Rattle.lock_world.specs.Counted.{Counted, is_of, count_at, counter, counting, uncounting}
use Rattle.lock_world.specs.Happens.Counters.{most_counted, after_counting, after_uncounting}
use Rattle.lock_world.specs.AccountSteps.{account_counting, account_uncounting}
use Rattle.lock_world.specs.AccountLaw.{MayCountBy, MayUncountBy}
use Rattle.lock_table.proofs.Lemmas.Totals.{total-least}
use Rattle.lock_world.proofs.Lemmas.Counters.Uncounting.{count_at-uncounting}
use Rattle.lock_world.proofs.Lemmas.Accounts.Lawful.{count-lawful, uncount-lawful}
use Rattle.lock_world.proofs.Lemmas.Accounts.Slots.{account-counting, account-uncounting}
use Rattle.shared_rule.specs.Marks as mark
use Rattle.shared_rule.specs.declared.rule.TableSizes.{TableSizes}
use Rattle.shared_rule.specs.declared.history.History.{History}
use Rattle.shared_rule.specs.Shown.{set_word}
use Rattle.shared_rule.specs.Gatherings.{most_shown}
use Rattle.shared_rule.specs.History.{told}
use Rattle.shared_rule.proofs.Lemmas.Frame.{Stepper}
use Rattle.shared_rule.proofs.Lemmas.Events.Words.{IsAlwaysLawful}
use Rattle.modes_core.specs.Sessions.{most_sessions}

-- Counting a strong lock, and counting it no more.

-- A sum of values that are no more than this.
total-most : (limit : ℕ) (f : ℕ → ℕ) (most : ℕ) → ((k : ℕ) → f k ≤ most) → total limit f ≤ limit * most
unfolding total
total-most zero f most each = omega arith
total-most (suc limit) f most each =
    let before : total limit f ≤ limit * most = total-most limit f most each in
    let last = each limit in
    let product : suc limit * most ≡ limit * most + most = Rattle.std.proofs.Common.suc-mul limit most in
    omega (arith, before, last, product)

-- No counter shows more than all sessions can count.
pub counter-most : (limit : ℕ) (counted : ℕ → Rattle.std.proofs.Common.List Counted) (index : ℕ) → limit ≤ most_sessions → ((k : ℕ) → length (counted k) ≤ most_counted) → counter limit counted index ≤ most_shown
counter-most limit counted index few each =
    let most = total-most limit (λ k. count_at index (counted k)) most_counted (λ k.
    let most_here : count_at index (counted k) ≤ length (counted k) = count_by-le-length (λ (c : Counted). index_of c.tag == index) (counted k) in
    let few_here = each k in omega (arith, most_here, few_here)) in
    omega (arith, most, few)

module _ {T : Type 0} (content : T → Content) (sizes : TableSizes) (x : History T) (tag : Tag) (mode : Mode) where
  -- the counter's index
  abbrev index : ℕ
  index = index_of tag

  -- the counter shows no more than that
  shown-most : (w : World) → Stepper sizes w x.number (told content x.number x.marks) → w.words.strong index ≤ most_shown
  shown-most w steps =
      let few : w.numbers.limit ≤ most_sessions = subst (λ n. n ≤ most_sessions) (sym steps.is_limit) steps.few in
      let shown : w.words.strong index ≡ counter w.numbers.limit w.sessions.counted index = steps.safe.counters.shown index in
      let most = counter-most w.numbers.limit w.sessions.counted index few steps.few_counted in
      omega (arith, shown, most)

  pub counting-lawful : MayCountBy (told content x.number x.marks) tag mode
      → IsAlwaysLawful content sizes x (Strong index) (λ _. Unit {0}) (λ n. (n + 1) % 2 ^ 64) (λ _. mark.Counted tag mode)
  counting-lawful may w steps n below shown _ =
      let may' = subst (λ a. MayCountBy a tag mode) steps.account may in
      let most = shown-most w steps in
      let next : w.words.strong index + 1 ≡ (n + 1) % 2 ^ 64 = omega (arith, shown, most) in
      record {
        list = w.words.list;
        noted = record {
          step = Count tag mode;
          tells = refl;
          after = after_counting w x.number tag mode;
          happens = (count-lawful w steps.safe x.number steps.makes tag mode may', refl);
          numbers = refl;
          account = ap (λ a. account_counting a tag mode) steps.account ∙ sym (account-counting w x.number tag mode);
          words = ap (set_word w.words (Strong index)) next;
          none_beyond = steps.none_beyond;
          few_counted = subst (λ list. length list ≤ most_counted) (sym (set_at-here w.sessions.counted x.number (counting (w.sessions.counted x.number) tag mode) x.number refl))
              (let few = may'.few in
              let longer : length (counting (w.sessions.counted x.number) tag mode) ≡ length (w.sessions.counted x.number) + 1 = length-append (w.sessions.counted x.number) _ in
              omega (arith, few, longer));
          keeps = record { in_order = tt; asks = λ d is was. tt; todo_ = λ d is. is; flagged_ = λ d was. was };
        };
        home = λ p none. (none, refl);
        lists = λ lock nobody. (nobody, refl);
      }

  pub uncounting-lawful : MayUncountBy (told content x.number x.marks) tag mode
      → IsAlwaysLawful content sizes x (Strong index) (λ _. Unit {0}) (λ n. (n + (2 ^ 64 - 1)) % 2 ^ 64) (λ _. mark.Uncounted tag mode)
  uncounting-lawful may w steps n below shown _ =
      let may' = subst (λ a. MayUncountBy a tag mode) steps.account may in
      let numbers = steps.safe.but_slots.table.carriers.numbers in
      let issued = numbers.live_is_issued x.number steps.makes.live in
      let within : x.number < w.numbers.limit = let all = numbers.within in omega (arith, issued, all) in
      let some : count_at index (uncounting (w.sessions.counted x.number) tag mode) + 1 ≡ count_at index (w.sessions.counted x.number) =
      count_at-uncounting (w.sessions.counted x.number) tag mode index (steps.safe.counters.once x.number) may'.is refl in
      let least : count_at index (w.sessions.counted x.number) ≤ counter w.numbers.limit w.sessions.counted index =
      total-least w.numbers.limit (λ k. count_at index (w.sessions.counted k)) x.number within in
      let is : w.words.strong index ≡ counter w.numbers.limit w.sessions.counted index = steps.safe.counters.shown index in
      let next : w.words.strong index - 1 ≡ (n + (2 ^ 64 - 1)) % 2 ^ 64 = omega (arith, shown, some, least, is, below) in
      record {
        list = w.words.list;
        noted = record {
          step = Uncount tag mode;
          tells = refl;
          after = after_uncounting w x.number tag mode;
          happens = (uncount-lawful w steps.safe x.number steps.makes tag mode may', refl);
          numbers = refl;
          account = ap (λ a. account_uncounting a tag mode) steps.account ∙ sym (account-uncounting w x.number tag mode);
          words = ap (set_word w.words (Strong index)) next;
          none_beyond = steps.none_beyond;
          few_counted = subst (λ list. length list ≤ most_counted) (sym (set_at-here w.sessions.counted x.number (uncounting (w.sessions.counted x.number) tag mode) x.number refl))
              (let few = steps.few_counted x.number in
              let as_many = length-filter (λ (c : Counted). not (is_of tag mode c)) (w.sessions.counted x.number) in
              let fewer = count_by-le-length (λ (c : Counted). not (is_of tag mode c)) (w.sessions.counted x.number) in
              omega (arith, few, as_many, fewer));
          keeps = record { in_order = tt; asks = λ d is was. tt; todo_ = λ d is. is; flagged_ = λ d was. was };
        };
        home = λ p none. (none, refl);
        lists = λ lock nobody. (nobody, refl);
      }
