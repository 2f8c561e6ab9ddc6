use Rattle.std.proofs.Common.{◌≡◌, ℕ, ◌<◌, ◌≤◌, ◌^◌, List, ◌∷◌, Option, Some, refl, sym, ap, subst, arith}
use Rattle.std.specs.Prelude.{slice_get, slice_index}
use mathlib.Core.Option.{some, none}
use lib.ListN.{get_elem?}
use Rattle.atomic_table.specs.Table.{State, Step, step, keeps}
use Rattle.lock_table.specs.declared.request.Request.{Request}
use Rattle.lock_table.specs.Content.{Content}
use Rattle.lock_world.specs.declared.events.Word.{Word}
use Rattle.lock_world.specs.declared.events.Word.TheVariants.{Partition, Fast, Database, Slot, Wait, Strong, Sleep}
use Rattle.lock_world.specs.World.{opening, word_in}
use Rattle.shared_rule.specs.Allowed.{AllowsStep}
use Rattle.shared_rule.specs.declared.history.History.{History}
use Rattle.shared_rule.specs.declared.history.Mark.{Mark}
use Rattle.shared_rule.specs.declared.rule.TableSizes.{TableSizes}
use Rattle.shared_rule.specs.declared.history.View.{View}
use Rattle.shared_rule.specs.declared.kept.Kept.{Kept}
use Rattle.shared_rule.specs.History.{noting, first_account}
use Rattle.shared_rule.specs.Layout.{index_of_word, IsInTable}
use Rattle.shared_rule.specs.Plays.{Side}
use Rattle.shared_rule.specs.Ruled.{Ruled}
use Rattle.lock_world.specs.Tallies.{OwnStand}
use Rattle.shared_rule.specs.Gatherings.{AreAll, account_among, gathered_in, HasAllInHand, KnowsOfAll, LookedOver, ToldAll}
use Rattle.shared_rule.proofs.Lemmas.Events.Counters.{counter-most}
use Rattle.shared_rule.proofs.Lemmas.Events.Words.{IsAlwaysLawful, NamesNoOther, rule-after, nothing-changes}
use Rattle.shared_rule.proofs.Lemmas.Told.{leads-runs}
use Rattle.shared_rule.proofs.Lemmas.Gathered.{distinct, stands-among, slots-among, counters-among}
use Rattle.modes_core.specs.Sessions.{most_sessions}

-- Loads by a seat at which all sessions are.

module _ {T : Type 0} (content : T → Content) (begun : T → Option Request) (sizes : TableSizes) (s : State (Kept T) (View T)) (r : Ruled content begun sizes s) (id : ℕ) (view : View T) (at : get_elem? s.views id ≡ some view)
    (x : History T) (others : List (History T)) (is : view.sessions ≡ x ∷ others) (issued : ℕ) (are : AreAll issued view) where
  few : sizes.sessions < 2 ^ 24
  few = let most = r.shown.few in omega (arith, most)

  first : slice_get view.sessions 0 ≡ Some x
  first = ap (λ (xs : List (History T)). slice_get xs 0) is

  -- What such a seat knows of a word is so.
  all-known : (word : Word) → IsInTable sizes word → KnowsOfAll content view word (word_in r.world.words word)
  all-known (Partition p) exists = tt
  all-known (Fast k) exists = tt
  all-known (Database k) exists = tt
  all-known (Slot k slot) exists = λ contents has.
      slots-among content r.world sizes r.events few (leads-runs (opening sizes.sessions sizes.groups) r.events r.world r.run) r.safe s.views id issued view at r.seats r.closed are x first contents
      (subst (λ (xs : List (History T)). HasAllInHand (first_account content xs) contents) is has) k slot (let within = exists.0 in let few_groups = r.shown.few_groups in omega (arith, within, few_groups))
  all-known (Wait k) exists = tt
  all-known (Strong index) exists =
      let most_limit : r.world.numbers.limit ≤ most_sessions = subst (λ n. n ≤ most_sessions) (sym r.is_limit) r.shown.few in
      let most = counter-most r.world.numbers.limit r.world.sessions.counted index most_limit r.shown.few_counted in
      let shown = r.safe.counters.shown index in
      (counters-among content r.world sizes r.events few (leads-runs (opening sizes.sessions sizes.groups) r.events r.world r.run) r.safe s.views id issued view at r.seats r.closed are index, omega (arith, shown, most))
  all-known (Sleep k) exists = tt

module _ {T : Type 0} (content : T → Content) (begun : T → Option Request) (sizes : TableSizes) (slots id : ℕ) (me : Side T) (x : History T) (others : List (History T)) (is : me.0.sessions ≡ x ∷ others) where
  -- A load that tells what is known of the number found.
  pub looks_over_at :
      (word : Word) → IsInTable sizes word → (i : ℕ) → i ≡ index_of_word sizes.sessions word → (mark its : ℕ → Mark T) → mark ≡ its → NamesNoOther word mark
      → IsAlwaysLawful content sizes x word (λ _. Unit {0}) (λ n. n) its
      → AllowsStep content begun sizes slots id me i (λ n. n) (LookedOver content mark (step slots i 0 0 none) me)
  looks_over_at word exists i at mark its same names lawful =
      subst (λ k. AllowsStep content begun sizes slots id me k (λ n. n) (LookedOver content mark (step slots k 0 0 none) me)) (sym at) here where
        here : AllowsStep content begun sizes slots id me (index_of_word sizes.sessions word) (λ n. n) (LookedOver content mark (step slots (index_of_word sizes.sessions word) 0 0 none) me)
        here s r many at_view below =
            let n : ℕ = slice_index s.words (index_of_word sizes.sessions word) in (
              noting me.0 (mark n),
              keeps,
              tt,
              rule-after content begun sizes slots id me x others is word exists (λ k. k) mark (λ _. Unit {0})
                  (subst (IsAlwaysLawful content sizes x word (λ _. Unit {0}) (λ k. k)) (sym same) lawful) s r at_view n below refl tt,
              (
                refl,
                (λ other issued named are.
                    let its : other ≡ word = names n other named in
                    subst (λ o. KnowsOfAll content me.0 o n) (sym its)
                    (subst (KnowsOfAll content me.0 word) (sym (r.shown.of_words.word word exists)) (all-known content begun sizes s r id me.0 at_view x others is issued are word exists))),
              ),
            )

  -- A load that changes nothing, and tells what is known of all.
  pub tells_all_at : (groups : ℕ) → groups ≡ sizes.groups → (i : ℕ) (step : Step (Kept T)) → AllowsStep content begun sizes slots id me i (λ n. n) (ToldAll content groups step me)
  tells_all_at groups same i step s r many at below = (
    me.0,
    keeps,
    tt,
    nothing-changes content begun sizes id i me.0 s r at,
    (
      refl,
      λ issued are. record {
        distinct = distinct content r.world sizes r.events (few content begun sizes s r id me.0 at x others is issued are) (leads-runs (opening sizes.sessions sizes.groups) r.events r.world r.run) r.safe s.views id issued me.0 at r.seats r.closed are;
        stand = λ contents nobody has number.
            subst (λ n. OwnStand n number (account_among (gathered_in content me.0.sessions) number) contents) (sym same)
            (stands-among content r.world sizes r.events (few content begun sizes s r id me.0 at x others is issued are) (leads-runs (opening sizes.sessions sizes.groups) r.events r.world r.run) r.safe s.views id issued me.0 at r.seats r.closed are x
            (first content begun sizes s r id me.0 at x others is issued are) contents nobody
            (subst (λ (xs : List (History T)). HasAllInHand (first_account content xs) contents) is has) number);
      },
    ),
  )
