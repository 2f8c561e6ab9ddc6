use Rattle.std.proofs.Common.{◌≡◌, ℕ, ◌+◌, ◌==◌, List, [], ◌∷◌, ◌++◌, length, cond, refl, sym, ap, subst, ◌∙◌, arith, append_assoc}
use Rattle.std.specs.Prelude.{count_by}
use Rattle.std.proofs.lemmas.Bool.{ne_eqb}
use Rattle.std.proofs.lemmas.List.Sums.{sum_by-append}
use Rattle.std.proofs.lemmas.List.{length_push}
use Rattle.lock_world.specs.WaitWord.{wait_state}
use Rattle.lock_world.specs.World.{TraceEntry, AskedToCancel}
use Rattle.lock_world.specs.Account.{Account}
use Rattle.lock_world.specs.AccountSteps.{account_tracing}
use Rattle.lock_manager.specs.declared.waiting.Asked.{Asked}
use Rattle.lock_manager.specs.declared.waiting.Asked.TheVariants.{Waiting, NotWaiting}
use Rattle.lock_manager.specs.Waiting.{Asks}
use Rattle.lock_manager.specs.ShutDown.{asking_steps, AsksAll}

-- One session after another is asked to cancel its wait.

asking_steps-more :
    (session : ℕ) (words : List ℕ) (shown : ℕ)
    → asking_steps session (words ++ shown ∷ []) ≡ asking_steps session words ++ AskedToCancel (session + length words) shown ∷ []
asking_steps-more session [] shown = let e : session ≡ session + 0 = omega arith in ap (λ n. AskedToCancel n shown ∷ []) e
asking_steps-more session (word ∷ words) shown =
    let e : session + 1 + length words ≡ session + length (word ∷ words) = omega arith in
    ap (λ steps. AskedToCancel session word ∷ steps)
    (asking_steps-more (session + 1) words shown ∙ ap (λ n. asking_steps (session + 1) words ++ AskedToCancel n shown ∷ []) e)

-- Nobody is asked yet,
pub asks-none : (a : Account) → AsksAll 0 a 0 a
asks-none a = record { words = []; all = refl; waited = refl; account = λ i. record a { trace = none a.trace i } } where
  none : (steps : List TraceEntry) → steps ≡ steps ++ []
  none [] = refl
  none (step ∷ steps) = ap (λ others. step ∷ others) (none steps)

module _ (number count : ℕ) (a b c : Account) (so_far : AsksAll number a count b) (answer : Asked) (asks : Asks b number answer c) where
  abbrev words : List ℕ
  words = so_far.words ++ asks.shown ∷ []

  asked : (more : ℕ) → count_by (λ shown. wait_state shown == 1) (asks.shown ∷ []) ≡ more → AsksAll (number + 1) a (count + more) c
  asked more one = record {
    words = words;
    all = long;
    waited =
        (λ i. so_far.waited i + sym one i)
        ∙ sym (sum_by-append (λ shown. cond (wait_state shown == 1) 1 0) so_far.words (asks.shown ∷ []));
    account =
        asks.account
        ∙ ap (λ (x : Account). account_tracing x (AskedToCancel number asks.shown)) so_far.account
        ∙ (λ i. record a { trace = steps i });
  } where
    long : length (so_far.words ++ asks.shown ∷ []) ≡ number + 1
    long = omega (arith, so_far.all, length_push so_far.words asks.shown)

    at : number ≡ 0 + length so_far.words
    at = omega (arith, so_far.all)

    steps : (a.trace ++ asking_steps 0 so_far.words) ++ AskedToCancel number asks.shown ∷ [] ≡ a.trace ++ asking_steps 0 words
    steps =
        append_assoc a.trace (asking_steps 0 so_far.words) (AskedToCancel number asks.shown ∷ [])
        ∙ ap (λ others. a.trace ++ others)
        (ap (λ n. asking_steps 0 so_far.words ++ AskedToCancel n asks.shown ∷ []) at
        ∙ sym (asking_steps-more 0 so_far.words asks.shown))

  -- One more is asked, and waits,
  pub asks-waiting : answer ≡ Waiting → AsksAll (number + 1) a (count + 1) c
  asks-waiting waits = asked 1 (ap (λ state. 0 + cond (state == 1) 1 0) (asks.answered.0 waits))

  -- or doesn't.
  pub asks-idle : answer ≡ NotWaiting → AsksAll (number + 1) a count c
  asks-idle idle = subst (λ n. AsksAll (number + 1) a n c) same (asked 0 (ap (λ b. 0 + cond b 1 0) (ne_eqb (wait_state asks.shown) 1 (λ one. other (sym idle ∙ asks.answered.1 one))))) where
    same : count + 0 ≡ count
    same = omega arith

    other : (◌≡◌ {A = Asked} NotWaiting Waiting) → ⊥
    other e = cc
