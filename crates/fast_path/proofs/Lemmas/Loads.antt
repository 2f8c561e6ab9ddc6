use Rattle.std.proofs.Common.{◌≡◌, ℕ, ◌+◌, [], ◌∷◌, Some, suc, sym, ap, ◌∙◌, arith, append_assoc, append-nil}
use Rattle.lock_world.specs.declared.events.Word.TheVariants.{Slot}
use Rattle.lock_world.specs.World.{Loaded}
use Rattle.lock_world.specs.Account.{Account, SlotsInHand}
use Rattle.lock_world.specs.AccountSteps.{account_tracing}
use Rattle.shared_rule.specs.History.{slots_here}
use Rattle.fast_path.specs.Slots.{slot_loads, account_loading}

-- Loading slots one after another.

-- None is loaded yet.
pub loading-begun : (a : Account) (owner : ℕ) (which word : ℕ → ℕ) → a ≡ account_loading a owner which word 0
unfolding slot_loads
loading-begun a owner which word = λ i. record a { trace = sym (append-nil a.trace) i }

-- One more is loaded.
pub loading-next :
    (a b c : Account) (owner : ℕ) (which word : ℕ → ℕ) (k shown : ℕ) → b ≡ account_loading a owner which word k
    → shown ≡ word (which k)
    → c ≡ account_tracing b (Loaded (Slot owner (which k)) shown) → c ≡ account_loading a owner which word (k + 1)
unfolding slot_loads
loading-next a b c owner which word k shown so_far is one =
    one
    ∙ ap (λ (x : Account). account_tracing x (Loaded (Slot owner (which k)) shown)) so_far
    ∙ ap (λ (n : ℕ). account_tracing (account_loading a owner which word k) (Loaded (Slot owner (which k)) n)) is
    ∙ (λ i. record a {
      trace = append_assoc a.trace (slot_loads owner which word k)
          (Loaded (Slot owner (which k)) (word (which k)) ∷ []) i;
    })
    ∙ ap (λ (n : ℕ). account_loading a owner which word n) more where
      more : suc k ≡ k + 1
      more = omega arith

-- What a slot in hand shows, once others were loaded.
pub loading-shows :
    (a b : Account) (owner : ℕ) (which word : ℕ → ℕ) (count slot shown : ℕ) (slots : SlotsInHand)
    → b ≡ account_loading a owner which word count
    → a.fast.slots owner ≡ Some slots → ((its : SlotsInHand) → b.fast.slots owner ≡ Some its → shown ≡ its.word slot)
    → shown ≡ (slots_here (a.fast.slots owner)).word slot
loading-shows a b owner which word count slot shown slots so_far in_hand told =
    told slots (ap (λ (x : Account). x.fast.slots owner) so_far ∙ in_hand)
    ∙ sym (ap (λ found. (slots_here found).word slot) in_hand)

-- So does a slot whose lock is shared.
pub loading-shows_shared :
    (a b : Account) (owner : ℕ) (which word : ℕ → ℕ) (count slot shown : ℕ) (slots : SlotsInHand)
    → b ≡ account_loading a owner which word count
    → a.fast.shared_slots owner ≡ Some slots
    → ((its : SlotsInHand) → b.fast.shared_slots owner ≡ Some its → shown ≡ its.word slot)
    → shown ≡ (slots_here (a.fast.shared_slots owner)).word slot
loading-shows_shared a b owner which word count slot shown slots so_far shared told =
    told slots (ap (λ (x : Account). x.fast.shared_slots owner) so_far ∙ shared)
    ∙ sym (ap (λ found. (slots_here found).word slot) shared)
