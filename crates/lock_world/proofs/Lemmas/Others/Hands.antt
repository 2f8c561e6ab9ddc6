use Rattle.std.proofs.Common.{◌≡◌, ◌≢◌, ℕ, true, Option, Some, None, refl, sym, ap, ◌∙◌, subst, inl, inr}
use Rattle.std.specs.Prelude.{◌==◌}
use Rattle.std.proofs.lemmas.Bool.{cases_eq, cond-false, eqb-true, ne_eqb}
use Rattle.lock_table.specs.Content.{Content}
use Rattle.lock_table.specs.Put.{set_at}
use Rattle.lock_world.specs.World.{World, Hand}
use Rattle.lock_world.specs.Account.{own_hand, own_hands, slots_in_hand, fast_account, list_account, IsLeftAlone}
use Rattle.lock_world.specs.Safe.{is_hand_of}
use Rattle.lock_table.proofs.Lemmas.Put.{set_at-here, set_at-else}

-- A hand of one session is no other's.
pub another's : (hand : Option Hand) (now : Content) (s k : ℕ) → is_hand_of hand s ≡ true → k ≢ s → own_hand hand now k ≡ None
another's None now s k holds other = refl
another's (Some h) now s k holds other = cond-false (h.holder == k) _ None (ne_eqb h.holder k (λ same. other (sym same ∙ eqb-true h.holder s holds)))

-- What a session has in hand is as it was where one partition changed that is not in its hand, neither before
-- nor after.
pub own_hand-set :
    (hand : ℕ → Option Hand) (now now' : ℕ → Content) (p : ℕ) (new : Option Hand) (k : ℕ) → ((q : ℕ) → q ≢ p → now' q ≡ now q)
    → own_hand (hand p) (now p) k ≡ None → own_hand new (now' p) k ≡ None → own_hands (set_at hand p new) now' k ≡ own_hands hand now k
own_hand-set hand now now' p new k elsewhere before after = λ i q. at q i where
  at : (q : ℕ) → own_hand (set_at hand p new q) (now' q) k ≡ own_hand (hand q) (now q) k
  at q =
      elim (cases_eq q p) [
        | inl same ↦
            ap (λ h. own_hand h (now' q) k) (set_at-here hand p new q same) ∙ ap (λ j. own_hand new (now' j) k) same ∙ after
            ∙ sym before ∙ ap (λ j. own_hand (hand j) (now j) k) (sym same)
        | inr other ↦ ap (λ h. own_hand h (now' q) k) (set_at-else hand p new q other) ∙ ap (λ content. own_hand (hand q) content k) (elsewhere q other)
      ]

-- Whoever is left alone in a World is so in an equal one.
pub IsLeftAlone-same : (k : ℕ) (w u v : World) → v ≡ u → IsLeftAlone w u k → IsLeftAlone w v k
IsLeftAlone-same k w u v e alone = subst (λ z. IsLeftAlone w z k) (sym e) alone

-- An account is the same part by part.
pub IsLeftAlone-by :
    (w v : World) (k : ℕ) → list_account v k ≡ list_account w k → v.sessions.own k ≡ w.sessions.own k → v.sessions.awaited k ≡ w.sessions.awaited k → v.sessions.seen k ≡ w.sessions.seen k
    → own_hands v.contents.hand v.contents.now k ≡ own_hands w.contents.hand w.contents.now k → v.sessions.shares_partition k ≡ w.sessions.shares_partition k
    → fast_account v k ≡ fast_account w k → v.sessions.trace k ≡ w.sessions.trace k
    → v.numbers.live k ≡ w.numbers.live k → v.numbers.kept_by k ≡ w.numbers.kept_by k
    → IsLeftAlone w v k
IsLeftAlone-by w v k lists own awaited seen hand shares fast trace live kept_by = record {
  account = λ i. record { own = own i; awaited = awaited i; seen = seen i; hand = hand i; shares = shares i; fast = fast i; lists = lists i; trace = trace i };
  live = live;
  kept_by = kept_by;
}

-- What a session knows of slots and counters is the same part by part.
pub fast_account-by :
    (w v : World) (k : ℕ) → slots_in_hand (v.sessions.holds_fast k) v.words.database v.words.slot ≡ slots_in_hand (w.sessions.holds_fast k) w.words.database w.words.slot
    → slots_in_hand (v.sessions.shares_fast k) v.words.database v.words.slot ≡ slots_in_hand (w.sessions.shares_fast k) w.words.database w.words.slot
    → v.words.database k ≡ w.words.database k → v.sessions.remembered k ≡ w.sessions.remembered k
    → v.sessions.zero k ≡ w.sessions.zero k → v.sessions.counted k ≡ w.sessions.counted k
    → fast_account v k ≡ fast_account w k
fast_account-by w v k slots shared_slots database remembered zero counted =
    λ i. record {
      slots = slots i;
      shared_slots = shared_slots i;
      database = database i;
      remembered = remembered i;
      zero = zero i;
      counted = counted i;
    }
