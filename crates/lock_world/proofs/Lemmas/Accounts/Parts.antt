use Rattle.std.proofs.Common.{◌≡◌, ◌≢◌, ℕ, Bool, true, false, Option, Some, None, refl, sym, ap, ◌∙◌, inl, inr}
use Rattle.std.specs.Prelude.{◌==◌}
use Rattle.std.proofs.lemmas.Bool.{cases_eq, cond-true, eq-eqb}
use Rattle.modes_core.specs.declared.modes.Mode.{Mode}
use Rattle.modes_core.specs.declared.tags.Tag.{Tag}
use Rattle.modes_core.specs.Mode.{mode_eq}
use Rattle.modes_core.specs.Tag.{tag_eq}
use Rattle.lock_table.specs.declared.moves.Move.{Move}
use Rattle.lock_table.specs.declared.moves.Move.TheVariants.{Keep, Grant, Join, Release, Leave, Adopt}
use Rattle.lock_table.specs.Content.{Content, Holds, set_hold}
use Rattle.lock_table.specs.Put.{put, set_at}
use Rattle.lock_table.proofs.Lemmas.Put.{set_at-here, set_at-else}
use Rattle.lock_world.specs.World.{World, Hand}
use Rattle.lock_world.specs.Account.{Account, InHand, own_hand, own_hands, fast_account, list_account, account}
use Rattle.lock_world.specs.AccountSteps.{own_with, own_moved, hand_recording}
use Rattle.lock_world.specs.Happens.Partitions.{own_after}
use Rattle.lock_world.specs.Happens.Waits.{recording}

-- An account is this one part by part.
pub account-by :
    (w : World) (s : ℕ) (a : Account) → list_account w s ≡ a.lists → w.sessions.own s ≡ a.own → w.sessions.awaited s ≡ a.awaited → w.sessions.seen s ≡ a.seen
    → own_hands w.contents.hand w.contents.now s ≡ a.hand → w.sessions.shares_partition s ≡ a.shares → fast_account w s ≡ a.fast → w.sessions.trace s ≡ a.trace
    → account w s ≡ a
account-by w s a lists own awaited seen hand shares fast trace =
    λ i. record { own = own i; awaited = awaited i; seen = seen i; hand = hand i; shares = shares i; fast = fast i; lists = lists i; trace = trace i }

-- what a session keeps of its own hand
abbrev pub mine : Hand → Content → InHand
mine hand now = record { taken = hand.taken; now = now; recorded = hand.recorded; unmarked = hand.unmarked }

own_hand-mine : (hand : Hand) (now : Content) (s : ℕ) → hand.holder ≡ s → own_hand (Some hand) now s ≡ Some (mine hand now)
own_hand-mine hand now s whose = cond-true (hand.holder == s) (Some (mine hand now)) None (eq-eqb hand.holder s whose)

-- One hand has changed, and the content in it.
hands-set :
    (hand : ℕ → Option Hand) (now now' : ℕ → Content) (p : ℕ) (new : Option Hand) (kept : Option InHand) (s : ℕ) → own_hand new (now' p) s ≡ kept
    → ((q : ℕ) → q ≢ p → now' q ≡ now q) → own_hands (set_at hand p new) now' s ≡ set_at (own_hands hand now s) p kept
hands-set hand now now' p new kept s is elsewhere = λ i q. at q i where
  at : (q : ℕ) → own_hand (set_at hand p new q) (now' q) s ≡ set_at (own_hands hand now s) p kept q
  at q =
      elim (cases_eq q p) [
        | inl same ↦
            ap (λ h. own_hand h (now' q) s) (set_at-here hand p new q same) ∙ ap (λ j. own_hand new (now' j) s) same ∙ is
            ∙ sym (set_at-here (own_hands hand now s) p kept q same)
        | inr other ↦
            ap (λ h. own_hand h (now' q) s) (set_at-else hand p new q other) ∙ ap (λ content. own_hand (hand q) content s) (elsewhere q other)
            ∙ sym (set_at-else (own_hands hand now s) p kept q other)
      ]

-- A partition came into hand, with what its content is.
pub hands-taken :
    (hand : ℕ → Option Hand) (now : ℕ → Content) (p : ℕ) (new : Hand) (s : ℕ) → new.holder ≡ s
    → own_hands (set_at hand p (Some new)) now s ≡ set_at (own_hands hand now s) p (Some (mine new (now p)))
hands-taken hand now p new s whose = hands-set hand now now p (Some new) (Some (mine new (now p))) s (own_hand-mine new (now p) s whose) (λ q _. refl)

-- A partition went home.
pub hands-home :
    (hand : ℕ → Option Hand) (now now' : ℕ → Content) (p s : ℕ) → ((q : ℕ) → q ≢ p → now' q ≡ now q)
    → own_hands (set_at hand p None) now' s ≡ set_at (own_hands hand now s) p None
hands-home hand now now' p s elsewhere = hands-set hand now now' p None None s refl elsewhere

-- A move was recorded in the session's own hand.
pub hands-recorded :
    (hand : ℕ → Option Hand) (now now' : ℕ → Content) (p : ℕ) (old : Hand) (done : Move) (unmarked : ℕ → Bool) (s : ℕ) → hand p ≡ Some old → old.holder ≡ s
    → ((q : ℕ) → q ≢ p → now' q ≡ now q)
    → own_hands (set_at hand p (recording (hand p) done unmarked)) now' s ≡ set_at (own_hands hand now s) p (Some (hand_recording (mine old (now p)) (now' p) done unmarked))
hands-recorded hand now now' p old done unmarked s is whose elsewhere =
    hands-set hand now now' p (recording (hand p) done unmarked) (Some (hand_recording (mine old (now p)) (now' p) done unmarked)) s
    (ap (λ h. own_hand (recording h done unmarked) (now' p) s) is
    ∙ own_hand-mine (record old { recorded = Some done; unmarked = unmarked }) (now' p) s whose)
    elsewhere

-- A move was recorded in the session's own hand, and has led to another content.
pub hands-moved :
    (hand : ℕ → Option Hand) (now : ℕ → Content) (p : ℕ) (old : Hand) (done : Move) (content : Content) (unmarked : ℕ → Bool) (s : ℕ) → hand p ≡ Some old → old.holder ≡ s
    → own_hands (set_at hand p (recording (hand p) done unmarked)) (set_at now p content) s
    ≡ set_at (own_hands hand now s) p (Some (hand_recording (mine old (now p)) content done unmarked))
hands-moved hand now p old done content unmarked s is whose =
    hands-recorded hand now (set_at now p content) p old done unmarked s is whose (set_at-else now p content)
    ∙ ap (λ c. set_at (own_hands hand now s) p (Some (hand_recording (mine old (now p)) c done unmarked))) (set_at-here now p content p refl)

-- Own holds with one set, and after a move.
pub own-set : (own : Holds) (s : ℕ) (t : Tag) (m : Mode) (b : Bool) → set_hold own s t m b s ≡ own_with (own s) t m b
own-set own s t m b = set_at-here own s (put tag_eq (own s) t (put mode_eq (own s t) m b)) s refl

pub own-moved : (own : Holds) (s : ℕ) (done : Move) → own_after own s done s ≡ own_moved (own s) done
own-moved own s Keep = refl
own-moved own s (Grant t m) = own-set own s t m true
own-moved own s (Join t m) = refl
own-moved own s (Release t m) = own-set own s t m false
own-moved own s (Leave t) = refl
own-moved own s (Adopt k i) = refl
