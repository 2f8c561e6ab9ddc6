use Rattle.std.proofs.Common.{◌≡◌, ◌≢◌, ◌⊎◌, ℕ, refl, sym, subst, inl, inr}
use Rattle.std.proofs.lemmas.Bool.{cases_eq}
use Rattle.lock_world.specs.declared.events.Event.{Event}
use Rattle.lock_world.specs.WaitWord.{wait_state, asked_word, granted_word}
use Rattle.lock_world.specs.World.{World}
use Rattle.lock_table.specs.Put.{set_at}
use Rattle.lock_world.specs.Happens.{Happens}
use Rattle.lock_table.proofs.Lemmas.Put.{set_at-here, set_at-else}
use Rattle.lock_world.proofs.Lemmas.LawfulSteps.{LawfulStep, world_after, asking_to_cancel, setting_waiting, marking_first, marking_next, clearing_seen, clearing_in_hand, leaving_queue, after_each}

-- What becomes of another session's wait word: it stays, or it is asked to cancel, or its wait is marked
-- granted.
abbrev pub IsLeftOrMarked : ℕ → ℕ → Type 0
IsLeftOrMarked before after = (after ≡ before) ⊎ ((after ≡ asked_word before) ⊎ ((wait_state before ≡ 1) × (after ≡ granted_word before)))

-- One word is set, to what leaves it or marks it.
word-set : (waits : ℕ → ℕ) (j : ℕ) (after : ℕ) (k : ℕ) → IsLeftOrMarked (waits j) after → IsLeftOrMarked (waits k) (set_at waits j after k)
word-set waits j after k marked =
    elim (cases_eq k j) [
      | inl e ↦ subst (λ (i : ℕ). IsLeftOrMarked (waits i) (set_at waits j after k)) (sym e) (subst (λ (b : ℕ). IsLeftOrMarked (waits j) b) (sym (set_at-here waits j after k e)) marked)
      | inr n ↦ inl (set_at-else waits j after k n)
    ]

word-after : (w : World) (s k : ℕ) → k ≢ s → (it : LawfulStep w s) → IsLeftOrMarked (w.words.wait k) ((world_after it).words.wait k)
word-after w s k other (asking_to_cancel o steps) = word-set w.words.wait o _ k (inr (inl refl))
word-after w s k other (setting_waiting t m content may) = inl (set_at-else w.words.wait s 1 k other)
word-after w s k other (marking_first o p done granted content may) = word-set w.words.wait o _ k (inr (inr (may.may_mark.waiting, refl)))
word-after w s k other (marking_next o p done may) = word-set w.words.wait o _ k (inr (inr (may.may_mark.waiting, refl)))
word-after w s k other (clearing_seen wait may) = inl (set_at-else w.words.wait s 0 k other)
word-after w s k other (clearing_in_hand wait leaving may) = inl (set_at-else w.words.wait s 0 k other)
word-after w s k other (leaving_queue wait granted content may) = inl (set_at-else w.words.wait s 0 k other)
word-after w s k other step = inl refl

pub left_or_marked : (w v : World) (event : Event) (other : ℕ) → Happens w event v → other ≢ event.session → IsLeftOrMarked (w.words.wait other) (v.words.wait other)
left_or_marked w v event other h apart =
    after_each w event.session (λ _ u. IsLeftOrMarked (w.words.wait other) (u.words.wait other)) (word-after w event.session other apart) event.step v h
