use Rattle.std.proofs.Common.{◌≡◌, ℕ, Bool, true, false, ◌≤◌, List, length, take, drop, suc, Option, Some, None, refl, sym, ap, ◌∙◌, subst, inl, inr, arith}
use Rattle.std.specs.Prelude.{slice_get, option_map, IfSome}
use Rattle.std.proofs.lemmas.Bool.{false≢true}
use Rattle.std.proofs.lemmas.List.{take_all, length-take-le}
use Rattle.modes_core.specs.declared.modes.Mode.{Mode}
use Rattle.modes_core.specs.declared.tags.Tag.{Tag}
use Rattle.lock_table.specs.Content.{Holds, Wait, Content}
use Rattle.lock_table.specs.Clash.{NoConflictingHolder, HolderInTheWay}
use Rattle.lock_table.specs.declared.answering.Answer.{Answer}
use Rattle.lock_table.specs.declared.answering.Answer.TheVariants.{Granted, Queued, SimpleDeadlock}
use Rattle.lock_table.specs.Queue.{IsFirstAgainst, AnswerAtWaiter, AnswerByPlace, conflicts_with_some}
use Rattle.lock_table.specs.declared.waits.Waiter.{Waiter}
use Rattle.lock_table.specs.Waiter.{shown_wait}
use Rattle.modes_core.specs.ModeSet.{set_has}
use Rattle.lock_table.specs.declared.answering.walk.Walk.{Walk}
use Rattle.lock_table.specs.Walk.{NoneAgainst, WalksUntil}
use Rattle.lock_table.proofs.Lemmas.Find.{split-at, all-before}

-- A holder in the way.
in_the_way-not_free : (holds : Holds) (session : ℕ) (tag : Tag) (mode : Mode) (found : ℕ × Mode) → HolderInTheWay holds session tag mode (Some found) → NoConflictingHolder holds session tag mode → ⊥
in_the_way-not_free holds session tag mode found way none =
    false≢true (sym (none found.0 found.1 way.another way.holding) ∙ way.conflicting)

-- A request whose walk passed the whole queue stands at its end.
pub place-last : (content : Content) (session : ℕ) (tag : Tag) (mode : Mode) (held : Mode → Bool) (walk : Walk)
    → held ≡ content.holds session tag → WalksUntil held (content.waits tag) walk → walk.met ≡ None → AnswerByPlace content session tag mode (Queued walk.place)
place-last content session tag mode held walk is walks passed =
    let ended : length (content.waits tag) ≤ walk.place = all-before (content.waits tag) walk.place (sym walks.met ∙ ap (option_map shown_wait) passed) in
    let all : take walk.place (content.waits tag) ≡ content.waits tag = take_all walk.place (content.waits tag) ended in
    let none : NoneAgainst held (content.waits tag) = subst (λ (waits : List Wait). NoneAgainst held waits) all walks.passed in
    let within : walk.place ≤ length (content.waits tag) = walks.within in
    let at_end : walk.place ≡ length (content.waits tag) = omega arith in
    inl (subst (λ (modes : Mode → Bool). NoneAgainst modes (content.waits tag)) is none, ap Queued at_end)

-- The answer to a request whose walk met this waiter.
module _ (content : Content) (session : ℕ) (tag : Tag) (mode : Mode) (held : Mode → Bool) (walk : Walk) (waiter : Waiter)
    (is : held ≡ content.holds session tag) (walks : WalksUntil held (content.waits tag) walk) (met : walk.met ≡ Some waiter) where
  at_place : slice_get (content.waits tag) walk.place ≡ Some (shown_wait waiter)
  at_place = sym walks.met ∙ ap (option_map shown_wait) met

  against : conflicts_with_some waiter.mode held ≡ true
  against = subst (λ (o : Option Waiter). IfSome o (λ w. conflicts_with_some w.mode held ≡ true)) met walks.against

  first : IsFirstAgainst (content.holds session tag) (content.waits tag) (take walk.place (content.waits tag)) (shown_wait waiter) (drop (suc walk.place) (content.waits tag))
  first = subst (λ (modes : Mode → Bool). IsFirstAgainst modes (content.waits tag) (take walk.place (content.waits tag)) (shown_wait waiter) (drop (suc walk.place) (content.waits tag))) is
      (record { parts = split-at (content.waits tag) walk.place (shown_wait waiter) at_place; passed = walks.passed; met = against })

  answers : (its : Answer) → AnswerAtWaiter content.holds session tag mode (take walk.place (content.waits tag)) (shown_wait waiter) its → AnswerByPlace content session tag mode its
  answers its at = inr (take walk.place (content.waits tag), shown_wait waiter, drop (suc walk.place) (content.waits tag), first, at)

  counted : walk.place ≡ length (take walk.place (content.waits tag))
  counted = sym (length-take-le walk.place (content.waits tag) walks.within)

  pub place-deadlock : conflicts_with_some mode (shown_wait waiter).held ≡ true → AnswerByPlace content session tag mode (SimpleDeadlock waiter.session)
  place-deadlock clash = answers (SimpleDeadlock waiter.session) (clash, refl)

  pub place-behind_waiters : conflicts_with_some mode (shown_wait waiter).held ≡ false → conflicts_with_some mode (set_has walk.ahead) ≡ true → AnswerByPlace content session tag mode (Queued walk.place)
  place-behind_waiters apart behind =
      answers (Queued walk.place) (apart, λ free. false≢true (sym free.behind_waiters ∙ sym (walks.ahead mode) ∙ behind), counted)

  pub place-beside_holders : (found : ℕ × Mode) → conflicts_with_some mode (shown_wait waiter).held ≡ false → HolderInTheWay content.holds session tag mode (Some found) → AnswerByPlace content session tag mode (Queued walk.place)
  place-beside_holders found apart way =
      answers (Queued walk.place) (apart, λ free. in_the_way-not_free content.holds session tag mode found way free.beside_holders, counted)

  pub place-granted : conflicts_with_some mode (shown_wait waiter).held ≡ false → conflicts_with_some mode (set_has walk.ahead) ≡ false → NoConflictingHolder content.holds session tag mode → AnswerByPlace content session tag mode Granted
  place-granted apart behind none =
      answers Granted (apart, record { beside_holders = none; behind_waiters = sym (walks.ahead mode) ∙ behind })
