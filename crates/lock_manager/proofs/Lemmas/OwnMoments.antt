use Rattle.std.proofs.Common.{◌≡◌, ℕ, Bool, true, false, not, List, ◌∷◌, ◌++◌, refl, sym, ap, ◌∙◌, subst, inl, inr, append_assoc}
use Rattle.std.proofs.lemmas.Bool.{both_ways}
use Rattle.modes_core.specs.declared.modes.Mode.{Mode}
use Rattle.modes_core.specs.declared.tags.Tag.{Tag}
use Rattle.lock_table.specs.declared.moves.Move.TheVariants.{Grant}
use Rattle.lock_table.specs.Content.{Content}
use Rattle.lock_world.specs.declared.events.Event.{Event}
use Rattle.lock_world.specs.declared.events.Step.TheVariants as step
use Rattle.lock_world.specs.Happens.{HappensStep}
use Rattle.lock_world.specs.Account.{Account}
use Rattle.lock_world.specs.World.{World}
use Rattle.lock_world.specs.SafeWorld.{SafeWorld}
use Rattle.shared_rule.specs.declared.history.Mark.{Mark}
use Rattle.shared_rule.specs.declared.history.Mark.TheVariants.{MarkedGranted}
use Rattle.shared_rule.specs.History.{told}
use Rattle.shared_rule.specs.Tells.{Tells, AreTold, Leads, LooksOnly, steps_of}
use Rattle.lock_manager.specs.ListMoments.{HasItsMoment, ComesToOwn, GivesUp, OneHasItsMoment}
use Rattle.lock_manager.proofs.Lemmas.ListMoments.{moment}
use Rattle.lock_manager.proofs.Lemmas.OwnMarks.{mark-new, mark-gone, looks-own, at_mark}

-- What a session comes to own, or gives up, between two moments of its history has its own moment in the run.

module _ {T : Type 0} (content : T → Content) (w : World) (safe : SafeWorld w) (events : List Event) (v : World) (leads : Leads w events v) (number : ℕ)
    (later between earlier : List (Mark T)) (all_told : AreTold number (later ++ (between ++ earlier)) (steps_of number events)) (t : Tag) (m : Mode) where
  then_ : List (Mark T) → Account
  then_ older = told content number (older ++ earlier)

  has_moment : (mark : Mark T) (newer older : List (Mark T)) → between ≡ newer ++ mark ∷ older → (LooksOnly mark → ⊥) → HasItsMoment w events v number mark (older ++ earlier)
  has_moment mark newer older parts no_look =
      elim (moment w safe events v leads number mark (older ++ earlier) (later ++ newer) (subst (λ marks. AreTold number marks (steps_of number events)) arranged all_told)) [
        | inl looks ↦ absurd (no_look looks)
        | inr at ↦ at
      ] where
        arranged : later ++ (between ++ earlier) ≡ (later ++ newer) ++ mark ∷ (older ++ earlier)
        arranged =
            ap (λ marks. later ++ (marks ++ earlier)) parts ∙ ap (λ marks. later ++ marks) (append_assoc newer (mark ∷ older) earlier)
            ∙ sym (append_assoc later newer (mark ∷ (older ++ earlier)))

  -- Nobody is marked granted by a grant.
  none_marked : (mark : Mark T) (older : List (Mark T)) → HasItsMoment w events v number mark older
      → (part : ℕ) × (other : ℕ) × (woken : List ℕ) × (now : T) × (mark ≡ MarkedGranted part other (Grant t m) woken now) → ⊥
  none_marked mark older at is =
      let tells : at.step ≡ step.MarkGranted is.1 (Grant t m) = subst (λ its. Tells number its at.step) is.4 at.tells in
      subst (λ its. HappensStep at.world number its at.next) tells at.happens

  pub comes-at : (told content number earlier).own t m ≡ false → (told content number (between ++ earlier)).own t m ≡ true
      → OneHasItsMoment w events v number between earlier (λ mark. ComesToOwn mark t m)
  comes-at none has =
      let at = at_mark content number (λ a. a.own t m) earlier between none has in
      let before : Account = told content number (at.2 ++ earlier) in
      let no_look : LooksOnly at.0 → ⊥ = λ looks.
      both_ways (before.own t m) at.4 (sym (ap (λ (f : Tag → Mode → Bool). f t m) (looks-own content number before t m at.0 looks)) ∙ at.5) in
      let there : HasItsMoment w events v number at.0 (at.2 ++ earlier) = has_moment at.0 at.1 at.2 at.3 no_look in
      elim (mark-new content number before t m at.0 at.4 at.5) [
        | inl is ↦ (at.0, at.1, at.2, at.3, is, there)
        | inr marked ↦ absurd (none_marked at.0 (at.2 ++ earlier) there marked)
      ]

  pub goes-at : (told content number earlier).own t m ≡ true → (told content number (between ++ earlier)).own t m ≡ false
      → OneHasItsMoment w events v number between earlier (λ mark. GivesUp mark t m)
  goes-at has gone =
      let at = at_mark content number (λ a. not (a.own t m)) earlier between (ap not has) (ap not gone) in
      let before : Account = told content number (at.2 ++ earlier) in
      let had : before.own t m ≡ true = from_not (before.own t m) true at.4 in
      let left = from_not _ false at.5 in
      let no_look : LooksOnly at.0 → ⊥ = λ looks.
      both_ways (before.own t m) (sym (ap (λ (f : Tag → Mode → Bool). f t m) (looks-own content number before t m at.0 looks)) ∙ left) had in
      (at.0, at.1, at.2, at.3, mark-gone content number before t m at.0 had left, has_moment at.0 at.1 at.2 at.3 no_look) where
        from_not : (b c : Bool) → not b ≡ not c → b ≡ c
        from_not true true e = refl
        from_not false false e = refl
        from_not true false e = sym e
        from_not false true e = sym e
