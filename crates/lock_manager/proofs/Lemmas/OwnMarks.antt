use Rattle.std.proofs.Common.{◌≡◌, ◌⊎◌, ℕ, Bool, true, false, List, [], ◌∷◌, ◌++◌, Option, Some, None, refl, sym, ap, ◌∙◌, inl, inr}
use Rattle.std.specs.Prelude.{if◌then◌else◌}
use Rattle.std.proofs.lemmas.Bool.{cases_Bool, both_ways}
use Rattle.modes_core.specs.declared.modes.Mode.{Mode}
use Rattle.modes_core.specs.declared.tags.Tag.{Tag}
use Rattle.lock_table.specs.declared.moves.Move.{Move}
use Rattle.lock_table.specs.declared.moves.Move.TheVariants.{Grant, Release}
use Rattle.lock_table.specs.Content.{Content}
use Rattle.lock_table.specs.OwnWait.{OwnWait}
use Rattle.lock_table.proofs.Lemmas.Holds.{SetHoldAt, here, elsewhere, set_hold-at, set_hold-was, set_hold-still, set_hold-new}
use Rattle.lock_world.specs.Account.{Account, InHand}
use Rattle.lock_world.specs.AccountSteps.{own_with, own_moved}
use Rattle.lock_world.proofs.Lemmas.Accounts.Parts.{own-set}
use Rattle.shared_rule.specs.declared.history.Mark.{Mark}
use Rattle.shared_rule.specs.declared.history.Mark.TheVariants.{PutPart, MarkedGranted, LeftQueue, OfWords}
use Rattle.shared_rule.specs.declared.history.WordMark.{WordMark}
use Rattle.shared_rule.specs.declared.history.WordMark.TheVariants as words
use Rattle.shared_rule.specs.History.{noted, noted_words, told, account_granting_by, account_cleared, account_left, in_hand}
use Rattle.shared_rule.specs.Tells.{LooksOnly, at_list, at_lock, calls_waiter, calls_sleeper, at_wait, at_sleep}
use Rattle.lock_manager.specs.ListMoments.{ComesToOwn, GivesUp}

-- By which marks of its history a session comes to own a mode on an object, and gives one up.

-- An own hold that was set is new, or was there; one that was cleared and is gone was there, or is that one.
with-new : (own : Tag → Mode → Bool) (t : Tag) (m : Mode) (o : Tag) (n : Mode) → own_with own t m true o n ≡ true → (own o n ≡ true) ⊎ ((o ≡ t) × (n ≡ m))
with-new own t m o n has = set_hold-new (λ _. own) 0 t m o n (ap (λ (f : Tag → Mode → Bool). f o n) (own-set (λ _. own) 0 t m true) ∙ has)

with-still : (own : Tag → Mode → Bool) (t : Tag) (m : Mode) (o : Tag) (n : Mode) → own o n ≡ true → own_with own t m true o n ≡ true
with-still own t m o n has = sym (ap (λ (f : Tag → Mode → Bool). f o n) (own-set (λ _. own) 0 t m true)) ∙ set_hold-still (λ _. own) 0 t m o n has

without-was : (own : Tag → Mode → Bool) (t : Tag) (m : Mode) (o : Tag) (n : Mode) → own_with own t m false o n ≡ true → own o n ≡ true
without-was own t m o n has = set_hold-was (λ _. own) 0 t m o n (ap (λ (f : Tag → Mode → Bool). f o n) (own-set (λ _. own) 0 t m false) ∙ has)

without-gone : (own : Tag → Mode → Bool) (t : Tag) (m : Mode) (o : Tag) (n : Mode) → own o n ≡ true → own_with own t m false o n ≡ false → (o ≡ t) × (n ≡ m)
without-gone own t m o n has gone = at (set_hold-at (λ _. own) 0 t m false 0 o n) where
  at : SetHoldAt (λ _. own) 0 t m false 0 o n → (o ≡ t) × (n ≡ m)
  at (here it e) = (it.tag, it.mode)
  at (elsewhere _ e) = absurd (both_ways (own o n) (sym e ∙ ap (λ (f : Tag → Mode → Bool). f o n) (own-set (λ _. own) 0 t m false) ∙ gone) has)

-- Moves.
moved-new : (own : Tag → Mode → Bool) (done : Move) (o : Tag) (n : Mode) → own o n ≡ false → own_moved own done o n ≡ true → done ≡ Grant o n
moved-new own (Grant t m) o n none has = elim (with-new own t m o n has) [
  | inl old ↦ absurd (both_ways (own o n) none old)
  | inr same ↦ λ i. Grant (sym same.0 i) (sym same.1 i)
]
moved-new own (Release t m) o n none has = absurd (both_ways (own o n) none (without-was own t m o n has))
moved-new own done o n none has = absurd (both_ways (own o n) none has)

moved-gone : (own : Tag → Mode → Bool) (done : Move) (o : Tag) (n : Mode) → own o n ≡ true → own_moved own done o n ≡ false → done ≡ Release o n
moved-gone own (Grant t m) o n has gone = absurd (both_ways (own_moved own (Grant t m) o n) gone (with-still own t m o n has))
moved-gone own (Release t m) o n has gone = let same = without-gone own t m o n has gone in λ i. Release (sym same.0 i) (sym same.1 i)
moved-gone own done o n has gone = absurd (both_ways (own o n) gone has)

-- A mark of somebody granted makes the move, or finds it made.
granting-new : (recorded : Option Move) (a : Account) (part : ℕ) (mine : InHand) (other : ℕ) (done : Move) (woken : List ℕ) (now : Content) (o : Tag) (n : Mode)
    → a.own o n ≡ false → (account_granting_by recorded a part mine other done woken now).own o n ≡ true → done ≡ Grant o n
granting-new None a part mine other done woken now o n none has = moved-new a.own done o n none has
granting-new (Some made) a part mine other done woken now o n none has = absurd (both_ways (a.own o n) none has)

granting-gone : (recorded : Option Move) (a : Account) (part : ℕ) (mine : InHand) (other : ℕ) (done : Move) (woken : List ℕ) (now : Content) (o : Tag) (n : Mode)
    → a.own o n ≡ true → (account_granting_by recorded a part mine other done woken now).own o n ≡ false → done ≡ Release o n
granting-gone None a part mine other done woken now o n has gone = moved-gone a.own done o n has gone
granting-gone (Some made) a part mine other done woken now o n has gone = absurd (both_ways (a.own o n) gone has)

-- Whoever leaves a queue owns what it owned, and whoever clears its wait word at least that.
left-own : (a : Account) (own : Option OwnWait) (now : Content) (woken : List ℕ) → (account_left a own now woken).own ≡ a.own
left-own a None now woken = refl
left-own a (Some wait) now woken = refl

cleared-still : (number : ℕ) (a : Account) (own : Option OwnWait) (o : Tag) (n : Mode) → a.own o n ≡ true → (account_cleared number a own).own o n ≡ true
cleared-still number a None o n has = has
cleared-still number a (Some wait) o n has = either (Rattle.shared_rule.specs.History.is_granted number a wait) where
  either : (granted : Bool) → (if granted then own_with a.own wait.tag wait.mode true else a.own) o n ≡ true
  either true = with-still a.own wait.tag wait.mode o n has
  either false = has

module _ {T : Type 0} (content : T → Content) (number : ℕ) (a : Account) (t : Tag) (m : Mode) where
  words-new : (its : WordMark) → a.own t m ≡ false → (noted_words number a its).own t m ≡ true → ComesToOwn {T = T} (OfWords its) t m
  words-new (words.SetSlot slot tag mode) none has = elim (with-new a.own tag mode t m has) [
    | inl old ↦ absurd (both_ways (a.own t m) none old)
    | inr same ↦ inl (slot, λ i. OfWords (words.SetSlot slot (sym same.0 i) (sym same.1 i)))
  ]
  words-new (words.ClearedSlot slot tag mode) none has = absurd (both_ways (a.own t m) none (without-was a.own tag mode t m has))
  words-new words.ClearedWait none has = inr (inr refl)
  words-new its none has = absurd (both_ways (a.own t m) none has)

  words-gone : (its : WordMark) → a.own t m ≡ true → (noted_words number a its).own t m ≡ false → GivesUp {T = T} (OfWords its) t m
  words-gone (words.SetSlot slot tag mode) has gone = absurd (both_ways (own_with a.own tag mode true t m) gone (with-still a.own tag mode t m has))
  words-gone (words.ClearedSlot slot tag mode) has gone =
      let same = without-gone a.own tag mode t m has gone in inl (slot, λ i. OfWords (words.ClearedSlot slot (sym same.0 i) (sym same.1 i)))
  words-gone words.ClearedWait has gone = absurd (both_ways ((account_cleared number a a.awaited).own t m) gone (cleared-still number a a.awaited t m has))
  words-gone its has gone = absurd (both_ways (a.own t m) gone has)

  -- A mark by which a mode comes to be owned, but that nobody is marked granted by a grant,
  pub mark-new : (mark : Mark T) → a.own t m ≡ false → (noted content number a mark).own t m ≡ true
      → ComesToOwn mark t m ⊎ ((part : ℕ) × (other : ℕ) × (woken : List ℕ) × (now : T) × (mark ≡ MarkedGranted part other (Grant t m) woken now))
  mark-new (PutPart part done put found) none has = inl (inr (inl (part, found, put, ap (λ its. PutPart part its put found) (moved-new a.own done t m none has))))
  mark-new (MarkedGranted part other done woken now) none has = inr (
    part,
    other,
    woken,
    now,
    ap (λ its. MarkedGranted part other its woken now) (granting-new (in_hand (a.hand part)).recorded a part (in_hand (a.hand part)) other done woken (content now) t m none has),
  )
  mark-new (LeftQueue woken now) none has =
      absurd (both_ways (a.own t m) none (sym (ap (λ (f : Tag → Mode → Bool). f t m) (left-own a a.awaited (content now) woken)) ∙ has))
  mark-new (OfWords its) none has = inl (words-new its none has)
  mark-new mark none has = absurd (both_ways (a.own t m) none has)

  -- and one by which it is given up.
  pub mark-gone : (mark : Mark T) → a.own t m ≡ true → (noted content number a mark).own t m ≡ false → GivesUp mark t m
  mark-gone (PutPart part done put found) has gone = inr (inl (part, found, put, ap (λ its. PutPart part its put found) (moved-gone a.own done t m has gone)))
  mark-gone (MarkedGranted part other done woken now) has gone = inr (inr (
    part,
    other,
    woken,
    now,
    ap (λ its. MarkedGranted part other its woken now) (granting-gone (in_hand (a.hand part)).recorded a part (in_hand (a.hand part)) other done woken (content now) t m has gone),
  ))
  mark-gone (LeftQueue woken now) has gone =
      absurd (both_ways (a.own t m) (sym (ap (λ (f : Tag → Mode → Bool). f t m) (left-own a a.awaited (content now) woken)) ∙ gone) has)
  mark-gone (OfWords its) has gone = words-gone its has gone
  mark-gone mark has gone = absurd (both_ways (a.own t m) gone has)

  -- A look or a call leaves own holds.
  pub looks-own : (mark : Mark T) → LooksOnly mark → (noted content number a mark).own ≡ a.own
  looks-own mark (at_list lock is) = ap (λ its. (noted content number a its).own) is
  looks-own mark (at_lock lock shown is) = ap (λ its. (noted content number a its).own) is
  looks-own mark (calls_waiter other is) = ap (λ its. (noted content number a its).own) is
  looks-own mark (calls_sleeper other is) = ap (λ its. (noted content number a its).own) is
  looks-own mark (at_wait shown is) = ap (λ its. (noted content number a its).own) is
  looks-own mark (at_sleep shown is) = ap (λ its. (noted content number a its).own) is

-- What a history's account has, and had not before these marks, it has from one of them on.
pub at_mark : {T : Type 0} (content : T → Content) (number : ℕ) (read : Account → Bool) (earlier between : List (Mark T))
    → read (told content number earlier) ≡ false → read (told content number (between ++ earlier)) ≡ true
    → (mark : Mark T) × (newer : List (Mark T)) × (older : List (Mark T)) × (between ≡ newer ++ mark ∷ older)
    × (read (told content number (older ++ earlier)) ≡ false) × (read (noted content number (told content number (older ++ earlier)) mark) ≡ true)
at_mark content number read earlier [] none has = absurd (both_ways (read (told content number earlier)) none has)
at_mark content number read earlier (mark ∷ between) none has = elim (cases_Bool (read (told content number (between ++ earlier)))) [
  | inl before ↦
      let rest = at_mark content number read earlier between none before in
      (rest.0, mark ∷ rest.1, rest.2, ap (λ all. mark ∷ all) rest.3, rest.4, rest.5)
  | inr not_yet ↦ (mark, [], between, refl, not_yet, has)
]
