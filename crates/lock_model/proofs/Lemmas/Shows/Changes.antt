use Rattle.std.proofs.Common.{get_or, ◌≡◌, ◌≢◌, ℕ, ◌<◌, Bool, false, List, length, Option, None, option_map, refl, sym, ap, ◌∙◌, subst, inl, inr}
use Rattle.std.specs.Vec.{with_item}
use Rattle.std.proofs.Math.ListN.{set, length-set}
use Rattle.std.proofs.lemmas.Bool.{cases_eq}
use Rattle.std.proofs.lemmas.List.{get_or-set_same, get_or-set_other}
use Rattle.modes_core.specs.Sessions.{most_sessions}
use Rattle.lock_model.specs.declared.machine.hands.InHand.{InHand}
use Rattle.lock_model.specs.declared.machine.own_waits.Awaited.{Awaited}
use Rattle.lock_model.specs.declared.machine.state.Words.{Words}
use Rattle.lock_model.specs.declared.machine.state.Contents.{Contents}
use Rattle.lock_model.specs.declared.machine.state.OwnWaits.{OwnWaits}
use Rattle.lock_table.specs.Content.{Content}
use Rattle.lock_table.specs.OwnWait.{OwnWait}
use Rattle.lock_table.specs.Parts.{no_part, part_at, contents_in}
use Rattle.lock_table.specs.PartView.{PartView, content_of}
use Rattle.lock_table.specs.Put.{set_at}
use Rattle.lw_word.specs.LockState.{LockState, opening_state}
use Rattle.lock_world.specs.World as world
use Rattle.lock_model.specs.Shows.{ShowsHandIfAny, ShowsLock, ShowsWords, ShowsContents, ShowsWaits, awaited_of}
use Rattle.lock_table.proofs.Lemmas.Put.{set_at-here, set_at-else, written-at}

-- What the machine shows once one place of it was written, for each record of `Shows`.

-- A list with one place written reads as the function changed there.
pub get_or-set_at : {A : Type 0} (xs : List A) (k : ℕ) (a d : A) (f : ℕ → A) → k < length xs → ((j : ℕ) → get_or xs j d ≡ f j) → (j : ℕ) → get_or (set xs k a) j d ≡ set_at f k a j
get_or-set_at xs k a d f within reads j = written-at (λ own its. own ≡ its) xs k a d f a within refl j (reads j)

-- A partition's word, that of a session's fast-path slots, and a session's wait word.
pub partition_word-set : (shown : Words) (words : world.Words) (p : ℕ) (a : LockState) (b : ℕ) → ShowsWords shown words → p < length shown.partitions → ShowsLock a b
    → ShowsWords (record shown { partitions = set shown.partitions p a }) (record words { partition = set_at words.partition p b })
partition_word-set shown words p a b shows within is = record {
  sixty_four_fast = shows.sixty_four_fast;
  all_waits = shows.all_waits;
  partition = λ q. written-at ShowsLock shown.partitions p a opening_state words.partition b within is q (shows.partition q);
  fast = shows.fast;
  wait = shows.wait;
}

pub fast_word-set : (shown : Words) (words : world.Words) (o : ℕ) (a : LockState) (b : ℕ) → ShowsWords shown words → o < 64 → ShowsLock a b
    → ShowsWords (record shown { fast = set shown.fast o a }) (record words { fast = set_at words.fast o b })
fast_word-set shown words o a b shows below is = record {
  sixty_four_fast = length-set shown.fast o a ∙ shows.sixty_four_fast;
  all_waits = shows.all_waits;
  partition = shows.partition;
  fast = λ k. written-at ShowsLock shown.fast o a opening_state words.fast b (subst (λ n. o < n) (sym shows.sixty_four_fast) below) is k (shows.fast k);
  wait = shows.wait;
}

pub wait_word-set : (shown : Words) (words : world.Words) (s a b : ℕ) → ShowsWords shown words → s < most_sessions → a ≡ b
    → ShowsWords (record shown { waits = set shown.waits s a }) (record words { wait = set_at words.wait s b })
wait_word-set shown words s a b shows below same = record {
  sixty_four_fast = shows.sixty_four_fast;
  all_waits = length-set shown.waits s a ∙ shows.all_waits;
  partition = shows.partition;
  fast = shows.fast;
  wait = λ k. get_or-set_at shown.waits s a 0 words.wait (subst (λ n. s < n) (sym shows.all_waits) below) shows.wait k ∙ ap (λ n. set_at words.wait s n k) same;
}

-- A hand.
pub hand-set : (shown : Contents) (contents : world.Contents) (p : ℕ) (mine : Option InHand) (hand : Option world.Hand) → ShowsContents shown contents → p < 16 → ShowsHandIfAny mine hand
    → ShowsContents (record shown { hands = set shown.hands p mine }) (record contents { hand = set_at contents.hand p hand })
hand-set shown contents p mine hand shows exists is = record {
  sixteen_hands = length-set shown.hands p mine ∙ shows.sixteen_hands;
  hand = λ q. written-at ShowsHandIfAny shown.hands p mine None contents.hand hand (subst (λ n. p < n) (sym shows.sixteen_hands) exists) is q (shows.hand q);
  sixteen = shows.sixteen;
  now = shows.now;
  none_begun = shows.none_begun;
}

-- A content. Of the parts one alone was changed, with this content now, and no request is begun in it.
pub record IsChangedAt (before after : List PartView) (p : ℕ) (now : Content) : Type 0 where
  pub as_many : length after ≡ length before
  pub content : content_of (part_at after p) ≡ now
  pub none_begun : (part_at after p).begun ≡ None
  pub others : (q : ℕ) → q ≢ p → part_at after q ≡ part_at before q

pub changed_nowhere : (parts : List PartView) (p : ℕ) (content : Content) → content_of (part_at parts p) ≡ content → (part_at parts p).begun ≡ None → IsChangedAt parts parts p content
changed_nowhere parts p content is none = record { as_many = refl; content = is; none_begun = none; others = λ q other. refl }

pub changed_there : (parts : List PartView) (i p : ℕ) (part : PartView) (content : Content) → i ≡ p → p < length parts → content_of part ≡ content → part.begun ≡ None → IsChangedAt parts (set parts i part) p content
changed_there parts i p part content at within is none = subst (λ j. IsChangedAt parts (set parts j part) p content) (sym at) (record {
  as_many = length-set parts p part;
  content = ap content_of there ∙ is;
  none_begun = ap (λ x. x.begun) there ∙ none;
  others = λ q other. get_or-set_other parts p q part no_part other;
}) where
  there : part_at (set parts p part) p ≡ part
  there = get_or-set_same parts p part no_part within

pub parts-changed : (shown changed : Contents) (contents : world.Contents) (p : ℕ) (content : Content) → ShowsContents shown contents → IsChangedAt shown.parts.items changed.parts.items p content
    → ShowsContents (record shown { parts = changed.parts }) (record contents { now = set_at contents.now p content })
parts-changed shown changed contents p content shows at = record {
  sixteen_hands = shows.sixteen_hands;
  hand = shows.hand;
  sixteen = at.as_many ∙ shows.sixteen;
  now = λ q below. elim (cases_eq q p) [
    | inl same ↦ ap (contents_in changed.parts.items) same ∙ at.content ∙ sym (set_at-here contents.now p content q same)
    | inr other ↦ ap content_of (at.others q other) ∙ shows.now q below ∙ sym (set_at-else contents.now p content q other)
  ];
  none_begun = λ q. elim (cases_eq q p) [
    | inl same ↦ ap (λ i. (part_at changed.parts.items i).begun) same ∙ at.none_begun
    | inr other ↦ ap (λ part. part.begun) (at.others q other) ∙ shows.none_begun q
  ];
}

pub part-set : (shown : Contents) (contents : world.Contents) (p : ℕ) (part : PartView) (content : Content) → ShowsContents shown contents → p < 16 → content_of part ≡ content → part.begun ≡ None
    → ShowsContents (record shown { parts = with_item shown.parts p part }) (record contents { now = set_at contents.now p content })
part-set shown contents p part content shows exists is none =
    parts-changed shown (record shown { parts = with_item shown.parts p part }) contents p content shows
    (changed_there shown.parts.items p p part content refl (subst (λ n. p < n) (sym shows.sixteen) exists) is none)

-- A session's own wait, which has not seen a grant then.
pub own_wait-set : (shown : OwnWaits) (wait : ℕ → Option OwnWait) (has_seen : ℕ → Bool) (s : ℕ) (mine : Option Awaited) (its : Option OwnWait) → ShowsWaits shown wait has_seen
    → s < 64 → mine ≡ option_map awaited_of its
    → ShowsWaits (record { awaited = set shown.awaited s mine; seen = set shown.seen s false }) (set_at wait s its) (set_at has_seen s false)
own_wait-set shown wait has_seen s mine its shows below is = record {
  sixty_four = length-set shown.awaited s mine ∙ shows.sixty_four;
  sixty_four_seen = length-set shown.seen s false ∙ shows.sixty_four_seen;
  awaited = λ k. written-at (λ own its. own ≡ option_map awaited_of its) shown.awaited s mine None wait its (subst (λ n. s < n) (sym shows.sixty_four) below) is k (shows.awaited k);
  seen = λ k. written-at (λ own its. own ≡ its) shown.seen s false false has_seen false (subst (λ n. s < n) (sym shows.sixty_four_seen) below) refl k (shows.seen k);
}
