use Rattle.std.proofs.Common.{◌≡◌, ◌≢◌, ◌⊎◌, ℕ, ◌<◌, ◌≤◌, Bool, true, false, List, [], ◌∷◌, ◌++◌, Option, Some, None, refl, sym, ap, ◌∙◌, subst, inl, inr, arith}
use Rattle.std.specs.Prelude.{◌==◌}
use Rattle.std.proofs.lemmas.Bool.{cases_eq, cond-true, cond-false, eqb-true, eq-eqb, ne_eqb}
use Rattle.modes_core.specs.declared.modes.Mode.{Mode}
use Rattle.modes_core.specs.declared.tags.Tag.{Tag}
use Rattle.lock_table.specs.declared.moves.Move.{Move}
use Rattle.lock_table.specs.declared.moves.Move.TheVariants.{Adopt}
use Rattle.lock_table.specs.Content.{Wait, Content, add_hold}
use Rattle.lock_table.specs.Moves.{Moves, Adopts, IsInPartition}
use Rattle.lock_table.specs.Put.{set_at}
use Rattle.lock_world.specs.World.{Hand, Contents, TraceEntry, Took, Episode, AskedToCancel, Loaded, recorded_in}
use Rattle.lock_world.specs.Happens.Partitions.{content_taken}
use Rattle.lock_world.specs.Happens.Waits.{recording}
use Rattle.lock_world.specs.Happens.Transfers.{MayAdopt}
use Rattle.lock_world.specs.Safe.{taken_after, taken_by, IsAdopted, AddsAdopted, IsOneMove, EntryIsSound, EpisodesAreMoves, taken_in, IsMadeBy, HandIsOneMove, TracesTell, is_hand_of}
use Rattle.lock_table.proofs.Lemmas.Put.{set_at-here, set_at-else, set_at-each}
use Rattle.lock_table.proofs.Lemmas.Holds.{set_hold-still}
use Rattle.lock_world.proofs.Lemmas.Moves.Adopted.{adopted-more}

-- A trace with one more entry.

taken_by-push : (taken : ℕ → Option Content) (trace : List TraceEntry) (entry : TraceEntry) → taken_by taken (trace ++ entry ∷ []) ≡ taken_after (taken_by taken trace) entry
taken_by-push taken [] entry = refl
taken_by-push taken (first ∷ trace) entry = taken_by-push (taken_after taken first) trace entry

episodes-push : (s : ℕ) (taken : ℕ → Option Content) (trace : List TraceEntry) (entry : TraceEntry) → EpisodesAreMoves s taken trace → EntryIsSound s (taken_by taken trace) entry
    → EpisodesAreMoves s taken (trace ++ entry ∷ [])
episodes-push s taken [] entry are is = (is, tt)
episodes-push s taken (first ∷ trace) entry are is = (are.0, episodes-push s (taken_after taken first) trace entry are.1 is)

-- What a hand has taken, and who has it.

pub taken_in-own : (hand : Option Hand) (s : ℕ) → is_hand_of hand s ≡ true → (h : Hand) × (hand ≡ Some h) × (h.holder ≡ s) × (taken_in hand s ≡ Some h.taken)
taken_in-own None s holds = absurd (cc)
taken_in-own (Some h) s holds = (h, refl, eqb-true h.holder s holds, cond-true (h.holder == s) (Some h.taken) None holds)

pub taken_in-other : (hand : Option Hand) (s : ℕ) → is_hand_of hand s ≡ false → taken_in hand s ≡ None
taken_in-other None s other = refl
taken_in-other (Some h) s other = cond-false (h.holder == s) (Some h.taken) None other

pub taken_in-content : (hand : Option Hand) (now : Content) (s : ℕ) → is_hand_of hand s ≡ true → taken_in hand s ≡ Some (content_taken now hand)
taken_in-content None now s holds = absurd (cc)
taken_in-content (Some h) now s holds = cond-true (h.holder == s) (Some h.taken) None holds

-- What was taken is the same by two looks at the hand.
pub taken-one : (hand : Option Hand) (now : Content) (s : ℕ) (taken : Content) → is_hand_of hand s ≡ true → taken_in hand s ≡ Some taken → taken ≡ content_taken now hand
taken-one hand now s taken holds is = let same : Some taken ≡ Some (content_taken now hand) = sym is ∙ taken_in-content hand now s holds in cc

-- a move recorded changes nothing of that
taken_in-recording : (hand : Option Hand) (done : Move) (unmarked : ℕ → Bool) (s : ℕ) → taken_in (recording hand done unmarked) s ≡ taken_in hand s
taken_in-recording None done unmarked s = refl
taken_in-recording (Some h) done unmarked s = refl

module _ (contents : Contents) (trace : ℕ → List TraceEntry) (issued : ℕ) (tell : TracesTell contents trace issued) where
  -- More numbers are given out.
  pub TracesTell-issued : (more : ℕ) → issued ≤ more → TracesTell contents trace more
  TracesTell-issued more up = record {
    one_move = tell.one_move;
    in_hand = tell.in_hand;
    episodes = tell.episodes;
    new = λ k past. tell.new k (omega (arith, up, past));
  }

  -- A session that was given out has one more entry; so much of it holds whatever the hands are then.
  module _ (s : ℕ) (given : s < issued) (entry : TraceEntry) where
    longer : ℕ → List TraceEntry
    longer = set_at trace s (trace s ++ entry ∷ [])

    new-longer : (k : ℕ) → issued ≤ k → set_at trace s (trace s ++ entry ∷ []) k ≡ []
    new-longer k past = set_at-else trace s (trace s ++ entry ∷ []) k (λ same. let e : k ≡ s = same in omega (arith, e, given, past)) ∙ tell.new k past

    episodes-longer : EntryIsSound s (taken_by (λ _. None) (trace s)) entry → (k : ℕ) → EpisodesAreMoves k (λ _. None) (set_at trace s (trace s ++ entry ∷ []) k)
    episodes-longer sound = set_at-each (λ k list. EpisodesAreMoves k (λ _. None) list) trace s (trace s ++ entry ∷ [])
        (episodes-push s (λ _. None) (trace s) entry (tell.episodes s) sound) (λ k other. tell.episodes k)

    in_hand-longer : (hand : ℕ → Option Hand)
        → ((q : ℕ) → taken_after (taken_by (λ _. None) (trace s)) entry q ≡ taken_in (hand q) s)
        → ((k q : ℕ) → k ≢ s → taken_in (contents.hand q) k ≡ taken_in (hand q) k)
        → (k q : ℕ) → taken_by (λ _. None) (set_at trace s (trace s ++ entry ∷ []) k) q ≡ taken_in (hand q) k
    in_hand-longer hand own others k q =
        elim (cases_eq k s) [
          | inl same ↦
              ap (λ list. taken_by (λ _. None) list q) (set_at-here trace s (trace s ++ entry ∷ []) k same)
              ∙ ap (λ f. f q) (taken_by-push (λ _. None) (trace s) entry) ∙ own q ∙ ap (taken_in (hand q)) (sym same)
          | inr other ↦
              ap (λ list. taken_by (λ _. None) list q) (set_at-else trace s (trace s ++ entry ∷ []) k other)
              ∙ tell.in_hand k q ∙ others k q other
        ]

  -- An entry that is of no partition.
  pub TracesTell-entry : (s : ℕ) → s < issued → (entry : TraceEntry) → EntryIsSound s (taken_by (λ _. None) (trace s)) entry
      → ((q : ℕ) → taken_after (taken_by (λ _. None) (trace s)) entry q ≡ taken_by (λ _. None) (trace s) q)
      → TracesTell contents (set_at trace s (trace s ++ entry ∷ [])) issued
  TracesTell-entry s given entry sound neutral = record {
    one_move = tell.one_move;
    in_hand = in_hand-longer s given entry contents.hand (λ q. neutral q ∙ tell.in_hand s q) (λ k q other. refl);
    episodes = episodes-longer s given entry sound;
    new = new-longer s given entry;
  }

  -- A session that has nothing in hand has no step in its trace any more.
  pub TracesTell-emptied : (s : ℕ) → ((q : ℕ) → taken_in (contents.hand q) s ≡ None) → TracesTell contents (set_at trace s []) issued
  TracesTell-emptied s none = record {
    one_move = tell.one_move;
    in_hand = λ k q.
        set_at-each (λ k list. taken_by (λ _. None) list q ≡ taken_in (contents.hand q) k) trace s [] (sym (none q)) (λ k _. tell.in_hand k q) k;
    episodes = set_at-each (λ k list. EpisodesAreMoves k (λ _. None) list) trace s [] tt (λ k _. tell.episodes k);
    new = set_at-each (λ k list. issued ≤ k → list ≡ []) trace s [] (λ _. refl) (λ k _. tell.new k);
  }

  -- A partition at home is taken.
  pub TracesTell-take : (s p : ℕ) → s < issued → contents.hand p ≡ None
      → TracesTell (record contents { hand = set_at contents.hand p (Some (record { holder = s; taken = contents.now p; recorded = None; unmarked = λ _. false })) })
      (set_at trace s (trace s ++ Took p (contents.now p) ∷ [])) issued
  TracesTell-take s p given home = record {
    one_move = set_at-each (λ q hand. HandIsOneMove q hand (contents.now q)) contents.hand p taken refl (λ q other. tell.one_move q);
    in_hand = in_hand-longer s given (Took p (contents.now p)) (set_at contents.hand p taken) own others;
    episodes = episodes-longer s given (Took p (contents.now p)) tt;
    new = new-longer s given (Took p (contents.now p));
  } where
    taken : Option Hand
    taken = Some (record { holder = s; taken = contents.now p; recorded = None; unmarked = λ _. false })

    own : (q : ℕ) → set_at (taken_by (λ _. None) (trace s)) p (Some (contents.now p)) q ≡ taken_in (set_at contents.hand p taken q) s
    own q =
        elim (cases_eq q p) [
          | inl same ↦
              set_at-here (taken_by (λ _. None) (trace s)) p (Some (contents.now p)) q same
              ∙ sym (ap (λ hand. taken_in hand s) (set_at-here contents.hand p taken q same) ∙ cond-true (s == s) (Some (contents.now p)) None (eq-eqb s s refl))
          | inr other ↦
              set_at-else (taken_by (λ _. None) (trace s)) p (Some (contents.now p)) q other
              ∙ tell.in_hand s q ∙ ap (λ hand. taken_in hand s) (sym (set_at-else contents.hand p taken q other))
        ]

    others : (k q : ℕ) → k ≢ s → taken_in (contents.hand q) k ≡ taken_in (set_at contents.hand p taken q) k
    others k q other =
        elim (cases_eq q p) [
          | inl same ↦
              ap (λ j. taken_in (contents.hand j) k) same ∙ ap (λ hand. taken_in hand k) home
              ∙ sym (ap (λ hand. taken_in hand k) (set_at-here contents.hand p taken q same) ∙ cond-false (s == k) (Some (contents.now p)) None (ne_eqb s k (λ e. other (sym e))))
          | inr apart ↦ ap (λ hand. taken_in hand k) (sym (set_at-else contents.hand p taken q apart))
        ]

  -- A partition in hand is put, with what one move makes of the content taken.
  pub TracesTell-put : (s p : ℕ) → s < issued → is_hand_of (contents.hand p) s ≡ true → (taken content : Content) → taken_in (contents.hand p) s ≡ Some taken → IsOneMove p taken s content
      → TracesTell (record { now = set_at contents.now p content; hand = set_at contents.hand p None }) (set_at trace s (trace s ++ Episode p taken content ∷ [])) issued
  TracesTell-put s p given holds taken content is_taken moved = record {
    one_move = one_move;
    in_hand = in_hand-longer s given (Episode p taken content) (set_at contents.hand p None) own others;
    episodes = episodes-longer s given (Episode p taken content) (tell.in_hand s p ∙ is_taken, moved);
    new = new-longer s given (Episode p taken content);
  } where
    one_move : (q : ℕ) → HandIsOneMove q (set_at contents.hand p None q) (set_at contents.now p content q)
    one_move q =
        elim (cases_eq q p) [
          | inl same ↦ subst (λ hand. HandIsOneMove q hand (set_at contents.now p content q)) (sym (set_at-here contents.hand p None q same)) tt
          | inr other ↦
              subst (λ hand. HandIsOneMove q hand (set_at contents.now p content q)) (sym (set_at-else contents.hand p None q other))
              (subst (HandIsOneMove q (contents.hand q)) (sym (set_at-else contents.now p content q other)) (tell.one_move q))
        ]

    own : (q : ℕ) → set_at (taken_by (λ _. None) (trace s)) p None q ≡ taken_in (set_at contents.hand p None q) s
    own q =
        elim (cases_eq q p) [
          | inl same ↦ set_at-here (taken_by (λ _. None) (trace s)) p None q same ∙ ap (λ hand. taken_in hand s) (sym (set_at-here contents.hand p None q same))
          | inr other ↦ set_at-else (taken_by (λ _. None) (trace s)) p None q other ∙ tell.in_hand s q ∙ ap (λ hand. taken_in hand s) (sym (set_at-else contents.hand p None q other))
        ]

    not_theirs : (k : ℕ) → k ≢ s → taken_in (contents.hand p) k ≡ None
    not_theirs k other = let own_hand = taken_in-own (contents.hand p) s holds in
        ap (λ hand. taken_in hand k) own_hand.1
        ∙ cond-false (own_hand.0.holder == k) (Some own_hand.0.taken) None (ne_eqb own_hand.0.holder k (λ e. other (sym e ∙ own_hand.2)))

    others : (k q : ℕ) → k ≢ s → taken_in (contents.hand q) k ≡ taken_in (set_at contents.hand p None q) k
    others k q other =
        elim (cases_eq q p) [
          | inl same ↦ ap (λ j. taken_in (contents.hand j) k) same ∙ not_theirs k other ∙ ap (λ hand. taken_in hand k) (sym (set_at-here contents.hand p None q same))
          | inr apart ↦ ap (λ hand. taken_in hand k) (sym (set_at-else contents.hand p None q apart))
        ]

  -- A move is recorded in the hand that has the partition, and the content is what it makes of the content
  -- taken.
  pub TracesTell-record : (p : ℕ) (done : Move) (unmarked : ℕ → Bool) (content : Content) → HandIsOneMove p (recording (contents.hand p) done unmarked) content
      → TracesTell (record { now = set_at contents.now p content; hand = set_at contents.hand p (recording (contents.hand p) done unmarked) }) trace issued
  TracesTell-record p done unmarked content made = record {
    one_move = one_move;
    in_hand = λ k q. tell.in_hand k q ∙ sym (same k q);
    episodes = tell.episodes;
    new = tell.new;
  } where
    hand : Option Hand
    hand = recording (contents.hand p) done unmarked

    one_move : (q : ℕ) → HandIsOneMove q (set_at contents.hand p hand q) (set_at contents.now p content q)
    one_move q =
        elim (cases_eq q p) [
          | inl same ↦
              subst (λ h. HandIsOneMove q h (set_at contents.now p content q)) (sym (set_at-here contents.hand p hand q same))
              (subst (HandIsOneMove q hand) (sym (set_at-here contents.now p content q same)) (subst (λ j. HandIsOneMove j hand content) (sym same) made))
          | inr other ↦
              subst (λ h. HandIsOneMove q h (set_at contents.now p content q)) (sym (set_at-else contents.hand p hand q other))
              (subst (HandIsOneMove q (contents.hand q)) (sym (set_at-else contents.now p content q other)) (tell.one_move q))
        ]

    same : (k q : ℕ) → taken_in (set_at contents.hand p hand q) k ≡ taken_in (contents.hand q) k
    same k q =
        elim (cases_eq q p) [
          | inl here ↦ ap (λ h. taken_in h k) (set_at-here contents.hand p hand q here) ∙ taken_in-recording (contents.hand p) done unmarked k ∙ ap (λ j. taken_in (contents.hand j) k) (sym here)
          | inr other ↦ ap (λ h. taken_in h k) (set_at-else contents.hand p hand q other)
        ]

  -- What the hand of a session has.

  -- without a move recorded it is the content taken
  pub unmoved-taken : (s p : ℕ) → is_hand_of (contents.hand p) s ≡ true → recorded_in (contents.hand p) ≡ None → taken_in (contents.hand p) s ≡ Some (contents.now p)
  unmoved-taken s p holds unrecorded = at (contents.hand p) holds unrecorded (tell.one_move p) where
    made : (recorded : Option Move) (taken : Content) (holder : ℕ) → recorded ≡ None → IsMadeBy p recorded taken holder (contents.now p) → contents.now p ≡ taken
    made None taken holder none is = is
    made (Some done) taken holder none is = absurd (cc)

    at : (hand : Option Hand) → is_hand_of hand s ≡ true → recorded_in hand ≡ None → HandIsOneMove p hand (contents.now p) → taken_in hand s ≡ Some (contents.now p)
    at None here none is = absurd (cc)
    at (Some h) here none is = cond-true (h.holder == s) (Some h.taken) None here ∙ ap Some (sym (made h.recorded h.taken h.holder none is))

  -- with one it is what that makes of it
  pub moved-taken : (s p : ℕ) (done : Move) → is_hand_of (contents.hand p) s ≡ true → recorded_in (contents.hand p) ≡ Some done
      → (taken : Content) × (taken_in (contents.hand p) s ≡ Some taken) × IsOneMove p taken s (contents.now p)
  moved-taken s p done holds recorded = at (contents.hand p) holds recorded (tell.one_move p) where
    made : (recorded : Option Move) (taken : Content) (holder : ℕ) → recorded ≡ Some done → IsMadeBy p recorded taken holder (contents.now p) → IsOneMove p taken holder (contents.now p)
    made None taken holder some is = absurd (cc)
    made (Some other) taken holder some is = (other, is)

    at : (hand : Option Hand) → is_hand_of hand s ≡ true → recorded_in hand ≡ Some done → HandIsOneMove p hand (contents.now p)
        → (taken : Content) × (taken_in hand s ≡ Some taken) × IsOneMove p taken s (contents.now p)
    at None here some is = absurd (cc)
    at (Some h) here some is =
        (h.taken, cond-true (h.holder == s) (Some h.taken) None here, subst (λ k. IsOneMove p h.taken k (contents.now p)) (eqb-true h.holder s here) (made h.recorded h.taken h.holder some is))

  -- A move made on the content taken stands in the hand as the one that made the content.
  pub recorded-made : (s p : ℕ) (done : Move) (unmarked : ℕ → Bool) (granted : List Wait) (content : Content) → is_hand_of (contents.hand p) s ≡ true → recorded_in (contents.hand p) ≡ None
      → IsInPartition p done → Moves (contents.now p) s done granted content → HandIsOneMove p (recording (contents.hand p) done unmarked) content
  recorded-made s p done unmarked granted content holds unrecorded object moves = at (contents.hand p) holds unrecorded (tell.one_move p) where
    made : (recorded : Option Move) (taken : Content) (holder : ℕ) → recorded ≡ None → IsMadeBy p recorded taken holder (contents.now p) → contents.now p ≡ taken
    made None taken holder none is = is
    made (Some other) taken holder none is = absurd (cc)

    at : (hand : Option Hand) → is_hand_of hand s ≡ true → recorded_in hand ≡ None → HandIsOneMove p hand (contents.now p) → HandIsOneMove p (recording hand done unmarked) content
    at None here none is = tt
    at (Some h) here none is = inl (
      granted,
      object,
      subst (λ taken. Moves taken h.holder done granted content) (made h.recorded h.taken h.holder none is)
          (subst (λ k. Moves (contents.now p) k done granted content) (sym (eqb-true h.holder s here)) moves),
    )

  -- A mode added by an adopt of one slot, the first one or one more, stands in the hand so.
  pub recorded-adopted :
      (p owner slot : ℕ) (t : Tag) (m : Mode) (unmarked : ℕ → Bool) → MayAdopt (recorded_in (contents.hand p)) owner slot → IsAdopted p t m
      → HandIsOneMove p (recording (contents.hand p) (Adopt owner slot) unmarked) (add_hold (contents.now p) owner t m)
  recorded-adopted p owner slot t m unmarked may adopted = at (contents.hand p) may (tell.one_move p) where
    before : (recorded : Option Move) (taken : Content) (holder : ℕ) → MayAdopt recorded owner slot → IsMadeBy p recorded taken holder (contents.now p)
        → Adopts taken owner (contents.now p) × AddsAdopted p taken owner (contents.now p)
    before None taken holder free is = (
      record {
        more = λ o n had. (λ i. (is i).holds owner o n) ∙ had;
        others = λ k other. ap (λ c. c.holds k) is;
        waits = ap (λ c. c.waits) is;
      },
      λ o n has. inl (sym (λ i. (is i).holds owner o n) ∙ has),
    )
    before (Some done) taken holder same (inl made) = absurd (subst (λ it. Moves taken holder it made.0 (contents.now p)) same made.2)
    before (Some done) taken holder same (inr made) =
        let its : Adopt owner slot ≡ Adopt made.0 made.1 = sym same ∙ made.2 in
        let whose : made.0 ≡ owner = cc in
        (subst (λ k. Adopts taken k (contents.now p)) whose made.3, subst (λ k. AddsAdopted p taken k (contents.now p)) whose made.4)

    at : (hand : Option Hand) → MayAdopt (recorded_in hand) owner slot → HandIsOneMove p hand (contents.now p)
        → HandIsOneMove p (recording hand (Adopt owner slot) unmarked) (add_hold (contents.now p) owner t m)
    at None may is = tt
    at (Some h) may is =
        let already = before h.recorded h.taken h.holder may is in
        inr (
          owner,
          slot,
          refl,
          record {
            more = λ o n had. set_hold-still (contents.now p).holds owner t m o n (already.0.more o n had);
            others = λ k other. set_at-else (contents.now p).holds owner _ k other ∙ already.0.others k other;
            waits = already.0.waits;
          },
          adopted-more p owner h.taken (contents.now p) t m already.1 adopted,
        )

  -- A recorded move that is recorded again, with others unmarked, stands as before.
  pub recorded-again : (p : ℕ) (done : Move) (unmarked : ℕ → Bool) → recorded_in (contents.hand p) ≡ Some done → HandIsOneMove p (recording (contents.hand p) done unmarked) (contents.now p)
  recorded-again p done unmarked recorded = at (contents.hand p) recorded (tell.one_move p) where
    made : (stands : Option Move) (taken : Content) (holder : ℕ) → stands ≡ Some done → IsMadeBy p stands taken holder (contents.now p) → IsMadeBy p (Some done) taken holder (contents.now p)
    made None taken holder some is = absurd (cc)
    made (Some other) taken holder some is = let same : other ≡ done = cc in subst (λ move. IsMadeBy p (Some move) taken holder (contents.now p)) same is

    at : (hand : Option Hand) → recorded_in hand ≡ Some done → HandIsOneMove p hand (contents.now p) → HandIsOneMove p (recording hand done unmarked) (contents.now p)
    at None some is = tt
    at (Some h) some is = made h.recorded h.taken h.holder some is

-- What a trace tells of an entry in it.

pub episode-sound : (s : ℕ) (taken : ℕ → Option Content) (before after : List TraceEntry) (entry : TraceEntry) → EpisodesAreMoves s taken (before ++ entry ∷ after)
    → EntryIsSound s (taken_by taken before) entry
episode-sound s taken [] after entry are = are.0
episode-sound s taken (first ∷ before) after entry are = episode-sound s (taken_after taken first) before after entry are.1

-- What a trace leaves in hand was there before it, or is what an entry of it took.
pub was_taken : (taken : ℕ → Option Content) (trace : List TraceEntry) (p : ℕ) (content : Content) → taken_by taken trace p ≡ Some content
    → (taken p ≡ Some content) ⊎ ((first : List TraceEntry) × (since : List TraceEntry) × (trace ≡ first ++ Took p content ∷ since))
was_taken taken [] p content is = inl is
was_taken taken (entry ∷ trace) p content is = at (was_taken (taken_after taken entry) trace p content is) where
  here : (entry : TraceEntry) → taken_after taken entry p ≡ Some content → (taken p ≡ Some content) ⊎ ((first : List TraceEntry) × (since : List TraceEntry) × (entry ∷ trace ≡ first ++ Took p content ∷ since))
  here (Took q now) e =
      elim (cases_eq p q) [
        | inl same ↦
            let now_is : Some now ≡ Some content = sym (set_at-here taken q (Some now) p same) ∙ e in
            let content_is : now ≡ content = cc in
            inr ([], trace, ap (λ j. Took j now ∷ trace) (sym same) ∙ ap (λ c. Took p c ∷ trace) content_is)
        | inr other ↦ inl (sym (set_at-else taken q (Some now) p other) ∙ e)
      ]
  here (Episode q now put_back) e =
      elim (cases_eq p q) [
        | inl same ↦ let none : None ≡ Some content = sym (set_at-here taken q None p same) ∙ e in absurd (cc)
        | inr other ↦ inl (sym (set_at-else taken q None p other) ∙ e)
      ]
  here (AskedToCancel other before) e = inl e
  here (Loaded word shown) e = inl e

  at : (taken_after taken entry p ≡ Some content) ⊎ ((first : List TraceEntry) × (since : List TraceEntry) × (trace ≡ first ++ Took p content ∷ since))
      → (taken p ≡ Some content) ⊎ ((first : List TraceEntry) × (since : List TraceEntry) × (entry ∷ trace ≡ first ++ Took p content ∷ since))
  at (inl e) = here entry e
  at (inr found) = inr (entry ∷ found.0, found.1, ap (λ list. entry ∷ list) found.2)
