use Rattle.std.proofs.Common.{◌≡◌, ℕ, ◌+◌, ◌<◌, ◌≤◌, Bool, true, false, not, ◌&&◌, List, [], ◌∷◌, ◌++◌, length, take, drop, get_or, suc, add-one, arith, refl, sym, ap, ◌∙◌, subst, inl, inr, append_assoc}
use Rattle.std.specs.Prelude.{map, count_by, if◌then◌else◌}
use Rattle.std.specs.List.{list_any, remove}
use Rattle.std.proofs.lemmas.Bool.{cases_Bool, false≢true, false_from_ne_true, both_ways}
use Rattle.std.proofs.lemmas.List.{append-nil, map-append, take_at, drop_at, take_all, drop_all, drop_more, length-take-le}
use Rattle.std.proofs.lemmas.List.Folds.{list_any_at}
use Rattle.modes_core.specs.declared.modes.Mode.{Mode}
use Rattle.modes_core.specs.declared.tags.Tag.{Tag}
use Rattle.modes_core.specs.Tag.{tag_eq}
use Rattle.modes_core.specs.Conflict.{conflict}
use Rattle.modes_core.proofs.Lemmas.Conflicts.{both_true, tag_eq-same}
use Rattle.lock_table.specs.declared.request.Request.{Request}
use Rattle.lock_table.specs.declared.part_waits.PartWait.{PartWait}
use Rattle.lock_table.specs.Request.{is_request_of, is_request_on, is_in_the_way_of}
use Rattle.lock_table.specs.Content.{Holds, Wait, set_hold}
use Rattle.lock_table.specs.Clash.{NoConflictingHolder}
use Rattle.lock_table.specs.Put.{put}
use Rattle.lock_table.specs.Waiter.{shown_wait, whose_and_mode}
use Rattle.lock_table.specs.PartView.{holds_in, content_in}
use Rattle.lock_table.specs.PartWaits.{request_of, queues_in, times_in, OneWaitEach, goes_now}
use Rattle.lock_table.specs.Queue.{IsFree, SplitsBehind, hold_all, Wakes}
use Rattle.lock_table.proofs.Lemmas.Put.{put_here, put_else}
use Rattle.lock_table.proofs.Lemmas.Same.{SameTriple-from, same_triple-refl}
use Rattle.lock_table.proofs.Lemmas.Lists.{any_found, any_weaker}
use Rattle.lock_table.proofs.Lemmas.HoldLists.{add_hold-push, take_one_more}
use Rattle.lock_table.proofs.Lemmas.Holders.{in_the_way-from, InTheWay-from}
use Rattle.lock_table.proofs.Lemmas.WaitLists.{any-kept, waits_in-on, waits_in-off, waits_in-push_on, waits_in-without, count_by-insert, times_in-hold, times_in-wait}

-- Whether some hold of a list is in the way says whether there is a conflicting holder.
no_holder-from : (hs : List Request) (s : ℕ) (t : Tag) (m : Mode) → list_any (λ hold. is_in_the_way_of hold s t (conflict m)) hs ≡ false → NoConflictingHolder (holds_in hs) s t m
no_holder-from hs s t m none k n other has =
    false_from_ne_true (conflict m n) (λ conflicting.
    both_ways (list_any (λ hold. is_in_the_way_of hold s t (conflict m)) hs) none
    (any_weaker (λ hold. is_request_of hold k t n) (λ hold. is_in_the_way_of hold s t (conflict m)) hs (λ hold is. it conflicting hold is) has)) where
      it : conflict m n ≡ true → (hold : Request) → is_request_of hold k t n ≡ true → is_in_the_way_of hold s t (conflict m) ≡ true
      it conflicting hold is =
          let same = SameTriple-from k t n hold.session hold.tag hold.mode is in
          in_the_way-from hold s t m (λ e. other (same.session ∙ e)) same.tag (ap (conflict m) (sym same.mode) ∙ conflicting)

none_in_the_way-from : (hs : List Request) (s : ℕ) (t : Tag) (m : Mode) → NoConflictingHolder (holds_in hs) s t m → list_any (λ hold. is_in_the_way_of hold s t (conflict m)) hs ≡ false
none_in_the_way-from hs s t m free =
    false_from_ne_true (list_any (λ hold. is_in_the_way_of hold s t (conflict m)) hs) (λ any.
    let at = any_found (λ hold. is_in_the_way_of hold s t (conflict m)) hs any in
    let way = InTheWay-from at.1 s t m at.4 in
    let held : is_request_of at.1 at.1.session t at.1.mode ≡ true =
    subst (λ o. is_request_of at.1 at.1.session o at.1.mode ≡ true) (sym way.tag) (same_triple-refl at.1.session at.1.tag at.1.mode) in
    both_ways (conflict m at.1.mode)
    (free at.1.session at.1.mode way.another
    (list_any_at (λ hold. is_request_of hold at.1.session t at.1.mode) hs at.0 at.1 at.2 (ap (λ hold. is_request_of hold at.1.session t at.1.mode) (at.3 at.1) ∙ held)))
    way.conflicting)

not_false : (b : Bool) → not b ≡ true → b ≡ false
not_false true e = absurd (false≢true e)
not_false false e = refl

-- A wait that goes now is one of the object, and free; one of the object that doesn't go is not free.
goes_now-on : (hs : List Request) (done : List PartWait) (w : PartWait) (t : Tag) → goes_now hs done w t ≡ true → t ≡ w.tag
goes_now-on hs done w t goes = tag_eq-same t w.tag (both_true _ _ goes).0

goes_now-free : (hs : List Request) (done : List PartWait) (w : PartWait) (t : Tag) → goes_now hs done w t ≡ true → IsFree (holds_in hs) w.waiter.session t w.waiter.mode (queues_in done t)
goes_now-free hs done w t goes =
    let parts = both_true _ _ (both_true _ _ goes).1 in
    record {
      beside_holders = no_holder-from hs w.waiter.session t w.waiter.mode (not_false _ parts.0);
      behind_waiters =
          any-kept (λ wait. conflict w.waiter.mode wait.mode) (λ (wait : PartWait). shown_wait wait.waiter) (λ (wait : PartWait). tag_eq t wait.tag) done
          ∙ not_false _ parts.1;
    }

stays-not_free : (hs : List Request) (done : List PartWait) (w : PartWait) (t : Tag) → tag_eq t w.tag ≡ true → goes_now hs done w t ≡ false → IsFree (holds_in hs) w.waiter.session t w.waiter.mode (queues_in done t) → ⊥
stays-not_free hs done w t on stays free =
    let holders : list_any (λ hold. is_in_the_way_of hold w.waiter.session t (conflict w.waiter.mode)) hs ≡ false =
    none_in_the_way-from hs w.waiter.session t w.waiter.mode free.beside_holders in
    let ahead : list_any (λ (other : PartWait). tag_eq t other.tag && conflict w.waiter.mode other.waiter.mode) done ≡ false =
    sym (any-kept (λ wait. conflict w.waiter.mode wait.mode) (λ (wait : PartWait). shown_wait wait.waiter) (λ (wait : PartWait). tag_eq t wait.tag) done) ∙ free.behind_waiters in
    false≢true (sym stays ∙ rw (on, holders, ahead) refl)

-- The holds with one wait more among those that became holds.
hold_all-push : (granted : List Wait) (holds : Holds) (t : Tag) (w : Wait) → hold_all holds t (granted ++ w ∷ []) ≡ set_hold (hold_all holds t granted) w.session t w.mode true
hold_all-push [] holds t w = refl
hold_all-push (v ∷ granted) holds t w = hold_all-push granted (set_hold holds v.session t v.mode true) t w

-- How far a wakeup has come, from these lists at first: what are the holds now, which waits it has passed and
-- which are still to come, and whom it woke.
pub record Waking (hs0 : List Request) (ws0 : List PartWait) (t : Tag) (hs : List Request) (done todo : List PartWait) (woken : List (ℕ × Mode)) : Type 0 where
  pub granted : List Wait
  pub told : woken ≡ map whose_and_mode granted
  pub holds : holds_in hs ≡ hold_all (holds_in hs0) t granted
  pub others : (o : Tag) → tag_eq o t ≡ false → queues_in (done ++ todo) o ≡ queues_in ws0 o
  pub queue : (more left : List Wait) → SplitsBehind (queues_in done t) (holds_in hs) t (queues_in todo t) more left
      → SplitsBehind [] (holds_in hs0) t (queues_in ws0 t) (granted ++ more) (queues_in done t ++ left)
  pub same_requests : (s : ℕ) (o : Tag) (m : Mode) → times_in hs (done ++ todo) s o m ≡ times_in hs0 ws0 s o m
  pub no_more_waits : (s : ℕ) (o : Tag) → count_by (λ wait. is_request_on (request_of wait) s o) (done ++ todo) ≤ count_by (λ wait. is_request_on (request_of wait) s o) ws0

pub Waking-start : (hs : List Request) (ws : List PartWait) (t : Tag) → Waking hs ws t hs [] ws []
Waking-start hs ws t = record {
  granted = [];
  told = refl;
  holds = refl;
  others = λ o other. refl;
  queue = λ more left split. split;
  same_requests = λ s o m. refl;
  no_more_waits = λ s o. omega arith;
}

-- A wait that doesn't go is passed.
pub Waking-stay :
    (hs0 : List Request) (ws0 : List PartWait) (t : Tag) (hs : List Request) (done : List PartWait) (w : PartWait) (todo : List PartWait) (woken : List (ℕ × Mode)) →
    goes_now hs done w t ≡ false → Waking hs0 ws0 t hs done (w ∷ todo) woken → Waking hs0 ws0 t hs (done ++ w ∷ []) todo woken
Waking-stay hs0 ws0 t hs done w todo woken stays so_far =
    let all : (done ++ w ∷ []) ++ todo ≡ done ++ w ∷ todo = append_assoc done (w ∷ []) todo in
    record {
      granted = so_far.granted;
      told = so_far.told;
      holds = so_far.holds;
      others = λ o other. ap (λ ws. queues_in ws o) all ∙ so_far.others o other;
      queue = passed;
      same_requests = λ s o m. ap (λ ws. times_in hs ws s o m) all ∙ so_far.same_requests s o m;
      no_more_waits = rw all so_far.no_more_waits;
    } where
      on_it : tag_eq t w.tag ≡ true → (more left : List Wait) → SplitsBehind (queues_in (done ++ w ∷ []) t) (holds_in hs) t (queues_in todo t) more left
          → SplitsBehind [] (holds_in hs0) t (queues_in ws0 t) (so_far.granted ++ more) (queues_in (done ++ w ∷ []) t ++ left)
      on_it on more left split =
          let front : queues_in (done ++ w ∷ []) t ≡ queues_in done t ++ shown_wait w.waiter ∷ [] = waits_in-push_on done w t on in
          let rest = subst (λ ahead. SplitsBehind ahead (holds_in hs) t (queues_in todo t) more left) front split in
          let whole : SplitsBehind (queues_in done t) (holds_in hs) t (queues_in (w ∷ todo) t) more (shown_wait w.waiter ∷ left) =
          subst (λ queue. SplitsBehind (queues_in done t) (holds_in hs) t queue more (shown_wait w.waiter ∷ left)) (sym (waits_in-on w todo t on))
          (inr (stays-not_free hs done w t on stays, (left, refl, rest))) in
          subst (λ stay. SplitsBehind [] (holds_in hs0) t (queues_in ws0 t) (so_far.granted ++ more) stay)
          (sym (ap (λ ws. ws ++ left) front ∙ append_assoc (queues_in done t) (shown_wait w.waiter ∷ []) left))
          (so_far.queue more (shown_wait w.waiter ∷ left) whole)

      off_it : tag_eq t w.tag ≡ false → (more left : List Wait) → SplitsBehind (queues_in (done ++ w ∷ []) t) (holds_in hs) t (queues_in todo t) more left
          → SplitsBehind [] (holds_in hs0) t (queues_in ws0 t) (so_far.granted ++ more) (queues_in (done ++ w ∷ []) t ++ left)
      off_it off more left split =
          let front : queues_in (done ++ w ∷ []) t ≡ queues_in done t = waits_in-without done w [] t off ∙ ap (λ ws. queues_in ws t) (append-nil done) in
          let whole : SplitsBehind (queues_in done t) (holds_in hs) t (queues_in (w ∷ todo) t) more left =
          subst (λ queue. SplitsBehind (queues_in done t) (holds_in hs) t queue more left) (sym (waits_in-off w todo t off))
          (subst (λ ahead. SplitsBehind ahead (holds_in hs) t (queues_in todo t) more left) front split) in
          subst (λ ahead. SplitsBehind [] (holds_in hs0) t (queues_in ws0 t) (so_far.granted ++ more) (ahead ++ left)) (sym front) (so_far.queue more left whole)

      passed : (more left : List Wait) → SplitsBehind (queues_in (done ++ w ∷ []) t) (holds_in hs) t (queues_in todo t) more left
          → SplitsBehind [] (holds_in hs0) t (queues_in ws0 t) (so_far.granted ++ more) (queues_in (done ++ w ∷ []) t ++ left)
      passed more left split = elim (cases_Bool (tag_eq t w.tag)) [ inl on ↦ on_it on more left split | inr off ↦ off_it off more left split ]

-- A wait that goes becomes a hold.
pub Waking-go :
    (hs0 : List Request) (ws0 : List PartWait) (t : Tag) (hs : List Request) (done : List PartWait) (w : PartWait) (todo : List PartWait) (woken : List (ℕ × Mode)) →
    goes_now hs done w t ≡ true → Waking hs0 ws0 t hs done (w ∷ todo) woken →
    Waking hs0 ws0 t (hs ++ request_of w ∷ []) done todo (woken ++ (w.waiter.session, w.waiter.mode) ∷ [])
Waking-go hs0 ws0 t hs done w todo woken goes so_far = record {
  granted = so_far.granted ++ shown_wait w.waiter ∷ [];
  told = ap (λ ones. ones ++ (w.waiter.session, w.waiter.mode) ∷ []) so_far.told ∙ sym (map-append whose_and_mode so_far.granted (shown_wait w.waiter ∷ []));
  holds = held ∙ ap (λ holds. set_hold holds w.waiter.session t w.waiter.mode true) so_far.holds ∙ sym (hold_all-push so_far.granted (holds_in hs0) t (shown_wait w.waiter));
  others = λ o other. sym (waits_in-without done w todo o (ap (tag_eq o) (sym on) ∙ other)) ∙ so_far.others o other;
  queue = queue;
  same_requests = λ s o m. times_in-hold hs (done ++ todo) (request_of w) s o m ∙ sym (times_in-wait hs done todo w s o m) ∙ so_far.same_requests s o m;
  no_more_waits = λ s o.
      let more : count_by (λ wait. is_request_on (request_of wait) s o) (done ++ w ∷ todo) ≡ count_by (λ wait. is_request_on (request_of wait) s o) (done ++ todo) + (if is_request_on (request_of w) s o then 1 else 0) =
      count_by-insert (λ wait. is_request_on (request_of wait) s o) w done todo in
      omega (arith, so_far.no_more_waits s o);
} where
  on : t ≡ w.tag
  on = goes_now-on hs done w t goes

  on_it : tag_eq t w.tag ≡ true
  on_it = (both_true _ _ goes).0

  held : holds_in (hs ++ request_of w ∷ []) ≡ set_hold (holds_in hs) w.waiter.session t w.waiter.mode true
  held = add_hold-push hs w.waiter.session w.tag w.waiter.mode ∙ ap (λ o. set_hold (holds_in hs) w.waiter.session o w.waiter.mode true) (sym on)

  queue : (more left : List Wait) → SplitsBehind (queues_in done t) (holds_in (hs ++ request_of w ∷ [])) t (queues_in todo t) more left
      → SplitsBehind [] (holds_in hs0) t (queues_in ws0 t) ((so_far.granted ++ shown_wait w.waiter ∷ []) ++ more) (queues_in done t ++ left)
  queue more left split =
      let rest = subst (λ holds. SplitsBehind (queues_in done t) holds t (queues_in todo t) more left) held split in
      let whole : SplitsBehind (queues_in done t) (holds_in hs) t (queues_in (w ∷ todo) t) (shown_wait w.waiter ∷ more) left =
      subst (λ queue. SplitsBehind (queues_in done t) (holds_in hs) t queue (shown_wait w.waiter ∷ more) left) (sym (waits_in-on w todo t on_it))
      (inl (goes_now-free hs done w t goes, (more, refl, rest))) in
      subst (λ granted. SplitsBehind [] (holds_in hs0) t (queues_in ws0 t) granted (queues_in done t ++ left))
      (sym (append_assoc so_far.granted (shown_wait w.waiter ∷ []) more)) (so_far.queue (shown_wait w.waiter ∷ more) left whole)

-- At the end of the list the wakeup is whole.
pub Waking-end :
    (hs0 : List Request) (ws0 : List PartWait) (t : Tag) (hs : List Request) (ws : List PartWait) (woken : List (ℕ × Mode)) →
    Waking hs0 ws0 t hs ws [] woken → (granted : List Wait) × Wakes (content_in hs0 ws0) t granted (content_in hs ws) × (woken ≡ map whose_and_mode granted)
Waking-end hs0 ws0 t hs ws woken all = (
  all.granted,
  record {
    left = queues_in ws t;
    split =
        subst (λ granted. SplitsBehind [] (holds_in hs0) t (queues_in ws0 t) granted (queues_in ws t)) (append-nil all.granted)
        (subst (λ left. SplitsBehind [] (holds_in hs0) t (queues_in ws0 t) (all.granted ++ []) left) (append-nil (queues_in ws t)) (all.queue [] [] (refl, refl)));
    holds = all.holds;
    waits = λ i o. at o i;
  },
  all.told,
) where
  at : (o : Tag) → queues_in ws o ≡ put tag_eq (queues_in ws0) t (queues_in ws t) o
  at o =
      elim (cases_Bool (tag_eq o t)) [
        | inl same ↦ ap (queues_in ws) (tag_eq-same o t same) ∙ sym (put_here tag_eq (queues_in ws0) t (queues_in ws t) o same)
        | inr other ↦ ap (λ xs. queues_in xs o) (sym (append-nil ws)) ∙ all.others o other ∙ sym (put_else tag_eq (queues_in ws0) t (queues_in ws t) o other)
      ]

-- A wakeup goes on over a wait that stays, at a place of the list.
pub Waking-stay_at :
    (hs0 : List Request) (ws0 : List PartWait) (t : Tag) (hs : List Request) (ws : List PartWait) (i : ℕ) (w : PartWait) (woken : List (ℕ × Mode)) →
    i < length ws → w ≡ get_or ws i w → goes_now hs (take i ws) w t ≡ false →
    Waking hs0 ws0 t hs (take i ws) (drop i ws) woken → Waking hs0 ws0 t hs (take (i + 1) ws) (drop (i + 1) ws) woken
Waking-stay_at hs0 ws0 t hs ws i w woken within is stays so_far =
    subst (λ done. Waking hs0 ws0 t hs done (drop (i + 1) ws) woken) (sym (take_one_more ws i w within is))
    (Waking-stay hs0 ws0 t hs (take i ws) w (drop (i + 1) ws) woken stays
    (subst (λ todo. Waking hs0 ws0 t hs (take i ws) todo woken) (drop_more ws i w within ∙ ap (λ v. v ∷ drop (i + 1) ws) (sym is)) so_far))

pub Waking-go_at :
    (hs0 : List Request) (ws0 : List PartWait) (t : Tag) (hs : List Request) (ws : List PartWait) (i : ℕ) (w : PartWait) (woken : List (ℕ × Mode)) →
    i < length ws → w ≡ get_or ws i w → goes_now hs (take i ws) w t ≡ true → Waking hs0 ws0 t hs (take i ws) (drop i ws) woken →
    Waking hs0 ws0 t (hs ++ request_of w ∷ []) (take i (remove ws i)) (drop i (remove ws i)) (woken ++ (w.waiter.session, w.waiter.mode) ∷ [])
Waking-go_at hs0 ws0 t hs ws i w woken within is goes so_far =
    let front : length (take i ws) ≡ i = length-take-le i ws (omega arith) in
    let done : take i (remove ws i) ≡ take i ws = take_at (take i ws) (drop (suc i) ws) i front in
    let todo : drop i (remove ws i) ≡ drop (i + 1) ws = drop_at (take i ws) (drop (suc i) ws) i front ∙ ap (λ n. drop n ws) (sym (add-one i)) in
    rw (done, todo)
    (Waking-go hs0 ws0 t hs (take i ws) w (drop (i + 1) ws) woken goes
    (subst (λ rest. Waking hs0 ws0 t hs (take i ws) rest woken) (drop_more ws i w within ∙ ap (λ v. v ∷ drop (i + 1) ws) (sym is)) so_far))

pub Waking-end_at :
    (hs0 : List Request) (ws0 : List PartWait) (t : Tag) (hs : List Request) (ws : List PartWait) (i : ℕ) (woken : List (ℕ × Mode)) →
    length ws ≤ i → Waking hs0 ws0 t hs (take i ws) (drop i ws) woken → Waking hs0 ws0 t hs ws [] woken
Waking-end_at hs0 ws0 t hs ws i woken past so_far =
    subst (λ todo. Waking hs0 ws0 t hs ws todo woken) (drop_all i ws past)
    (subst (λ done. Waking hs0 ws0 t hs done (drop i ws) woken) (take_all i ws past) so_far)

-- The two lists have the same requests at the end as at first, and each session one wait at most on an
-- object.
pub same_requests-end :
    (hs0 : List Request) (ws0 : List PartWait) (t : Tag) (hs : List Request) (ws : List PartWait) (woken : List (ℕ × Mode)) →
    Waking hs0 ws0 t hs ws [] woken → (s : ℕ) (o : Tag) (m : Mode) → times_in hs ws s o m ≡ times_in hs0 ws0 s o m
same_requests-end hs0 ws0 t hs ws woken all s o m = ap (λ xs. times_in hs xs s o m) (sym (append-nil ws)) ∙ all.same_requests s o m

pub one_wait_each-end :
    (hs0 : List Request) (ws0 : List PartWait) (t : Tag) (hs : List Request) (ws : List PartWait) (woken : List (ℕ × Mode)) →
    OneWaitEach ws0 → Waking hs0 ws0 t hs ws [] woken → OneWaitEach ws
one_wait_each-end hs0 ws0 t hs ws woken each all =
    subst OneWaitEach (append-nil ws) (λ s o. let fewer : count_by (λ wait. is_request_on (request_of wait) s o) (ws ++ []) ≤ count_by (λ wait. is_request_on (request_of wait) s o) ws0 = all.no_more_waits s o in omega (arith, each s o))
