-- The lines of each session, where those of one session change.
use Rattle.std.proofs.Common.{◌≡◌, ◌≢◌, ◌∙◌, ℕ, ◌+◌, ◌<◌, deque_len, suc, zero, Bool, true, false, cond, List, [], ◌∷◌, ◌++◌, length, get_or, set, refl, ap, sym, subst, arith}
use Rattle.std.proofs.Common.{Option, Some, None, Result, Ok, Err}
use Rattle.std.specs.Prelude.{IfSome, IfNone, MatchOption, OnOk, OnErr, not}
use Rattle.std.specs.Str.{bytes_eq}
use Rattle.std.specs.Bool.{◌==◌}
use Rattle.arrayvec.specs.declared.array_string.ArrayString.{ArrayString}
use Rattle.std.specs.declared.alloc.AllocError.{AllocError}
use Rattle.std.proofs.lemmas.Slice.Eq.{bytes_eq-Decides}
use Rattle.std.proofs.lemmas.Bool.{eqb-true}
use Rattle.std.proofs.lemmas.List.Sums.{sum_by-set}
use Rattle.lock_script.specs.Kept.{first_number, kept_count, lines_of, line_of, IsKeptOrder}
use Rattle.lock_script.specs.declared.kept.KeptLine.{KeptLine}
use Rattle.lock_script.specs.declared.kept.KeptQueue.{KeptQueue}

append-none : (xs : List KeptLine) → xs ++ [] ≡ xs
append-none [] = refl
append-none (x ∷ xs) = ap (λ (rest : List KeptLine). x ∷ rest) (append-none xs)

-- two parts of which no session has both change places
change-places : (a b : Bool) (xs ys zs : List KeptLine) → (a ≡ true → b ≡ true → ⊥) → cond a xs (cond b ys zs) ≡ cond b ys (cond a xs zs)
change-places false b xs ys zs apart = refl
change-places true false xs ys zs apart = refl
change-places true true xs ys zs apart = absurd (apart refl refl)

both-names : (one other session : List ℕ) → one ≢ other → bytes_eq one session ≡ true → bytes_eq other session ≡ true → ⊥
both-names one other session apart p q = apart ((bytes_eq-Decides one session).0 p ∙ sym ((bytes_eq-Decides other session).0 q))

put-first : (a : Bool) (xs ys zs : List KeptLine) → cond a xs zs ≡ cond a xs (cond a ys zs)
put-first false xs ys zs = refl
put-first true xs ys zs = refl

-- The first queue of a session is another one of the same session.
pub lines-set :
    (queues : List KeptQueue) (place : ℕ) (queue : KeptQueue) (name : List ℕ) → place < length queues →
    ((d : KeptQueue) → (get_or queues place d).session.bytes ≡ name) →
    ((k : ℕ) (d : KeptQueue) → k < place → (get_or queues k d).session.bytes ≢ name) → queue.session.bytes ≡ name →
    (session : List ℕ) → lines_of (set queues place queue) session ≡ cond (bytes_eq name session) queue.lines.items (lines_of queues session)
lines-set [] place queue name within called first same session = absurd (omega (arith, within))
lines-set (x ∷ queues) zero queue name within called first same session =
    let its : x.session.bytes ≡ name = called x in
    ap (λ (it : List ℕ). cond (bytes_eq it session) queue.lines.items (lines_of queues session)) same
    ∙ put-first (bytes_eq name session) queue.lines.items x.lines.items (lines_of queues session)
    ∙ ap (λ (it : List ℕ). cond (bytes_eq name session) queue.lines.items (cond (bytes_eq it session) x.lines.items (lines_of queues session))) (sym its)
lines-set (x ∷ queues) (suc place) queue name within called first same session =
    ap (λ (rest : List KeptLine). cond (bytes_eq x.session.bytes session) x.lines.items rest)
    (lines-set queues place queue name (omega (arith, within)) called (λ k d before. first (suc k) d (omega (arith, before))) same session)
    ∙ change-places (bytes_eq x.session.bytes session) (bytes_eq name session) x.lines.items queue.lines.items (lines_of queues session)
    (both-names x.session.bytes name session (first 0 x (omega arith)))

-- Those of the session of the first queue are that queue's.
pub lines-at :
    (queues : List KeptQueue) (place : ℕ) (d : KeptQueue) (name session : List ℕ) → place < length queues →
    ((d : KeptQueue) → (get_or queues place d).session.bytes ≡ name) →
    ((k : ℕ) (d : KeptQueue) → k < place → (get_or queues k d).session.bytes ≢ name) → bytes_eq name session ≡ true →
    lines_of queues session ≡ (get_or queues place d).lines.items
lines-at [] place d name session within called first same = absurd (omega (arith, within))
lines-at (x ∷ queues) zero d name session within called first same =
    let its : bytes_eq x.session.bytes session ≡ true = ap (λ (it : List ℕ). bytes_eq it session) (called x) ∙ same in
    ap (λ (a : Bool). cond a x.lines.items (lines_of queues session)) its
lines-at (x ∷ queues) (suc place) d name session within called first same =
    ap (λ (a : Bool). cond a x.lines.items (lines_of queues session)) (is-other (bytes_eq x.session.bytes session) (λ p. both-names x.session.bytes name session (first 0 x (omega arith)) p same))
    ∙ lines-at queues place d name session (omega (arith, within)) called (λ k e before. first (suc k) e (omega (arith, before))) same
  where
    is-other : (a : Bool) → (a ≡ true → ⊥) → a ≡ false
    is-other false never = refl
    is-other true never = absurd (never refl)

-- A queue more, of a session that has none.
pub lines-append :
    (queues : List KeptQueue) (queue : KeptQueue) (name : List ℕ) →
    ((k : ℕ) (d : KeptQueue) → k < length queues → (get_or queues k d).session.bytes ≢ name) → queue.session.bytes ≡ name →
    (session : List ℕ) → lines_of (queues ++ queue ∷ []) session ≡ lines_of queues session ++ cond (bytes_eq name session) queue.lines.items []
lines-append [] queue name free same session = ap (λ (it : List ℕ). cond (bytes_eq it session) queue.lines.items []) same
lines-append (x ∷ queues) queue name free same session =
    ap (λ (rest : List KeptLine). cond (bytes_eq x.session.bytes session) x.lines.items rest)
    (lines-append queues queue name (λ k d before. free (suc k) d (omega (arith, before))) same session)
    ∙ behind (bytes_eq x.session.bytes session) (bytes_eq name session) (both-names x.session.bytes name session (free 0 x (omega arith)))
  where
    behind : (a b : Bool) → (a ≡ true → b ≡ true → ⊥) →
        cond a x.lines.items (lines_of queues session ++ cond b queue.lines.items []) ≡ cond a x.lines.items (lines_of queues session) ++ cond b queue.lines.items []
    behind false b apart = refl
    behind true false apart = sym (append-none x.lines.items)
    behind true true apart = absurd (apart refl refl)

-- The first line of a session is taken.
pub taken-order :
    (queues : List KeptQueue) (place : ℕ) (queue d : KeptQueue) (name : List ℕ) (line : KeptLine) → place < length queues →
    ((d : KeptQueue) → (get_or queues place d).session.bytes ≡ name) →
    ((k : ℕ) (d : KeptQueue) → k < place → (get_or queues k d).session.bytes ≢ name) → queue.session.bytes ≡ name →
    (get_or queues place d).lines.items ≡ line ∷ queue.lines.items → IsKeptOrder (lines_of queues) (line_of name line) (lines_of (set queues place queue))
taken-order queues place queue d name line within called first same is session =
    ap (λ (left : List KeptLine). line_of name line session ++ left) (lines-set queues place queue name within called first same session)
    ∙ go (bytes_eq name session) refl
  where
    go : (b : Bool) → bytes_eq name session ≡ b → cond b (line ∷ []) [] ++ cond b queue.lines.items (lines_of queues session) ≡ lines_of queues session
    go false p = refl
    go true p = sym is ∙ sym (lines-at queues place d name session within called first p)

-- The queue of a session is as it was.
pub same-order :
    (queues : List KeptQueue) (place : ℕ) (queue d : KeptQueue) (name : List ℕ) → place < length queues →
    ((d : KeptQueue) → (get_or queues place d).session.bytes ≡ name) →
    ((k : ℕ) (d : KeptQueue) → k < place → (get_or queues k d).session.bytes ≢ name) → queue.session.bytes ≡ name →
    queue.lines.items ≡ (get_or queues place d).lines.items → IsKeptOrder (lines_of queues) (λ _. []) (lines_of (set queues place queue))
same-order queues place queue d name within called first same is session =
    lines-set queues place queue name within called first same session ∙ go (bytes_eq name session) refl
  where
    go : (b : Bool) → bytes_eq name session ≡ b → cond b queue.lines.items (lines_of queues session) ≡ lines_of queues session
    go false p = refl
    go true p = is ∙ sym (lines-at queues place d name session within called first p)

-- A line is kept behind those of its session.
pub kept-order :
    (queues : List KeptQueue) (place : ℕ) (queue d : KeptQueue) (name : List ℕ) (line : KeptLine) → place < length queues →
    ((d : KeptQueue) → (get_or queues place d).session.bytes ≡ name) →
    ((k : ℕ) (d : KeptQueue) → k < place → (get_or queues k d).session.bytes ≢ name) → queue.session.bytes ≡ name →
    queue.lines.items ≡ (get_or queues place d).lines.items ++ line ∷ [] →
    IsKeptOrder (lines_of (set queues place queue)) (lines_of queues) (line_of name line)
kept-order queues place queue d name line within called first same is session =
    go (bytes_eq name session) refl ∙ sym (lines-set queues place queue name within called first same session)
  where
    go : (b : Bool) → bytes_eq name session ≡ b → lines_of queues session ++ cond b (line ∷ []) [] ≡ cond b queue.lines.items (lines_of queues session)
    go false p = append-none (lines_of queues session)
    go true p = ap (λ (before : List KeptLine). before ++ line ∷ []) (lines-at queues place d name session within called first p) ∙ sym is

-- The first line of a session is kept.
pub first-order :
    (queues : List KeptQueue) (queue : KeptQueue) (name : List ℕ) (line : KeptLine) →
    ((k : ℕ) (d : KeptQueue) → k < length queues → (get_or queues k d).session.bytes ≢ name) → queue.session.bytes ≡ name →
    queue.lines.items ≡ line ∷ [] → IsKeptOrder (lines_of (queues ++ queue ∷ [])) (lines_of queues) (line_of name line)
first-order queues queue name line free same is session =
    ap (λ (its : List KeptLine). lines_of queues session ++ cond (bytes_eq name session) its []) (sym is)
    ∙ sym (lines-append queues queue name free same session)

module _
    (queues : List KeptQueue) (place : ℕ) (queue d : KeptQueue) (name : List ℕ) (within : place < length queues)
    (called : (d : KeptQueue) → (get_or queues place d).session.bytes ≡ name)
    (first : (k : ℕ) (d : KeptQueue) → k < place → (get_or queues k d).session.bytes ≢ name) (at : d ≡ get_or queues place d)
    (same : queue.session ≡ d.session) where
  its-name : queue.session.bytes ≡ name
  its-name = ap (λ (it : ArrayString 16). it.bytes) same ∙ subst (λ (it : KeptQueue). it.session.bytes ≡ name) (sym at) (called d)

  its-lines : d.lines.items ≡ (get_or queues place d).lines.items
  its-lines = ap (λ (it : KeptQueue). it.lines.items) at

  -- what taking the first line of a session leaves, where it has one
  pub taken-if :
      (it : Option KeptLine) → MatchOption it (queue.lines.items ≡ d.lines.items) (λ line. d.lines.items ≡ line ∷ queue.lines.items) →
      IfSome it (λ line. IsKeptOrder (lines_of queues) (line_of name line) (lines_of (set queues place queue)))
  taken-if None is = tt
  taken-if (Some line) is = taken-order queues place queue d name line within called first its-name (sym its-lines ∙ is)

  -- and where it has none
  pub none-if :
      (it : Option KeptLine) → MatchOption it (queue.lines.items ≡ d.lines.items) (λ line. d.lines.items ≡ line ∷ queue.lines.items) →
      IfNone it (IsKeptOrder (lines_of queues) (λ _. []) (lines_of (set queues place queue)))
  none-if None is = same-order queues place queue d name within called first its-name (is ∙ its-lines)
  none-if (Some line) is = tt

  -- what keeping a line leaves, where there is memory
  pub kept-if :
      (line : KeptLine) (it : Result (Unit {0}) AllocError) → OnOk it (queue.lines.items ≡ d.lines.items ++ line ∷ []) →
      OnOk it (IsKeptOrder (lines_of (set queues place queue)) (lines_of queues) (line_of name line))
  kept-if line (Ok _) is =
      kept-order queues place queue d name line within called first its-name (is ∙ ap (λ (before : List KeptLine). before ++ line ∷ []) its-lines)
  kept-if line (Err _) is = tt

  -- and where there is none
  pub refused-if :
      (it : Result (Unit {0}) AllocError) → OnErr it (queue.lines.items ≡ d.lines.items) →
      OnErr it (IsKeptOrder (lines_of queues) (λ _. []) (lines_of (set queues place queue)))
  refused-if (Ok _) is = tt
  refused-if (Err _) is = same-order queues place queue d name within called first its-name (is ∙ its-lines)

  its-all : lines_of queues name ≡ d.lines.items
  its-all = lines-at queues place d name name within called first ((bytes_eq-Decides name name).1 refl) ∙ sym its-lines

  -- The line that is taken is the first one that is kept of the session,
  pub first-if :
      (it : Option KeptLine) → MatchOption it (queue.lines.items ≡ d.lines.items) (λ line. d.lines.items ≡ line ∷ queue.lines.items) →
      IfSome it (λ line. first_number (lines_of queues name) ≡ Some line.number)
  first-if None is = tt
  first-if (Some line) is = ap (λ (lines : List KeptLine). first_number lines) (its-all ∙ is)

  -- one line fewer is kept then,
  pub fewer-if :
      (it : Option KeptLine) → IfSome it (λ _. deque_len d.lines ≡ deque_len queue.lines + 1) →
      IfSome it (λ _. kept_count queues ≡ kept_count (set queues place queue) + 1)
  fewer-if None fewer = tt
  fewer-if (Some line) fewer =
      let same = ap (λ (one : KeptQueue). deque_len one.lines) at in
      let sums = sum_by-set (λ (one : KeptQueue). deque_len one.lines) queues place queue d within in omega (arith, sums, same, fewer)

  -- and where none is taken the session has none.
  pub empty-if : (it : Option KeptLine) → IfNone it (d.lines.items ≡ []) → IfNone it (lines_of queues name ≡ [])
  empty-if None empty = its-all ∙ empty
  empty-if (Some line) empty = tt

-- The lines of the session of the first queue of this name.
pub lines-there :
    (queues : List KeptQueue) (place : ℕ) (d : KeptQueue) (name : List ℕ) → place < length queues →
    ((d : KeptQueue) → (get_or queues place d).session.bytes ≡ name) →
    ((k : ℕ) (d : KeptQueue) → k < place → (get_or queues k d).session.bytes ≢ name) → d ≡ get_or queues place d →
    lines_of queues name ≡ d.lines.items
lines-there queues place d name within called first at =
    lines-at queues place d name name within called first ((bytes_eq-Decides name name).1 refl) ∙ sym (ap (λ (it : KeptQueue). it.lines.items) at)

no-items : (lines : List KeptLine) → (length lines == 0) ≡ true → lines ≡ []
no-items [] empty = refl
no-items (x ∷ lines) empty = absurd (omega (arith, eqb-true (length (x ∷ lines)) 0 empty))

-- A session has lines where its queue isn't empty,
pub some-of-full :
    (queue : KeptQueue) (is_empty : Bool) → is_empty ≡ (deque_len queue.lines == 0) → {those : List KeptLine} → those ≡ queue.lines.items →
    not is_empty ≡ true → those ≢ []
some-of-full queue is_empty same is full none =
    let empty : queue.lines.items ≡ [] = sym is ∙ none in
    let zero-long : (deque_len queue.lines == 0) ≡ true = ap (λ (n : ℕ). n == 0) queue.lines.ok.0 ∙ ap (λ (lines : List KeptLine). length lines == 0) empty in
    let yes : is_empty ≡ true = same ∙ zero-long in let never : ⊥ = cc in never

-- and has none where it is.
pub none-of-empty :
    (queue : KeptQueue) (is_empty : Bool) → is_empty ≡ (deque_len queue.lines == 0) → {those : List KeptLine} → those ≡ queue.lines.items →
    not is_empty ≡ false → those ≡ []
none-of-empty queue is_empty same is empty = is ∙ no-items queue.lines.items (sym (ap (λ (n : ℕ). n == 0) queue.lines.ok.0) ∙ sym same ∙ yes is_empty empty) where
  yes : (b : Bool) → not b ≡ false → b ≡ true
  yes true is = refl
  yes false is = let never : ⊥ = cc in absurd never
