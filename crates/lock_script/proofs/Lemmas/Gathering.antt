-- A line that is gathered byte after byte.
use Rattle.std.proofs.Common.{◌≡◌, ◌≢◌, ℕ, ◌+◌, ◌<◌, ◌≤◌, ◌∙◌, refl, arith, suc, ap, sym, List, [], ◌∷◌, ◌++◌, length, get_or, take, drop, append_assoc, length-append, length-take, Option, None, Some}
use Rattle.std.specs.Option.{option_to_list}
use Rattle.std.specs.Io.KnownBytes.{Consumes, IsAtEnd}
use Rattle.std.specs.Prelude.{◌==◌, false}
use Rattle.std.proofs.lemmas.List.{take_at, drop_at, take_all, drop_all, get_or_append_left, get_or_at, length_push}
use Rattle.std.proofs.lemmas.List.Sums.{position_or_len_is}
use Rattle.std.proofs.lemmas.Bool.Decides.{nat_tests}
use Rattle.std.proofs.lemmas.Grind.{common_steps}
use Rattle.std.specs.List.{position_or_len}
use Rattle.lock_script.specs.Lines.{is_line_feed, first_line, after_line, CutsLine, HasLongLine}

-- no byte of the line is a line feed
abbrev pub HasNoFeed : List ℕ → Type 0
HasNoFeed line = (i : ℕ) → i < length line → get_or line i 0 ≢ 10

-- Of the unread bytes the line and then the next byte were taken, and the line has no line feed.
pub record Gathers (unread left : Option (List ℕ)) (line : List ℕ) (next : Option ℕ) : Type 0 where
  pub taken : Consumes unread left (line ++ option_to_list next)
  pub ended : next ≡ None → IsAtEnd left
  pub lacks : HasNoFeed line

is_not : (n x : ℕ) → x ≢ n → (x == n) ≡ false
is_not n x h = grind (arith, nat_tests)

HasNoFeed-push : (line : List ℕ) (byte : ℕ) → HasNoFeed line → byte ≢ 10 → HasNoFeed (line ++ byte ∷ [])
HasNoFeed-push line byte h other i within = grind (arith, common_steps, h i)

-- where there is no line feed its place is the end
place-none : (line : List ℕ) → HasNoFeed line → position_or_len is_line_feed line ≡ length line
place-none line h = position_or_len_is is_line_feed line (length line) 0 (omega arith) (λ k within. is_not 10 (get_or line k 0) (h k within)) (λ past. absurd (omega arith))

-- else it is behind a line that has none
place-behind : (line after : List ℕ) → HasNoFeed line → position_or_len is_line_feed (line ++ 10 ∷ after) ≡ length line
place-behind line after h =
    position_or_len_is is_line_feed (line ++ 10 ∷ after) (length line) 0 (grind (arith, common_steps))
    (λ k within. let other = h k within in rw get_or_append_left (is_not 10 (get_or line k 0) other)) (λ _. rw (get_or_at line 10 after 0 (length line) refl) refl)

first_line-none : (line : List ℕ) → HasNoFeed line → first_line line ≡ line
first_line-none line h = ap (λ n. take n line) (place-none line h) ∙ take_all (length line) line (omega arith)

first_line-behind : (line after : List ℕ) → HasNoFeed line → first_line (line ++ 10 ∷ after) ≡ line
first_line-behind line after h = ap (λ n. take n (line ++ 10 ∷ after)) (place-behind line after h) ∙ take_at line (10 ∷ after) (length line) refl

after_line-none : (line : List ℕ) → HasNoFeed line → after_line line ≡ []
after_line-none line h = ap (λ n. drop (n + 1) line) (place-none line h) ∙ drop_all (length line + 1) line (omega arith)

after_line-behind : (line after : List ℕ) → HasNoFeed line → after_line (line ++ 10 ∷ after) ≡ after
after_line-behind line after h =
    ap (λ n. drop (n + 1) (line ++ 10 ∷ after)) (place-behind line after h)
    ∙ ap (drop (length line + 1)) (sym (append_assoc line (10 ∷ []) after)) ∙ drop_at (line ++ 10 ∷ []) after (length line + 1) (length_push line 10)

-- at the end of the input the line is all that was left
pub CutsLine-at_end : (unread left : Option (List ℕ)) (line : List ℕ) → Gathers unread left line None → CutsLine unread left line
CutsLine-at_end None left line h = tt
CutsLine-at_end (Some xs) None line h = absurd h.taken
CutsLine-at_end (Some xs) (Some ys) line h =
    let nothing : ys ≡ [] = h.ended refl in
    let all : xs ≡ line = h.taken ∙ grind (arith, common_steps) in
    (sym (ap first_line all ∙ first_line-none line h.lacks), nothing ∙ sym (ap (λ l. after_line l) all ∙ after_line-none line h.lacks))

-- so it is before a line feed
pub CutsLine-at_feed : (unread left : Option (List ℕ)) (line : List ℕ) → Gathers unread left line (Some 10) → CutsLine unread left line
CutsLine-at_feed None left line h = tt
CutsLine-at_feed (Some xs) None line h = absurd h.taken
CutsLine-at_feed (Some xs) (Some ys) line h =
    let all : xs ≡ line ++ 10 ∷ ys = h.taken ∙ append_assoc line (10 ∷ []) ys in
    (sym (ap first_line all ∙ first_line-behind line ys h.lacks), sym (ap (λ l. after_line l) all ∙ after_line-behind line ys h.lacks))

-- the first line feed of a list stands behind a front that lacks it
position-front : (front back : List ℕ) → HasNoFeed front → length front ≤ position_or_len is_line_feed (front ++ back)
position-front [] back h = omega arith
position-front (x ∷ front) back h =
    let differs : (x == 10) ≡ false = is_not 10 x (h 0 (omega arith)) in
    let tail : HasNoFeed front = λ i within. h (suc i) (omega arith) in
    rw differs (omega (arith, position-front front back tail))

-- so the first line is no shorter than that front
first_line-front : (front back : List ℕ) → HasNoFeed front → length front ≤ length (first_line (front ++ back))
first_line-front front back h = simp (length-take, length-append) (omega (arith, position-front front back h))

-- a line that goes on past 1,024 bytes is too long
pub HasLongLine-goes_on : (unread left : Option (List ℕ)) (line : List ℕ) (byte : ℕ) → Gathers unread left line (Some byte) → byte ≢ 10 → length line ≡ 1024 → HasLongLine unread
HasLongLine-goes_on None left line byte h other full = tt
HasLongLine-goes_on (Some xs) None line byte h other full = absurd h.taken
HasLongLine-goes_on (Some xs) (Some ys) line byte h other full =
    let longer : length (line ++ byte ∷ []) ≡ 1025 = length-append line (byte ∷ []) ∙ grind (arith, common_steps) in
    let fits : length (line ++ byte ∷ []) ≤ length (first_line xs) = rw h.taken (first_line-front (line ++ byte ∷ []) ys (HasNoFeed-push line byte h.lacks other)) in
    omega arith
