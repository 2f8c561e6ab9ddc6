-- Numbers and tags by their words.
use Rattle.std.proofs.Common.{◌≡◌, ℕ, ◌+◌, ◌<◌, ◌≤◌, ◌∙◌, refl, rules, arith, List, [], ◌∷◌, ◌++◌, suc, zero, not, cond, filter, take, drop, get_or, append_assoc, append-nil, length-append, length, map, ◌≢◌, Option, None, Some, Bool, true, false, ap, sym}
use Rattle.std.specs.Prelude.{◌&&◌, ◌^◌, nat_le, nat_lt, position, slice_range, MatchOption, is_some, if◌then◌else◌}
use Rattle.std.specs.Borrow.{Bor}
use Rattle.std.specs.List.{list_all, slice_split, position_or_len, before_first, after_first}
use Rattle.std.specs.Char.{is_ascii_digit}
use Rattle.std.specs.Str.Parse.{digits_value}
use Rattle.std.proofs.lemmas.Str.Parse.{IsNumeralModel, numerals_by_value}
use Rattle.std.proofs.lemmas.List.Splits.{slice_split_none, slice_split_first, length-slice_split}
use Rattle.std.proofs.lemmas.List.Sums.{fails_before_first}
use Rattle.std.proofs.lemmas.Bool.Decides.{nat_tests}
use Rattle.std.proofs.lemmas.List.Quantifiers.{position-Some}
use Rattle.std.proofs.lemmas.Grind.{common_steps}
use Rattle.lock_script.specs.Words.{number_in, is_slash, is_blank, is_word, words_of, tag_of_numbers, advisory_of_numbers}

-- a word of digits is a numeral
pub numerals : IsNumeralModel (λ word. list_all is_ascii_digit word ≡ true) (digits_value 10)
numerals = numerals_by_value (λ word. list_all is_ascii_digit word ≡ true) (search rules)

-- where no byte parts a text there is one part
pub one_part : (p : ℕ → Bool) (word : List ℕ) → position_or_len p word ≡ length word → slice_split p word ≡ word ∷ []
one_part p word e = slice_split_none p word (λ k d h. fails_before_first p word k d (omega arith))

-- nor are more than four
no_tag-five : (a b c d e : Option ℕ) (others : List (Option ℕ)) → tag_of_numbers (a ∷ b ∷ c ∷ d ∷ e ∷ others) ≡ None
no_tag-five None b c d e others = refl
no_tag-five (Some a) None c d e others = refl
no_tag-five (Some a) (Some b) None d e others = refl
no_tag-five (Some a) (Some b) (Some c) None e others = refl
no_tag-five (Some a) (Some b) (Some c) (Some d) e others = refl

no_tag-more : (a b c d : Option ℕ) (parts : List (List ℕ)) → 0 < length parts → tag_of_numbers (a ∷ b ∷ c ∷ d ∷ map number_in parts) ≡ None
no_tag-more a b c d [] h = absurd (omega arith)
no_tag-more a b c d (e ∷ parts) h = no_tag-five a b c d (number_in e) (map number_in parts)

-- nor are they an advisory lock
no_advisory-five : (a b c d e : Option ℕ) (others : List (Option ℕ)) → advisory_of_numbers (a ∷ b ∷ c ∷ d ∷ e ∷ others) ≡ None
no_advisory-five None b c d e others = refl
no_advisory-five (Some a) None c d e others = refl
no_advisory-five (Some a) (Some b) None d e others = refl
no_advisory-five (Some a) (Some b) (Some c) None e others = refl
no_advisory-five (Some a) (Some b) (Some c) (Some d) e others = refl

no_advisory-more : (a b c d : Option ℕ) (parts : List (List ℕ)) → 0 < length parts → advisory_of_numbers (a ∷ b ∷ c ∷ d ∷ map number_in parts) ≡ None
no_advisory-more a b c d [] h = absurd (omega arith)
no_advisory-more a b c d (e ∷ parts) h = no_advisory-five a b c d (number_in e) (map number_in parts)

-- there is at least one part
some_part : (word : List ℕ) → 0 < length (slice_split is_slash word)
some_part word = rw (length-slice_split is_slash word) (omega arith)

-- nor what is parted once more behind three
pub no_tag-past : (last : List ℕ) (r : Option (Bor (List ℕ) × Bor (List ℕ))) (a b c : Option ℕ) → is_some r ≡ true → MatchOption r (slice_split is_slash last ≡ last ∷ []) (λ parts. slice_split is_slash last ≡ parts.0.now ∷ slice_split is_slash parts.1.now) → None ≡ tag_of_numbers (a ∷ b ∷ c ∷ map number_in (slice_split is_slash last))
no_tag-past last None a b c is cut = let never : ⊥ = cc in absurd never
no_tag-past last (Some parts) a b c is cut = sym (rw cut (no_tag-more a b c (number_in parts.0.now) (slice_split is_slash parts.1.now) (some_part parts.1.now)))

-- nor what is parted once more behind three
pub no_advisory-past : (last : List ℕ) (r : Option (Bor (List ℕ) × Bor (List ℕ))) (a b c : Option ℕ) → is_some r ≡ true → MatchOption r (slice_split is_slash last ≡ last ∷ []) (λ parts. slice_split is_slash last ≡ parts.0.now ∷ slice_split is_slash parts.1.now) → None ≡ advisory_of_numbers (a ∷ b ∷ c ∷ map number_in (slice_split is_slash last))
no_advisory-past last None a b c is cut = let never : ⊥ = cc in absurd never
no_advisory-past last (Some parts) a b c is cut = sym (rw cut (no_advisory-more a b c (number_in parts.0.now) (slice_split is_slash parts.1.now) (some_part parts.1.now)))

-- what stands round the first byte that parts a text
pub parts-at : (p : ℕ → Bool) (word : List ℕ) (r : Option (Bor (List ℕ) × Bor (List ℕ))) → MatchOption r (position_or_len p word ≡ length word) (λ x. (position_or_len p word < length word) × (x.0.now ≡ before_first p word) × (x.1.now ≡ after_first p word)) → MatchOption r (slice_split p word ≡ word ∷ []) (λ parts. slice_split p word ≡ parts.0.now ∷ slice_split p parts.1.now)
parts-at p word None h = one_part p word h
parts-at p word (Some x) h = slice_split_first p word 0 h.0 ∙ sym (ap (λ l. l ∷ slice_split p x.1.now) h.1 ∙ ap (λ l. before_first p word ∷ slice_split p l) h.2)

-- a test that is false of an empty word and of a number past 32 bits
no_number : (n v : ℕ) (digits : Bool) → ¬ ((0 < n) × (v < 2 ^ 32)) → None ≡ (if (nat_le 1 n && (nat_le n 10 && digits)) && nat_le v 4294967295 then Some v else None)
no_number n v digits h = grind (arith, nat_tests)

pub number_in-None : (word : List ℕ) → ¬ ((0 < length word) × (digits_value 10 word < 2 ^ 32)) → None ≡ number_in word
number_in-None word h = no_number (length word) (digits_value 10 word) (list_all is_ascii_digit word) h

-- what is taken of what was taken before
take_again : (n : ℕ) (xs ys : List (List ℕ)) → take n (take n xs ++ ys) ≡ take n (xs ++ ys)
take_again zero xs ys = refl
take_again (suc n) [] ys = refl
take_again (suc n) (x ∷ xs) ys = ap (λ l. x ∷ l) (take_again n xs ys)

filter_first : (word : List ℕ) (parts : List (List ℕ)) → filter is_word (word ∷ []) ++ filter is_word parts ≡ filter is_word (word ∷ parts)
filter_first word parts = go (is_word word) where
  go : (b : Bool) → cond b (word ∷ []) [] ++ filter is_word parts ≡ cond b (word ∷ filter is_word parts) (filter is_word parts)
  go true = refl
  go false = refl

-- one more part is kept of those that stand before the rest
pub kept-more : (kept kept' : List (List ℕ)) (word : List ℕ) (parts : List (List ℕ)) → kept' ≡ take 6 (kept ++ filter is_word (word ∷ [])) → take 6 (kept' ++ filter is_word parts) ≡ take 6 (kept ++ filter is_word (word ∷ parts))
kept-more kept kept' word parts e = ap (λ l. take 6 (l ++ filter is_word parts)) e ∙ take_again 6 (kept ++ filter is_word (word ∷ [])) (filter is_word parts) ∙ ap (λ l. take 6 l) (append_assoc kept (filter is_word (word ∷ [])) (filter is_word parts) ∙ ap (λ l. kept ++ l) (filter_first word parts))

-- the words of texts that are lent
abbrev texts : List (Bor (List ℕ)) → List (List ℕ)
texts items = map (λ (word : Bor (List ℕ)). word.now) items

length-texts : (items : List (Bor (List ℕ))) → length (texts items) ≡ length items
length-texts [] = refl
length-texts (x ∷ items) = ap suc (length-texts items)

texts-push : (items : List (Bor (List ℕ))) (word : Bor (List ℕ)) → texts (items ++ word ∷ []) ≡ texts items ++ word.now ∷ []
texts-push [] word = refl
texts-push (x ∷ items) word = ap (λ l. x.now ∷ l) (texts-push items word)

take_whole : (n : ℕ) (xs : List (List ℕ)) → length xs ≤ n → xs ≡ take n xs
take_whole n xs h = grind (arith, common_steps)

take_front : (n : ℕ) (xs ys : List (List ℕ)) → length xs ≡ n → xs ≡ take n (xs ++ ys)
take_front n xs ys h = grind (arith, common_steps)

is_word-empty : (part : List ℕ) → length part ≡ 0 → is_word part ≡ false
is_word-empty part h = grind (arith, nat_tests)

is_word-some : (part : List ℕ) → length part ≢ 0 → is_word part ≡ true
is_word-some part h = grind (arith, nat_tests)

-- nothing is added where there is no room
pub kept-full : (items : List (Bor (List ℕ))) (more : List (List ℕ)) → length items ≡ 6 → texts items ≡ take 6 (texts items ++ more)
kept-full items more h = take_front 6 (texts items) more (length-texts items ∙ h)

-- nor of nothing
pub kept-empty : (items : List (Bor (List ℕ))) (part : List ℕ) → length items ≤ 6 → length part ≡ 0 → texts items ≡ take 6 (texts items ++ filter is_word (part ∷ []))
kept-empty items part fits h = rw (is_word-empty part h) (rw append-nil (take_whole 6 (texts items) (omega (arith, length-texts items))))

-- else the word is
pub kept-word : (items items' : List (Bor (List ℕ))) (part : Bor (List ℕ)) → items' ≡ items ++ part ∷ [] → length items < 6 → length part.now ≢ 0 → texts items' ≡ take 6 (texts items ++ filter is_word (part.now ∷ []))
kept-word items items' part e room some =
    rw (is_word-some part.now some) (ap texts e ∙ texts-push items part ∙ take_whole 6 (texts items ++ part.now ∷ []) (omega (arith, length-append (texts items) (part.now ∷ []), length-texts items)))

found : (b : Bool) (place i : ℕ) → Some i ≡ cond b (Some place) None → (b ≡ true) × (place ≡ i)
found true place i e = (refl, cc)
found false place i e = let never : ⊥ = cc in absurd never

not_found : (b : Bool) (place : ℕ) → None ≡ cond b (Some place) None → b ≡ false
not_found true place e = let never : ⊥ = cc in absurd never
not_found false place e = refl

below-length : (b : Bool) (m n : ℕ) → m ≤ n → cond (not b) (1 + m) 0 ≤ suc n
below-length true m n h = omega arith
below-length false m n h = omega arith

position-le : (p : ℕ → Bool) (text : List ℕ) → position_or_len p text ≤ length text
position-le p [] = omega arith
position-le p (x ∷ text) = below-length (p x) (position_or_len p text) (length text) (position-le p text)

-- where no byte parts a text it is one part
pub no_parts : (p : ℕ → Bool) (text : List ℕ) → None ≡ position p text → slice_split p text ≡ text ∷ []
no_parts p text e =
    let past : nat_lt (position_or_len p text) (length text) ≡ false = not_found _ _ e in
    let at_end : length text ≤ position_or_len p text = grind (arith, nat_tests) in
    one_part p text (omega (arith, position-le p text))

-- the place of the first byte that parts a text
pub first_place : (p : ℕ → Bool) (text : List ℕ) (i : ℕ) → Some i ≡ position p text → (position_or_len p text ≡ i) × (i < length text)
first_place p text i e =
    let both : (nat_lt (position_or_len p text) (length text) ≡ true) × (position_or_len p text ≡ i) = found _ _ _ e in
    let test : nat_lt (position_or_len p text) (length text) ≡ true = both.0 in
    let same : position_or_len p text ≡ i = both.1 in
    let within : position_or_len p text < length text = grind (arith, nat_tests) in
    (same, omega arith)

-- what stands round it
pub parts-round : (p : ℕ → Bool) (text : List ℕ) (i : ℕ) (before after : List ℕ) → Some i ≡ position p text → before ≡ slice_range text 0 i → after ≡ drop (i + 1) text → slice_split p text ≡ before ∷ slice_split p after
parts-round p text i before after e b a =
    let place = first_place p text i e in
    let same : position_or_len p text ≡ i = place.0 in
    let within : position_or_len p text < length text = rw same place.1 in
    let whole : slice_range text 0 i ≡ take i text = grind (arith, common_steps) in
    slice_split_first p text 0 within ∙ rw (same, a, b, whole) refl

-- a blank is ASCII
blank-below : (b : ℕ) → is_blank b ≡ true → b < 128
blank-below b h = grind (arith, nat_tests)

pub first_blank-below : (text : List ℕ) (i : ℕ) → Some i ≡ position is_blank text → get_or text i 0 < 128
first_blank-below text i e = blank-below (get_or text i 0) (position-Some is_blank text i 0 (sym e)).1

-- A step of the loop over a line's words: what was kept, and then the words of the rest, are the line's.
pub words-step : (line kept kept' : List (List ℕ)) (word after rest : List ℕ) → take 6 (kept ++ words_of rest) ≡ line → slice_split is_blank rest ≡ word ∷ slice_split is_blank after → kept' ≡ take 6 (kept ++ filter is_word (word ∷ [])) → take 6 (kept' ++ words_of after) ≡ line
words-step line kept kept' word after rest inv cut more = kept-more kept kept' word (slice_split is_blank after) more ∙ sym (ap (λ parts. take 6 (kept ++ filter is_word parts)) cut) ∙ inv

-- at its end the rest is one part
pub words-end : (line kept kept' : List (List ℕ)) (rest : List ℕ) → take 6 (kept ++ words_of rest) ≡ line → slice_split is_blank rest ≡ rest ∷ [] → kept' ≡ take 6 (kept ++ filter is_word (rest ∷ [])) → kept' ≡ line
words-end line kept kept' rest inv cut more = more ∙ sym (ap (λ parts. take 6 (kept ++ filter is_word parts)) cut) ∙ inv
