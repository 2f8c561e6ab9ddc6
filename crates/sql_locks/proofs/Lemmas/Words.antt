-- What stays true while the words of a text are read one by one.
use Rattle.std.proofs.Common.{◌≡◌, ℕ, ◌+◌, ◌≤◌, List, [], ◌∷◌, ◌++◌, length, take, drop, All, count_by, ◌∙◌, ap, append_assoc, length-append, arith}
use Rattle.std.specs.List.{flat_map}
use Rattle.std.proofs.lemmas.List.{take-append-drop, append-nil}
use Rattle.std.proofs.lemmas.List.Concat.{flat_map-append}
use Rattle.std.proofs.lemmas.List.Elements.{All-push}
use Rattle.std.proofs.lemmas.List.Sums.{sum_by-append, count_by-le-length}
use Rattle.sql_locks.specs.Text.{is_line_feed}
use Rattle.sql_locks.specs.Words.{text_of, AreNumbered, IsWord}
use Rattle.sql_locks.specs.declared.words.Word.{Word}

-- the line feeds of a text
abbrev pub feeds : List ℕ → ℕ
feeds text = count_by is_line_feed text

-- the text that some words are, joined
abbrev pub joined : List Word → List ℕ
joined words = flat_map text_of words

-- the line feeds of two texts are those of both
pub feeds-append : (xs ys : List ℕ) → feeds (xs ++ ys) ≡ feeds xs + feeds ys
feeds-append xs ys = sum_by-append _ xs ys

-- one more word, on the line that the others lead to
pub numbered_more : (line : ℕ) (words : List Word) (word : Word) → AreNumbered line words →
    word.line ≡ line + feeds (joined words) → AreNumbered line (words ++ word ∷ [])
numbered_more line [] word known e = (omega (arith, e), tt)
numbered_more line (x ∷ words) word known e = (
  known.0,
  numbered_more (line + feeds (text_of x)) words word known.1
      (omega (arith, e, feeds-append (text_of x) (joined words))),
)

-- Some words were read, and this is left of the text, behind that line.
pub record IsRead (text : List ℕ) (words : List Word) (rest : List ℕ) (line : ℕ) : Type 0 where
  pub nothing_lost : joined words ++ rest ≡ text
  pub numbered : AreNumbered 1 words
  pub line_is : line ≡ 1 + feeds (joined words)
  pub each : All IsWord words

-- the text of one more word comes behind the others'
pub joined_more : (words : List Word) (word : Word) → joined (words ++ word ∷ []) ≡ joined words ++ text_of word
joined_more words word = flat_map-append text_of words (word ∷ []) ∙ ap (λ t. joined words ++ t) (append-nil (text_of word))

-- The front of what is left is read as one more word.
pub read_more : (text : List ℕ) (words : List Word) (rest : List ℕ) (line : ℕ) (word : Word) (n : ℕ) →
    IsRead text words rest line → text_of word ≡ take n rest → word.line ≡ line → IsWord word →
    IsRead text (words ++ word ∷ []) (drop n rest) (line + feeds (text_of word))
read_more text words rest line word n known taken place is_word = record {
  nothing_lost =
      ap (λ t. t ++ drop n rest) (joined_more words word) ∙ append_assoc (joined words) (text_of word) (drop n rest)
      ∙ ap (λ t. joined words ++ (t ++ drop n rest)) taken ∙ ap (λ t. joined words ++ t) (take-append-drop n rest)
      ∙ known.nothing_lost;
  numbered = numbered_more 1 words word known.numbered (place ∙ known.line_is);
  line_is = omega (arith, known.line_is, feeds-append (joined words) (text_of word), ap feeds (joined_more words word));
  each = All-push IsWord words word known.each is_word;
}

-- the number of a line is at most the bytes before it, and one
pub line_is_low : (text : List ℕ) (words : List Word) (rest : List ℕ) (line : ℕ) → IsRead text words rest line →
    line + length rest ≤ 1 + length text
line_is_low text words rest line known =
    omega (
      arith,
      known.line_is,
      count_by-le-length is_line_feed (joined words),
      length-append (joined words) rest,
      ap length known.nothing_lost,
    )
