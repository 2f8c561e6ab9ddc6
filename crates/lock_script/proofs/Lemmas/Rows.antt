-- The rows of commands have the words that stand behind each of them.
use Rattle.std.proofs.Common.{◌≡◌, ◌≢◌, ◌∙◌, ℕ, ◌+◌, ◌<◌, suc, zero, Bool, true, false, cond, List, [], ◌∷◌, map, length, get_or, refl, ap, sym, subst, arith, Option, Some, None}
use Rattle.std.specs.Prelude.{◌&&◌, is_some}
use Rattle.std.specs.List.{list_all}
use Rattle.std.specs.Str.{bytes_eq}
use Rattle.std.proofs.lemmas.Slice.Eq.{bytes_eq-Decides}
use Rattle.lock_script.specs.Defects.{words_behind}
use Rattle.lock_script.specs.Rows.{kinds_in}
use Rattle.lock_script.specs.declared.commands.CommandRow.{CommandRow}
use Rattle.lock_script.specs.declared.commands.WordKind.{WordKind}

not-same : (one other : List ℕ) → one ≢ other → bytes_eq one other ≡ false
not-same one other apart = go (bytes_eq one other) refl where
  go : (b : Bool) → bytes_eq one other ≡ b → b ≡ false
  go false is = refl
  go true is = absurd (apart ((bytes_eq-Decides one other).0 is))

-- The first row of this name is the one at k.
kinds-at :
    (verb : List ℕ) (rows : List CommandRow) (k : ℕ) (d : CommandRow) → k < length rows → (get_or rows k d).verb.now ≡ verb →
    ((i : ℕ) (d : CommandRow) → i < k → (get_or rows i d).verb.now ≢ verb) → kinds_in verb rows ≡ Some (get_or rows k d).kinds.now
kinds-at verb [] k d within is before = absurd (omega (arith, within))
kinds-at verb (x ∷ rows) zero d within is before =
    ap (λ (b : Bool). cond b (Some x.kinds.now) (kinds_in verb rows)) ((bytes_eq-Decides verb x.verb.now).1 (sym is))
kinds-at verb (x ∷ rows) (suc k) d within is before =
    ap (λ (b : Bool). cond b (Some x.kinds.now) (kinds_in verb rows)) (not-same verb x.verb.now (λ same. before 0 x (omega arith) (sym same)))
    ∙ kinds-at verb rows k d (omega (arith, within)) is (λ i d less. before (suc i) d (omega (arith, less)))

-- No row has this name.
kinds-none :
    (verb : List ℕ) (rows : List CommandRow) → ((i : ℕ) (d : CommandRow) → i < length rows → (get_or rows i d).verb.now ≢ verb) → kinds_in verb rows ≡ None
kinds-none verb [] free = refl
kinds-none verb (x ∷ rows) free =
    ap (λ (b : Bool). cond b (Some x.kinds.now) (kinds_in verb rows)) (not-same verb x.verb.now (λ same. free 0 x (omega arith) (sym same)))
    ∙ kinds-none verb rows (λ i d less. free (suc i) d (omega (arith, less)))

-- None of the rows up to this one has this name.
pub none-so-far :
    (verb : List ℕ) (rows : List CommandRow) (k : ℕ) (d : CommandRow) → k < length rows → bytes_eq (get_or rows k d).verb.now verb ≡ false →
    ((i : ℕ) (d : CommandRow) → i < k → (get_or rows i d).verb.now ≢ verb) → (i : ℕ) (d : CommandRow) → i < k + 1 → (get_or rows i d).verb.now ≢ verb
none-so-far verb [] k d within other before i e less is = absurd (omega (arith, within))
none-so-far verb (x ∷ rows) zero d within other before zero e less is =
    let same = (bytes_eq-Decides x.verb.now verb).1 is in let never : ⊥ = cc in never
none-so-far verb (x ∷ rows) zero d within other before (suc i) e less is = absurd (omega (arith, less))
none-so-far verb (x ∷ rows) (suc k) d within other before zero e less is = before zero e (omega arith) is
none-so-far verb (x ∷ rows) (suc k) d within other before (suc i) e less is =
    none-so-far verb rows k d (omega (arith, within)) other (λ i d less. before (suc i) d (omega (arith, less))) i e (omega (arith, less)) is

-- What stands behind a command stands in its row.
behind-kinds :
    (verb : List ℕ) (rows : List CommandRow) (commands : List (List ℕ × List WordKind)) (kinds : List WordKind) →
    map (λ command. kinds_in command.0 rows) commands ≡ map (λ command. Some command.1) commands → words_behind verb commands ≡ Some kinds →
    kinds_in verb rows ≡ Some kinds
behind-kinds verb rows [] kinds same is = let never : ⊥ = cc in absurd never
behind-kinds verb rows (command ∷ others) kinds same is =
    at (bytes_eq verb command.0) refl is (behind-kinds verb rows others kinds cc) where
      head : kinds_in command.0 rows ≡ Some command.1
      head = cc

      at :
          (b : Bool) → bytes_eq verb command.0 ≡ b → cond b (Some command.1) (words_behind verb others) ≡ Some kinds →
          (words_behind verb others ≡ Some kinds → kinds_in verb rows ≡ Some kinds) → kinds_in verb rows ≡ Some kinds
      at true named is rest = ap (λ (it : List ℕ). kinds_in it rows) ((bytes_eq-Decides verb command.0).0 named) ∙ head ∙ is
      at false named is rest = rest is

-- Each of these rows is of a command.
each-known :
    (commands : List (List ℕ × List WordKind)) (rows : List CommandRow) (i : ℕ) (d : CommandRow) →
    list_all (λ row. is_some (words_behind row.verb.now commands)) rows ≡ true → i < length rows →
    is_some (words_behind (get_or rows i d).verb.now commands) ≡ true
each-known commands [] i d all within = absurd (omega (arith, within))
each-known commands (x ∷ rows) zero d all within = here (is_some (words_behind x.verb.now commands)) all where
  here : (b : Bool) → b && list_all (λ row. is_some (words_behind row.verb.now commands)) rows ≡ true → b ≡ true
  here true all = refl
  here false all = all
each-known commands (x ∷ rows) (suc i) d all within = each-known commands rows i d (rest (is_some (words_behind x.verb.now commands)) all) (omega (arith, within)) where
  rest :
      (b : Bool) → b && list_all (λ row. is_some (words_behind row.verb.now commands)) rows ≡ true →
      list_all (λ row. is_some (words_behind row.verb.now commands)) rows ≡ true
  rest true all = all
  rest false all = let never : ⊥ = cc in absurd never

module _
    (verb : List ℕ) (commands : List (List ℕ × List WordKind)) (rows : List CommandRow)
    (words : map (λ command. kinds_in command.0 rows) commands ≡ map (λ command. Some command.1) commands) where
  -- The row that was found is that of the command.
  pub kinds-found :
      (k : ℕ) (d : CommandRow) → list_all (λ row. is_some (words_behind row.verb.now commands)) rows ≡ true → k < length rows →
      (get_or rows k d).verb.now ≡ verb → ((i : ℕ) (d : CommandRow) → i < k → (get_or rows i d).verb.now ≢ verb) →
      words_behind verb commands ≡ Some (get_or rows k d).kinds.now
  kinds-found k d all within is before = by (words_behind verb commands) refl where
    some : is_some (words_behind verb commands) ≡ true
    some = subst (λ (it : List ℕ). is_some (words_behind it commands) ≡ true) is (each-known commands rows k d all within)

    by : (it : Option (List WordKind)) → words_behind verb commands ≡ it → it ≡ Some (get_or rows k d).kinds.now
    by None is-none = let known = some in let never : ⊥ = cc in absurd never
    by (Some kinds) is-some = sym (behind-kinds verb rows commands kinds words is-some) ∙ kinds-at verb rows k d within is before

  -- No row is of a word that is no command.
  pub kinds-missing :
      ((i : ℕ) (d : CommandRow) → i < length rows → (get_or rows i d).verb.now ≢ verb) → words_behind verb commands ≡ None
  kinds-missing free = by (words_behind verb commands) refl where
    by : (it : Option (List WordKind)) → words_behind verb commands ≡ it → it ≡ None
    by None is = refl
    by (Some kinds) is =
        let one = behind-kinds verb rows commands kinds words is in
        let none = kinds-none verb rows free in let never : ⊥ = cc in absurd never
