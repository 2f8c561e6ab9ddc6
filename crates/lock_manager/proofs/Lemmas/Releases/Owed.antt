use Rattle.std.proofs.Common.{◌≡◌, ℕ, ◌≤◌, ◌<◌, ◌+◌, true, ◌||◌, List, [], ◌∷◌, ◌++◌, take, drop, length, get_or, refl, sym, ap, ◌∙◌}
use Rattle.std.proofs.lemmas.Bool.{eq-eqb}
use Rattle.std.proofs.lemmas.List.{take_more, take_all, drop_more, drop_all, map-append}
use Rattle.modes_core.specs.declared.modes.Mode.{Mode}
use Rattle.shared_rule.specs.Boards.{Stack, stack_owing, stack_waking}
use Rattle.shared_rule.specs.History.{is_among, sessions_told}
use Rattle.shared_rule.specs.Owed.{owing, waking}
use Rattle.shared_rule.proofs.Lemmas.Stacks.{with_owed, waking-first}

-- Whom a session owes a wake, while it marks those whom a move lets go and then wakes them, in the order of
-- the list.

-- At first it owes nobody one.
pub owed-none : (s : Stack) (items : List (ℕ × Mode)) → s.owed ≡ [] → s ≡ with_owed s (sessions_told (take 0 items))
owed-none s items none = ap (with_owed s) none

told-next :
    (items : List (ℕ × Mode)) (i : ℕ) (told : ℕ × Mode) → i < length items → told ≡ get_or items i told
    → sessions_told (take (i + 1) items) ≡ owing (sessions_told (take i items)) told.0
told-next items i told within is =
    ap sessions_told (take_more items i told within)
    ∙ map-append (λ (its : ℕ × Mode). its.0) (take i items) (get_or items i told ∷ [])
    ∙ ap (λ (its : ℕ × Mode). sessions_told (take i items) ++ its.0 ∷ []) (sym is)

-- With each mark it owes one more,
pub owed-next :
    (s t u : Stack) (items : List (ℕ × Mode)) (i : ℕ) (told : ℕ × Mode) → i < length items → told ≡ get_or items i told
    → t ≡ with_owed s (sessions_told (take i items)) → u ≡ stack_owing t told.0 → u ≡ with_owed s (sessions_told (take (i + 1) items))
owed-next s t u items i told within is so_far marked =
    marked ∙ ap (λ (x : Stack). stack_owing x told.0) so_far ∙ ap (with_owed s) (sym (told-next items i told within is))

-- until it owes all;
pub owed-all :
    (s t : Stack) (items : List (ℕ × Mode)) (i : ℕ) → length items ≤ i
    → t ≡ with_owed s (sessions_told (take i items)) → t ≡ with_owed s (sessions_told (drop 0 items))
owed-all s t items i past so_far = so_far ∙ ap (λ told. with_owed s (sessions_told told)) (take_all i items past)

-- with each wake it owes one less,
pub woken-next :
    (s t u : Stack) (items : List (ℕ × Mode)) (i : ℕ) (told : ℕ × Mode) → i < length items → told ≡ get_or items i told
    → t ≡ with_owed s (sessions_told (drop i items)) → u ≡ stack_waking t told.0 → u ≡ with_owed s (sessions_told (drop (i + 1) items))
woken-next s t u items i told within is so_far woke =
    let next : drop i items ≡ told ∷ drop (i + 1) items =
    drop_more items i told within ∙ ap (λ (its : ℕ × Mode). its ∷ drop (i + 1) items) (sym is) in
    woke
    ∙ ap (λ (x : Stack). stack_waking x told.0) so_far
    ∙ ap (λ (its : List (ℕ × Mode)). with_owed s (waking (sessions_told its) told.0)) next
    ∙ ap (with_owed s) (waking-first told.0 (sessions_told (drop (i + 1) items)))

-- each of one whom it owes it,
pub woken-owed :
    (s t : Stack) (items : List (ℕ × Mode)) (i : ℕ) (told : ℕ × Mode) → i < length items → told ≡ get_or items i told
    → t ≡ with_owed s (sessions_told (drop i items)) → is_among t.owed told.0 ≡ true
woken-owed s t items i told within is so_far =
    let rest = drop (i + 1) items in
    let next : drop i items ≡ told ∷ rest =
    drop_more items i told within ∙ ap (λ (its : ℕ × Mode). its ∷ rest) (sym is) in
    ap (λ (x : Stack). is_among x.owed told.0) so_far
    ∙ ap (λ (its : List (ℕ × Mode)). is_among (sessions_told its) told.0) next
    ∙ ap (λ b. b || is_among (sessions_told rest) told.0) (eq-eqb told.0 told.0 refl)

-- until it owes nobody one.
pub woken-all :
    (s t : Stack) (items : List (ℕ × Mode)) (i : ℕ) → length items ≤ i → s.owed ≡ []
    → t ≡ with_owed s (sessions_told (drop i items)) → t ≡ s
woken-all s t items i past none so_far =
    so_far
    ∙ ap (λ (its : List (ℕ × Mode)). with_owed s (sessions_told its)) (drop_all i items past)
    ∙ ap (with_owed s) (sym none)
