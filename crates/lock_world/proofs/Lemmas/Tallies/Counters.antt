use Rattle.std.proofs.Common.{◌≡◌, ℕ, ◌+◌, ◌==◌, List, [], ◌∷◌, length, refl, sym, ◌∙◌, arith}
use Rattle.std.specs.Prelude.{if◌then◌else◌}
use Rattle.std.proofs.lemmas.Bool.{cond-true, cond-false, eq-eqb, ne_eqb}
use Rattle.modes_core.specs.Tag.{index_of}
use Rattle.lock_table.proofs.Lemmas.HoldLists.{count_by-cons}
use Rattle.lock_table.specs.Total.{total}
use Rattle.lock_world.specs.Counted.{Counted, count_at, counter}
use Rattle.lock_table.proofs.Lemmas.Totals.{total-same, total-nothing}
use Rattle.lock_world.proofs.Lemmas.Tallies.Sums.{total-one, total-add, total-swap}

-- All counters together show how much is counted.

-- What one session has counted is at some index, each once.
pub all-counted : (list : List Counted) → total 1024 (λ index. count_at index list) ≡ length list
all-counted [] = total-nothing 1024 (λ index. 0) (λ index within. refl)
all-counted (c ∷ list) =
    let rest = all-counted list in
    let split : total 1024 (λ index. count_at index (c ∷ list)) ≡ total 1024 (λ index. (if index_of c.tag == index then 1 else 0) + count_at index list) =
    total-same 1024 _ _ (λ index within. count_by-cons (λ (d : Counted). index_of d.tag == index) c list) in
    let both = total-add 1024 (λ index. if index_of c.tag == index then 1 else 0) (λ index. count_at index list) in
    let one : total 1024 (λ index. if index_of c.tag == index then 1 else 0) ≡ (if index_of c.tag == index_of c.tag then 1 else 0) =
    total-one 1024 (λ index. if index_of c.tag == index then 1 else 0) (index_of c.tag) (omega arith)
    (λ index within other. cond-false (index_of c.tag == index) 1 0 (ne_eqb (index_of c.tag) index (λ e. other (sym e)))) in
    let here : ◌≡◌ {A = ℕ} (if index_of c.tag == index_of c.tag then 1 else 0) 1 = cond-true (index_of c.tag == index_of c.tag) 1 0 (eq-eqb (index_of c.tag) (index_of c.tag) refl) in
    omega (arith, rest, split, both, one, here)

pub counters-sum : (limit : ℕ) (counted : ℕ → List Counted) → total 1024 (counter limit counted) ≡ total limit (λ k. length (counted k))
counters-sum limit counted =
    total-swap 1024 limit (λ index k. count_at index (counted k))
    ∙ total-same limit _ _ (λ k within. all-counted (counted k))
