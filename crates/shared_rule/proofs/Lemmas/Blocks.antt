use Rattle.std.proofs.Common.{◌≡◌, ◌≢◌, ℕ, zero, suc, ◌+◌, ◌*◌, ◌<◌, sym, ap, inl, inr, arith}
use Rattle.std.proofs.lemmas.Bool.{cases_eq, cases_order}
use Rattle.std.proofs.Math.Nat.{mul-suc, mul-zero}
use Rattle.shared_rule.specs.Layout.{block_start, block_of, IsApart}

-- The blocks of words: each session has one for each of its groups of slots, and no two have one.

-- A session's block for a group is one of those that there are.
pub block-below : (sessions groups session group : ℕ) → session < sessions → group < groups → block_of sessions session group < sessions * groups
block-below sessions zero session group below within = absurd (omega (arith, within))
block-below sessions (suc groups) session group below within =
    let all : sessions * suc groups ≡ sessions * groups + sessions = mul-suc sessions groups in
    elim (cases_eq group groups) [
      | inl last ↦
          let same : sessions * group ≡ sessions * groups = ap (λ n. sessions * n) last in
          omega (arith, all, same, below)
      | inr before ↦
          let earlier : block_of sessions session group < sessions * groups = block-below sessions groups session group below (omega (arith, within, before)) in
          omega (arith, all, earlier)
    ]

-- There is a block for each session where there is a group.
pub session-below : (sessions groups session : ℕ) → session < sessions → 0 < groups → session < sessions * groups
session-below sessions groups session below some =
    let first : block_of sessions session 0 < sessions * groups = block-below sessions groups session 0 below some in
    let none : sessions * 0 ≡ 0 = mul-zero sessions in
    omega (arith, first, none)

-- A block of an earlier group comes before all those of a later one.
group-before : (sessions one session group later : ℕ) → one < sessions → group < later → block_of sessions one group ≢ block_of sessions session later
group-before sessions one session group later below before same =
    let first : block_of sessions one group < sessions * later = block-below sessions later one group below before in
    omega (arith, first, same)

-- One block is that of one session and one group.
pub block-one : (sessions one other group its : ℕ) → one < sessions → other < sessions → block_of sessions one group ≡ block_of sessions other its
    → (one ≡ other) × (group ≡ its)
block-one sessions one other group its here there same = elim (cases_order group its) [
  | inl equal ↦
      let product : sessions * group ≡ sessions * its = ap (λ n. sessions * n) equal in
      ((let e : one ≡ other = omega (arith, product, same) in e), equal)
  | inr apart ↦ elim apart [
    | inl before ↦ absurd (group-before sessions one other group its here before same)
    | inr after ↦ absurd (group-before sessions other one its group there after (sym same))
  ]
]

-- A slot's word, the one at this place behind the first two of its block, is no word before all blocks,
pub slot-not_early : (block place n : ℕ) → n < 1296 → block_start block + 2 + place ≢ n
slot-not_early block place n early same = omega (arith, early, same)

-- nor any other word of a block, at another place,
pub slot-not_fast : (block place other : ℕ) → place < 16 → block_start block + 2 + place ≢ block_start other
slot-not_fast block place other within same = omega (arith, within, same)

pub slot-not_database : (block place other : ℕ) → place < 16 → block_start block + 2 + place ≢ block_start other + 1
slot-not_database block place other within same = omega (arith, within, same)

pub slot-not_wait : (block place other : ℕ) → place < 16 → block_start block + 2 + place ≢ block_start other + 18
slot-not_wait block place other within same = omega (arith, within, same)

pub slot-not_sleep : (block place other : ℕ) → place < 16 → block_start block + 2 + place ≢ block_start other + 19
slot-not_sleep block place other within same = omega (arith, within, same)

-- and that of no other slot.
pub slot-one : (block place other its : ℕ) → place < 16 → its < 16 → block_start block + 2 + place ≡ block_start other + 2 + its → (block ≡ other) × (place ≡ its)
slot-one block place other its within also same =
    ((let e : block ≡ other = omega (arith, within, also, same) in e), (let e : place ≡ its = omega (arith, within, also, same) in e))

-- A slot's word is before the end of the blocks.
pub slot-below : (block place many : ℕ) → place < 16 → block < many → block_start block + 2 + place < block_start many
slot-below block place many within below = omega (arith, within, below)

-- Words of two blocks, each before the gap at the end of its block, are 16 words apart at least.
pub blocks-apart : (block other place its : ℕ) → place < 20 → its < 20 → block ≢ other → IsApart (block_start block + place) (block_start other + its)
blocks-apart block other place its within also apart = elim (cases_order block other) [
  | inl same ↦ absurd (apart same)
  | inr either ↦ elim either [
    | inl before ↦ inl (omega (arith, within, also, before))
    | inr after ↦ inr (omega (arith, within, also, after))
  ]
]
