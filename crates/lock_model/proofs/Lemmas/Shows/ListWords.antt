use Rattle.std.proofs.Common.{ℕ, ◌<◌, Bool, List, Option, None, sym, ◌∙◌, subst}
use Rattle.std.proofs.Math.ListN.{set, length-set}
use Rattle.lw_word.specs.declared.wait_lists.LwWaiter.{LwWaiter}
use Rattle.lock_table.specs.Put.{set_at}
use Rattle.lock_model.specs.declared.machine.state.Lists.{Lists}
use Rattle.lock_model.specs.Shows.{ShowsLists}
use Rattle.lock_model.proofs.Lemmas.Shows.Changes.{get_or-set_at}

-- Which list a session has in hand is written.
pub has_list-set : (shown : Lists) (words : ℕ → ℕ) (lists : ℕ → List LwWaiter) (have stand : ℕ → Option ℕ) (taken : ℕ → ℕ → Bool) (s : ℕ) (its : Option ℕ)
    → ShowsLists shown words lists have stand taken → s < 64
    → ShowsLists (record shown { has_list = set shown.has_list s its }) words lists (set_at have s its) stand taken
has_list-set shown words lists have stand taken s its shows below = record {
  sixty_four = shows.sixty_four;
  sixty_four_have = length-set shown.has_list s its ∙ shows.sixty_four_have;
  sixty_four_stand = shows.sixty_four_stand;
  sixty_four_off = shows.sixty_four_off;
  each_off = shows.each_off;
  sleep = shows.sleep;
  list = shows.list;
  has_list = get_or-set_at shown.has_list s its None have (subst (λ n. s < n) (sym shows.sixty_four_have) below) shows.has_list;
  stands = shows.stands;
  off = shows.off;
}
