use Rattle.std.proofs.Common.{◌≡◌, ℕ, Bool, false, not, cond, List, [], ◌∷◌, refl, ap, ◌∙◌}
use Rattle.std.specs.Prelude.{◌==◌, filter}
use Rattle.std.specs.List.{list_any}
use Rattle.std.proofs.lemmas.Bool.{or_parts}
use Rattle.modes_core.specs.declared.tags.Tag.{Tag}
use Rattle.modes_core.specs.Tag.{tag_eq}
use Rattle.lock_table.proofs.Lemmas.QueueLaws.{put_tag-same}
use Rattle.lock_table.specs.Put.{put}
use Rattle.lock_table.specs.Content.{Content}
use Rattle.lock_table.specs.Queue.{waits_there, queue_without, remove_wait}

-- With none that passes taken out, a list is as before.
filter-none : {X : Type 0} (p : X → Bool) (xs : List X) → list_any p xs ≡ false → filter (λ x. not (p x)) xs ≡ xs
filter-none p [] none = refl
filter-none p (x ∷ xs) none =
    let parts = or_parts (p x) (list_any p xs) none in
    ap (λ b. cond (not b) (x ∷ filter (λ y. not (p y)) xs) (filter (λ y. not (p y)) xs)) parts.0 ∙ ap (λ l. x ∷ l) (filter-none p xs parts.1)

-- Where the session has no wait, taking it out changes nothing.
pub remove_wait-none : (content : Content) (session : ℕ) (tag : Tag) → waits_there (content.waits tag) session ≡ false → remove_wait content session tag ≡ content
remove_wait-none content session tag none =
    let same : put tag_eq content.waits tag (queue_without (content.waits tag) session) ≡ content.waits =
    put_tag-same content.waits tag (queue_without (content.waits tag) session) (filter-none (λ wait. wait.session == session) (content.waits tag) none) in
    λ i. record { holds = content.holds; waits = same i }
