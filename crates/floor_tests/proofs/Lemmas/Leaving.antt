use Rattle.std.proofs.Common.{◌≡◌, ◌∙◌, ℕ, false, not, List, ap, ◌==◌}
use Rattle.std.proofs.lemmas.Map.Views.{any-filter_same}
use Rattle.modes_core.specs.declared.modes.Mode.{Mode}
use Rattle.modes_core.specs.declared.tags.Tag.{Tag}
use Rattle.modes_core.specs.Tag.{tag_eq}
use Rattle.modes_core.proofs.Lemmas.Conflicts.{tag_eq-refl}
use Rattle.lock_table.specs.Content.{Wait, Content}
use Rattle.lock_table.specs.Queue.{awaits_mode, waits_there, queue_without, remove_wait}
use Rattle.lock_table.proofs.Lemmas.Put.{put_here}
use Rattle.wait_queue.proofs.Lemmas.Decide.{awaits_mode-none}

-- Who left a queue waits there no more,
pub not_there : (content left : Content) (s : ℕ) (tag : Tag) → left ≡ remove_wait content s tag → waits_there (left.waits tag) s ≡ false
not_there content left s tag is =
    ap (λ (c : Content). waits_there (c.waits tag) s) is
    ∙ ap (λ (queue : List Wait). waits_there queue s) (put_here tag_eq content.waits tag (queue_without (content.waits tag) s) tag (tag_eq-refl tag))
    ∙ any-filter_same (λ (wait : Wait). wait.session == s) (λ wait. not (wait.session == s)) false (λ wait it. ap not it) (content.waits tag)

-- and so awaits no mode.
pub not_awaited :
    (content left : Content) (s : ℕ) (tag : Tag) (m : Mode) → left ≡ remove_wait content s tag → awaits_mode (left.waits tag) s m ≡ false
not_awaited content left s tag m is = awaits_mode-none (left.waits tag) s m (not_there content left s tag is)
