use Rattle.lock_world.proofs.laws.partition_words_show_the_hand.Goals as goal

pub returns-clause-shown : goal.returns-clause-shown
returns-clause-shown c =
    λ w safe p.
    (λ shown. (safe.but_slots.table.promise.words p).shown_is_held shown, λ held. (safe.but_slots.table.promise.words p).held_is_shown held.0 held.1)

pub returns-clause-in_hand : goal.returns-clause-in_hand
returns-clause-in_hand c =
    λ w safe p s. safe.but_slots.table.carriers.hands p s
