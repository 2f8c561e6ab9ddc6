use Rattle.lw_word.proofs.Lemmas.Slots.{relation_in-slot_word, mode_bits-slot_word, in_use-shows, not_in_use-shows, shows-of}
use Rattle.lw_word.proofs.laws.a_slot_shows_one_relation.Goals as goal

pub returns-clause-relation : goal.returns-clause-relation
returns-clause-relation c = relation_in-slot_word

pub returns-clause-modes : goal.returns-clause-modes
returns-clause-modes c = mode_bits-slot_word

pub returns-clause-used : goal.returns-clause-used
returns-clause-used c = in_use-shows

pub returns-clause-empty : goal.returns-clause-empty
returns-clause-empty c = not_in_use-shows

pub returns-clause-shown : goal.returns-clause-shown
returns-clause-shown c = λ word relation mode is. (shows-of word relation mode is).1

pub returns-clause-shown_used : goal.returns-clause-shown_used
returns-clause-shown_used c = λ word relation mode is. (shows-of word relation mode is).0
