use Rattle.std.specs.Prelude.{◌≡◌}
use Rattle.lock_world.specs.World.{World, TraceEntry, Took, Episode, AskedToCancel, Loaded, word_in}

-- What an entry of a trace tells of the World in which its step is made, and of the one after that: a
-- partition is taken with the content that it has, and has the content that is put once it is put; who is
-- asked to cancel has a wait word that shows this before; and a word that is loaded shows this. Of the
-- content that an episode took an earlier entry tells (`each_episode_is_one_move`).
abbrev pub TellsWhatIs : World → World → TraceEntry → Type 0
TellsWhatIs w v (Took partition taken) = taken ≡ w.contents.now partition
TellsWhatIs w v (Episode partition taken put_back) = put_back ≡ v.contents.now partition
TellsWhatIs w v (AskedToCancel other before) = before ≡ w.words.wait other
TellsWhatIs w v (Loaded word shown) = shown ≡ word_in w.words word
