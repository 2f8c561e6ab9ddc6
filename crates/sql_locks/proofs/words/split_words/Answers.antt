use Rattle.std.proofs.Common.{rules, ◌≡◌, [], ◌∷◌, ◌++◌, length}
use Rattle.sql_locks.specs.Words.{text_of}
use Rattle.sql_locks.proofs.Lemmas.Words.{read_more}
use Rattle.sql_locks.proofs.words.split_words.Goals as goal

pub loop-rest-preserved : goal.loop-rest-preserved
loop-rest-preserved c =
    let pushed : c.push.new.self.items ≡ c.loop-rest.words.items ++ c.in-Ok.word ∷ [] = search rules in
    let read = read_more _ _ _ _ c.in-Ok.word (length (text_of c.in-Ok.word)) c.loop-rest.invariant
    c.in-Ok.ensures.front c.in-Ok.ensures.line c.in-Ok.ensures.word in
    rw (pushed, c.split_at.ensures.back, c.line_feeds-line.ensures.count) read
