use Rattle.std.proofs.Common.{arith, ◌≡◌, ◌≢◌, ◌<◌, length}
use Rattle.std.proofs.lemmas.Bool.Decides.{nat_tests}
use Rattle.lock_script.proofs.Lemmas.Words.{kept-full, kept-empty, kept-word}
use Rattle.lock_script.proofs.words.keep_word.Goals as goal

pub returns-then-is_full : goal.returns-then-is_full
returns-then-is_full c =
    let full : length c.args.words.now.items ≡ 6 = grind (arith, nat_tests, c.if-is_full.ensures.value) in
    kept-full c.args.words.now.items _ full

pub returns-then-is_empty : goal.returns-then-is_empty
returns-then-is_empty c =
    let empty : length c.args.part.now ≡ 0 = grind (arith, nat_tests, c.if-is_empty.ensures) in
    kept-empty c.args.words.now.items c.args.part.now c.is_full.ensures.fits empty

pub returns : goal.returns
returns c =
    let some : length c.args.part.now ≢ 0 = grind (arith, nat_tests, c.if-is_empty.ensures) in
    let room : length c.args.words.now.items < 6 = grind (arith, nat_tests, c.if-is_full.ensures.value, c.is_full.ensures.fits) in
    kept-word c.args.words.now.items c.push.new.self.items c.args.part c.push.ensures.items room some
