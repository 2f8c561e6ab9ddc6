use Rattle.std.proofs.Common.{take}
use Rattle.std.specs.Fmt.{HasWritten, IsPlainFormatter}
use Rattle.scenario.proofs.Lemmas.Leaving.{named}
use Rattle.scenario.proofs.text.LeftTextDisplay.fmt.Given as goal

abbrev pub invariant-others : goal.invariant-others
invariant-others g l =
    IsPlainFormatter l.fn.f → HasWritten g.W.Write.write_str_gives l.fn.f (named l.fn.self.first (take l.name-index l.fn.self.others.now)) l.f
