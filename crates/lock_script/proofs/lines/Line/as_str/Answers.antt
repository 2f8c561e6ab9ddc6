use Rattle.std.proofs.lemmas.Str.{IsUtf8-from_ascii}
use Rattle.std.specs.Str.{IsUtf8}
use Rattle.lock_script.proofs.Lemmas.TextBytes.{text-below}
use Rattle.lock_script.proofs.lines.Line.as_str.Goals as goal

pub unreachable-requires : goal.unreachable-requires
unreachable-requires c =
    let no_text : IsUtf8 c.as_slice.result.now → ⊥ = c.in-Err.ensures.cases.0 in
    no_text (rw c.as_slice.ensures.value (IsUtf8-from_ascii c.self.inside.bytes.items (text-below c.self.inside.bytes.items c.self.invariant)))
