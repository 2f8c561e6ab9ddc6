use Rattle.std.proofs.Common.{◌≡◌, ◌++◌, length, take, drop, ap, ◌∙◌, arith}
use Rattle.std.proofs.Math.Seq.{take-append_seam}
use Rattle.lock_hammer.proofs.workers.play.Goals as goal

pub returns : goal.returns
returns g c =
    let list = c.args.crew.now in
    let crew = c.work_and_take.new.crew in
    let rest = drop (length crew) list.items in
    let many : list.len ≡ length crew =
    omega (arith, list.ok.0, c.as_mut_slice.ensures.len, c.work_and_take.auto.crew) in
    let whole : take list.len (crew ++ rest) ≡ crew =
    ap (λ n. take n (crew ++ rest)) many ∙ take-append_seam crew rest in
    record { as_many = rw whole (omega (arith, many, list.ok.0)) }
