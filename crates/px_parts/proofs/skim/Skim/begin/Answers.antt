use Rattle.std.proofs.Common.{◌++◌, ap, ◌∙◌, arith}
use Rattle.px_parts.specs.Forms.{dues_at}
use Rattle.px_parts.specs.Kept.{place_of}
use Rattle.px_parts.proofs.Passing.{passes_same, passes_none}
use Rattle.px_parts.proofs.skim.Skim.begin.Goals as goal

pub returns-in-Ok : goal.returns-in-Ok
returns-in-Ok c bytes begun =
    let dues = dues_at (place_of c.args.next c.args.terms.now) in
    (omega arith, passes_same dues dues c.put_dues.new.dues.items bytes bytes (passes_none dues bytes) (c.in-Ok.ensures ∙ ap (λ l. l ++ dues) c.new-dues.ensures.items))
