use Rattle.std.proofs.Common.{sym, subst}
use Rattle.px_parts.specs.Stream.{IsStuck}
use Rattle.px_parts.specs.Skims.{IsSkim}
use Rattle.px_parts.specs.Kept.{place_in}
use Rattle.px_parts.proofs.unread.look.Goals as goal

pub returns-clause-short : goal.returns-clause-short
returns-clause-short c skim is =
    let u = c.args.unread.now in
    subst (λ l. IsStuck (place_in u) l) c.from_start.ensures (c.pass.ensures.short (place_in u) (subst (λ l. IsSkim (place_in u) l u.skim) (sym c.from_start.ensures) skim) is)
