use Rattle.std.proofs.Common.{◌∙◌}
use Rattle.px_jobs.specs.Sources.{SourceParts}
use Rattle.px_book.proofs.KeepLemmas.{kept_made}
use Rattle.px_book.proofs.book.Book.new.Goals as goal

pub invariant_of-result : goal.invariant_of-result
invariant_of-result g c =
    let a = c.args in
    let made : SourceParts = record { bodies = a.bodies; types = a.types; limits = a.limits; kinds = a.kinds; out = a.out } in
    kept_made g.H.Honesty.says made c.in_ok-sources.sources a.graph c.in_ok-places.places c.in_ok-roll.roll c.in_ok-parts.parts a.total.total a.all.amount a.all.parts a.kept
    c.in_ok-roll.ensures c.in_ok-sources.ensures (c.in_ok-places.ensures ∙ c.as_slice.ensures) c.in_ok-parts.ensures c.requires.bodies c.requires.kept c.requires.graph c.requires.total c.requires.amount c.requires.enough
