use Rattle.std.proofs.Common.{sym, ap, ◌∙◌}
use Rattle.px_entry.specs.Sorts.{is_made}
use Rattle.px_explore.proofs.known.is_other_at.Goals as goal

pub returns-in-Some : goal.returns-in-Some
returns-in-Some c = λ yes.
    let (pointer, place, block, found) = c.is_other.ensures yes in
    let a = c.in-Some.atom.now in (a, sym c.in-Some.ensures, (pointer, place, block, sym (ap (λ z. is_made z a.place.0) c.as_slice.ensures) ∙ found))
