use Rattle.px_terms.proofs.Degrees.{all_few, same_degrees}
use Rattle.px_terms.proofs.wide.image.Goals as goal

pub returns-in_ok-resized_all-in-Some-Word-clause-degree : goal.returns-in_ok-resized_all-in-Some-Word-clause-degree
returns-in_ok-resized_all-in-Some-Word-clause-degree c =
    same_degrees 4 c.monomials.result.now c.in_ok-resized_all-in-Some-Word.field-0.items c.in_ok-resized_all-in-Some-Word.ensures (all_few c.monomials.result.now)
