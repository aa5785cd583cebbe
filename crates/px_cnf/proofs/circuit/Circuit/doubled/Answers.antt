use Rattle.std.proofs.Common.{List, [], ◌∷◌, ◌++◌, get_or, ap, ap₂, ◌∙◌}
use Rattle.std.specs.Prelude.{false}
use Rattle.px_cnf.specs.declared.literal.Literal.{Literal}
use Rattle.px_cnf.proofs.Sums.{doubled_word}
use Rattle.px_cnf.proofs.circuit.Circuit.doubled.Goals as goal

pub returns-clause-value : goal.returns-clause-value
returns-clause-value c a m =
    let none : Literal = record { variable = 0; positive = false } in
    doubled_word a c.args.x.now c.args.row.now c.in_ok-high.high.items c.extend_from_slice.new.self.items c.args.never none c.requires.size
    (c.requires.never a (c.in_ok-high.ensures.grows.clauses a m)) (c.in_ok-high.ensures.value a m)
    (c.in_ok-extend_from_slice.ensures.items
    ∙ ap₂ (λ (p q : List Literal). p ++ q) (c.in_ok-push.ensures.items ∙ ap (λ (z : List Literal). z ++ get_or c.args.row.now 0 none ∷ []) c.in_ok-doubled.ensures.items) c.deref.ensures.value)
