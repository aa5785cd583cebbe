use Rattle.std.proofs.Common.{sym, ap, ◌∙◌, ltb}
use Rattle.std.specs.List.{list_all}
use Rattle.std.proofs.lemmas.List.Folds.{list_all-map}
use Rattle.px_terms.specs.Terms.{Term}
use Rattle.px_terms.specs.Monomials.{term_of}
use Rattle.px_wire.proofs.term_ranges.is_polynomial_within.Goals as goal

pub returns : goal.returns
returns c =
    c.are_monomials_within.ensures
    ∙ sym (list_all-map (λ (t : Term). list_all (λ x. ltb x c.args.variables) t.vars) term_of c.monomials.result.now)
    ∙ ap (list_all (λ (t : Term). list_all (λ x. ltb x c.args.variables) t.vars)) c.monomials.ensures.value
