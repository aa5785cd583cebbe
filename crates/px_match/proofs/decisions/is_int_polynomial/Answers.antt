use Rattle.std.proofs.Common.{sym, ap, ◌∙◌}
use Rattle.std.specs.List.{list_all}
use Rattle.std.proofs.lemmas.List.Folds.{list_all-map}
use Rattle.px_terms.specs.Terms.{Term}
use Rattle.px_terms.specs.Monomials.{term_of}
use Rattle.px_entry.specs.Sorts.{is_int}
use Rattle.px_match.proofs.decisions.is_int_polynomial.Goals as goal
use Rattle.px_entry.proofs.Lists.{all_of_each}

pub returns : goal.returns
returns c =
    c.are_all_ints.ensures
    ∙ sym (list_all-map (λ (t : Term). list_all (is_int c.args.vars.now) t.vars) term_of c.monomials.result.now)
    ∙ ap (list_all (λ (t : Term). list_all (is_int c.args.vars.now) t.vars)) c.monomials.ensures.value
    ∙ sym (all_of_each (is_int c.args.vars.now) (λ (t : Term). t.vars) c.args.p.now.monomials)
