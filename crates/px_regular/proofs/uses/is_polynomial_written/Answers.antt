use Rattle.std.proofs.Common.{sym, ap, ◌∙◌}
use Rattle.std.specs.List.{list_all}
use Rattle.std.proofs.lemmas.List.Folds.{list_all-map}
use Rattle.px_terms.specs.Terms.{Term}
use Rattle.px_terms.specs.Monomials.{term_of}
use Rattle.px_entry.specs.Regular.{is_used_written}
use Rattle.px_regular.proofs.uses.is_polynomial_written.Goals as goal
use Rattle.px_entry.proofs.Lists.{all_of_each}

pub returns : goal.returns
returns c =
    let test = is_used_written c.args.entry.now in
    c.are_monomials_written.ensures
    ∙ sym (list_all-map (λ (t : Term). list_all test t.vars) term_of c.monomials.result.now)
    ∙ ap (list_all (λ (t : Term). list_all test t.vars)) c.monomials.ensures.value
    ∙ sym (all_of_each test (λ (t : Term). t.vars) c.args.p.now.monomials)
