use Rattle.std.proofs.Common.{sym, ap, ◌∙◌, not}
use Rattle.std.specs.List.{list_all}
use Rattle.std.proofs.lemmas.List.Folds.{list_all-map}
use Rattle.px_terms.specs.Terms.{Term}
use Rattle.px_terms.specs.Monomials.{term_of}
use Rattle.px_entry.specs.Sorts.{is_given}
use Rattle.px_manifest.proofs.looks.has_none_given.Goals as goal
use Rattle.px_entry.proofs.Lists.{all_of_each}

pub returns : goal.returns
returns c =
    c.have_none_given.ensures
    ∙ sym (list_all-map (λ (t : Term). list_all (λ x. not (is_given c.args.vars.now x)) t.vars) term_of c.monomials.result.now)
    ∙ ap (list_all (λ (t : Term). list_all (λ x. not (is_given c.args.vars.now x)) t.vars)) c.monomials.ensures.value
    ∙ sym (all_of_each (λ x. not (is_given c.args.vars.now x)) (λ (t : Term). t.vars) c.args.p.now.monomials)
