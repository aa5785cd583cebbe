use Rattle.std.proofs.Common.{sym, ap, ◌∙◌}
use Rattle.std.specs.List.{list_all}
use Rattle.std.proofs.lemmas.List.Folds.{list_all-map}
use Rattle.px_terms.specs.Terms.{Term}
use Rattle.px_terms.specs.Monomials.{term_of}
use Rattle.px_terms.specs.Substitutions.{content_for}
use Rattle.px_callgraph.specs.Renaming.{is_word}
use Rattle.px_match.proofs.words.has_words.Goals as goal
use Rattle.px_entry.proofs.Lists.{all_of_each}

pub returns : goal.returns
returns c =
    let σ = c.args.substitution.now in
    c.are_all_words.ensures
    ∙ sym (list_all-map (λ (t : Term). list_all (λ x. is_word (content_for σ x)) t.vars) term_of c.monomials.result.now)
    ∙ ap (list_all (λ (t : Term). list_all (λ x. is_word (content_for σ x)) t.vars)) c.monomials.ensures.value
    ∙ sym (all_of_each (λ x. is_word (content_for σ x)) (λ (t : Term). t.vars) c.args.p.now.monomials)
