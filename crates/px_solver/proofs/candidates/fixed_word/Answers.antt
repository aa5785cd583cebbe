use Rattle.std.proofs.Common.{◌∙◌, sym, subst}
use Rattle.px_terms.specs.Substitutions.{StandsForWords}
use Rattle.px_solver.specs.Tables.{fixed_under}
use Rattle.px_solver.proofs.FixedWords.{stands_for_words}
use Rattle.px_solver.proofs.candidates.fixed_word.Goals as goal

pub substitute-requires : goal.substitute-requires
substitute-requires c = subst (λ z. StandsForWords z c.args.p.now) (sym (c.deref.ensures.value ∙ c.in_ok-with.ensures)) (stands_for_words (fixed_under c.args.table.now) c.args.p.now)
