use Rattle.std.proofs.Common.{◌≤◌, length, sym, subst}
use Rattle.std.proofs.lemmas.Result.{IfOk-weaker}
use Rattle.px_terms.specs.Conjuncts.{IsWellSorted}
use Rattle.px_entry.proofs.TestLemmas.{tests_decide}
use Rattle.px_explore.proofs.ThinLemmas.{few_held, against}
use Rattle.px_explore.proofs.thin.is_against.Goals as goal

pub is_refuted_with-requires : goal.is_refuted_with-requires
is_refuted_with-requires g c =
    let (items, on, of) = c.requires.held in
    let s = c.args.state.now in
    let asked = c.may_be_asked.ensures in
    let yes = c.if-not-may_be_asked.false in (
      items,
      on,
      subst (λ z. length z ≤ 65536) (sym of.vars) c.requires.askable.few_variables,
      subst (λ z. IsWellSorted z c.args.conjunct.now) (sym of.vars) ((tests_decide.sorts s.vars c.args.conjunct.now).0 (asked.sorted yes)),
      few_held s items of (asked.pure yes) (asked.atoms yes),
    )

pub returns-clause-against : goal.returns-clause-against
returns-clause-against g c =
    let (items, on, of) = c.requires.held in
    IfOk-weaker c.is_refuted_with.result _ _ (λ yes h e. (c.may_be_asked.ensures.added c.if-not-may_be_asked.false, against c.args.state.now items c.args.conjunct.now _ of c.requires.placed (h items on e)))
    c.is_refuted_with.ensures.answer
