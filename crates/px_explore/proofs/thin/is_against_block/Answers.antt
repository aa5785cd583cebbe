use Rattle.std.proofs.Common.{sym, subst, inl}
use Rattle.std.proofs.lemmas.Result.{IfOk-weaker}
use Rattle.px_terms.specs.Conjuncts.{IsPointerVariable}
use Rattle.px_explore.proofs.ThinLemmas.{few_held}
use Rattle.px_explore.proofs.MissedLemmas.{against_missed, missed_pointer}
use Rattle.px_explore.proofs.thin.is_against_block.Goals as goal

pub refutes_apart-requires : goal.refutes_apart-requires
refutes_apart-requires c =
    let (items, on, of) = c.requires.held in (
      items,
      on,
      subst (λ z. IsPointerVariable z c.args.met.place.0) (sym of.vars) (missed_pointer c.args.state.now c.args.met c.requires.met),
      few_held c.args.state.now items of (c.is_small.ensures.pure c.if-not-is_small.false) (c.is_small.ensures.atoms c.if-not-is_small.false),
    )

pub returns-clause-against : goal.returns-clause-against
returns-clause-against c =
    let (items, on, of) = c.requires.held in
    IfOk-weaker c.refutes_apart.result _ _ (λ yes h e kinds. against_missed c.args.state.now items c.args.met kinds c.requires.met of c.requires.placed (inl ((h items on).0 e))) c.refutes_apart.ensures.answer
