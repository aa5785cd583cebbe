use Rattle.std.proofs.Common.{◌∙◌, ap, map, subst, sym}
use Rattle.px_syntax.specs.ProgramTree.{program_tree}
use Rattle.px_pooled.specs.Words.{word_of}
use Rattle.px_pooled.specs.Making.{ArePartsOf}
use Rattle.px_pooled.proofs.EndLemmas.{by_own_limits, by_parent_alone, borne_alone}
use Rattle.px_pooled.proofs.pooled.pooled_findings.Goals as goal

pub alone-requires-clause-own : goal.alone-requires-clause-own
alone-requires-clause-own g c =
    let a = c.args in
    let P = program_tree a.program.now in
    let own = c.in_ok-own.own in
    let kinds = ap (map (λ b. (goal.Domain-dyn g (b.vtable, b.value)).number b.value)) c.deref.ensures.value ∙ sym c.helped.ensures.kinds in
    let are = subst (λ ks. ArePartsOf P a.limits ks own) kinds c.in_ok-own.ensures in
    (P, by_own_limits P a.limits _ own own are are)

pub returns-clause-found : goal.returns-clause-found
returns-clause-found g c =
    let a = c.args in
    let P = program_tree a.program.now in
    let own = c.in_ok-own.own in
    let kinds = ap (map (λ b. (goal.Domain-dyn g (b.vtable, b.value)).number b.value)) c.deref.ensures.value in
    let are = subst (λ ks. ArePartsOf P a.limits ks own) kinds c.in_ok-own.ensures in
    by_parent_alone c.alone.result (word_of a.pool.now.workers g.S.Link.Word.Honesty.says) P a.limits _ _ own c.helped.ensures.kinds are c.alone.ensures.found

pub returns-clause-borne_out : goal.returns-clause-borne_out
returns-clause-borne_out g c = borne_alone c.alone.result c.args.pool.now.workers _ _ c.alone.ensures.all c.alone.ensures.alone c.helped.ensures.told
