use Rattle.std.proofs.Common.{◌≡◌, ℕ, ◌<◌, ◌≤◌, List, [], ◌∷◌, length, inl, refl, ap, subst, ◌∙◌, arith}
use Rattle.std.proofs.lemmas.Result.{IfOk-weaker}
use Rattle.px_terms.specs.declared.conjuncts.Conj.{Conj}
use Rattle.px_plain.proofs.Lists.{small_all}
use Rattle.px_solver.specs.declared.decision.Decision.{Decision}
use Rattle.px_solver.specs.Decisions.{IsOpen}
use Rattle.px_solver.specs.Searches.{IsSearched}
use Rattle.px_solver.specs.Tables.{IsMarkedFalse, SelectsByHome}
use Rattle.px_solver.proofs.DecideLemmas.{inside_vars, inside_table, open_of}
use Rattle.px_solver.proofs.OpenLemmas.{outright, none_outright}
use Rattle.px_solver.proofs.solver.decide_open.Goals as goal

pub layout_of-requires-clause-inside : goal.layout_of-requires-clause-inside
layout_of-requires-clause-inside c = inside_table c.args.vars.now c.args.conjuncts.now c.args.table.now c.requires.sorted c.requires.size

pub layout_of-requires-clause-variables : goal.layout_of-requires-clause-variables
layout_of-requires-clause-variables c = small_all c.args.vars.now c.args.conjuncts.now c.requires.sorted

pub mark_said-requires : goal.mark_said-requires
mark_said-requires c = inside_vars c.args.vars.now c.args.conjuncts.now (length c.args.vars.now) c.requires.sorted refl

pub false_outright-requires-clause-small : goal.false_outright-requires-clause-small
false_outright-requires-clause-small c = small_all c.args.vars.now c.args.conjuncts.now c.requires.sorted

pub false_outright-requires-clause-inside : goal.false_outright-requires-clause-inside
false_outright-requires-clause-inside c = inside_vars c.args.vars.now c.args.conjuncts.now (length c.deref-2.result.now) c.requires.sorted (ap length c.deref-2.ensures.value ∙ c.in_ok-said.ensures.size)

not_empty : (us : List Conj) (n : ℕ) → n ≡ length us → 0 < n → us ≡ [] → ⊥
not_empty us n e l q = let f = ap length q in omega arith

is_empty : (us : List Conj) (n : ℕ) → n ≡ length us → n ≤ 0 → us ≡ []
is_empty [] n e l = refl
is_empty (u ∷ us) n e l = absurd (omega arith)

pub returns-then-len-gt0 : goal.returns-then-len-gt0
returns-then-len-gt0 c =
    let t = c.args.table.now in
    let cs = c.args.conjuncts.now in
    let l = c.in_ok-layout.layout in
    let k = c.in_ok-layout.ensures in
    let few = c.requires.sorted.few_variables in
    let size = c.requires.size in
    let us = c.in_ok-outright.outright in
    let chosen = subst (λ z. SelectsByHome (IsMarkedFalse t z c.in_ok-said.said.items) cs l.homes.items us) c.deref-3.ensures.value
    (subst (λ z. SelectsByHome (IsMarkedFalse t c.deref-3.result.now z) cs l.homes.items us) c.deref-2.ensures.value
    (subst (λ z. SelectsByHome (IsMarkedFalse t c.deref-3.result.now c.deref-2.result.now) cs z us) c.deref.ensures.value c.in_ok-outright.ensures)) in
    inl (record {
      some = not_empty us c.len.result c.len.ensures c.if-len-gt0.true;
      selects = outright cs t c.requires.classes (inside_table c.args.vars.now cs t c.requires.sorted size) (omega arith) (omega arith) l k.joins k.flat k.homes k.members k.hard
          c.in_ok-said.said.items c.in_ok-said.ensures.marks c.in_ok-roots.roots.items c.in_ok-roots.ensures.zero us chosen;
    })

pub search_all-requires-clause-inside : goal.search_all-requires-clause-inside
search_all-requires-clause-inside c = inside_table c.args.vars.now c.args.conjuncts.now c.args.table.now c.requires.sorted c.requires.size

pub returns : goal.returns
returns c =
    let vars = c.args.vars.now in
    let t = c.args.table.now in
    let cs = c.args.conjuncts.now in
    let model = c.args.model.now in
    let l = c.in_ok-layout.layout in
    let k = c.in_ok-layout.ensures in
    let few = c.requires.sorted.few_variables in
    let size = c.requires.size in
    let us = c.in_ok-outright.outright in
    let old = c.in_ok-roots.roots.items in
    let chosen = subst (λ z. SelectsByHome (IsMarkedFalse t z c.in_ok-said.said.items) cs l.homes.items us) c.deref-3.ensures.value
    (subst (λ z. SelectsByHome (IsMarkedFalse t c.deref-3.result.now z) cs l.homes.items us) c.deref-2.ensures.value
    (subst (λ z. SelectsByHome (IsMarkedFalse t c.deref-3.result.now c.deref-2.result.now) cs z us) c.deref.ensures.value c.in_ok-outright.ensures)) in
    let none = none_outright cs t c.requires.classes (inside_table vars cs t c.requires.sorted size) (omega arith) (omega arith) l k.joins k.flat k.homes k.members k.hard
    c.in_ok-said.said.items c.in_ok-said.ensures.marks old c.in_ok-roots.ensures.zero us chosen (is_empty us c.len.result c.len.ensures c.if-len-gt0.false) in
    IfOk-weaker c.search_all.result (λ (d : Decision). IsSearched t cs l model c.deref_mut.result.now d) (λ (d : Decision). IsOpen vars cs d)
    (λ d s. open_of vars cs c.requires.sorted t c.requires.classes size model c.requires.plain c.requires.least l k.joins k.flat k.homes k.members k.hard k.layout.size none
    old c.in_ok-roots.ensures d (subst (λ z. IsSearched t cs l model z d) c.deref_mut.ensures.value s))
    c.search_all.ensures
