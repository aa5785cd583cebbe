use Rattle.std.proofs.Common.{◌≡◌, List, refl, sym, subst, ◌∙◌}
use Rattle.px_terms.specs.declared.types.Value.{Value}
use Rattle.px_plain.specs.declared.plain.Plain.TheVariants.{Model, Refuted}
use Rattle.px_plain.specs.Models.{IsPlainModel, IsLeastModel}
use Rattle.px_plain.proofs.Lists.{small_all}
use Rattle.px_plain.proofs.SolveLemmas.{few_words, are_sorted, refuted_if_none, model_of, not_refuted, least_of}
use Rattle.px_plain.proofs.plain.sat.Goals as goal

pub read_all-requires : goal.read_all-requires
read_all-requires c = small_all c.args.vars.now c.args.conjuncts.now c.requires

pub solve-requires-clause-few_words : goal.solve-requires-clause-few_words
solve-requires-clause-few_words c = few_words c.args.vars.now c.args.conjuncts.now c.in_ok-parts.parts.words.items c.requires c.in_ok-parts.ensures.words

pub solve-requires-clause-sorted : goal.solve-requires-clause-sorted
solve-requires-clause-sorted c =
    let p = c.in_ok-parts.parts in
    let e = c.in_ok-parts.ensures in
    are_sorted c.args.vars.now c.args.conjuncts.now p.words.items p.places.items p.unwritten.items p.written.items e.words e.places e.unwritten e.written c.requires

pub returns-in-None-clause-refuted : goal.returns-in-None-clause-refuted
returns-in-None-clause-refuted c =
    let p = c.in_ok-parts.parts in
    let e = c.in_ok-parts.ensures in (
      λ q. refuted_if_none c.args.vars.now c.args.conjuncts.now p.words.items p.places.items p.unwritten.items p.written.items e.words e.places e.unwritten e.written c.requires (rw c.in-None.is at c.in_ok-solve.ensures.found),
      λ q. refl,
    )

model_same : (vs us : List Value) → Model vs ≡ Model us → vs ≡ us
model_same vs us e = cc

pub returns-clause-model : goal.returns-clause-model
returns-clause-model c = λ vs q.
    let p = c.in_ok-parts.parts in
    let e = c.in_ok-parts.ensures in
    let found = model_of c.args.vars.now c.args.conjuncts.now p.words.items p.places.items p.unwritten.items p.written.items e.words e.places e.unwritten e.written c.requires c.in-Some.values.items (rw c.in-Some.is at c.in_ok-solve.ensures.found) in
    subst (IsPlainModel c.args.vars.now c.args.conjuncts.now) (sym c.from_vec.ensures ∙ model_same c.from_vec.result vs q) found

not_both : (vs : List Value) → Model vs ≡ Refuted → ⊥
not_both vs e = cc

pub returns-clause-refuted : goal.returns-clause-refuted
returns-clause-refuted c =
    let p = c.in_ok-parts.parts in
    let e = c.in_ok-parts.ensures in
    let found = model_of c.args.vars.now c.args.conjuncts.now p.words.items p.places.items p.unwritten.items p.written.items e.words e.places e.unwritten e.written c.requires c.in-Some.values.items (rw c.in-Some.is at c.in_ok-solve.ensures.found) in
    (λ q. absurd (not_both c.from_vec.result q), λ r. absurd (not_refuted c.args.vars.now c.args.conjuncts.now c.in-Some.values.items found r))

pub returns-clause-least : goal.returns-clause-least
returns-clause-least c = λ vs q.
    let p = c.in_ok-parts.parts in
    let e = c.in_ok-parts.ensures in
    let vars = c.args.vars.now in
    let cs = c.args.conjuncts.now in
    let us = c.in-Some.values.items in
    let found = model_of vars cs p.words.items p.places.items p.unwritten.items p.written.items e.words e.places e.unwritten e.written c.requires us (rw c.in-Some.is at c.in_ok-solve.ensures.found) in
    subst (IsLeastModel vars cs) (sym c.from_vec.ensures ∙ model_same c.from_vec.result vs q)
    (least_of vars cs p.words.items p.places.items p.unwritten.items p.written.items e.words e.places e.unwritten e.written c.requires us found (rw c.in-Some.is at c.in_ok-solve.ensures.least))
