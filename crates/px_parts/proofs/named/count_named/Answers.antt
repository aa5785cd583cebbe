use Rattle.std.proofs.Common.{◌≡◌, ◌<◌, List, [], length, map, get_or, Some, None, sym, ap, ◌∙◌, arith}
use Rattle.std.proofs.lemmas.List.{length-map, get_or-map}
use Rattle.px_terms.specs.Polynomials.{Polynomial}
use Rattle.px_spelling.specs.ByPlace.{place_in}
use Rattle.px_parts.proofs.Naming.{at_first, old_mention, next_mention, other_mention}
use Rattle.px_parts.proofs.named.count_named.Goals.{then-place-count-2, else-place-count-2}
use Rattle.px_parts.proofs.named.count_named.Goals as goal

pub loop-mention-init : goal.loop-mention-init
loop-mention-init c = at_first c.args.terms.now [] c.args.named c.min-count.result c.len.ensures.differ (omega (arith, c.min-count.ensures, c.len.ensures.count))

pub returns-in_default-clause-wrong : goal.returns-in_default-clause-wrong
returns-in_default-clause-wrong c none =
    let ts = c.args.terms.now in
    let ms : List Polynomial = map (λ p. p.now) c.args.mentions.now in
    let i = c.loop-mention.mention-index in
    let p = c.mention-item.result in
    let within : i < length ms = rw length-map (omega arith) in
    let own : get_or ms i p.now ≡ p.now = get_or-map (λ q. q.now) c.args.mentions.now i p p.now (omega arith) ∙ ap (λ q. q.now) (sym c.mention-item.is) in
    let at : place_in ts (get_or ms i p.now) ≡ None = rw own cc in
    other_mention ts ms c.args.named i c.loop-mention.count p.now None c.len.ensures.differ c.loop-mention.invariant.0 within c.loop-mention.invariant.1 at tt

pub returns-then-place-count-clause-wrong : goal.returns-then-place-count-clause-wrong
returns-then-place-count-clause-wrong c none =
    let ts = c.args.terms.now in
    let ms : List Polynomial = map (λ p. p.now) c.args.mentions.now in
    let i = c.loop-mention.mention-index in
    let p = c.mention-item.result in
    let within : i < length ms = rw length-map (omega arith) in
    let own : get_or ms i p.now ≡ p.now = get_or-map (λ q. q.now) c.args.mentions.now i p p.now (omega arith) ∙ ap (λ q. q.now) (sym c.mention-item.is) in
    let at : place_in ts (get_or ms i p.now) ≡ Some c.in-Some.place = rw own cc in
    other_mention ts ms c.args.named i c.loop-mention.count p.now (Some c.in-Some.place) c.len.ensures.differ c.loop-mention.invariant.0 within c.loop-mention.invariant.1 at (omega arith)

pub overflow_add-count : goal.overflow_add-count
overflow_add-count c =
    let ts = c.args.terms.now in
    let ms : List Polynomial = map (λ p. p.now) c.args.mentions.now in
    let i = c.loop-mention.mention-index in
    let p = c.mention-item.result in
    let within : i < length ms = rw length-map (omega arith) in
    let own : get_or ms i p.now ≡ p.now = get_or-map (λ q. q.now) c.args.mentions.now i p p.now (omega arith) ∙ ap (λ q. q.now) (sym c.mention-item.is) in
    let at : place_in ts (get_or ms i p.now) ≡ Some c.loop-mention.count = rw own cc in
    let next = next_mention ts ms c.args.named i c.loop-mention.count p.now within c.loop-mention.invariant.1 at in
    let few : c.loop-mention.count < length ts = next.0 in
    omega (arith, c.len.ensures.count)

pub loop-mention-preserved : goal.loop-mention-preserved
loop-mention-preserved c =
    let ts = c.args.terms.now in
    let ms : List Polynomial = map (λ p. p.now) c.args.mentions.now in
    let i = c.loop-mention.mention-index in
    let p = c.mention-item.result in
    let within : i < length ms = rw length-map (omega arith) in
    let own : get_or ms i p.now ≡ p.now = get_or-map (λ q. q.now) c.args.mentions.now i p p.now (omega arith) ∙ ap (λ q. q.now) (sym c.mention-item.is) in
    elim c.if-place-count-2.branch [
      | then-place-count-2 w ↦
          let at : place_in ts (get_or ms i p.now) ≡ Some c.loop-mention.count = rw own cc in
          let next = next_mention ts ms c.args.named i c.loop-mention.count p.now within c.loop-mention.invariant.1 at in
          rw w.count-is (omega (arith, next.0), next.1)
      | else-place-count-2 w ↦
          let at : place_in ts (get_or ms i p.now) ≡ Some c.in-Some.place = rw own cc in
          let less : c.in-Some.place < c.loop-mention.count = omega arith in
          rw w.count-is (c.loop-mention.invariant.0, old_mention ts ms c.args.named i c.loop-mention.count c.in-Some.place p.now within c.loop-mention.invariant.1 at less)
    ]
