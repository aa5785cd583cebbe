use Rattle.std.proofs.Common.{◌≡◌, ◌<◌, List, length, map, get_or, true, false, sym, ap, ◌∙◌, refl, arith}
use Rattle.std.proofs.lemmas.List.{length-map, get_or-map}
use Rattle.px_terms.specs.Polynomials.{Polynomial}
use Rattle.px_spelling.specs.ByPlace.{is_first_at}
use Rattle.px_spelling.proofs.Growing.{nought, added, not_added}
use Rattle.px_spelling.proofs.term_list.first_mentions.Goals.{then-is_first_at+in_ok-copy+in_ok-push, else-is_first_at}
use Rattle.px_spelling.proofs.term_list.first_mentions.Goals as goal

pub loop-i-preserved : goal.loop-i-preserved
loop-i-preserved c =
    let ms : List Polynomial = map (λ p. p.now) c.args.mentions.now in
    let i = c.loop-i.i in
    let within : i < length ms = rw length-map (omega arith) in
    elim c.if-is_first_at.branch [
      | then-is_first_at+in_ok-copy+in_ok-push w ↦
          let own : get_or ms i nought ≡ w.index-mentions-i.result.now = get_or-map (λ p. p.now) c.args.mentions.now i w.index-mentions-i.result nought (omega arith) ∙ ap (λ p. p.now) (sym w.index-mentions-i.is) in
          let copied : w.in_ok-copy.field-0 ≡ w.index-mentions-i.result.now = w.in_ok-copy.ensures in
          let first : is_first_at ms i ≡ true = sym c.is_first_at.ensures ∙ w.if-is_first_at.true in
          added ms c.loop-i.terms.items c.if-is_first_at.terms.items i w.in_ok-copy.field-0 within first (own ∙ sym copied) c.loop-i.invariant (rw w.terms-is w.in_ok-push.ensures.items)
      | else-is_first_at w ↦
          let later : is_first_at ms i ≡ false = sym c.is_first_at.ensures ∙ w.if-is_first_at.false in
          not_added ms c.loop-i.terms.items c.if-is_first_at.terms.items i within later c.loop-i.invariant (rw w.terms-is refl)
    ]
