use Rattle.std.proofs.Common.{◌+◌, length, get_or, sym, subst}
use Rattle.px_plain.specs.Differences.{AllHold}
use Rattle.px_plain.specs.Exclusions.{AreLeastOver}
use Rattle.px_plain.specs.Places.{AreExactOver}
use Rattle.px_plain.specs.NodeValues.{words_at}
use Rattle.px_plain.proofs.Fitting.{model}
use Rattle.px_plain.proofs.Labelled.{ints_inside, pointers_inside, labels, are_place_numbers, places_hold, words_hold}
use Rattle.px_plain.proofs.SolveLemmas.{inside_as, values_as}
use Rattle.px_plain.proofs.solve.values_under.Goals as goal

pub solve_words-requires-clause-inside : goal.solve_words-requires-clause-inside
solve_words-requires-clause-inside c =
    let p = c.args.parts.now in
    let n = length c.args.vars.now + 1 in
    inside_as n n p.words.items c.deref.result.now (λ i. n) c.deref.ensures.value (ints_inside c.args.vars.now p.words.items c.requires.sorted.word_from c.requires.sorted.word_to)

pub returns-in_default-clause-found : goal.returns-in_default-clause-found
returns-in_default-clause-found c = λ v f s.
    let none = rw c.in_default.is at c.in_ok-words.ensures.found in
    none (words_at v) (subst (AllHold (words_at v)) (sym c.deref.ensures.value) (words_hold v c.args.parts.now.words.items s.words_hold))

pub solve_places-requires-clause-inside : goal.solve_places-requires-clause-inside
solve_places-requires-clause-inside c =
    let p = c.args.parts.now in
    let n = length c.args.vars.now + 1 in
    inside_as n n p.places.items c.deref-2.result.now (λ i. n) c.deref-2.ensures.value (pointers_inside c.args.vars.now p.places.items c.requires.sorted.place_from c.requires.sorted.place_to)

pub returns-in_default-2-clause-found : goal.returns-in_default-2-clause-found
returns-in_default-2-clause-found c = λ v f s.
    let vars = c.args.vars.now in
    let p = c.args.parts.now in
    let t = c.requires.sorted in
    let none = rw c.in_default-2.is at c.in_ok-places.ensures.found in
    none (labels vars c.requires.few v f) (are_place_numbers vars c.requires.few v f)
    (subst (AllHold (labels vars c.requires.few v f)) (sym c.deref-2.ensures.value) (places_hold vars c.requires.few v f p.places.items t.place_from t.place_to t.bare s.places_hold))

pub returns-clause-found : goal.returns-clause-found
returns-clause-found c =
    let vars = c.args.vars.now in
    let p = c.args.parts.now in
    let m = c.requires.marks in
    let words = c.in-Some.words.items in
    let places = c.in-Some-2.places.items in
    let w = rw c.in-Some.is at c.in_ok-words.ensures.found in
    let q = rw c.in-Some-2.is at c.in_ok-places.ensures.found in
    model vars p.words.items p.places.items p.unwritten.items p.written.items c.args.marks.now words places c.in_ok-values.values.items
    c.requires.sorted m.marks_unwritten m.word_ends m.place_ends m.are_written
    (rw c.in-Some.is at c.in_ok-words.ensures.values)
    (subst (AllHold (λ k. get_or words k 0)) c.deref.ensures.value w)
    q.0
    (subst (AllHold (λ k. get_or places k 0)) c.deref-2.ensures.value q.1)
    (values_as vars c.args.marks.now c.deref-3.result.now words c.deref-4.result.now places c.in_ok-values.values.items c.deref-3.ensures.value c.deref-4.ensures.value c.in_ok-values.ensures)

pub returns-clause-least : goal.returns-clause-least
returns-clause-least c =
    let vars = c.args.vars.now in
    let p = c.args.parts.now in
    let m = c.requires.marks in
    let words = c.in-Some.words.items in
    let places = c.in-Some-2.places.items in
    let w = rw c.in-Some.is at c.in_ok-words.ensures.found in
    record {
      marks = c.args.marks.now;
      numbers = words;
      blocks = places;
      marked = m.marks_unwritten;
      are_least = subst (λ z. AreLeastOver z words) c.deref.ensures.value (rw c.in-Some.is at c.in_ok-words.ensures.least);
      are_exact = subst (λ z. AreExactOver vars z places) c.deref-2.ensures.value (rw c.in-Some-2.is at c.in_ok-places.ensures.exact);
      values = values_as vars c.args.marks.now c.deref-3.result.now words c.deref-4.result.now places c.in_ok-values.values.items c.deref-3.ensures.value c.deref-4.ensures.value c.in_ok-values.ensures;
      ends = m.word_ends;
      are_words = rw c.in-Some.is at c.in_ok-words.ensures.values;
      hold = subst (AllHold (λ k. get_or words k 0)) c.deref.ensures.value w;
      below = rw c.in-Some-2.is at c.in_ok-places.ensures.below;
    }
