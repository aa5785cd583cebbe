use Rattle.std.proofs.Common.{ℕ, ◌+◌, ◌<◌, ◌≤◌, length, get_or, sym, ap, subst, ◌∙◌}
use Rattle.px_plain.specs.Marks.{MarksUnwritten, SomeOtherSort}
use Rattle.px_plain.proofs.Labelled.{ints_inside, pointers_inside}
use Rattle.px_plain.proofs.Refuting.{other_sort, no_word, no_place, no_written}
use Rattle.px_plain.proofs.SolveLemmas.{above_null, not_beyond, inside_as, end_as, one_as}
use Rattle.px_plain.proofs.solve.marks_of.Goals as goal

pub mark_unwritten-requires-clause-some : goal.mark_unwritten-requires-clause-some
mark_unwritten-requires-clause-some c =
    subst (λ z. (k : ℕ) → k < length z → 0 < get_or z k 0) (sym c.deref.ensures.value) (above_null c.args.vars.now c.args.parts.now.unwritten.items c.requires.sorted.are_variables)

pub mark_unwritten-requires-clause-inside : goal.mark_unwritten-requires-clause-inside
mark_unwritten-requires-clause-inside c =
    subst (λ z. (k : ℕ) → k < length z → get_or z k 0 ≤ length c.args.vars.now) (sym c.deref.ensures.value) (not_beyond c.args.vars.now c.args.parts.now.unwritten.items c.requires.sorted.are_variables)

pub returns-in_default : goal.returns-in_default
returns-in_default c = λ v f s.
    other_sort c.args.vars.now c.args.parts.now.unwritten.items
    (subst (SomeOtherSort c.args.vars.now) c.deref.ensures.value (rw c.in_default.is at c.in_ok-marks.ensures)) v f s.are_unwritten

pub have_marked_end-requires : goal.have_marked_end-requires
have_marked_end-requires c =
    let m = rw c.in-Some.is at c.in_ok-marks.ensures in
    let p = c.args.parts.now in
    inside_as (length c.args.vars.now + 1) (length c.deref-2.result.now) p.words.items c.deref-3.result.now
    (ap length c.deref-2.ensures.value ∙ m.size) c.deref-3.ensures.value
    (ints_inside c.args.vars.now p.words.items c.requires.sorted.word_from c.requires.sorted.word_to)

pub returns-then-have_marked_end : goal.returns-then-have_marked_end
returns-then-have_marked_end c = λ v f s.
    let vars = c.args.vars.now in
    let p = c.args.parts.now in
    let marks = c.in-Some.marks.items in
    no_word vars p.words.items p.places.items p.unwritten.items p.written.items marks
    (subst (λ z. MarksUnwritten vars z (length z) marks) c.deref.ensures.value (rw c.in-Some.is at c.in_ok-marks.ensures))
    c.requires.sorted.are_variables v s
    (end_as marks c.deref-2.result.now p.words.items c.deref-3.result.now c.deref-2.ensures.value c.deref-3.ensures.value (c.have_marked_end.ensures.yes c.if-have_marked_end.true))

pub have_marked_end-requires-2 : goal.have_marked_end-requires-2
have_marked_end-requires-2 c =
    let m = rw c.in-Some.is at c.in_ok-marks.ensures in
    let p = c.args.parts.now in
    inside_as (length c.args.vars.now + 1) (length c.deref-4.result.now) p.places.items c.deref-5.result.now
    (ap length c.deref-4.ensures.value ∙ m.size) c.deref-5.ensures.value
    (pointers_inside c.args.vars.now p.places.items c.requires.sorted.place_from c.requires.sorted.place_to)

pub returns-then-have_marked_end-2 : goal.returns-then-have_marked_end-2
returns-then-have_marked_end-2 c = λ v f s.
    let vars = c.args.vars.now in
    let p = c.args.parts.now in
    let marks = c.in-Some.marks.items in
    no_place vars p.words.items p.places.items p.unwritten.items p.written.items marks
    (subst (λ z. MarksUnwritten vars z (length z) marks) c.deref.ensures.value (rw c.in-Some.is at c.in_ok-marks.ensures))
    c.requires.sorted.are_variables v s
    (end_as marks c.deref-4.result.now p.places.items c.deref-5.result.now c.deref-4.ensures.value c.deref-5.ensures.value (c.have_marked_end-2.ensures.yes c.if-have_marked_end-2.true))

pub returns-then-have_marked : goal.returns-then-have_marked
returns-then-have_marked c = λ v f s.
    let vars = c.args.vars.now in
    let p = c.args.parts.now in
    let marks = c.in-Some.marks.items in
    no_written vars p.words.items p.places.items p.unwritten.items p.written.items marks
    (subst (λ z. MarksUnwritten vars z (length z) marks) c.deref.ensures.value (rw c.in-Some.is at c.in_ok-marks.ensures))
    c.requires.sorted.are_variables v s
    (one_as marks c.deref-6.result.now p.written.items c.deref-7.result.now c.deref-6.ensures.value c.deref-7.ensures.value (c.have_marked.ensures.yes c.if-have_marked.true))
