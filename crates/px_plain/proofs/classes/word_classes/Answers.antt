use Rattle.std.proofs.Common.{◌+◌, length, ◌∙◌, ap}
use Rattle.px_plain.specs.Readings.{word_differences}
use Rattle.px_plain.proofs.Lists.{small_all, sorted_parts}
use Rattle.px_plain.proofs.Labelled.{ints_inside}
use Rattle.px_plain.proofs.SolveLemmas.{inside_as}
use Rattle.px_plain.proofs.classes.word_classes.Goals as goal

pub read_words-requires : goal.read_words-requires
read_words-requires c = small_all c.args.vars.now c.args.conjuncts.now c.requires

pub join_flat-requires-clause-inside : goal.join_flat-requires-clause-inside
join_flat-requires-clause-inside c =
    let vars = c.args.vars.now in
    let cs = c.args.conjuncts.now in
    let s = sorted_parts vars cs c.requires.sorted in
    inside_as (length vars + 1) (length c.deref_mut.result.now) (word_differences cs) c.deref.result.now
    (ap length c.deref_mut.ensures.value ∙ c.in_ok-table.ensures.size) (c.deref.ensures.value ∙ c.in_ok-differences.ensures)
    (ints_inside vars (word_differences cs) s.word_from s.word_to)
