use Rattle.std.proofs.Common.{length, sym, subst}
use Rattle.px_plain.specs.Places.{MarksMixed}
use Rattle.px_plain.proofs.Numbers.{are_numbers, are_exact}
use Rattle.px_plain.proofs.places.numbers_of.Goals as goal

pub returns : goal.returns
returns c =
    let vars = c.args.vars.now in
    let t = c.args.table.now in
    let marks = subst (MarksMixed vars t (length vars)) (sym c.deref.ensures.value) c.in_ok-marks.ensures in
    record {
      numbers = are_numbers vars t c.deref.result.now c.in_ok-numbers.numbers.items c.requires.size c.requires.forest c.requires.flat c.requires.bare
          marks c.in_ok-numbers.ensures.size c.in_ok-numbers.ensures.each;
      exact = are_exact vars t c.deref.result.now c.in_ok-numbers.numbers.items c.requires.size c.requires.forest c.requires.flat c.requires.bare
          marks c.in_ok-numbers.ensures.size c.in_ok-numbers.ensures.each;
    }
