use Rattle.std.proofs.Common.{◌≡◌, ◌<◌, ◌≤◌, length, true, refl, arith}
use Rattle.px_spelling.specs.ByPlace.{is_first_at}
use Rattle.px_spelling.proofs.Growing.{nought, differ_first, firsts_differ, all_first}
use Rattle.px_spelling.proofs.term_list.do_differ.Goals as goal

pub returns-then-not-is_first_at : goal.returns-then-not-is_first_at
returns-then-not-is_first_at c =
    let ts = c.args.terms.now in
    let within : c.loop-i.i < length ts = omega (arith, c.len-i-end.ensures) in
    (λ e. absurd cc, λ h. let first : is_first_at ts c.loop-i.i ≡ true = differ_first ts c.loop-i.i nought h within in cc)

pub loop-i-preserved : goal.loop-i-preserved
loop-i-preserved c =
    let ts = c.args.terms.now in
    let within : c.loop-i.i < length ts = omega (arith, c.len-i-end.ensures) in
    let first : is_first_at ts c.loop-i.i ≡ true = cc in
    firsts_differ ts c.loop-i.i nought within first c.loop-i.invariant

pub returns : goal.returns
returns c =
    let ts = c.args.terms.now in
    let done : length ts ≤ c.loop-i.i = omega (arith, c.len-i-end.ensures) in
    (λ e. all_first ts c.loop-i.i done c.loop-i.invariant, λ h. refl)
