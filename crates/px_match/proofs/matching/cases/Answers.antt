use Rattle.std.proofs.Common.{◌++◌, ◌∙◌, ℕ, ◌+◌, Bool, ap, false, not, ◌&&◌, slice_index_or}
use Rattle.px_entry.specs.declared.atoms.Atom.{Atom}
use Rattle.px_entry.specs.Cases.{numbers_of, atom_cases, is_match}
use Rattle.px_match.proofs.CaseLemmas.{cases_from, kept}
use Rattle.px_match.proofs.matching.cases.Goals as goal

pub loop-i-preserved : goal.loop-i-preserved
loop-i-preserved c =
    let a = c.args in
    let test : ℕ → Atom → Bool = λ n x. not (slice_index_or a.used.now n false) && is_match a.vars.now a.place a.block a.freed x in
    ap (λ z. z ++ cases_from test (c.loop-i.i + 1) a.atoms.now) c.in_ok-put_case.ensures
    ∙ kept test c.loop-i.i a.atoms.now c.index-atoms-i.result c.unless-is_case.result c.loop-i.found.items (atom_cases (numbers_of test 0 a.atoms.now)) c.loop-i-test.true
    (c.unless-is_case.ensures
    ∙ ap (λ z. not (slice_index_or a.used.now c.loop-i.i false) && z) (c.is_match-here.ensures ∙ ap (is_match a.vars.now a.place a.block a.freed) c.index-atoms-i.is))
    c.loop-i.invariant
