use Rattle.std.proofs.Common.{◌≡◌, List, ℕ, length, ap, subst, arith}
use Rattle.std.proofs.lemmas.Result.{IfOk-weaker}
use Rattle.px_cnf.specs.Standing.{AreBitsOf}
use Rattle.px_cnf.proofs.NameLemmas.{are_bits, few_mentioned}
use Rattle.px_cnf.proofs.names.bits_of.Goals as goal

pub returns-clause-bits : goal.returns-clause-bits
returns-clause-bits c =
    IfOk-weaker c.words_of.result _ _ (λ z h.
    are_bits c.args.conjuncts.now c.in_ok-names.names.items z.items c.in_ok-names.ensures.rising c.in_ok-names.ensures.same (subst (λ (ns : List ℕ). AreBitsOf ns z.items) c.deref.ensures.value h))
    c.words_of.ensures

pub words_of-requires : goal.words_of-requires
words_of-requires c =
    let e = few_mentioned c.args.conjuncts.now c.requires.words in
    let f = c.in_ok-names.ensures.few in
    let n : length c.deref.result.now ≡ length c.in_ok-names.names.items = ap length c.deref.ensures.value in
    let s = c.requires.small in
    omega arith

pub returns-clause-few : goal.returns-clause-few
returns-clause-few c =
    let e = few_mentioned c.args.conjuncts.now c.requires.words in
    let f = c.in_ok-names.ensures.few in
    let n : length c.deref.result.now ≡ length c.in_ok-names.names.items = ap length c.deref.ensures.value in
    let s = c.requires.small in
    IfOk-weaker c.words_of.result _ _ (λ z h. let k = h.size in omega arith) c.words_of.ensures
