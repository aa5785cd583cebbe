use Rattle.std.proofs.Common.{◌≡◌, List, ℕ, length, vec_len, ap, sym, subst, ◌∙◌, arith}
use Rattle.std.specs.Prelude.{Contains, flat_map}
use Rattle.std.proofs.lemmas.List.{take_all}
use Rattle.px_terms.specs.Variables.{mentioned}
use Rattle.px_cnf.proofs.NameLemmas.{mentioned_by, names_rise, names_same}
use Rattle.px_cnf.proofs.names.names_of.Goals as goal

pub returns-clause-rising : goal.returns-clause-rising
returns-clause-rising c = names_rise c.sort.new.self.items c.dedup.new.self.items c.in_ok-sort.ensures.sorted c.dedup.ensures.filtered

pub returns-clause-same : goal.returns-clause-same
returns-clause-same c x =
    let e = c.loop-i.invariant ∙ ap (flat_map mentioned) (take_all c.loop-i.i c.args.conjuncts.now c.loop-i-test.false) in
    let n = names_same c.loop-i.names.items c.sort.new.self.items c.dedup.new.self.items x c.in_ok-sort.ensures.permutation c.dedup.ensures.filtered in
    let m = mentioned_by c.args.conjuncts.now x in
    (λ h. m.0 (subst (λ (ns : List ℕ). Contains ns x) e (n.0 h)), λ h. n.1 (subst (λ (ns : List ℕ). Contains ns x) (sym e) (m.1 h)))

pub returns-clause-few : goal.returns-clause-few
returns-clause-few c =
    let e : length c.loop-i.names.items ≡ length (flat_map mentioned c.args.conjuncts.now) =
    ap length (c.loop-i.invariant ∙ ap (flat_map mentioned) (take_all c.loop-i.i c.args.conjuncts.now c.loop-i-test.false)) in
    let b = c.dedup.ensures.bound in
    let l = c.in_ok-sort.ensures.len in
    let p : vec_len c.loop-i.names ≡ length c.loop-i.names.items = c.loop-i.names.ok.0 in
    let q : vec_len c.dedup.new.self ≡ length c.dedup.new.self.items = c.dedup.new.self.ok.0 in
    omega arith
