use Rattle.std.proofs.Common.{ℕ, length, get_or, rules, arith, sym, subst, ◌<◌, ◌≡◌}
use Rattle.px_plain.specs.Differences.{AreInside, difference_at, IfUnequal}
use Rattle.px_plain.specs.Places.{AreForced, SomeClash, IsPlaced}
use Rattle.px_plain.proofs.Placing.{clash_not, place_numbers}
use Rattle.px_plain.proofs.places.solve_over.Goals as goal

pub returns-then-not-are_unequal-clause-found : goal.returns-then-not-are_unequal-clause-found
returns-then-not-are_unequal-clause-found c = λ val a h.
    let k = c.flatten.ensures.same.there val (c.join_all.ensures.new val (c.requires.free val) h.equal).1 in
    let n = c.in_ok-numbers.ensures.numbers in
    let ns = c.in_ok-numbers.numbers.items in
    let size = n.size in
    let same : length c.args.table.now ≡ length ns = omega arith in
    clash_not ns c.args.differences.now (subst (λ m. AreInside m c.args.differences.now) same c.requires.inside) c.requires.bare
    (subst (λ z. SomeClash z c.args.differences.now) c.deref.ensures.value (c.are_unequal.ensures.no c.if-not-are_unequal.true)) val (n.forced val a k) h

pub returns-then-not-are_placed-clause-found : goal.returns-then-not-are_placed-clause-found
returns-then-not-are_placed-clause-found c = λ val a h.
    let k = c.flatten.ensures.same.there val (c.join_all.ensures.new val (c.requires.free val) h.equal).1 in
    c.are_placed.ensures.no c.if-not-are_placed.true val a
    (subst (λ z. AreForced z val) (sym c.deref-2.ensures.value) (c.in_ok-numbers.ensures.numbers.forced val a k))

pub returns-clause-found : goal.returns-clause-found
returns-clause-found c =
    let ns = c.in_ok-numbers.numbers.items in
    let n = c.in_ok-numbers.ensures.numbers in
    let ds = c.args.differences.now in (
      place_numbers c.args.vars.now c.flatten.new.table ns (search rules) c.requires.few n
          (subst (λ z. (x : ℕ) → x < length c.args.vars.now → IsPlaced c.args.vars.now z x) c.deref-2.ensures.value (c.are_placed.ensures.yes c.if-not-are_placed.false)),
      record {
        equal = c.join_all.ensures.joined c.if-not-join_all.false (λ k. get_or ns k 0) (c.flatten.ensures.same.back (λ k. get_or ns k 0) n.keeps);
        unequal = subst (λ z. (i : ℕ) → i < length ds → IfUnequal (λ k. get_or z k 0) (difference_at ds i)) c.deref.ensures.value (c.are_unequal.ensures.yes c.if-not-are_unequal.false);
      },
    )

pub returns-clause-below : goal.returns-clause-below
returns-clause-below c = λ v l. let size = c.requires.size in c.in_ok-numbers.ensures.numbers.below v (omega arith)

pub returns-clause-exact : goal.returns-clause-exact
returns-clause-exact c =
    let same = c.flatten.ensures.same in
    record {
      table = c.flatten.new.table;
      size = search rules;
      is_forest = record {
        forest = c.flatten.ensures.forest;
        flat = c.flatten.ensures.flat;
        there = λ val a. same.there val (c.join_all.ensures.new val (c.requires.free val) a).1;
        back = λ val k. c.join_all.ensures.joined c.if-not-join_all.false val (same.back val k);
      };
      exact = c.in_ok-numbers.ensures.exact;
    }
