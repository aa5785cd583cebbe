use Rattle.std.proofs.Common.{◌<◌, ℕ, length, get_or, rules, arith, subst, sym}
use Rattle.px_plain.specs.Exclusions.{exclusion_at, InOrder, IsApart, AreLeast}
use Rattle.px_plain.proofs.Sorting.{in_order, all_hold, same_count, blocked_by}
use Rattle.px_plain.proofs.words.solve_over.Goals as goal

pub assign-requires-clause-order : goal.assign-requires-clause-order
assign-requires-clause-order c =
    let separates = rw c.in-Some.is at c.in_ok-exclude_all.ensures in
    let h = c.sort_exclusions.ensures in
    subst (InOrder c.flatten.new.table) (sym c.deref.ensures.value) (in_order c.flatten.new.table c.in-Some.exclusions.items c.sort_exclusions.new.exclusions.items h.permutation separates.roots h.rising)

pub assign-requires-clause-few : goal.assign-requires-clause-few
assign-requires-clause-few c =
    let separates = rw c.in-Some.is at c.in_ok-exclude_all.ensures in
    let few = separates.few in
    let same = same_count c.in-Some.exclusions.items c.sort_exclusions.new.exclusions.items c.deref.result.now c.sort_exclusions.ensures.permutation c.deref.ensures.value in
    let room = c.requires.few in
    omega arith

pub returns-in_ok-values-in-Some-clause-found : goal.returns-in_ok-values-in-Some-clause-found
returns-in_ok-values-in-Some-clause-found c =
    let separates = rw c.in-Some.is at c.in_ok-exclude_all.ensures in
    let vs = c.in_ok-values-in-Some.values.items in
    let h = c.in_ok-values-in-Some.ensures in
    all_hold c.flatten.new.table c.args.differences.now c.in-Some.exclusions.items c.sort_exclusions.new.exclusions.items vs c.sort_exclusions.ensures.permutation separates
    (subst (λ z. (j : ℕ) → j < length z → IsApart vs (exclusion_at z j)) c.deref.ensures.value h.apart)
    h.values.words h.values.size h.keeps
    (c.join_all.ensures.joined (search rules) (λ k. get_or vs k 0) (c.flatten.ensures.same.back (λ k. get_or vs k 0) h.keeps))

pub returns-in_ok-values-in-Some-clause-least : goal.returns-in_ok-values-in-Some-clause-least
returns-in_ok-values-in-Some-clause-least c =
    let separates = rw c.in-Some.is at c.in_ok-exclude_all.ensures in
    let t = c.flatten.new.table in
    let vs = c.in_ok-values-in-Some.values.items in
    let h = c.in_ok-values-in-Some.ensures in
    let same = c.flatten.ensures.same in
    record {
      table = t;
      size = sym h.values.size;
      is_forest = record {
        forest = c.flatten.ensures.forest;
        flat = c.flatten.ensures.flat;
        there = λ val a. same.there val (c.join_all.ensures.new val (c.requires.free val) a).1;
        back = λ val k. c.join_all.ensures.joined c.if-not-join_all.false val (same.back val k);
      };
      blocked = blocked_by t c.args.differences.now c.in-Some.exclusions.items c.sort_exclusions.new.exclusions.items vs c.sort_exclusions.ensures.permutation separates
          (subst (λ z. AreLeast t z vs) c.deref.ensures.value h.least) h.values.size;
    }
