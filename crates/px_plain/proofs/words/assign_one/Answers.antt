use Rattle.std.proofs.Common.{◌≡◌, ◌≤◌, ◌<◌, ◌+◌, ℕ, length, get_or, rules, subst, sym, ◌∙◌}
use Rattle.std.specs.Prelude.{Contains}
use Rattle.std.proofs.lemmas.List.Sorted.{IsNonDecreasingBy-from_sort, Contains-permutation, IsPermutation-sym}
use Rattle.px_plain.specs.Forest.{parent_at}
use Rattle.px_plain.specs.Exclusions.{Assigned, AreLeast, exclusion_at, taken_by}
use Rattle.px_plain.proofs.Assigning.{root_assigned, least_more, taken_at}
use Rattle.px_plain.proofs.words.assign_one.Goals as goal

pub least_missing-value-requires-clause-in_order : goal.least_missing-value-requires-clause-in_order
least_missing-value-requires-clause-in_order c =
    subst (λ z. (i j : ℕ) → i ≤ j → j < length z → get_or z i 0 ≤ get_or z j 0) (sym c.deref-2.ensures.value)
    (λ i j. IsNonDecreasingBy-from_sort (λ x. x) c.sort_unstable.new.self.items c.sort_unstable.ensures.sorted i j 0)

pub returns-clause-assigned : goal.returns-clause-assigned
returns-clause-assigned c =
    let t = c.args.table.now in
    let es = c.args.exclusions.now in
    let vs = c.args.values.now.items in
    let x = c.least_missing-value.result in
    let g = c.in_ok-next.ensures in
    let e = c.deref.ensures.value in
    let size : c.len-v.result ≡ length vs = search rules in
    let here = c.if-node-v.false ∙ size in
    subst (λ z. Assigned t es c.in_ok-next.next z) (sym c.in_ok-push-2.ensures.items)
    (root_assigned t es c.args.from c.in_ok-next.next vs c.gather.new.taken.items x c.requires.forest c.requires.order c.requires.inside g.within.1
    (subst (λ z. parent_at t z ≡ z) size c.if-node-v.false) c.requires.assigned
    (λ j l w. g.at j l w ∙ here)
    (λ j l w. subst (λ z. Contains c.gather.new.taken.items (taken_by z (exclusion_at es j))) e (g.all j l w))
    (λ j l w. subst (λ z. z < (exclusion_at es j).high) here (g.behind j l w))
    (λ h. c.least_missing-value.ensures.outside (subst (λ z. Contains z x) (sym c.deref-2.ensures.value) (Contains-permutation _ _ x c.sort_unstable.ensures.permutation h))))

pub returns-then-node-v-clause-least : goal.returns-then-node-v-clause-least
returns-then-node-v-clause-least c =
    let t = c.args.table.now in
    let es = c.args.exclusions.now in
    let vs = c.args.values.now.items in
    let size : c.len-v.result ≡ length vs = search rules in
    subst (AreLeast t es) (sym c.in_ok-push.ensures.items)
    (least_more t es vs _ c.requires.order c.requires.least (λ k r b. absurd (c.if-node-v.true (subst (λ z. parent_at t z ≡ z) (sym size) r))))

pub returns-clause-least : goal.returns-clause-least
returns-clause-least c =
    let t = c.args.table.now in
    let es = c.args.exclusions.now in
    let vs = c.args.values.now.items in
    let x = c.least_missing-value.result in
    let g = c.in_ok-next.ensures in
    let taken = c.gather.new.taken.items in
    let size : c.len-v.result ≡ length vs = search rules in
    let here = c.if-node-v.false ∙ size in
    subst (AreLeast t es) (sym c.in_ok-push-2.ensures.items)
    (least_more t es vs x c.requires.order c.requires.least
    (λ k r b. taken_at es vs taken c.args.from c.in_ok-next.next (length vs) k g.count g.within.1
    (λ j l w. g.at j l w ∙ here)
    (subst (λ z. (i : ℕ) → i < length taken → get_or taken i 0 ≡ taken_by z (exclusion_at es (c.args.from + i))) c.deref.ensures.value g.order)
    (Contains-permutation _ _ k (IsPermutation-sym _ _ c.sort_unstable.ensures.permutation) (subst (λ z. Contains z k) c.deref-2.ensures.value (c.least_missing-value.ensures.least k b)))))
