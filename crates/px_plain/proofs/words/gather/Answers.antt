use Rattle.std.proofs.Common.{◌≡◌, ◌≤◌, ◌<◌, ◌+◌, ℕ, length, get_or, arith, below_more, subst, sym, ap}
use Rattle.std.specs.Prelude.{Contains}
use Rattle.std.proofs.lemmas.List.Elements.{Contains-append_left, Contains-push}
use Rattle.px_plain.specs.Exclusions.{exclusion_at, taken_by}
use Rattle.px_plain.proofs.LeastLemmas.{order_more}
use Rattle.px_plain.proofs.words.gather.Goals as goal

span_more : (P : ℕ → Type 0) (a n : ℕ) → ((j : ℕ) → a ≤ j → j < n → P j) → P n → (j : ℕ) → a ≤ j → j < n + 1 → P j
span_more P a n h here j l w = below_more (λ i. a ≤ i → P i) n (λ i u m. h i m u) (λ m. here) j w l

pub loop-next-preserved : goal.loop-next-preserved
loop-next-preserved c =
    let i = c.loop-next.invariant in
    let pushed = c.in_ok-push.ensures.items in
    let len = c.in_ok-push.ensures.len in
    let count = i.count in
    let es = c.args.exclusions.now in
    let vs = c.args.values.now in
    record {
      from = omega arith;
      within = omega arith;
      count = omega arith;
      order = subst (λ z. (i : ℕ) → i < length z → get_or z i 0 ≡ taken_by vs (exclusion_at es (c.args.from + i))) (sym pushed)
          (order_more (λ i. taken_by vs (exclusion_at es (c.args.from + i))) c.loop-next.taken.items (taken_by vs (exclusion_at es c.loop-next.next)) i.order
          (let e : c.loop-next.next ≡ c.args.from + length c.loop-next.taken.items = omega arith in ap (λ k. taken_by vs (exclusion_at es k)) e));
      at = span_more (λ j. (exclusion_at es j).high ≡ c.args.root) c.args.from c.loop-next.next i.at c.if-exclusions-next.true;
      all = span_more (λ j. Contains c.push.new.self.items (taken_by vs (exclusion_at es j))) c.args.from c.loop-next.next
          (λ j l w. subst (λ z. Contains z (taken_by vs (exclusion_at es j))) (sym pushed) (Contains-append_left _ _ _ (i.all j l w)))
          (subst (λ z. Contains z (taken_by vs (exclusion_at es c.loop-next.next))) (sym pushed) (Contains-push _ _));
    }
