use Rattle.std.proofs.Common.{◌≡◌, List, sym, ap, subst, ◌∙◌, length, arith}
use Rattle.std.proofs.lemmas.List.{with_items_is}
use Rattle.px_plain.specs.declared.claims.Mark.{Mark}
use Rattle.px_plain.specs.Changes.{MayMark, ends_of, mark_of}
use Rattle.px_plain.specs.Steps.{marked}
use Rattle.px_plain.specs.Stacks.{content}
use Rattle.px_plain.proofs.Pushes.{changed_marks}
use Rattle.px_plain.proofs.stack.Stack.take.Goals as goal

pub returns : goal.returns
returns c =
    let s = c.args.self.now in
    let k = c.args.claim in
    let e = c.change.new.self in
    let n = c.put_marks.new.marks in
    let size : length n ≡ e.marks.len = let a = c.put_marks.auto.marks in let b = c.deref_mut.ensures.len in omega arith in
    let old : e.marks.items ≡ s.marks.items = changed_marks (content s) k (content e) _ c.in-Some.ensures.changed in
    let may = c.may_mark.ensures.yes c.if-not-may_mark.false in
    record {
      takes = record {
        unrefuted = sym c.is_closed.ensures ∙ c.if-is_closed.false;
        some = c.in_default.not-Nothing;
        may = subst (λ z. MayMark s.vars.items z k) c.deref-3.ensures.value (subst (λ z. MayMark z c.deref-3.result.now k) c.deref-2.ensures.value may);
        ends_are = c.ends_of-ends.ensures ∙ ap (λ z. ends_of z k) c.deref.ensures.value;
        between = content e;
        changed = c.in-Some.ensures.changed;
        after = ap (λ (z : List Mark). record (content e) { marks = z }) (with_items_is e.marks n size ∙ c.put_marks.ensures
            ∙ ap (λ (z : Mark). marked c.deref_mut.result.now c.ends_of-ends.result z) c.mark_of.ensures
            ∙ ap (λ z. marked z c.ends_of-ends.result (mark_of k)) (c.deref_mut.ensures.value ∙ old));
      };
      steps = c.in-Some.ensures.steps;
    }
