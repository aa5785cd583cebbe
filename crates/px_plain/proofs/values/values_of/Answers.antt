use Rattle.std.proofs.Common.{ℕ, ◌+◌, ◌<◌, ◌≡◌, get_or, rules, arith, sym, subst}
use Rattle.std.specs.Prelude.{Some, slice_get}
use Rattle.std.proofs.lemmas.Option.{slice_get_within}
use Rattle.px_terms.specs.Valuations.{valuation_of}
use Rattle.px_terms.specs.declared.variables.VarInfo.{VarInfo}
use Rattle.px_plain.specs.Places.{mark_at}
use Rattle.px_plain.specs.Models.{value_of}
use Rattle.px_plain.proofs.ValueLemmas.{one_more}
use Rattle.px_plain.proofs.values.values_of.Goals as goal

pub loop-x-preserved : goal.loop-x-preserved
loop-x-preserved c =
    let vars = c.args.vars.now in
    let f = λ (x : ℕ) (i : VarInfo). value_of (mark_at c.args.marks.now (x + 1)) i.value (get_or c.args.words.now (x + 1) 0) (get_or c.args.places.now (x + 1) 0) in
    record {
      so_far = search rules;
      each = subst (λ z. (x : ℕ) (i : VarInfo) → x < c.loop-x.x + 1 → slice_get vars x ≡ Some i → valuation_of z x ≡ f x i) (sym c.in_ok-push.ensures.items)
          (one_more vars f c.loop-x.values.items c.loop-x.x c.value_of.result c.loop-x.invariant.so_far c.value_of.ensures c.loop-x.invariant.each);
    }

pub returns : goal.returns
returns c = record {
  size = search rules;
  each = λ x i g. let b = slice_get_within c.args.vars.now x i g in c.loop-x.invariant.each x i (omega arith) g;
}
