use Rattle.std.proofs.Common.{◌≡◌, ◌*◌, length, refl, ap, sym, subst, ◌∙◌, arith}
use Rattle.std.proofs.lemmas.List.Elements.{All-nil}
use Rattle.px_cnf.specs.Clauses.{AreBelow, AreClausesBelow, Meets}
use Rattle.px_cnf.specs.Circuits.{Gates, gates_of}
use Rattle.px_cnf.proofs.BaseLemmas.{base_later}
use Rattle.px_cnf.proofs.NameLemmas.{known_of, words_inside}
use Rattle.px_cnf.proofs.TranslationLemmas.{value_more, value_end}
use Rattle.px_cnf.proofs.cnf.circuit_of.Goals as goal

pub loop-i-init : goal.loop-i-init
loop-i-init c =
    let made : c.new-circuit.result.inputs ≡ 32 * length c.args.bits.now = ap (λ (g : Gates). g.inputs) c.new-circuit.ensures.gates in
    let inputs : c.always.new.self.inputs ≡ 32 * length c.args.bits.now = c.in_ok-always.ensures.grows.inputs ∙ made in
    record {
      base = record {
        circuit = c.in_ok-always.ensures.grows.circuit;
        few = let f = c.requires.few in omega arith;
        inside = c.in_ok-always.ensures.inside;
        always = c.in_ok-always.ensures.value;
        words = words_inside c.args.conjuncts.now c.args.bits.now c.always.new.self.inputs c.requires.bits inputs;
      };
      inputs = inputs;
      below = subst (AreClausesBelow c.always.new.self.variables) (sym c.new-asserted.ensures.items) (All-nil (AreBelow c.always.new.self.variables));
      value = λ a w m g. (λ h k d l. absurd (omega arith), λ h. subst (Meets a) (sym c.new-asserted.ensures.items) refl);
    }

pub loop-i-preserved : goal.loop-i-preserved
loop-i-preserved c =
    let v = c.loop-i.invariant in
    record {
      base = base_later (gates_of c.loop-i.circuit) (gates_of c.require.new.self) _ c.in_ok-require.ensures.grows v.base;
      inputs = c.in_ok-require.ensures.grows.inputs ∙ v.inputs;
      below = c.in_ok-require.ensures.inside;
      value = λ a w m g.
          value_more w c.args.conjuncts.now c.loop-i.i c.index-conjuncts-i.result (Meets a c.loop-i.asserted.items) (Meets a c.require.new.asserted.items) c.loop-i-test.true c.index-conjuncts-i.is
          (c.in_ok-require.ensures.value a w m g) (v.value a w (c.in_ok-require.ensures.grows.clauses a m) g);
    }

pub require-requires-clause-known : goal.require-requires-clause-known
require-requires-clause-known c = known_of c.args.conjuncts.now c.args.bits.now c.loop-i.i c.index-conjuncts-i.result c.requires.bits c.loop-i-test.true c.index-conjuncts-i.is

pub returns : goal.returns
returns c =
    let v = c.loop-i.invariant in
    record {
      circuit = v.base.circuit;
      inputs = v.inputs;
      below = v.below;
      value = λ a w m g. value_end w c.args.conjuncts.now c.loop-i.i (Meets a c.loop-i.asserted.items) c.loop-i-test.false (v.value a w m g);
    }
