-- What a call passes: arguments that were written, with the values of the callee's first variables. And which types new
-- variables of an entry have.
use Rattle.std.proofs.Common.{◌≡◌, ℕ, suc, ◌+◌, true, Some, List, [], ◌∷◌, map, length, slice_get, refl, sym, ap, ap₂, ◌∙◌, subst, arith}
use Rattle.std.specs.List.{list_all}
use Rattle.std.proofs.lemmas.Bool.{and_parts}
use Rattle.px_terms.specs.Valuations.{Valuation, IsPlace, Fits}
use Rattle.px_terms.specs.Conjuncts.{place_of, IsTrueUnder}
use Rattle.px_terms.specs.declared.types.Value.{Value}
use Rattle.px_terms.specs.declared.types.Value.TheVariants as value
use Rattle.px_terms.specs.declared.conjuncts.Content.{Content}
use Rattle.px_terms.specs.declared.conjuncts.Content.TheVariants.{Unwritten, Word, Place, Cell}
use Rattle.px_core.specs.declared.command.Operand.{Operand}
use Rattle.px_core.specs.Constants.{AreInRange}
use Rattle.px_entry.specs.Standing.{content_value, contents_value}
use Rattle.px_entry.proofs.Lists.{Each}
use Rattle.px_callgraph.specs.declared.states.State.{State}
use Rattle.px_callgraph.specs.States.{operand_content}
use Rattle.px_callgraph.specs.Commands.{is_argument, argument_contents}
use Rattle.px_meaning.specs.Operations.{operand_value}
use Rattle.px_meaning.specs.Steps.{WasWritten, WereWritten}
use Rattle.px_meaning.specs.Triples.{values_from}
use Rattle.px_soundness.proofs.WellFormed.{Good}
use Rattle.px_soundness.proofs.Contents.{good_place, operand_is}

place_written : (u : Value) → IsPlace u → WasWritten u
place_written (value.Word z) h = tt
place_written value.Null h = tt
place_written (value.Block n) h = tt
place_written value.Unwritten h = h

module _ (s : State) (v : Valuation) (fits : Fits s.vars v) (true_of : Each (IsTrueUnder v) s.pure) where
  content_written : (c : Content) → is_argument c ≡ true → Good s.vars s.pure c → WasWritten (content_value v c)
  content_written Unwritten e g = cc
  content_written (Word p) e g = tt
  content_written (Place a) e g = place_written (place_of v a) (good_place s.vars s.pure v a fits true_of g)
  content_written (Cell x) e g = cc

  pub arguments_written : (operands : List Operand) → AreInRange operands → list_all is_argument (argument_contents s operands) ≡ true → Each (Good s.vars s.pure) (argument_contents s operands) → WereWritten (map (operand_value (contents_value v s.slots)) operands)
  arguments_written [] r e g = tt
  arguments_written (a ∷ operands) r e g =
      let b = and_parts (is_argument (operand_content s a)) (list_all is_argument (argument_contents s operands)) e in
      (subst WasWritten (sym (operand_is v s a r.0)) (content_written (operand_content s a) b.0 g.0), arguments_written operands r.1 b.1 g.1)

  arguments_are : (operands : List Operand) → AreInRange operands → map (content_value v) (argument_contents s operands) ≡ map (operand_value (contents_value v s.slots)) operands
  arguments_are [] r = refl
  arguments_are (a ∷ operands) r = ap₂ (λ u (us : List Value). u ∷ us) (sym (operand_is v s a r.0)) (arguments_are operands r.1)

  values_are : (w : Valuation) (n : ℕ) (cs : List Content) → ((y : ℕ) (c : Content) → slice_get cs y ≡ Some c → w (n + y) ≡ content_value v c) → values_from w n (length cs) ≡ map (content_value v) cs
  values_are w n [] h = refl
  values_are w n (c ∷ cs) h =
      let same : n + 0 ≡ n = omega arith in
      ap₂ (λ u (us : List Value). u ∷ us) (ap w (sym same) ∙ h 0 c refl)
      (values_are w (suc n) cs (λ y d e. let moved : suc n + y ≡ n + suc y = omega arith in ap w moved ∙ h (suc y) d e))

  -- the callee's first variables have the values of the arguments
  pub arguments_passed : (w : Valuation) (operands : List Operand) → AreInRange operands → ((y : ℕ) (c : Content) → slice_get (argument_contents s operands) y ≡ Some c → w y ≡ content_value v c) →
      values_from w 0 (length (argument_contents s operands)) ≡ map (operand_value (contents_value v s.slots)) operands
  arguments_passed w operands r h =
      values_are w 0 (argument_contents s operands) (λ y c e. let same : 0 + y ≡ y = omega arith in ap w same ∙ h y c e) ∙ arguments_are operands r
