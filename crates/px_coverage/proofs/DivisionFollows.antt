-- Each step of a division is that of a listed way: by 0 it fails, and else a new variable is the quotient, unless both
-- words are constants.
use Rattle.std.proofs.Common.{◌≡◌, ◌≢◌, ℕ, ◌%◌, ◌^◌, ◌<◌, Bool, true, false, ◌&&◌, ◌||◌, Option, Some, None, List, [], ◌∷◌, ◌++◌, length, slice_set, refl, sym, ap, ◌∙◌, subst, subst₂, inl, inr, arith}
use Rattle.std.specs.Prelude.{ℤ, FitsSigned, int_div}
use Rattle.std.specs.Int.{w32, int_wrap}
use Rattle.std.proofs.lemmas.Bool.{and_from, or_right, cases_eq}
use Rattle.std.proofs.lemmas.Int.{SFits-int_wrap}
use Rattle.px_base.specs.declared.trace.Site.{Site}
use Rattle.px_terms.specs.Words.{word, signed, IsQuotient}
use Rattle.px_terms.specs.Polynomials.{Polynomial}
use Rattle.px_terms.specs.Substitutions.{variable}
use Rattle.px_terms.specs.Valuations.{Valuation, number_of, numbers_of, IsWord, HasType, Fits}
use Rattle.px_terms.specs.Conjuncts.{word_of, IsTrueUnder}
use Rattle.px_terms.specs.declared.types.Value.{Value}
use Rattle.px_terms.specs.declared.types.Value.TheVariants as value
use Rattle.px_terms.specs.declared.types.ValueType.TheVariants.{Int}
use Rattle.px_terms.specs.declared.variables.Var.{Var}
use Rattle.px_terms.specs.declared.variables.VarInfo.{VarInfo}
use Rattle.px_terms.specs.declared.variables.Sort.TheVariants as sort
use Rattle.px_terms.specs.declared.conjuncts.Content.{Content}
use Rattle.px_terms.specs.declared.conjuncts.Content.TheVariants.{Word, Cell}
use Rattle.px_terms.specs.declared.conjuncts.Conj.TheVariants as conjunct
use Rattle.px_terms.proofs.WordLaws.{words_are_signed}
use Rattle.px_terms.proofs.TermWords.{below}
use Rattle.px_core.specs.declared.command.Operand.{Operand}
use Rattle.px_core.specs.CommandTree.{divide}
use Rattle.px_core.specs.Control.{Item, Act}
use Rattle.px_core.specs.Constants.{IsInRange}
use Rattle.px_entry.specs.Sorts.{is_int_type, is_int_polynomial, is_long}
use Rattle.px_entry.specs.Decided as entry
use Rattle.px_entry.specs.Decided.{is_open, assume}
use Rattle.px_entry.specs.Contents.{fits_cell}
use Rattle.px_entry.specs.Standing.{content_value, contents_value}
use Rattle.px_callgraph.specs.declared.states.State.{State}
use Rattle.px_callgraph.specs.declared.states.Way.{Way}
use Rattle.px_callgraph.specs.declared.states.Way.TheVariants as way
use Rattle.px_callgraph.specs.JobTree.{JobTree}
use Rattle.px_callgraph.specs.States.{operand_content, number, assumed, info}
use Rattle.px_callgraph.specs.Accesses.{listed_if}
use Rattle.px_callgraph.specs.Commands.{constant_quotient, quotient_by, word_ways, divide_ways, words_divided, divide_done, command_ways, act_done}
use Rattle.px_meaning.specs.Heaps.{HeapMap, join}
use Rattle.px_meaning.specs.Operations.{operand_value, on_words, quotient}
use Rattle.px_meaning.specs.Events.{mark_of}
use Rattle.px_meaning.specs.Steps.{Goes, divides, command}
use Rattle.px_meaning.specs.CoreCalls.{CoreProgram}
use Rattle.px_meaning.specs.CoreTypes.{SlotTypes}
use Rattle.px_meaning.specs.Triples.{heap_of}
use Rattle.px_meaning.proofs.Taken.{some_to}
use Rattle.px_soundness.proofs.WellFormed.{Good, WellTyped, CompleteAt}
use Rattle.px_soundness.proofs.Truths.{constant_word}
use Rattle.px_soundness.proofs.WellTyped.{grown_by}
use Rattle.px_soundness.proofs.Contents.{set_is, operand_is, number_is, variable_is_content}
use Rattle.px_soundness.proofs.PlainSteps.{operand_good}
use Rattle.px_soundness.proofs.Divisions.{no_quotient, a_quotient, constant_cases}
use Rattle.px_symexec.proofs.Lists.{IsIn, in_left, in_right}
use Rattle.px_coverage.specs.Covered.{Execution}
use Rattle.px_coverage.proofs.Stands.{Stands}
use Rattle.px_coverage.proofs.Extended.{word_same, words_same}
use Rattle.px_coverage.proofs.Opens.{open_true, assume_true, good_words, good_ints}
use Rattle.px_coverage.proofs.Regards.{Regards, regards_grown, regards_set}
use Rattle.px_coverage.proofs.Conditions.{Kind, quotient_there}
use Rattle.px_coverage.proofs.Follows.{Onward, Calls, Going, Comes}
use Rattle.px_coverage.proofs.PlainFollows as plain
use Rattle.px_coverage.proofs.PlainFollows.{in_if}
use Rattle.px_coverage.proofs.ReadFollows as reads
use Rattle.px_coverage.proofs.MakeFollows as makes
use Rattle.px_callgraph.proofs.SortLemmas.{variable_next}

word_small : (n : ℕ) → n < 2 ^ 32 → n % 2 ^ 32 ≡ n
word_small n l = omega arith

module _ (P : CoreProgram) (j : JobTree) (same_types : j.types ≡ P.types) (e : Execution) (types : SlotTypes) (outcome : ℕ → Bool) (n : ℕ)
    (s : State) (well_typed : WellTyped j.types s) (complete : CompleteAt j s) (v : Valuation) (rest : HeapMap) (stands : Stands e v rest s.vars s.pure s.pre s.atoms) where
  abbrev heap : HeapMap
  heap = join (heap_of v s.atoms) rest

  abbrev x : ℕ
  x = length s.vars

  fits : Fits s.vars v
  fits = plain.fits P j e types outcome n s well_typed complete v rest stands

  module _ (k : List Item) (to : ℕ) (a b : Operand) (site : Site) (ra : IsInRange a) (rb : IsInRange b) (int : types to ≡ Int) (plain_slot : outcome to ≡ false)
      (h : Regards types outcome s.vars s.slots (Act (divide to a b site) ∷ k)) where
    abbrev Found : Type 0
    Found = (w : Way) × IsIn w (command_ways j s (divide to a b site)) × Comes P j e types outcome n k (act_done j (divide to a b site) w s)

    abbrev On : Option Value → Type 0
    On o = Onward P j e types outcome n s.trace [] (divides to site k (contents_value v s.slots) heap o)

    -- of two words
    module _ (p q : Polynomial) (gp : Good s.vars s.pure (Word p)) (gq : Good s.vars s.pure (Word q)) where
      abbrev FoundWords : Type 0
      FoundWords = (w : Way) × IsIn w (word_ways s.vars p q) × Comes P j e types outcome n k (words_divided to site w s p q)

      abbrev zero : Bool
      zero = is_open s.vars (conjunct.Equal q)

      abbrev divisible : Bool
      divisible = is_open s.vars (conjunct.Unequal q) && (is_long p || is_int_polynomial s.vars p)

      by_zero_found : word_of v q ≡ 0 → On None → FoundWords
      by_zero_found z go =
          let t : IsTrueUnder v (conjunct.Equal q) = (good_words s.vars s.pure v fits stands.true_of q gq, z) in (
            way.ByZero,
            in_left way.ByZero (listed_if zero way.ByZero) (listed_if divisible way.Divided) (in_if zero way.ByZero (open_true s.vars v fits (conjunct.Equal q) (good_ints s.vars s.pure v fits stands.true_of q gq) gq.0 t)),
            record {
              valuation = v;
              rest = rest;
              stands = reads.stands_assumed P j e types outcome n s well_typed complete v rest stands (conjunct.Equal q) t;
              trace = go.0;
              ending = go.1;
              after = go.2;
            },
          )

      module _ (d : word_of v q ≢ 0) where
        other : IsTrueUnder v (conjunct.Unequal q)
        other = (good_words s.vars s.pure v fits stands.true_of q gq, d)

        abbrev z : ℤ
        z = int_wrap w32 (int_div (signed (word_of v p)) (signed (word_of v q)))

        fit : FitsSigned w32 z
        fit = SFits-int_wrap w32 (int_div (signed (word_of v p)) (signed (word_of v q)))

        -- both are constants
        constant_going : (c : Content) → constant_quotient (entry.word_of p) (entry.word_of q) ≡ Some c → On (Some (value.Word z)) → Going P j e types outcome n (quotient_by to p q (Some c) (assumed (conjunct.Unequal q) s)) k
        constant_going c f go =
            let (m, m', one, two, other', same) = constant_cases (entry.word_of p) (entry.word_of q) c f in
            let y = int_wrap w32 (int_div (signed m) (signed m')) in
            let value_c : content_value v c ≡ value.Word z =
            ap (content_value v) (sym same) ∙ number_is v y (SFits-int_wrap w32 (int_div (signed m) (signed m')))
            ∙ subst₂ (λ i i'. value.Word y ≡ value.Word (int_wrap w32 (int_div (signed i) (signed i')))) (sym (constant_word v p m gp.0 one)) (sym (constant_word v q m' gq.0 two)) refl in
            record {
              regards = regards_set types outcome s.vars s.slots (Act (divide to a b site) ∷ k) k to c (λ m x. absurd x) (subst₂ (λ t u. fits_cell s.vars t u ≡ true) (sym int) same refl) (λ y at. absurd (no_cell y (same ∙ at))) (λ o. absurd (let f : true ≡ false = sym o ∙ plain_slot in cc)) h;
              valuation = v;
              rest = rest;
              stands = reads.stands_assumed P j e types outcome n s well_typed complete v rest stands (conjunct.Unequal q) other;
              runs = subst (λ us. Onward P j e types outcome n s.trace [] (Goes k us heap)) (ap (slice_set (contents_value v s.slots) to) (sym value_c) ∙ sym (set_is v s.slots to c)) go;
            }
          where
            no_cell : {p' : Polynomial} (y : Var) → Word p' ≡ Cell y → ⊥
            no_cell y f = cc

        -- the new variable is the quotient
        abbrev i : VarInfo
        i = info sort.Input Int

        abbrev w : Valuation
        w = makes.w P j same_types e types outcome n s well_typed complete v rest stands (value.Word z)

        agree : (y : ℕ) → y < length s.vars → w y ≡ v y
        agree = makes.agree P j same_types e types outcome n s well_typed complete v rest stands (value.Word z)

        at : w x ≡ value.Word z
        at = makes.at_new P j same_types e types outcome n s well_typed complete v rest stands (value.Word z)

        quotient_true : IsTrueUnder w (conjunct.Quotient (record { 0 = x }) p q)
        quotient_true =
            let same_p = word_same s.vars s.pure v w agree p gp in
            let same_q = word_same s.vars s.pure v w agree q gq in
            let number : numbers_of w x % 2 ^ 32 ≡ word z = ap (λ u. number_of u % 2 ^ 32) at ∙ word_small (word z) (words_are_signed.word_fits z fit) in (
              subst IsWord (sym at) tt,
              words_same s.vars s.pure v w agree p gp (good_words s.vars s.pure v fits stands.true_of p gp),
              words_same s.vars s.pure v w agree q gq (good_words s.vars s.pure v fits stands.true_of q gq),
              subst₂ (IsQuotient (numbers_of w x % 2 ^ 32)) (sym same_p) (sym same_q) (d, number),
            )

        variable_going : On (Some (value.Word z)) → Going P j e types outcome n (quotient_by to p q None (assumed (conjunct.Unequal q) s)) k
        variable_going go =
            let vars' = s.vars ++ i ∷ [] in
            let new = Word (variable x) in
            let is_quotient = conjunct.Quotient (record { 0 = x }) p q in
            let is_value : content_value w new ≡ value.Word z = variable_is_content w Int x (subst (HasType Int) (sym at) fit) ∙ at in
            let s1 = makes.stands_one P j same_types e types outcome n s well_typed complete v rest stands (value.Word z) i fit in
            let other_w : IsTrueUnder w (conjunct.Unequal q) = (words_same s.vars s.pure v w agree q gq other.0, λ f. d (sym (word_same s.vars s.pure v w agree q gq) ∙ f)) in
            record {
              regards = regards_set types outcome vars' s.slots (Act (divide to a b site) ∷ k) k to new (λ m y. absurd y)
                  (subst (λ t. fits_cell vars' t new ≡ true) (sym int) (and_from _ _ (variable_next s.vars i (λ (z : VarInfo). is_int_type z.value) refl) refl))
                  (λ y f. cc) (λ o. absurd (let f : true ≡ false = sym o ∙ plain_slot in cc)) (regards_grown types outcome s.vars vars' s.slots (Act (divide to a b site) ∷ k) (grown_by s.vars (i ∷ [])) h);
              valuation = w;
              rest = rest;
              stands = record {
                sorts = s1.sorts;
                given = s1.given;
                true_of = assume_true vars' (assume s.vars s.pure (conjunct.Unequal q)) is_quotient w (assume_true s.vars s.pure (conjunct.Unequal q) w s1.true_of other_w) quotient_true;
                placed = s1.placed;
                apart = s1.apart;
                begins = s1.begins;
              };
              runs = subst₂ (λ us g. Onward P j e types outcome n s.trace [] (Goes k us (join g rest)))
                  (sym (makes.set_new P j same_types e types outcome n s well_typed complete v rest stands (value.Word z) to new is_value))
                  (sym (makes.blocks_same P j same_types e types outcome n s well_typed complete v rest stands (value.Word z))) go;
            }

        quotient_going : (o : Option Content) → constant_quotient (entry.word_of p) (entry.word_of q) ≡ o → On (Some (value.Word z)) → Going P j e types outcome n (quotient_by to p q o (assumed (conjunct.Unequal q) s)) k
        quotient_going None f go = variable_going go
        quotient_going (Some c) f go = constant_going c f go

        divided_found : On (Some (value.Word z)) → FoundWords
        divided_found go = (
          way.Divided,
          in_right way.Divided (listed_if zero way.ByZero) (listed_if divisible way.Divided) (in_if divisible way.Divided
              (and_from _ _ (open_true s.vars v fits (conjunct.Unequal q) (good_ints s.vars s.pure v fits stands.true_of q gq) gq.0 other)
              (or_right (is_long p) (is_int_polynomial s.vars p) (good_ints s.vars s.pure v fits stands.true_of p gp)))),
          quotient_going (constant_quotient (entry.word_of p) (entry.word_of q)) refl go,
        )

      words_found : (o : Option Value) → quotient (signed (word_of v p)) (signed (word_of v q)) ≡ o → On o → FoundWords
      words_found o is go = elim (cases_eq (word_of v q) 0) [
        | inl none ↦ by_zero_found none (subst On (sym is ∙ no_quotient (signed (word_of v p)) (word_of v q) none) go)
        | inr some ↦ divided_found some (subst On (sym is ∙ a_quotient (signed (word_of v p)) (word_of v q) (below v q) some) go)
      ]

    contents_found : (y y' : Content) → operand_content s a ≡ y → operand_content s b ≡ y' → (o : Option Value) (p q : Polynomial) → y ≡ Word p → y' ≡ Word q → quotient (signed (word_of v p)) (signed (word_of v q)) ≡ o → On o →
        (w : Way) × IsIn w (divide_ways s.vars y y') × Comes P j e types outcome n k (divide_done to site y y' w s)
    contents_found y y' is is' o p q f f' same go =
        subst₂ (λ y y'. (w : Way) × IsIn w (divide_ways s.vars y y') × Comes P j e types outcome n k (divide_done to site y y' w s)) (sym f) (sym f')
        (words_found p q (subst (Good s.vars s.pure) (is ∙ f) (operand_good j.types s a well_typed ra)) (subst (Good s.vars s.pure) (is' ∙ f') (operand_good j.types s b well_typed rb)) o same go)

    kind : (y : Operand) → IsInRange y → Kind v (operand_content s y)
    kind y r = plain.kind P j e types outcome n s well_typed complete v rest stands k (divide to a b site) y r (λ m x. x) h

    pub follow_divide : command mark_of P.types (Calls P j e types outcome n) (divide to a b site) k (contents_value v s.slots) heap (Onward P j e types outcome n s.trace) → Found
    follow_divide step =
        some_to (on_words quotient (operand_value (contents_value v s.slots) a) (operand_value (contents_value v s.slots) b)) On Found
        (λ o is go.
        let is' : on_words quotient (content_value v (operand_content s a)) (content_value v (operand_content s b)) ≡ Some o = subst₂ (λ u u'. on_words quotient u u' ≡ Some o) (operand_is v s a ra) (operand_is v s b rb) is in
        let (p, q, f, f', same) = quotient_there s.vars s.pure v fits stands.true_of (operand_content s a) (operand_content s b) o (kind a ra) (kind b rb) is' in
        contents_found (operand_content s a) (operand_content s b) refl refl o p q f f' same go) step
