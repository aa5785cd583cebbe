-- Divisions: each way of one is a step of the machine.
use Rattle.std.proofs.Common.{◌≡◌, ◌≢◌, ℕ, ◌+◌, ◌*◌, ◌%◌, ◌^◌, ◌<◌, Bool, true, false, nat_eq, ◌&&◌, ◌||◌, Option, Some, None, List, [], ◌∷◌, ◌++◌, length, pos, slice_set, refl, sym, ap, ◌∙◌, subst, subst₂, arith}
use Rattle.std.specs.Prelude.{ℤ, IsSomeAnd, int_div, if◌then◌else◌}
use Rattle.std.specs.Int.{w32, int_wrap}
use Rattle.std.specs.Ordering.{int_eq}
use Rattle.std.proofs.lemmas.Int.{SFits-int_wrap}
use Rattle.std.proofs.lemmas.Bool.{and_parts}
use Rattle.std.proofs.lemmas.Option.{same_Some}
use Rattle.px_base.specs.declared.trace.Site.{Site}
use Rattle.px_base.specs.declared.trace.Mark.{Mark}
use Rattle.px_base.specs.declared.trace.Kind.TheVariants.{DivisionByZero}
use Rattle.px_terms.specs.Words.{word, signed, word_quotient, IsQuotient}
use Rattle.px_terms.specs.Polynomials.{Polynomial, IsPolynomial}
use Rattle.px_terms.specs.Substitutions.{variable}
use Rattle.px_terms.specs.Valuations.{Valuation, numbers_of}
use Rattle.px_terms.specs.Conjuncts.{word_of}
use Rattle.px_terms.specs.declared.types.Value.{Value}
use Rattle.px_terms.specs.declared.types.Value.TheVariants as value
use Rattle.px_terms.specs.declared.types.BlockType.{BlockType}
use Rattle.px_terms.specs.declared.types.ValueType.TheVariants.{Int}
use Rattle.px_terms.specs.declared.variables.Sort.TheVariants as sort
use Rattle.px_terms.specs.declared.conjuncts.Content.{Content}
use Rattle.px_terms.specs.declared.conjuncts.Content.TheVariants.{Unwritten, Word, Place, Cell}
use Rattle.px_terms.specs.declared.conjuncts.Conj.TheVariants as conjunct
use Rattle.px_terms.proofs.WordLaws.{words_are_signed}
use Rattle.px_terms.proofs.TermWords.{below}
use Rattle.px_core.specs.declared.command.Operand.{Operand}
use Rattle.px_core.specs.CommandTree.{divide}
use Rattle.px_core.specs.Control.{Item}
use Rattle.px_core.specs.Constants.{IsInRange}
use Rattle.px_entry.specs.Sorts.{is_long, is_int_polynomial}
use Rattle.px_entry.specs.Decided as entry
use Rattle.px_entry.specs.Decided.{is_open, assume}
use Rattle.px_entry.specs.Standing.{content_value, contents_value}
use Rattle.px_entry.specs.declared.entries.Exit.TheVariants as exit
use Rattle.px_callgraph.specs.declared.states.State.{State}
use Rattle.px_callgraph.specs.declared.states.Way.{Way}
use Rattle.px_callgraph.specs.declared.states.Way.TheVariants as way
use Rattle.px_callgraph.specs.JobTree.{JobTree}
use Rattle.px_callgraph.specs.States.{goes, ends, Done, on, operand_content, assumed, info}
use Rattle.px_callgraph.specs.Accesses.{listed_if}
use Rattle.px_callgraph.specs.Commands.{constant_quotient, quotient_by, word_ways, divide_ways, words_divided, divide_done}
use Rattle.px_meaning.specs.Heaps.{HeapMap, join}
use Rattle.px_meaning.specs.Operations.{wrapped, on_words, quotient}
use Rattle.px_meaning.specs.Calls.{error, Failed}
use Rattle.px_meaning.specs.Steps.{Goes, Ends, ProcedureCalls, divides}
use Rattle.px_meaning.specs.Triples.{heap_of}
use Rattle.px_soundness.proofs.WellFormed.{Good, WellTyped}
use Rattle.px_soundness.proofs.AtomHeaps.{absent}
use Rattle.px_soundness.proofs.Truths.{constant_word, decided_says}
use Rattle.px_soundness.proofs.Contents.{number_is, set_is, operand_is}
use Rattle.px_soundness.proofs.Sound.{Each1, each1_append, each1_if, WholeGoal, Can, Sound, sound_plain, sound_assumed, sound_variables}
use Rattle.px_soundness.proofs.PlainSteps.{Does, Leads1, operand_good}

-- ---- quotients of words

-- there is none by 0
pub no_quotient : (x : ℤ) (n : ℕ) → n ≡ 0 → quotient x (signed n) ≡ None
no_quotient x n e = ap (λ m. quotient x (signed m)) e

equal_from : (x y : ℤ) → int_eq x y ≡ true → x ≡ y
equal_from x y e = grind arith

pub a_quotient : (x : ℤ) (n : ℕ) → n < 2 ^ 32 → n ≢ 0 → quotient x (signed n) ≡ Some (wrapped (int_div x (signed n)))
a_quotient x n l d = by (int_eq (signed n) (pos 0)) refl
  where
    zero_word : signed n ≡ pos 0 → n ≡ 0
    zero_word e = sym (words_are_signed.word_signed n l) ∙ ap word e

    by : (b : Bool) → int_eq (signed n) (pos 0) ≡ b → (if b then None else Some (wrapped (int_div x (signed n)))) ≡ Some (wrapped (int_div x (signed n)))
    by true e = absurd (d (zero_word (equal_from (signed n) (pos 0) e)))
    by false e = refl

pub variable_number : (v : Valuation) (x : ℕ) → word_of v (variable x) ≡ numbers_of v x % 2 ^ 32
variable_number v x = once (numbers_of v x)
  where
    once : (n : ℕ) → (0 + (1 * (n * 1) + 0)) % 2 ^ 32 ≡ n % 2 ^ 32
    once n = ap (λ m. m % 2 ^ 32) (let e : 0 + (1 * (n * 1) + 0) ≡ n = omega arith in e)

-- a variable that is a quotient has its word
quotient_word : (v : Valuation) (x : ℕ) (m n : ℕ) → IsQuotient (numbers_of v x % 2 ^ 32) m n → content_value v (Word (variable x)) ≡ wrapped (int_div (signed m) (signed n))
quotient_word v x m n h =
    ap (λ k. value.Word (signed k)) (variable_number v x ∙ h.1) ∙ ap value.Word (words_are_signed.signed_word (int_wrap w32 (int_div (signed m) (signed n))) (SFits-int_wrap w32 (int_div (signed m) (signed n))))

-- what two constants give
pub constant_cases : (o u : Option ℕ) (c : Content) → constant_quotient o u ≡ Some c →
    (m : ℕ) × (n : ℕ) × (o ≡ Some m) × (u ≡ Some n) × (n ≢ 0) × (Word (record { constant = word_quotient m n; monomials = [] }) ≡ c)
constant_cases None u c e = absent e
constant_cases (Some m) None c e = absent e
constant_cases (Some m) (Some n) c e = by (nat_eq n 0) refl e
  where
    other : nat_eq n 0 ≡ false → n ≢ 0
    other is z = let f : true ≡ false = sym (ap (λ k. nat_eq k 0) z) ∙ is in cc

    by : (b : Bool) → nat_eq n 0 ≡ b → (elim b as (λ _. Option Content) [ true ↦ None | false ↦ Some (Word (record { constant = word_quotient m n; monomials = [] })) ]) ≡ Some c →
        (m' : ℕ) × (n' : ℕ) × (Some m ≡ Some m') × (Some n ≡ Some n') × (n' ≢ 0) × (Word (record { constant = word_quotient m' n'; monomials = [] }) ≡ c)
    by true is e = absent e
    by false is e = (m, n, refl, refl, other is, same_Some _ _ e)

-- what holds where nothing is divided, and of each two words, holds of a division
pub divide_cases : (P : Done → Type 0) (s : State) (to : ℕ) (site : Site) (w : Way) (a b : Content) → P (on s) → ((p q : Polynomial) → P (words_divided to site w s p q)) → P (divide_done to site a b w s)
divide_cases P s to site w (Word p) (Word q) stays f = f p q
divide_cases P s to site w (Word p) Unwritten stays f = stays
divide_cases P s to site w (Word p) (Place b) stays f = stays
divide_cases P s to site w (Word p) (Cell y) stays f = stays
divide_cases P s to site w Unwritten b stays f = stays
divide_cases P s to site w (Place a) b stays f = stays
divide_cases P s to site w (Cell x) b stays f = stays

-- ---- the machine

module _ (j : JobTree) (types : List BlockType) (calls : ProcedureCalls Mark) (s : State) (well_typed : WellTyped types s) (k : List Item) where
  module _ (to : ℕ) (a b : Operand) (site : Site) (ra : IsInRange a) (rb : IsInRange b) where
    abbrev D : Can
    D = Does types calls (divide to a b site) k s

    module _ (p q : Polynomial) (is : operand_content s a ≡ Word p) (at : operand_content s b ≡ Word q) where
      form_p : IsPolynomial p
      form_p = (subst (Good s.vars s.pure) is (operand_good types s a well_typed ra)).0

      form_q : IsPolynomial q
      form_q = (subst (Good s.vars s.pure) at (operand_good types s b well_typed rb)).0

      -- it goes on by what the quotient is
      reaches : (v : Valuation) (H : HeapMap) (K : WholeGoal) (o : Option Value) → quotient (signed (word_of v p)) (signed (word_of v q)) ≡ o →
          K s.trace (divides to site k (contents_value v s.slots) H o) → D v H K
      reaches v H K o e l =
          subst₂ (λ x y. IsSomeAnd (on_words quotient x y) (λ r. K s.trace (divides to site k (contents_value v s.slots) H r)))
          (sym (operand_is v s a ra ∙ ap (content_value v) is)) (sym (operand_is v s b rb ∙ ap (content_value v) at))
          (subst (λ r. K s.trace (divides to site k (contents_value v s.slots) H r)) (sym e) l)

      by_zero_sound : is_open s.vars (conjunct.Equal q) ≡ true → Sound D s k (assumed (conjunct.Equal q) s) (ends (exit.Error DivisionByZero site) None)
      by_zero_sound opened =
          let C : Can = λ v H K. K s.trace (Ends (Failed (error DivisionByZero) site) H) in
          sound_assumed C D s (conjunct.Equal q) k (assumed (conjunct.Equal q) s) (ends (exit.Error DivisionByZero site) None)
          (λ v fits d. decided_says s.vars v (conjunct.Equal q) fits opened form_q d)
          (sound_plain C (record s { pure = assume s.vars s.pure (conjunct.Equal q) }) s.slots s.trace s.loops s.steps k (ends (exit.Error DivisionByZero site) None) (λ v further h K l. l))
          (λ v further K h says l. reaches v (join (heap_of v s.atoms) further) K None (no_quotient (signed (word_of v p)) (word_of v q) says) l)

      abbrev s1 : State
      s1 = record s { pure = assume s.vars s.pure (conjunct.Unequal q) }

      -- a state that has the quotient in the slot, where the word that is divided by isn't 0
      gives : (v : Valuation) (H : HeapMap) (K : WholeGoal) (c : Content) → word_of v q ≢ 0 → content_value v c ≡ wrapped (int_div (signed (word_of v p)) (signed (word_of v q))) →
          K s.trace (Goes k (contents_value v (slice_set s.slots to c)) H) → D v H K
      gives v H K c d same l =
          reaches v H K (Some (content_value v c)) (a_quotient (signed (word_of v p)) (word_of v q) (below v q) d ∙ ap Some (sym same))
          (subst (λ z. K s.trace (Goes k z H)) (set_is v s.slots to c) l)

      constant_sound : is_open s.vars (conjunct.Unequal q) ≡ true → (c : Content) → constant_quotient (entry.word_of p) (entry.word_of q) ≡ Some c → Sound D s k (quotient_by to p q (Some c) s1) goes
      constant_sound opened c e =
          let (m, n, one, two, other, same) = constant_cases (entry.word_of p) (entry.word_of q) c e in
          let C : Can = λ v H K. K s.trace (Goes k (contents_value v (slice_set s.slots to c)) H) in
          let z = int_wrap w32 (int_div (signed m) (signed n)) in
          sound_assumed C D s (conjunct.Unequal q) k (quotient_by to p q (Some c) s1) goes
          (λ v fits d. decided_says s.vars v (conjunct.Unequal q) fits opened form_q d)
          (sound_plain C s1 (slice_set s.slots to c) s.trace s.loops s.steps k goes (λ v further h K l. l))
          (λ v further K h says l.
          let value_c : content_value v c ≡ value.Word z = ap (content_value v) (sym same) ∙ number_is v z (SFits-int_wrap w32 (int_div (signed m) (signed n))) in
          let words : value.Word z ≡ wrapped (int_div (signed (word_of v p)) (signed (word_of v q))) =
          subst₂ (λ x y. value.Word z ≡ wrapped (int_div (signed x) (signed y))) (sym (constant_word v p m form_p one)) (sym (constant_word v q n form_q two)) refl in
          gives v (join (heap_of v s.atoms) further) K c says (value_c ∙ words) l)

      variable_sound : is_open s.vars (conjunct.Unequal q) ≡ true → Sound D s k (quotient_by to p q None s1) goes
      variable_sound opened =
          let x = length s.vars in
          let i = info sort.Input Int in
          let is_quotient = conjunct.Quotient (record { 0 = x }) p q in
          let s2 : State = record s1 { vars = s.vars ++ i ∷ [] } in
          let s3 : State = record s2 { pure = assume s2.vars s2.pure is_quotient } in
          let t : State = quotient_by to p q None s1 in
          let C : Can = λ v H K. K s.trace (Goes k (contents_value v (slice_set s.slots to (Word (variable x)))) H) in
          sound_assumed D D s (conjunct.Unequal q) k t goes
          (λ v fits d. decided_says s.vars v (conjunct.Unequal q) fits opened form_q d)
          (sound_variables D s1 (i ∷ []) k t goes
          (sound_assumed C D s2 is_quotient k t goes (λ v fits d. cc)
          (sound_plain C s3 (slice_set s.slots to (Word (variable x))) s.trace s.loops s.steps k goes (λ v further h K l. l))
          (λ v further K h says l. gives v (join (heap_of v s.atoms) further) K (Word (variable x)) says.0 (quotient_word v x (word_of v p) (word_of v q) says) l)))
          (λ v further K h says l. l)

      divided_sound : is_open s.vars (conjunct.Unequal q) ≡ true → (o : Option Content) → constant_quotient (entry.word_of p) (entry.word_of q) ≡ o → Sound D s k (quotient_by to p q o s1) goes
      divided_sound opened None e = variable_sound opened
      divided_sound opened (Some c) e = constant_sound opened c e

      words_lead : Each1 (λ w. Sound D s k (words_divided to site w s p q).state (words_divided to site w s p q).outcome) (word_ways s.vars p q)
      words_lead =
          let P : Way → Type 1 = λ w. Sound D s k (words_divided to site w s p q).state (words_divided to site w s p q).outcome in
          let divisible = is_open s.vars (conjunct.Unequal q) && (is_long p || is_int_polynomial s.vars p) in
          each1_append P (listed_if (is_open s.vars (conjunct.Equal q)) way.ByZero) (listed_if divisible way.Divided)
          (each1_if P (is_open s.vars (conjunct.Equal q)) way.ByZero (λ e. by_zero_sound e))
          (each1_if P divisible way.Divided (λ e.
          divided_sound (and_parts (is_open s.vars (conjunct.Unequal q)) (is_long p || is_int_polynomial s.vars p) e).0 (constant_quotient (entry.word_of p) (entry.word_of q)) refl))

    contents_lead : (x y : Content) → operand_content s a ≡ x → operand_content s b ≡ y →
        Each1 (λ w. Sound D s k (divide_done to site x y w s).state (divide_done to site x y w s).outcome) (divide_ways s.vars x y)
    contents_lead (Word p) (Word q) is at = words_lead p q is at
    contents_lead (Word p) Unwritten is at = tt
    contents_lead (Word p) (Place y) is at = tt
    contents_lead (Word p) (Cell y) is at = tt
    contents_lead Unwritten y is at = tt
    contents_lead (Place x) y is at = tt
    contents_lead (Cell x) y is at = tt

    pub does_divide : Leads1 j types calls (divide to a b site) k k s
    does_divide = contents_lead (operand_content s a) (operand_content s b) refl refl
