-- What the parts of conjuncts say to the steps of a solution.
use Rattle.std.proofs.Common.{◌≡◌, ℕ, ◌+◌, ◌<◌, ◌≤◌, List, [], ◌∷◌, length, length-append, get_or, sym, ap, subst, arith}
use Rattle.std.specs.Prelude.{Bool, Option, Some, None, All, flat_map, option_to_list}
use Rattle.px_terms.specs.Valuations.{valuation_of}
use Rattle.px_terms.specs.Conjuncts.{AreWellSorted}
use Rattle.px_terms.specs.declared.types.Value.{Value}
use Rattle.px_terms.specs.declared.conjuncts.Conj.{Conj}
use Rattle.px_plain.specs.Models.{AreValuesOf, HasNoModel, IsModelOf, IsPlainModel, IsPlainlyRefuted, IsLeastModel, AreLeastValues}
use Rattle.px_plain.specs.NodeValues.{AreSorted, Satisfies}
use Rattle.px_plain.specs.Readings.{word_difference, word_differences, place_differences, unwritten_nodes, written_nodes}
use Rattle.px_plain.proofs.Lists.{satisfied, made_true, sorted_parts}
use Rattle.px_plain.proofs.LeastWords.{takes_least}
use Rattle.px_plain.proofs.ExactPlaces.{null_place, least_block, same_block, only_said}
use Rattle.px_terms.specs.declared.variables.VarInfo.{VarInfo}
use Rattle.px_plain.specs.declared.nodes.Difference.{Difference}
use Rattle.px_plain.specs.Differences.{AreInside}
use Rattle.px_plain.specs.Marks.{SomeMarkedEnd, SomeMarked}

pub above_null : (vars : List VarInfo) (us : List ℕ) → All (λ u. (x : ℕ) × (u ≡ x + 1) × (x < length vars)) us → (k : ℕ) → k < length us → 0 < get_or us k 0
above_null vars us h k l = let r = h k 0 l in let e = r.1 in omega arith

pub not_beyond : (vars : List VarInfo) (us : List ℕ) → All (λ u. (x : ℕ) × (u ≡ x + 1) × (x < length vars)) us → (k : ℕ) → k < length us → get_or us k 0 ≤ length vars
not_beyond vars us h k l = let r = h k 0 l in let e = r.1 in let f = r.2 in omega arith

-- lists by other names
pub inside_as : (n m : ℕ) (ds es : List Difference) → m ≡ n → es ≡ ds → AreInside n ds → AreInside m es
inside_as n m ds es e f h = subst (λ z. AreInside m z) (sym f) (subst (λ z. AreInside z ds) (sym e) h)

pub end_as : (marks others : List Bool) (ds es : List Difference) → others ≡ marks → es ≡ ds → SomeMarkedEnd others es → SomeMarkedEnd marks ds
end_as marks others ds es e f h = subst (SomeMarkedEnd marks) f (subst (λ z. SomeMarkedEnd z es) e h)

pub one_as : (marks others : List Bool) (us rs : List ℕ) → others ≡ marks → rs ≡ us → SomeMarked others rs → SomeMarked marks us
one_as marks others us rs e f h = subst (SomeMarked marks) f (subst (λ z. SomeMarked z rs) e h)

pub values_as : (vars : List VarInfo) (marks : List Bool) (ws words ps places : List ℕ) (vs : List Value) → ws ≡ words → ps ≡ places →
    AreValuesOf vars marks ws ps vs → AreValuesOf vars marks words places vs
values_as vars marks ws words ps places vs e f h = subst (λ z. AreValuesOf vars marks words z vs) f (subst (λ z. AreValuesOf vars marks z ps vs) e h)

-- ---- the parts of a list of conjuncts

few_given : (f : Conj → Option Difference) (cs : List Conj) → length (flat_map (λ c. option_to_list (f c)) cs) ≤ length cs
few_given f [] = omega arith
few_given f (c ∷ cs) =
    let h = few_given f cs in
    let a = one_at_most (f c) in
    let e = length-append (option_to_list (f c)) (flat_map (λ c. option_to_list (f c)) cs) in
    omega arith
  where
    one_at_most : (o : Option Difference) → length (option_to_list o) ≤ 1
    one_at_most None = omega arith
    one_at_most (Some d) = omega arith

pub few_words : (vars : List VarInfo) (cs : List Conj) (ws : List Difference) → AreWellSorted vars cs → ws ≡ word_differences cs → length ws ≤ 65536
few_words vars cs ws w e = let h = few_given word_difference cs in let f = w.few_conjuncts in let g = ap length e in omega arith

module _ (vars : List VarInfo) (cs : List Conj) (ws ps : List Difference) (us rs : List ℕ) (a : ws ≡ word_differences cs) (b : ps ≡ place_differences cs)
    (c : us ≡ unwritten_nodes cs) (d : rs ≡ written_nodes cs) (w : AreWellSorted vars cs) where
  as_read : (P : List Difference → List Difference → List ℕ → List ℕ → Type 0) → P (word_differences cs) (place_differences cs) (unwritten_nodes cs) (written_nodes cs) → P ws ps us rs
  as_read P h = subst (λ z. P z ps us rs) (sym a) (subst (λ z. P (word_differences cs) z us rs) (sym b) (subst (λ z. P (word_differences cs) (place_differences cs) z rs) (sym c) (subst (P (word_differences cs) (place_differences cs) (unwritten_nodes cs)) (sym d) h)))

  read_as : (P : List Difference → List Difference → List ℕ → List ℕ → Type 0) → P ws ps us rs → P (word_differences cs) (place_differences cs) (unwritten_nodes cs) (written_nodes cs)
  read_as P h = subst (P (word_differences cs) (place_differences cs) (unwritten_nodes cs)) d (subst (λ z. P (word_differences cs) (place_differences cs) z rs) c (subst (λ z. P (word_differences cs) z us rs) b (subst (λ z. P z ps us rs) a h)))

  pub are_sorted : AreSorted vars ws ps us rs
  are_sorted = as_read (AreSorted vars) (sorted_parts vars cs w.sorted)

  pub refuted_if_none : HasNoModel vars ws ps us rs → IsPlainlyRefuted vars cs
  refuted_if_none h v f t = h v f (as_read (Satisfies v) (satisfied vars cs v f t))

  pub model_of : (vs : List Value) → IsModelOf vars ws ps us rs vs → IsPlainModel vars cs vs
  model_of vs h = record { size = h.size; fits = h.fits; plain = made_true vars cs w.sorted (valuation_of vs) h.fits (read_as (Satisfies (valuation_of vs)) h.satisfies) }

  pub least_of : (vs : List Value) → IsPlainModel vars cs vs → AreLeastValues vars ws ps us vs → IsLeastModel vars cs vs
  least_of vs m h =
      let a = read_as (λ xs ys zs rs. AreLeastValues vars xs ys zs vs) h in
      record {
        unwritten = only_said vars cs vs (word_differences cs) a;
        words = takes_least vars cs w vs m (place_differences cs) (unwritten_nodes cs) a;
        null = null_place vars cs vs (word_differences cs) a;
        least = least_block vars cs vs (word_differences cs) a;
        block = same_block vars cs vs (word_differences cs) a;
      }

pub not_refuted : (vars : List VarInfo) (cs : List Conj) (vs : List Value) → IsPlainModel vars cs vs → ¬ IsPlainlyRefuted vars cs
not_refuted vars cs vs m r = r (valuation_of vs) m.fits m.plain
