-- From what a search ends in to what is decided.
use Rattle.std.proofs.Common.{◌≡◌, ℕ, ◌+◌, ◌<◌, ◌≤◌, List, inr, length, sym, subst, arith}
use Rattle.std.specs.Prelude.{All}
use Rattle.std.specs.List.{AllZip}
use Rattle.std.proofs.lemmas.List.Elements.{All-weaker}
use Rattle.px_terms.specs.Variables.{mentioned}
use Rattle.px_terms.specs.Valuations.{numbers_of}
use Rattle.px_terms.specs.Conjuncts.{IsWellSorted, AreWellSorted}
use Rattle.px_terms.specs.declared.types.Value.{Value}
use Rattle.px_terms.specs.declared.variables.VarInfo.{VarInfo}
use Rattle.px_terms.specs.declared.conjuncts.Conj.{Conj}
use Rattle.px_plain.specs.declared.nodes.Node.{Node}
use Rattle.px_plain.specs.Forest.{IsFlat}
use Rattle.px_plain.specs.Differences.{AllEqual, IsForestOf}
use Rattle.px_plain.specs.Models.{IsPlainModel, IsLeastModel, IsPlainlyRefuted}
use Rattle.px_plain.specs.Readings.{word_differences}
use Rattle.px_plain.proofs.Mentioned.{mentioned_inside}
use Rattle.px_plain.proofs.Representatives.{at_nodes, nodes_keep}
use Rattle.px_plain.proofs.LeastWords.{plain_keeps}
use Rattle.px_solver.specs.declared.solving.Layout.{Layout}
use Rattle.px_solver.specs.declared.decision.Decision.{Decision}
use Rattle.px_solver.specs.declared.decision.Decision.TheVariants.{Found, Refuted, Undecided}
use Rattle.px_solver.specs.Decisions.{IsRefuted, IsFalseOutright, IsDecided, IsOpen}
use Rattle.px_solver.specs.Tables.{Joins, HasHome, AreNodeHomes, MarksHard}
use Rattle.px_solver.specs.Finals.{AreRoots}
use Rattle.px_solver.specs.Searches.{IsSearched}
use Rattle.px_solver.proofs.FoundTruth.{all_true, all_fit, is_model}
use Rattle.px_solver.proofs.OpenLemmas.{first_failure}

pub inside_vars : (vars : List VarInfo) (cs : List Conj) (n : ℕ) → AreWellSorted vars cs → n ≡ length vars → All (λ c. All (λ x. x < n) (mentioned c)) cs
inside_vars vars cs n w e = All-weaker (IsWellSorted vars) (λ c. All (λ x. x < n) (mentioned c)) (λ c h. subst (λ m. All (λ x. x < m) (mentioned c)) (sym e) (mentioned_inside vars c h)) cs w.sorted

pub inside_table : (vars : List VarInfo) (cs : List Conj) (t : List Node) → AreWellSorted vars cs → length t ≡ length vars + 1 → All (λ c. All (λ x. x + 1 < length t) (mentioned c)) cs
inside_table vars cs t w e = All-weaker (IsWellSorted vars) (λ c. All (λ x. x + 1 < length t) (mentioned c))
    (λ c h. All-weaker (λ x. x < length vars) (λ x. x + 1 < length t) (λ x l. omega arith) (mentioned c) (mentioned_inside vars c h)) cs w.sorted

pub no_classes : (vars : List VarInfo) (cs : List Conj) → ((val : ℕ → ℕ) → ¬ AllEqual val (word_differences cs)) → IsPlainlyRefuted vars cs
no_classes vars cs none v f m = none (at_nodes (numbers_of v)) (nodes_keep (numbers_of v) cs (plain_keeps v cs m))

pub open_of : (vars : List VarInfo) (cs : List Conj) → AreWellSorted vars cs → (t : List Node) → IsForestOf (word_differences cs) t → length t ≡ length vars + 1 →
    (model : List Value) → IsPlainModel vars cs model → IsLeastModel vars cs model → (l : Layout) → Joins t cs l.joined.items → IsFlat l.joined.items →
    AllZip (HasHome t l.joined.items) cs l.homes.items → AreNodeHomes t l.joined.items l.node_homes.items → MarksHard cs l.homes.items (length cs) l.hard.items → length l.homes.items ≡ length cs →
    All (λ c. ¬ IsFalseOutright cs c) cs → (old : List ℕ) → AreRoots model old → (d : Decision) → IsSearched t cs l model old d → IsOpen vars cs d
open_of vars cs w t f size model pm lm l j flat homes nodes hm hsize none old ar (Found vs) s =
    let inside = inside_table vars cs t w size in
    let few = w.few_variables in
    let small : length t ≤ 65537 = omega arith in
    let some : 0 < length t = omega arith in (
      none,
      is_model vars cs w t f size inside small some model pm lm l j flat homes nodes hm none hsize old ar vs s,
      all_fit vars cs w t f size inside small some model pm lm l j flat homes nodes hm none hsize old ar vs s,
      all_true vars cs w t f size inside small some model pm lm l j flat homes nodes hm none hsize old ar vs s,
    )
open_of vars cs w t f size model pm lm l j flat homes nodes hm hsize none old ar Refuted s = s
open_of vars cs w t f size model pm lm l j flat homes nodes hm hsize none old ar (Undecided us) s =
    let inside = inside_table vars cs t w size in
    let few = w.few_variables in
    let small : length t ≤ 65537 = omega arith in
    let some : 0 < length t = omega arith in
    inr (first_failure cs t f inside small some l j flat homes nodes hm us none s)

pub decided : (vars : List VarInfo) (cs : List Conj) (kinds : List ℕ) → ¬ IsRefuted vars cs kinds → (d : Decision) → IsOpen vars cs d → IsDecided vars cs kinds d
decided vars cs kinds n (Found vs) h = record { not_refuted = n; none_false = h.0; fits = h.2; are_true = h.3; model = h.1 }
decided vars cs kinds n Refuted h = absurd h
decided vars cs kinds n (Undecided us) h = record { not_refuted = n; cause = h }
