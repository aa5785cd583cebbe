-- What a search of all components ends in.
use Rattle.std.specs.Prelude.{◌≡◌, ℕ, ◌<◌, true, false, List, length, slice_index}
use Rattle.px_terms.specs.declared.types.Value.{Value}
use Rattle.px_terms.specs.declared.conjuncts.Conj.{Conj}
use Rattle.px_plain.specs.declared.nodes.Node.{Node}
use Rattle.px_solver.specs.declared.solving.Layout.{Layout}
use Rattle.px_solver.specs.declared.decision.Decision.{Decision}
use Rattle.px_solver.specs.declared.decision.Decision.TheVariants.{Found, Refuted, Undecided}
use Rattle.px_solver.specs.Tables.{SelectsByHome, IsAtHome}
use Rattle.px_solver.specs.Layouts.{mark_at, HasSolved, HasNoSolution}
use Rattle.px_solver.specs.Finals.{AreFinal}

-- all hard homes are solved, and the values follow
pub record AllSolved (t : List Node) (conjuncts : List Conj) (l : Layout) (model : List Value) (old : List ℕ) (vs : List Value) : Type 0 where
  pub roots : List ℕ
  pub zero : slice_index roots 0 ≡ 0
  pub easy : (v : ℕ) → v < length t → mark_at l.hard.items (slice_index l.node_homes.items v) ≡ false → slice_index roots v ≡ slice_index old v
  pub solved : (g : ℕ) → 0 < g → g < length t → mark_at l.hard.items g ≡ true → HasSolved t conjuncts l g (slice_index roots)
  pub final : AreFinal model t roots vs

-- a hard home has no solution, and all lower ones have
pub record OneFails (t : List Node) (conjuncts : List Conj) (l : Layout) (us : List Conj) : Type 0 where
  pub home : ℕ
  pub low : 0 < home
  pub inside : home < length t
  pub hard : mark_at l.hard.items home ≡ true
  pub none : HasNoSolution t conjuncts l home
  pub numbers : ℕ → ℕ
  pub earlier : (g : ℕ) → 0 < g → g < home → mark_at l.hard.items g ≡ true → HasSolved t conjuncts l g numbers
  pub selects : SelectsByHome (IsAtHome home) conjuncts l.homes.items us

abbrev pub IsSearched : List Node → List Conj → Layout → List Value → List ℕ → Decision → Type 0
IsSearched t conjuncts l model old (Found vs) = AllSolved t conjuncts l model old vs
IsSearched t conjuncts l model old Refuted = ⊥
IsSearched t conjuncts l model old (Undecided us) = OneFails t conjuncts l us
