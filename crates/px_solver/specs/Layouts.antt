-- Where components lie, and what it means that they are solved.
use Rattle.std.specs.Prelude.{◌≡◌, ℕ, Bool, false, List, cond, nat_eq, length, slice_index_or}
use Rattle.px_terms.specs.declared.conjuncts.Conj.{Conj}
use Rattle.px_plain.specs.declared.nodes.Node.{Node}
use Rattle.px_solver.specs.declared.solving.Layout.{Layout}
use Rattle.px_solver.specs.Tables.{AreNext, AreFirst, places_of, IsSolved, HasFailed}

abbrev pub mark_at : List Bool → ℕ → Bool
mark_at marks h = slice_index_or marks h false

-- the chains are those of the homes, and homes are nodes
pub record IsLayout (t : List Node) (conjuncts : List Conj) (l : Layout) : Type 0 where
  pub size : length l.homes.items ≡ length conjuncts
  pub next : AreNext l.homes.items 0 l.places.next.items
  pub first : AreFirst l.homes.items 0 (length t) l.places.first.items
  pub node_size : length l.node_homes.items ≡ length t
  pub node_next : AreNext l.node_homes.items 0 l.nodes.next.items
  pub node_first : AreFirst l.node_homes.items 0 (length t) l.nodes.first.items
  pub hard : length l.hard.items ≡ length t

-- the numbers solve the component of a home
pub record HasSolved (t : List Node) (conjuncts : List Conj) (l : Layout) (home : ℕ) (numbers : ℕ → ℕ) : Type 0 where
  pub base : ℕ → ℕ
  pub zero : base 0 ≡ 0
  pub solved : IsSolved t conjuncts (places_of home l.homes.items) base (places_of home l.node_homes.items) numbers

-- nothing solves it
pub record HasNoSolution (t : List Node) (conjuncts : List Conj) (l : Layout) (home : ℕ) : Type 0 where
  pub base : ℕ → ℕ
  pub zero : base 0 ≡ 0
  pub failed : HasFailed t conjuncts (places_of home l.homes.items) base (places_of home l.node_homes.items)

-- the home, or the number of all homes where it is 0
abbrev pub stop_at : ℕ → ℕ → ℕ
stop_at h n = cond (nat_eq h 0) n h
