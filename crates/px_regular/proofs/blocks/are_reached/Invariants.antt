use Rattle.std.proofs.Common.{◌≡◌, ◌++◌, ◌&&◌, ℕ, List, Bool, [], drop}
use Rattle.px_terms.specs.declared.variables.VarInfo.{VarInfo}
use Rattle.px_entry.specs.declared.atoms.Atom.{Atom}
use Rattle.px_entry.specs.Regular.{are_reached, cells_of}
use Rattle.px_regular.proofs.blocks.are_reached.Given as goal

-- the cells so far, with those of what is left; and what is left is reached where all are
pub record Reaches (vars : List VarInfo) (reached : Bool) (cells : List ℕ) (rest all : List Atom) : Type 0 where
  pub is_reached : (reached && are_reached vars cells rest) ≡ are_reached vars [] all
  pub are_cells : cells ++ cells_of rest ≡ cells_of all

abbrev pub invariant-loop-atom : goal.invariant-loop-atom
invariant-loop-atom l = Reaches l.vars l.reached l.cells.items (drop l.atom-index l.atoms) l.atoms
