use Rattle.std.proofs.Common.{◌≡◌, ◌++◌, drop, map}
use Rattle.px_entry.specs.declared.atoms.Atom.{Atom}
use Rattle.px_entry.specs.Constraint.{made_atoms}
use Rattle.px_regular.proofs.blocks.made_places.Given as goal

-- the places so far, with those of what is left
abbrev pub invariant-loop-atom : goal.invariant-loop-atom
invariant-loop-atom l =
    l.places.items ++ map (λ (a : Atom). a.place.0) (made_atoms l.vars (drop l.atom-index l.atoms))
    ≡ map (λ (a : Atom). a.place.0) (made_atoms l.vars l.atoms)
