use Rattle.std.proofs.Common.{◌≡◌, ◌++◌, ◌&&◌, drop, nat_eq}
use Rattle.px_entry.specs.Cases.{numbers_of, may_be_at}
use Rattle.px_callgraph.specs.Accesses.{atom_ways}
use Rattle.px_ways.proofs.pointers.put_atoms.Given as goal

-- the ways so far, with those of the atoms from the i-th on
abbrev pub invariant-loop-i : goal.invariant-loop-i
invariant-loop-i l =
    l.found.items ++ atom_ways (numbers_of (λ n a. nat_eq a.block.0 l.block.0 && may_be_at l.vars l.place a) l.i (drop l.i l.atoms))
    ≡ l.fn.found.items ++ atom_ways (numbers_of (λ n a. nat_eq a.block.0 l.block.0 && may_be_at l.vars l.place a) 0 l.atoms)
