use Rattle.std.proofs.Common.{◌≡◌, ◌++◌, false, not, ◌&&◌, slice_index_or}
use Rattle.px_entry.specs.Cases.{numbers_of, atom_cases, is_match}
use Rattle.px_match.proofs.CaseLemmas.{cases_from}
use Rattle.px_match.proofs.matching.cases.Given as goal

abbrev pub invariant-loop-i : goal.invariant-loop-i
invariant-loop-i l =
    l.found.items ++ cases_from (λ n a. not (slice_index_or l.used n false) && is_match l.vars l.place l.block l.freed a) l.i l.atoms
    ≡ atom_cases (numbers_of (λ n a. not (slice_index_or l.used n false) && is_match l.vars l.place l.block l.freed a) 0 l.atoms)
