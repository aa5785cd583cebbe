-- The procedures that commands call, as a list.
use Rattle.std.proofs.Common.{◌↔◌, ◌⊎◌, inl, inr, ℕ, List, [], ◌++◌, sym, arith}
use Rattle.std.specs.Prelude.{Contains}
use Rattle.std.proofs.lemmas.List.Elements.{Contains-append_left, Contains-append_right, Contains-append_cases}
use Rattle.px_core.specs.CommandTree.{CommandTree, CommandTrees, assign, unset, read, test, choose, loop, leave, load, store, malloc, free, input, call, return, break, continue, stop, no_commands, a_command, divide}
use Rattle.px_callgraph.specs.Callees.{Names, NamedIn}
use Rattle.px_callgraph.specs.NameLists.{names_of, names_in}
use Rattle.px_callgraph.proofs.Gaining.{contains_one}

abbrev In : ℕ → List ℕ → Type 0
In f names = Contains names f

none : (f : ℕ) → In f [] → ⊥
none f (k, l, e) = omega arith

in_both : {P Q : Type 0} (f : ℕ) (xs ys : List ℕ) → (In f xs ↔ P) → (In f ys ↔ Q) → In f (xs ++ ys) ↔ (P ⊎ Q)
in_both f xs ys h k = (
  λ c. elim (Contains-append_cases xs ys f c) [ inl p ↦ inl (h.0 p) | inr q ↦ inr (k.0 q) ],
  λ e. elim e [ inl p ↦ Contains-append_left xs ys f (h.1 p) | inr q ↦ Contains-append_right xs ys f (k.1 q) ],
)

mutual
  names_listed : (f : ℕ) (c : CommandTree) → In f (names_of c) ↔ Names f c
  names_listed f (choose slot first second) = in_both f (names_in first) (names_in second) (all_listed f first) (all_listed f second)
  names_listed f (loop site head body step) = in_both f (names_in head) (names_in body ++ names_in step) (all_listed f head) (in_both f (names_in body) (names_in step) (all_listed f body) (all_listed f step))
  names_listed f (call to proc arguments site) = (λ c. sym ((contains_one proc.0 f).0 c), λ e. (contains_one proc.0 f).1 (sym e))
  names_listed f (assign to op a b) = (none f, λ h. absurd h)
  names_listed f (unset to) = (none f, λ h. absurd h)
  names_listed f (read slot site) = (none f, λ h. absurd h)
  names_listed f (test to how a b site) = (none f, λ h. absurd h)
  names_listed f leave = (none f, λ h. absurd h)
  names_listed f (load to at field block site) = (none f, λ h. absurd h)
  names_listed f (store at field block from site) = (none f, λ h. absurd h)
  names_listed f (malloc to block site) = (none f, λ h. absurd h)
  names_listed f (free at block site) = (none f, λ h. absurd h)
  names_listed f (input to site) = (none f, λ h. absurd h)
  names_listed f (return from) = (none f, λ h. absurd h)
  names_listed f break = (none f, λ h. absurd h)
  names_listed f continue = (none f, λ h. absurd h)
  names_listed f (stop word site) = (none f, λ h. absurd h)
  names_listed f (divide to a b site) = (none f, λ h. absurd h)

  pub all_listed : (f : ℕ) (cs : CommandTrees) → In f (names_in cs) ↔ NamedIn f cs
  all_listed f no_commands = (none f, λ h. absurd h)
  all_listed f (a_command c rest) = in_both f (names_of c) (names_in rest) (names_listed f c) (all_listed f rest)
