-- What bodies of calls call is named.
use Rattle.std.proofs.Common.{◌≡◌, ◌&&◌, ℕ, ◌<◌, Bool, true, false, List, [], ◌∷◌, zero, suc, refl, sym, subst, inl, inr}
use Rattle.std.specs.Prelude.{nat_lt}
use Rattle.std.specs.List.{list_all}
use Rattle.std.proofs.lemmas.Bool.{and_parts, ltb-true}
use Rattle.px_core.specs.declared.body.Body.{Body}
use Rattle.px_core.specs.CommandTree.{CommandTree, CommandTrees, assign, unset, read, test, choose, loop, leave, load, store, malloc, free, input, call, return, break, continue, stop, no_commands, a_command, divide}
use Rattle.px_core.specs.BodyTree.{body_tree}
use Rattle.px_callgraph.specs.Callees.{Names, NamedIn, IsCallee}
use Rattle.px_callgraph.specs.CallGraphs.{bodies_in}
use Rattle.book_cases.specs.Calls.{is_call, are_calls, is_body_of_calls}

named_below : (names g : ℕ) (c : CommandTree) → is_call names c ≡ true → Names g c → g < names
named_below names g (call to proc arguments site) h k = subst (λ (m : ℕ). m < names) k (ltb-true proc.0 names h)
named_below names g (choose slot first second) h k = cc
named_below names g (loop site head body step) h k = cc
named_below names g (assign to op a b) h k = absurd k
named_below names g (unset to) h k = absurd k
named_below names g (read slot site) h k = absurd k
named_below names g (test to how a b site) h k = absurd k
named_below names g leave h k = absurd k
named_below names g (load to at field block site) h k = absurd k
named_below names g (store at field block from site) h k = absurd k
named_below names g (malloc to block site) h k = absurd k
named_below names g (free at block site) h k = absurd k
named_below names g (input to site) h k = absurd k
named_below names g (return from) h k = absurd k
named_below names g break h k = absurd k
named_below names g continue h k = absurd k
named_below names g (stop word site) h k = absurd k
named_below names g (divide to a b site) h k = absurd k

all_below : (names g : ℕ) (cs : CommandTrees) → are_calls names cs ≡ true → NamedIn g cs → g < names
all_below names g no_commands h k = absurd k
all_below names g (a_command c rest) h k = let b = and_parts (is_call names c) (are_calls names rest) h in
    elim k [ inl l ↦ named_below names g c b.0 l | inr r ↦ all_below names g rest b.1 r ]

pub callees_below : (names : ℕ) (bodies : List Body) → list_all (is_body_of_calls names) bodies ≡ true → (f g : ℕ) → IsCallee (bodies_in bodies) f g → g < names
callees_below names [] h f g k = absurd k
callees_below names (b ∷ bodies) h zero g k = all_below names g (body_tree b).commands (and_parts (is_body_of_calls names b) (list_all (is_body_of_calls names) bodies) h).0 k
callees_below names (b ∷ bodies) h (suc f) g k = callees_below names bodies (and_parts (is_body_of_calls names b) (list_all (is_body_of_calls names) bodies) h).1 f g k
