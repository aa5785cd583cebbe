-- What is still to be gathered from a stack of places, of which the last comes first.
use Rattle.std.proofs.Common.{◌≡◌, suc, ◌<◌, List, [], ◌∷◌, ◌++◌, length, map, reverse, ap, sym, ◌∙◌, arith, append_assoc}
use Rattle.std.specs.Prelude.{flat_map}
use Rattle.std.proofs.lemmas.List.{map-append, reverse-append, reverse-reverse}
use Rattle.std.proofs.lemmas.Grind.{flat_map-append}
use Rattle.px_callgraph.specs.declared.states.Alternative.{Alternative}
use Rattle.px_callgraph.specs.JobTree.{JobTree}
use Rattle.px_callgraph.specs.Alternatives.{Leads}
use Rattle.px_callgraph.specs.declared.outcomes.StepOutcome.{StepOutcome}
use Rattle.px_walks.specs.declared.walk.Walk.{Walk}
use Rattle.px_walks.specs.Walks.{leads_of}
use Rattle.px_symexec.specs.Ends.{end_at, places_after, gathered}
use Rattle.px_symexec.proofs.EndLemmas.{gathered_at}

abbrev pub gathered_from : {A : Type 0} → (Leads → List A) → JobTree → List Leads → List A
gathered_from give j stack = flat_map (gathered give j) (reverse stack)

-- the last place is taken off, and those after it are put there
taken_up : {A : Type 0} (give : Leads → List A) (j : JobTree) (front : List Leads) (here : Leads) →
    gathered_from give j (front ++ here ∷ []) ≡ give here ++ gathered_from give j (front ++ reverse (places_after j here))
taken_up give j front here =
    let behind = places_after j here in
    ap (flat_map (gathered give j)) (reverse-append front (here ∷ []))
    ∙ ap (λ xs. xs ++ flat_map (gathered give j) (reverse front)) (gathered_at give j here)
    ∙ append_assoc (give here) (flat_map (gathered give j) behind) (flat_map (gathered give j) (reverse front))
    ∙ ap (λ xs. give here ++ xs) (sym (flat_map-append (gathered give j) behind (reverse front)))
    ∙ ap (λ xs. give here ++ flat_map (gathered give j) xs) (sym (reverse-append front (reverse behind) ∙ ap (λ xs. xs ++ reverse front) (reverse-reverse behind)))

abbrev pub places_from : JobTree → List Leads → List Leads
places_from = gathered_from (λ a. a ∷ [])

pub fewer : (j : JobTree) (old front new : List Leads) (here : Leads) → old ≡ front ++ here ∷ [] → new ≡ front ++ reverse (places_after j here) →
    length (places_from j new) < length (places_from j old)
fewer j old front new here e f =
    let g : places_from j old ≡ here ∷ places_from j (front ++ reverse (places_after j here)) = ap (places_from j) e ∙ taken_up (λ a. a ∷ []) j front here in
    let h : length (places_from j old) ≡ suc (length (places_from j new)) = ap length (g ∙ ap (λ xs. here ∷ places_from j xs) (sym f)) in
    omega (arith, h)

abbrev pub ends_from : JobTree → List Leads → List Alternative
ends_from = gathered_from end_at

pub goes_on : (j : JobTree) (old front new : List Leads) (here : Leads) (found found' all : List Alternative) → old ≡ front ++ here ∷ [] → new ≡ front ++ reverse (places_after j here) →
    found' ≡ found ++ end_at here → found ++ ends_from j old ≡ all → found' ++ ends_from j new ≡ all
goes_on j old front new here found found' all e f g h =
    ap (λ xs. xs ++ ends_from j new) g ∙ append_assoc found (end_at here) (ends_from j new)
    ∙ ap (λ xs. found ++ xs) (ap (λ xs. end_at here ++ ends_from j xs) f ∙ sym (taken_up end_at j front here) ∙ ap (ends_from j) (sym e)) ∙ h

-- the stack after a push, and before a pop
pub pushed : (stack stack' : List (StepOutcome Walk)) (to : StepOutcome Walk) (before : List Leads) (here : Leads) → stack' ≡ stack ++ to ∷ [] → leads_of to ≡ here → map leads_of stack ≡ before → map leads_of stack' ≡ before ++ here ∷ []
pushed stack stack' to before here e f g =
    ap (map leads_of) e ∙ map-append leads_of stack (to ∷ []) ∙ ap (λ xs. xs ++ leads_of to ∷ []) g ∙ ap (λ x. before ++ x ∷ []) f
