-- The choices of the last step.
use Rattle.std.proofs.Common.{◌≡◌, ℕ, List, [], ◌∷◌, ◌++◌, refl, ap}
use Rattle.px_entry.specs.declared.derivations.Step.{Step}
use Rattle.px_explore.specs.Taken.{with_choice}

pub choice_last : (n : ℕ) (before : List Step) (st : Step) → with_choice n (before ++ st ∷ []) ≡ before ++ record { rule = st.rule; choices = st.choices ++ n ∷ [] } ∷ []
choice_last n [] st = refl
choice_last n (x ∷ []) st = refl
choice_last n (x ∷ y ∷ before) st = ap (λ z. x ∷ z) (choice_last n (y ∷ before) st)
