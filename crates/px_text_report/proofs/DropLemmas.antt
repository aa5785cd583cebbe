-- Texts with their numbers, text by text.
use Rattle.std.proofs.Common.{◌≡◌, ℕ, List, [], ◌∷◌, ◌++◌, map, refl, sym, ap, ap₂, ◌∙◌, append_assoc}
use Rattle.std.proofs.lemmas.List.{map-append}
use Rattle.std.specs.Str.{bytes_eq}
use Rattle.px_base.specs.declared.trace.ProcId.{ProcId}
use Rattle.px_text_report.specs.declared.drops.Dropped.{Dropped}
use Rattle.px_text_report.specs.Firsts.{others}
use Rattle.px_text_report.specs.Drops.{counted}
use Rattle.px_text_report.proofs.FirstLemmas.{others-append}

abbrev pub causes : List Dropped → List (List ℕ)
causes counts = map (λ d. d.cause) counts

module _ (f : ProcId) (texts : List (List ℕ)) where
  abbrev pub count_all : List (List ℕ) → List Dropped
  count_all ts = map (counted f texts) ts

  abbrev pub added : List Dropped → List (List ℕ) → List Dropped
  added these ts = count_all (others bytes_eq (causes these) ts)

  same_causes : (ts : List (List ℕ)) → causes (count_all ts) ≡ ts
  same_causes [] = refl
  same_causes (t ∷ ts) = ap (λ z. t ∷ z) (same_causes ts)

  causes_added : (these new : List Dropped) (ts : List (List ℕ)) → new ≡ these ++ added these ts → causes new ≡ causes these ++ others bytes_eq (causes these) ts
  causes_added these new ts e =
      ap causes e ∙ map-append (λ d. d.cause) these (added these ts) ∙ ap (λ z. causes these ++ z) (same_causes (others bytes_eq (causes these) ts))

  -- those of one text more, after those that are there
  pub counts_more : (these new : List Dropped) (xs ys : List (List ℕ)) (all : List Dropped) → new ≡ these ++ added these xs → these ++ added these (xs ++ ys) ≡ all →
      new ++ added new ys ≡ all
  counts_more these new xs ys all e whole =
      let first = others bytes_eq (causes these) xs in
      let rest = others bytes_eq (causes these ++ first) ys in
      ap₂ (λ z w. z ++ count_all (others bytes_eq w ys)) e (causes_added these new xs e)
      ∙ append_assoc these (count_all first) (count_all rest)
      ∙ ap (λ z. these ++ z) (sym (map-append (counted f texts) first rest) ∙ ap count_all (sym (others-append bytes_eq (causes these) xs ys)))
      ∙ whole
