-- The line of `--stats`, put together of its parts.
use Rattle.std.proofs.Common.{◌≡◌, ◌∙◌, ℕ, List, [], ◌++◌, ap, ap₂, append_assoc}
use Rattle.std.specs.Prelude.{codes}
use Rattle.std.specs.Fmt.{decimal}
use Rattle.px_lines.specs.Lines.{line_feed}
use Rattle.px_pieces.specs.declared.desk.Event.{Event}
use Rattle.px_book.specs.Tallies.{losses}
use Rattle.px_pooled.specs.Words.{of_workers, of_parent}
use Rattle.px_checking.specs.Stats.{stats_line}

regrouped : (w x p y l z f : List ℕ) → (((((w ++ x) ++ p) ++ y) ++ l) ++ z) ++ f ≡ w ++ (x ++ (p ++ (y ++ (l ++ (z ++ f)))))
regrouped w x p y l z f =
    append_assoc ((((w ++ x) ++ p) ++ y) ++ l) z f
    ∙ append_assoc (((w ++ x) ++ p) ++ y) l (z ++ f)
    ∙ append_assoc ((w ++ x) ++ p) y (l ++ (z ++ f))
    ∙ append_assoc (w ++ x) p (y ++ (l ++ (z ++ f)))
    ∙ append_assoc w x (p ++ (y ++ (l ++ (z ++ f))))

module _ (h : List Event) (by_workers by_parent lost : ℕ) (l₀ l₁ l₂ l₃ l₄ l₅ l₆ l₇ : List ℕ) where
  pub put_together : by_workers ≡ of_workers h → by_parent ≡ of_parent h → lost ≡ losses h → l₀ ≡ []
      → l₁ ≡ l₀ ++ codes "workers published " → l₂ ≡ l₁ ++ decimal by_workers → l₃ ≡ l₂ ++ codes ", parent published " → l₄ ≡ l₃ ++ decimal by_parent
      → l₅ ≡ l₄ ++ codes ", lost " → l₆ ≡ l₅ ++ decimal lost → l₇ ≡ l₆ ++ line_feed → l₇ ≡ stats_line h
  put_together w p l e₀ e₁ e₂ e₃ e₄ e₅ e₆ e₇ =
      e₇ ∙ ap (λ z. z ++ line_feed) (e₆ ∙ ap₂ (λ z n. z ++ decimal n) (e₅ ∙ ap (λ z. z ++ codes ", lost ") (e₄ ∙ ap₂ (λ z n. z ++ decimal n)
      (e₃ ∙ ap (λ z. z ++ codes ", parent published ") (e₂ ∙ ap₂ (λ z n. z ++ decimal n) (e₁ ∙ ap (λ z. z ++ codes "workers published ") e₀) w)) p)) l)
      ∙ regrouped (codes "workers published ") (decimal (of_workers h)) (codes ", parent published ") (decimal (of_parent h)) (codes ", lost ") (decimal (losses h)) line_feed
