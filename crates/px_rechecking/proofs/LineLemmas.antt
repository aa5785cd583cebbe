-- The line after a report, put together of its parts.
use Rattle.std.proofs.Common.{◌≡◌, ◌∙◌, ℕ, ◌-◌, List, [], ◌++◌, ap, ap₂, append_assoc}
use Rattle.std.specs.Prelude.{codes}
use Rattle.std.specs.Fmt.{decimal}
use Rattle.px_lines.specs.Lines.{line_feed}
use Rattle.px_rechecking.specs.Lines.{stats_line, bad_item_text}

regrouped : (w x p y f : List ℕ) → (((w ++ x) ++ p) ++ y) ++ f ≡ w ++ (x ++ (p ++ (y ++ f)))
regrouped w x p y f = append_assoc ((w ++ x) ++ p) y f ∙ append_assoc (w ++ x) p (y ++ f) ∙ append_assoc w x (p ++ (y ++ f))

module _ (used tables rest : ℕ) (l₀ l₁ l₂ l₃ l₄ l₅ : List ℕ) where
  pub line_put : rest ≡ tables - used → l₀ ≡ [] → l₁ ≡ l₀ ++ codes "summaries kept " → l₂ ≡ l₁ ++ decimal used → l₃ ≡ l₂ ++ codes ", computed " → l₄ ≡ l₃ ++ decimal rest → l₅ ≡ l₄ ++ line_feed →
      l₅ ≡ stats_line used tables
  line_put r e₀ e₁ e₂ e₃ e₄ e₅ =
      e₅ ∙ ap (λ z. z ++ line_feed) (e₄ ∙ ap₂ (λ z n. z ++ decimal n) (e₃ ∙ ap (λ z. z ++ codes ", computed ") (e₂ ∙ ap (λ z. z ++ decimal used) (e₁ ∙ ap (λ z. z ++ codes "summaries kept ") e₀))) r)
      ∙ regrouped (codes "summaries kept ") (decimal used) (codes ", computed ") (decimal (tables - used)) line_feed

module _ (place : ℕ) (l₀ l₁ l₂ l₃ : List ℕ) where
  pub text_put : l₀ ≡ [] → l₁ ≡ l₀ ++ codes ": bad item at byte " → l₂ ≡ l₁ ++ decimal place → l₃ ≡ l₂ ++ line_feed → l₃ ≡ bad_item_text place
  text_put e₀ e₁ e₂ e₃ =
      e₃ ∙ ap (λ z. z ++ line_feed) (e₂ ∙ ap (λ z. z ++ decimal place) (e₁ ∙ ap (λ z. z ++ codes ": bad item at byte ") e₀))
      ∙ append_assoc (codes ": bad item at byte ") (decimal place) line_feed
