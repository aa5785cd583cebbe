-- Where a string or a character ends.
use Rattle.std.proofs.Common.{◌≡◌, ◌≢◌, ◌==◌, ℕ, suc, Bool, true, false, cond, List, [], ◌∷◌, ◌++◌, length, Some, None, refl, sym, ap, ap₂, ◌∙◌, inl, inr}
use Rattle.std.proofs.lemmas.Bool.{eqb-true, eqb-false, eq-eqb, ne_eqb}
use Rattle.px_lexer.specs.Scanning.{one_more}
use Rattle.px_lexer.proofs.RunLemmas.{chosen}
use Rattle.px_lexer.proofs.QuoteLemmas.{one_more_is}
use Rattle.px_real_tokens.specs.Spelling.{IsQuotable, nothing, plain, escaped}
use Rattle.px_real_tokens.specs.Scanning.{quote_end}

pub quote_found : (q : ℕ) (body r : List ℕ) → q ≢ 10 → q ≢ 92 → IsQuotable q body → quote_end q false (body ++ q ∷ r) ≡ Some (suc (length body))
unfolding quote_end
quote_found q body r no_feed no_slash (nothing parts) =
    rw (parts, ne_eqb q 10 no_feed, eq-eqb q q refl) refl
quote_found q body r no_feed no_slash (plain {b = b} {bs = bs} no_quote no_escape no_end k parts) =
    rw (parts, ne_eqb b 10 no_end, ne_eqb b q no_quote, ne_eqb b 92 no_escape, quote_found q bs r no_feed no_slash k) refl
quote_found q body r no_feed no_slash (escaped {b = b} {bs = bs} k parts) =
    rw (parts, ne_eqb 92 q (λ e. no_slash (sym e)), quote_found q bs r no_feed no_slash k) refl

-- what stands up to the closing quote, where the first byte of it is escaped or isn't
data IsInside (q : ℕ) : Bool → List ℕ → Type 0 where
  unescaped : {f : List ℕ} → IsQuotable q f → IsInside q false f
  after_escape : {b : ℕ} {bs f : List ℕ} → IsQuotable q bs → f ≡ b ∷ bs → IsInside q true f

record Inside (q : ℕ) (esc : Bool) (bs : List ℕ) (n : ℕ) : Type 0 where
  body : List ℕ
  rest : List ℕ
  parts : bs ≡ body ++ q ∷ rest
  inside : IsInside q esc body
  count : n ≡ suc (length body)

after_plain : (q b : ℕ) (body : List ℕ) (esc : Bool) → (b == 92) ≡ esc → (b == 10) ≡ false → (b == q) ≡ false → IsInside q esc body → IsInside q false (b ∷ body)
after_plain q b body esc h no_end no_quote (unescaped k) = unescaped (plain (eqb-false b q no_quote) (eqb-false b 92 h) (eqb-false b 10 no_end) k refl)
after_plain q b body esc h no_end no_quote (after_escape {b = c} {bs = bs} k parts) = unescaped (escaped k (ap₂ (λ x y. x ∷ y) (eqb-true b 92 h) parts))

is_open : (q : ℕ) (body : List ℕ) (esc : Bool) → esc ≡ false → IsInside q esc body → IsQuotable q body
is_open q body esc h (unescaped k) = k
is_open q body esc h (after_escape k parts) = absurd cc

inside_sound : (q : ℕ) (esc : Bool) (bs : List ℕ) (n : ℕ) → quote_end q esc bs ≡ Some n → Inside q esc bs n
unfolding quote_end
inside_sound q esc [] n e = absurd cc
inside_sound q true (b ∷ bs) n e =
    let o = one_more_is (quote_end q false bs) n e in
    let v = inside_sound q false bs o.0 o.1 in
    record {
      body = b ∷ v.body;
      rest = v.rest;
      parts = ap (λ z. b ∷ z) v.parts;
      inside = after_escape (is_open q v.body false refl v.inside) refl;
      count = o.2 ∙ ap suc v.count;
    }
inside_sound q false (b ∷ bs) n e =
    elim (chosen (b == 10) None (cond (b == q) (Some 1) (one_more (quote_end q (b == 92) bs))) (Some n) e) [
      | inl w ↦ absurd (let z = w.1 in cc)
      | inr w ↦
          elim (chosen (b == q) (Some 1) (one_more (quote_end q (b == 92) bs)) (Some n) w.1) [
            | inl u ↦ record {
              body = [];
              rest = bs;
              parts = ap (λ z. z ∷ bs) (eqb-true b q u.0);
              inside = unescaped (nothing refl);
              count = let z = u.1 in cc;
            }
            | inr u ↦
                let o = one_more_is (quote_end q (b == 92) bs) n u.1 in
                let v = inside_sound q (b == 92) bs o.0 o.1 in
                record {
                  body = b ∷ v.body;
                  rest = v.rest;
                  parts = ap (λ z. b ∷ z) v.parts;
                  inside = after_plain q b v.body (b == 92) refl w.0 u.0 v.inside;
                  count = o.2 ∙ ap suc v.count;
                }
          ]
    ]

-- what the closing quote stands behind
pub record Closes (q : ℕ) (bs : List ℕ) (n : ℕ) : Type 0 where
  pub body : List ℕ
  pub rest : List ℕ
  pub parts : bs ≡ body ++ q ∷ rest
  pub quotable : IsQuotable q body
  pub count : n ≡ suc (length body)

pub quote_sound : (q : ℕ) (bs : List ℕ) (n : ℕ) → quote_end q false bs ≡ Some n → Closes q bs n
quote_sound q bs n e =
    let v = inside_sound q false bs n e in
    record { body = v.body; rest = v.rest; parts = v.parts; quotable = is_open q v.body false refl v.inside; count = v.count }
