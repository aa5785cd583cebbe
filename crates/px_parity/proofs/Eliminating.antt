-- Rows of which each has a variable that no later one has.
use Rattle.std.proofs.Common.{◌≡◌, inl, inr, ℕ, zero, suc, ◌+◌, ◌<◌, List, [], ◌∷◌, ◌++◌, length, get_or, take, Bool, true, false, refl, sym, ap, subst, ◌∙◌, arith}
use Rattle.std.specs.Prelude.{All}
use Rattle.std.proofs.lemmas.Bool.{cases_Bool}
use Rattle.std.proofs.lemmas.List.Elements.{All-nil, All-cons, All-head, All-tail, All-append, All-more}
use Rattle.px_parity.specs.declared.elimination.Pivot.{Pivot}
use Rattle.px_parity.specs.declared.elimination.Mark.TheVariants.{Implied, Added, Refuted}
use Rattle.px_parity.specs.Bits.{bit_of, plus, parity}
use Rattle.px_parity.specs.Equations.{odd, columns, AreEven, IsPivot, IsCleared, IsTriangular, no_rows, row_before, AddsEquation}
use Rattle.px_parity.proofs.Lists.{split_last, take_but_last}
use Rattle.px_parity.proofs.Parities.{plus_false, first_parity, same_parity, sum_parity, turned, turned_parity, turned_first}

-- ---- the rows of a list

pub pivots : (ps : List Pivot) → IsTriangular ps → All IsPivot ps
pivots [] no_rows = All-nil IsPivot
pivots (p ∷ ps) (row_before h z t) = All-cons IsPivot p ps h (pivots ps t)

-- the leads of earlier rows aren't set in a row
earlier : (ps : List Pivot) (i : ℕ) (q : Pivot) → IsTriangular ps → i < length ps → q ≡ get_or ps i q → IsCleared q.row (take i ps)
earlier [] i q no_rows l e = absurd (omega arith)
earlier (p ∷ ps) zero q (row_before h z t) l e = All-nil (λ (r : Pivot). bit_of q.row r.lead ≡ false)
earlier (p ∷ ps) (suc i) q (row_before h z t) l e =
    All-cons (λ (r : Pivot). bit_of q.row r.lead ≡ false) p (take i ps)
    (subst (λ (r : Pivot). bit_of r.row p.lead ≡ false) (sym e) (z i q (omega arith)))
    (earlier ps i q t (omega arith) e)

pub pivot_at : (ps : List Pivot) (i : ℕ) (q : Pivot) → IsTriangular ps → i < length ps → q ≡ get_or ps i q → IsPivot q
pivot_at ps i q t l e = subst IsPivot (sym e) (pivots ps t i q l)

-- one row more is cleared
pub cleared_more : (ps : List Pivot) (i : ℕ) (q : Pivot) (old new : List Bool) → IsTriangular ps → i < length ps → q ≡ get_or ps i q
    → ((k : ℕ) → bit_of q.row k ≡ false → bit_of new k ≡ bit_of old k) → bit_of new q.lead ≡ false → IsCleared old (take i ps) → IsCleared new (take (i + 1) ps)
cleared_more ps i q old new t l e kept here h =
    All-more (λ (r : Pivot). bit_of new r.lead ≡ false) ps i q l
    (λ k d m. kept (get_or (take i ps) k d).lead (earlier ps i q t l e k d m) ∙ h k d m)
    (subst (λ (r : Pivot). bit_of new r.lead ≡ false) e here)

pub even_at : (w : ℕ → Bool) (ps : List Pivot) (i : ℕ) (q : Pivot) → i < length ps → q ≡ get_or ps i q → AreEven w ps → parity w q.row ≡ false
even_at w ps i q l e h = subst (λ (r : Pivot). parity w r.row ≡ false) (sym e) (h i q l)

-- a row that has the parity of another where a third is even
pub same_sum : (w : ℕ → Bool) (old row new : List Bool) → ((k : ℕ) → bit_of new k ≡ plus (bit_of old k) (bit_of row k)) → parity w row ≡ false → parity w new ≡ parity w old
same_sum w old row new h z = sum_parity w old row new h ∙ ap (plus (parity w old)) z ∙ plus_false (parity w old)

-- ---- one row more

triangular_more : (ps : List Pivot) (p : Pivot) → IsTriangular ps → IsPivot p → IsCleared p.row ps → IsTriangular (ps ++ p ∷ [])
triangular_more [] p no_rows g h = row_before g (All-nil (λ (q : Pivot). bit_of q.row p.lead ≡ false)) no_rows
triangular_more (q ∷ ps) p (row_before k z t) g h =
    row_before k
    (All-append (λ (r : Pivot). bit_of r.row q.lead ≡ false) ps (p ∷ []) z
    (All-cons (λ (r : Pivot). bit_of r.row q.lead ≡ false) p [] (All-head (λ (r : Pivot). bit_of p.row r.lead ≡ false) q ps h) (All-nil (λ (r : Pivot). bit_of r.row q.lead ≡ false))))
    (triangular_more ps p t g (All-tail (λ (r : Pivot). bit_of p.row r.lead ≡ false) q ps h))

-- what an equation was reduced to has its parity
pub reduced_parity : (ps qs : List Pivot) (rest row : List Bool) → qs ≡ ps → ((w : ℕ → Bool) → AreEven w qs → parity w rest ≡ parity w row)
    → (v : ℕ → ℕ) → AreEven (columns v) ps → parity (columns v) rest ≡ parity (columns v) row
reduced_parity ps qs rest row e same v h = same (columns v) (subst (AreEven (columns v)) (sym e) h)

module _ (ps : List Pivot) (rest row : List Bool) (same : (v : ℕ → ℕ) → AreEven (columns v) ps → parity (columns v) rest ≡ parity (columns v) row) where
  abbrev IsEven : (ℕ → ℕ) → Type 0
  IsEven v = parity (columns v) row ≡ false

  -- the row with its lead
  pub added : (lead : ℕ) (new : List Pivot) → new ≡ ps ++ record { row = rest; lead = lead } ∷ [] → IsTriangular ps → IsPivot (record { row = rest; lead = lead }) → IsCleared rest ps
      → AddsEquation Added ps new IsEven
  added lead new e t g h =
      let p : Pivot = record { row = rest; lead = lead } in
      subst (λ z. AddsEquation Added ps z IsEven) (sym e) (
        triangular_more ps p t g h,
        take_but_last ps p,
        λ v. (
          λ a. let (b, c) = split_last (λ (q : Pivot). parity (columns v) q.row ≡ false) ps p a in (b, sym (same v b) ∙ c),
          λ (a, b). All-append (λ (q : Pivot). parity (columns v) q.row ≡ false) ps (p ∷ []) a
              (All-cons (λ (q : Pivot). parity (columns v) q.row ≡ false) p [] (same v a ∙ b) (All-nil (λ (q : Pivot). parity (columns v) q.row ≡ false))),
        ),
      )

  -- a row of which no variable is left is its bit 0
  pub implied : (new : List Pivot) → new ≡ ps → ((k : ℕ) → 0 < k → bit_of rest k ≡ false) → bit_of rest 0 ≡ false → AddsEquation Implied ps new IsEven
  implied new e none z = (e, λ v h. sym (same v h) ∙ first_parity (columns v) rest none refl ∙ z)

  pub contradicted : (new : List Pivot) → new ≡ ps → ((k : ℕ) → 0 < k → bit_of rest k ≡ false) → bit_of rest 0 ≡ true → AddsEquation Refuted ps new IsEven
  contradicted new e none o = (e, λ v h even. (let f = sym o ∙ sym (first_parity (columns v) rest none refl) ∙ same v h ∙ even in cc))

-- ---- a solution

-- from the last row on, each lead takes the value that makes its row even
solve : (ps : List Pivot) → IsTriangular ps → (w : ℕ → Bool) × (w 0 ≡ true) × AreEven w ps
solve [] no_rows = (λ k. true, refl, All-nil (λ (p : Pivot). parity (λ k. true) p.row ≡ false))
solve (p ∷ ps) (row_before h z t) =
    let (w, first, even) = solve ps t in
    elim (cases_Bool (parity w p.row)) [
      | inl o ↦ (
        turned w p.lead,
        turned_first w p.lead h.variable ∙ first,
        All-cons (λ (q : Pivot). parity (turned w p.lead) q.row ≡ false) p ps
            (turned_parity w p.lead p.row ∙ ap (λ b. plus b (bit_of p.row p.lead)) o ∙ ap (plus true) h.is_set)
            (λ k d l. turned_parity w p.lead (get_or ps k d).row ∙ ap (plus (parity w (get_or ps k d).row)) (z k d l) ∙ plus_false (parity w (get_or ps k d).row) ∙ even k d l),
      )
      | inr e ↦ (w, first, All-cons (λ (q : Pivot). parity w q.row ≡ false) p ps e even)
    ]

abbrev number : Bool → ℕ
number false = 0
number true = 1

odd_number : (b : Bool) → odd (number b) ≡ b
odd_number false = refl
odd_number true = refl

columns_of : (w : ℕ → Bool) → w 0 ≡ true → (k : ℕ) → w k ≡ columns (λ x. number (w (suc x))) k
columns_of w e zero = e
columns_of w e (suc x) = sym (odd_number (w (suc x)))

pub solution : (ps : List Pivot) → IsTriangular ps → (v : ℕ → ℕ) × AreEven (columns v) ps
solution ps t =
    let (w, first, even) = solve ps t in (
      λ x. number (w (suc x)),
      λ k d l. sym (same_parity w (columns (λ x. number (w (suc x)))) (get_or ps k d).row (columns_of w first)) ∙ even k d l,
    )
