-- The place after more bytes of a file comes later.
use Rattle.std.proofs.Common.{◌≡◌, ◌∙◌, ◌⊎◌, inl, inr, ℕ, zero, suc, ◌+◌, ◌<◌, ◌≤◌, Bool, true, false, not, cond, List, [], ◌∷◌, ◌++◌, length, take, nat_eq, nat_lt, if◌then◌else◌, append_assoc, refl, sym, ap, subst, arith}
use Rattle.std.specs.Prelude.{count_by}
use Rattle.std.specs.List.{prefix_len, suffix_len}
use Rattle.std.proofs.lemmas.Bool.{eq-eqb, eqb-true, lt-ltb}
use Rattle.std.proofs.lemmas.List.{reverse-append}
use Rattle.std.proofs.lemmas.List.Sums.{sum_by_push}
use Rattle.px_base.specs.declared.trace.Site.{Site}
use Rattle.px_lexer.specs.Bytes.{is_line_feed, is_line_byte}
use Rattle.px_lexer.specs.Tokens.{site_of}
use Rattle.px_text_report.specs.Places.{comes_before}

-- ---- lines and columns

-- on an earlier line, or on the same one further to the left
abbrev IsEarlier : Site → Site → Type 0
IsEarlier a b = (a.line < b.line) ⊎ ((a.line ≡ b.line) × (a.column < b.column))

earlier_trans : (a b c : Site) → IsEarlier a b → IsEarlier b c → IsEarlier a c
earlier_trans a b c (inl h) (inl k) = inl (omega (arith, h, k))
earlier_trans a b c (inl h) (inr k) = inl (omega (arith, h, k.0))
earlier_trans a b c (inr h) (inl k) = inl (omega (arith, h.0, k))
earlier_trans a b c (inr h) (inr k) = inr (h.0 ∙ k.0, omega (arith, h.1, k.1))

earlier_comes_before : (a b : Site) → a.file ≡ b.file → IsEarlier a b → comes_before a b ≡ true
earlier_comes_before a b file h =
    ap (λ t. if t then (if nat_eq a.line b.line then nat_lt a.column b.column else nat_lt a.line b.line) else nat_lt a.file b.file) (eq-eqb a.file b.file file)
    ∙ by (nat_eq a.line b.line) refl h
  where
    by : (t : Bool) → nat_eq a.line b.line ≡ t → IsEarlier a b → (if t then nat_lt a.column b.column else nat_lt a.line b.line) ≡ true
    by true e (inl k) = absurd (let same : a.line ≡ b.line = eqb-true a.line b.line e in omega (arith, same, k))
    by true e (inr k) = lt-ltb a.column b.column k.1
    by false e (inl k) = lt-ltb a.line b.line k
    by false e (inr k) = absurd (let t : true ≡ false = sym (eq-eqb a.line b.line k.0) ∙ e in cc)

-- ---- bytes

-- one byte more
step : (file : ℕ) (before : List ℕ) (b : ℕ) → IsEarlier (site_of file before) (site_of file (before ++ b ∷ []))
step file before b = by (is_line_feed b) refl
  where
    feeds : count_by is_line_feed (before ++ b ∷ []) ≡ count_by is_line_feed before + cond (is_line_feed b) 1 0
    feeds = sum_by_push (λ x. cond (is_line_feed x) 1 0) before b

    column : suffix_len is_line_byte (before ++ b ∷ []) ≡ cond (not (is_line_feed b)) (1 + suffix_len is_line_byte before) 0
    column = ap (prefix_len is_line_byte) (reverse-append before (b ∷ []))

    by : (t : Bool) → is_line_feed b ≡ t → IsEarlier (site_of file before) (site_of file (before ++ b ∷ []))
    by true e = let more : count_by is_line_feed (before ++ b ∷ []) ≡ count_by is_line_feed before + 1 = feeds ∙ ap (λ t. count_by is_line_feed before + cond t 1 0) e in inl (omega (arith, more))
    by false e =
        let same : count_by is_line_feed (before ++ b ∷ []) ≡ count_by is_line_feed before + 0 = feeds ∙ ap (λ t. count_by is_line_feed before + cond t 1 0) e in
        let right : suffix_len is_line_byte (before ++ b ∷ []) ≡ 1 + suffix_len is_line_byte before = column ∙ ap (λ t. cond (not t) (1 + suffix_len is_line_byte before) 0) e in
        inr (omega (arith, same), omega (arith, right))

further : (file : ℕ) (before : List ℕ) (b : ℕ) (more : List ℕ) → IsEarlier (site_of file before) (site_of file (before ++ b ∷ more))
further file before b [] = step file before b
further file before b (c ∷ more) =
    earlier_trans (site_of file before) (site_of file (before ++ b ∷ [])) (site_of file (before ++ b ∷ c ∷ more)) (step file before b)
    (subst (λ bytes. IsEarlier (site_of file (before ++ b ∷ [])) (site_of file bytes)) (append_assoc before (b ∷ []) (c ∷ more)) (further file (before ++ b ∷ []) c more))

-- what is taken further is longer
longer : (source : List ℕ) (m n : ℕ) → m < n → n ≤ length source → (b : ℕ) × (more : List ℕ) × (take n source ≡ take m source ++ b ∷ more)
longer source m zero h k = absurd (omega (arith, h))
longer [] m (suc n) h k = absurd (omega (arith, k))
longer (x ∷ source) zero (suc n) h k = (x, take n source, refl)
longer (x ∷ source) (suc m) (suc n) h k =
    let less : m < n = omega (arith, h) in
    let fits : n ≤ length source = omega (arith, k) in
    let r = longer source m n less fits in (r.0, r.1, ap (λ l. x ∷ l) r.2)

-- the place of a byte comes before the place of each byte after it
pub place_before : (file : ℕ) (source : List ℕ) (m n : ℕ) → m < n → n ≤ length source → comes_before (site_of file (take m source)) (site_of file (take n source)) ≡ true
place_before file source m n h k =
    let r = longer source m n h k in
    earlier_comes_before (site_of file (take m source)) (site_of file (take n source)) refl
    (subst (λ bytes. IsEarlier (site_of file (take m source)) (site_of file bytes)) (sym r.2) (further file (take m source) r.0 r.1))
