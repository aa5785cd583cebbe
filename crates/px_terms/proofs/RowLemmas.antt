-- Steps of a merge.
use Rattle.std.proofs.Common.{◌≡◌, ℕ, ◌<◌, ◌≤◌, ◌+◌, ◌%◌, ◌^◌, ◌++◌, List, [], ◌∷◌, length, get_or, take, drop, map, ap, ap₂, sym, subst, ◌∙◌, ◌-◌, append_assoc, append-nil, add-one, drop-cons, length-drop}
use Rattle.std.specs.Prelude.{zero, suc, All}
use Rattle.std.proofs.lemmas.List.Elements.{All-head, All-tail}
use Rattle.std.proofs.Math.Seq.{take-length}
use Rattle.std.proofs.Math.ListN.{drop_of_length-le}
use Rattle.std.proofs.lemmas.List.{map-append, drop-map}
use Rattle.std.specs.declared.cmp.Ordering.TheVariants.{Less, Equal, Greater}
use Rattle.px_terms.specs.Terms.{Term, key_cmp, Before, IsRising, IsNormal, HasOrderedVariables, put_term, gathered}
use Rattle.px_terms.specs.Rows.{times_of, row_of, TakesNext, Keeps}
use Rattle.px_terms.specs.Monomials.{term_of}
use Rattle.px_terms.specs.declared.monomial.Monomial.{Monomial}
use Rattle.px_terms.proofs.KeyOrder.{key_turned, before_later}
use Rattle.px_terms.proofs.InOrder.{Ordered, ordered_from, fold_less}
use Rattle.px_terms.proofs.Gathering.{put_wrapped, gathered_same, first_less, first_greater, first_equal}

-- the monomials from an index on
pub from_index : {n : ℕ} (xs : List (Monomial n)) (i : ℕ) (x : Monomial n) → i < length xs → x ≡ get_or xs i x
    → map term_of (drop i xs) ≡ term_of x ∷ map term_of (drop (i + 1) xs)
from_index xs i x h e =
    ap (map term_of) (drop-cons xs i x h ∙ ap₂ ◌∷◌ (sym e) (ap (λ k. drop k xs) (sym (add-one i))))

pub keeps_at : (next : Term) (out0 rest0 out rest rest' : List Term) → rest ≡ rest' → Keeps next out0 rest0 out rest → Keeps next out0 rest0 out rest'
keeps_at next out0 rest0 out rest rest' e k = subst (Keeps next out0 rest0 out) e k

module _ (next t : Term) (ts out0 rest0 out out' : List Term) (r : IsRising (t ∷ ts)) (k : Keeps next out0 rest0 out (t ∷ ts)) where
  -- a term that stands before the next one is put out
  pub keeps_less : key_cmp t.vars next.vars ≡ Less → out' ≡ out ++ t ∷ [] → Keeps next out0 rest0 out' ts
  keeps_less e f = record {
    keeps = λ later b.
        ap (λ x. x ++ gathered (ts ++ next ∷ later)) f
        ∙ append_assoc out (t ∷ []) (gathered (ts ++ next ∷ later))
        ∙ ap (λ x. out ++ x) (sym (first_less t ts (next ∷ later) r (e, before_later t.vars next.vars later e b)))
        ∙ k.keeps later b;
  }

  -- a term with the next one's variables is put out together with it
  pub takes_equal : key_cmp t.vars next.vars ≡ Equal → out' ≡ out ++ put_term ((t.coefficient + next.coefficient) % 2 ^ 32) next.vars [] → TakesNext next out0 rest0 out' ts
  takes_equal e f = record {
    takes = λ later b.
        ap (λ x. x ++ gathered (ts ++ later)) (f ∙ ap (λ x. out ++ x) (put_wrapped (t.coefficient + next.coefficient) next.vars []))
        ∙ append_assoc out (put_term (t.coefficient + next.coefficient) next.vars []) (gathered (ts ++ later))
        ∙ ap (λ x. out ++ x) (sym (first_equal t next ts later r b e))
        ∙ k.keeps later b;
  }

-- the next one is put out where it stands before all that is left
pub takes_first : (next : Term) (out0 rest0 out out' rest : List Term) → Keeps next out0 rest0 out rest → Before next.vars rest
    → out' ≡ out ++ put_term next.coefficient next.vars [] → TakesNext next out0 rest0 out' rest
takes_first next out0 rest0 out out' rest k n f = record {
  takes = λ later b.
      ap (λ x. x ++ gathered (rest ++ later)) f
      ∙ append_assoc out (put_term next.coefficient next.vars []) (gathered (rest ++ later))
      ∙ ap (λ x. out ++ x) (sym (first_greater next rest later b n))
      ∙ k.keeps later b;
}

-- what stands after the next one
pub before_greater : (next t : Term) (ts : List Term) → IsRising (t ∷ ts) → key_cmp t.vars next.vars ≡ Greater → Before next.vars (t ∷ ts)
before_greater next t ts r e = let f = key_turned t.vars next.vars e in (f, before_later next.vars t.vars ts f r.2)

pub rising_rest : (i : ℕ) (ts : List Term) → IsRising ts → IsRising (drop i ts)
rising_rest zero ts r = r
rising_rest (suc i) [] r = tt
rising_rest (suc i) (t ∷ ts) r = rising_rest i ts r.3

-- the same of monomials
pub rising_from : {n : ℕ} (xs : List (Monomial n)) (i : ℕ) → IsRising (map term_of xs) → IsRising (map term_of (drop i xs))
rising_from xs i r = subst IsRising (drop-map term_of i xs) (rising_rest i (map term_of xs) r)

-- nothing is left past the end
pub none_left : {n : ℕ} (xs : List (Monomial n)) (i : ℕ) → length xs ≤ i → map term_of (drop i xs) ≡ []
none_left xs i h = ap (map term_of) (drop_of_length-le xs h)

-- one monomial more
pub appended : {n : ℕ} (xs : List (Monomial n)) (x : Monomial n) (ys : List (Monomial n)) → ys ≡ xs ++ x ∷ [] → map term_of ys ≡ map term_of xs ++ term_of x ∷ []
appended xs x ys e = ap (map term_of) e ∙ map-append term_of xs (x ∷ [])

-- ---- rows

-- the variables of each term are in order
abbrev pub AllOrdered : List Term → Type 0
AllOrdered [] = Unit {0}
AllOrdered (t ∷ ts) = Ordered t.vars × AllOrdered ts

pub all_ordered : (ts : List Term) → IsNormal ts → AllOrdered ts
all_ordered ts n = each ts n.variables
  where
    each : (ts : List Term) → All HasOrderedVariables ts → AllOrdered ts
    each [] h = tt
    each (t ∷ ts) h = (ordered_from t.vars (All-head HasOrderedVariables t ts h).1, each ts (All-tail HasOrderedVariables t ts h))

ordered_rest : (i : ℕ) (ts : List Term) → AllOrdered ts → AllOrdered (drop i ts)
ordered_rest zero ts o = o
ordered_rest (suc i) [] o = tt
ordered_rest (suc i) (t ∷ ts) o = ordered_rest i ts o.1

-- a product stands before those of later terms
row_before : (s t : Term) (ts : List Term) → Ordered t.vars → AllOrdered ts → Before t.vars ts → Before (times_of s t).vars (row_of s ts)
row_before s t [] o os b = tt
row_before s t (u ∷ us) o os b = (fold_less s.vars t.vars u.vars o os.0 b.0, row_before s t us o os.1 b.1)

row_first : (s t : Term) (ts us : List Term) → us ≡ t ∷ ts → IsRising us → AllOrdered us → Before (times_of s t).vars (row_of s ts)
row_first s t ts us e r o =
    let r2 = subst IsRising e r in
    let o2 = subst AllOrdered e o in
    row_before s t ts o2.0 o2.1 r2.2

-- a step takes the first product of what is left of a row
pub row_step : {n : ℕ} (s : Term) (b : List (Monomial n)) (j : ℕ) (m : Monomial n) (next : Term) (out rest out' rest' : List Term) → j < length b → m ≡ get_or b j m → IsNormal (map term_of b)
    → next ≡ times_of s (term_of m) → TakesNext next out rest out' rest'
    → out' ++ gathered (rest' ++ row_of s (map term_of (drop (j + 1) b))) ≡ out ++ gathered (rest ++ row_of s (map term_of (drop j b)))
row_step s b j m next out rest out' rest' h e n f k =
    let d = from_index b j m h e in
    let later = row_of s (map term_of (drop (j + 1) b)) in
    let before : Before next.vars later =
    subst (λ (x : Term). Before x.vars later) (sym f)
    (row_first s (term_of m) (map term_of (drop (j + 1) b)) (map term_of (drop j b)) d (rising_from b j n.rising)
    (subst AllOrdered (drop-map term_of j b) (ordered_rest j (map term_of b) (all_ordered (map term_of b) n)))) in
    k.takes later before
    ∙ ap (λ x. out ++ gathered (rest ++ x ∷ later)) f
    ∙ ap (λ x. out ++ gathered (rest ++ row_of s x)) (sym d)

-- the rest of a slice
slice_rest : {n : ℕ} (xs : List (Monomial n)) (i : ℕ) → take (length xs - i) (drop i xs) ≡ drop i xs
slice_rest xs i = ap (λ k. take k (drop i xs)) (sym (length-drop i xs)) ∙ take-length (drop i xs)

-- where the row is at its end, what is left is as it stands
pub row_end : {n : ℕ} (s : Term) (a b : List (Monomial n)) (i j : ℕ) (out new : List (Monomial n)) → IsRising (map term_of a) → length b ≤ j
    → new ≡ out ++ take (length a - i) (drop i a)
    → map term_of new ≡ map term_of out ++ gathered (map term_of (drop i a) ++ row_of s (map term_of (drop j b)))
row_end s a b i j out new r h e =
    let rest = map term_of (drop i a) in
    ap (map term_of) (e ∙ ap (λ x. out ++ x) (slice_rest a i))
    ∙ map-append term_of out (drop i a)
    ∙ ap (λ x. map term_of out ++ x) (sym (gathered_same rest (rising_from a i r)) ∙ ap gathered (sym (append-nil rest)))
    ∙ ap (λ x. map term_of out ++ gathered (rest ++ row_of s x)) (sym (none_left b j h))
