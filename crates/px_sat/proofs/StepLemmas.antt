-- Steps by their places.
use Rattle.std.proofs.Common.{◌≡◌, ◌≢◌, true, false, Option, None, Some, IfNone, IfSome, is_some, ℕ, zero, suc, ◌-◌, ◌<◌, List, [], ◌∷◌, ◌++◌, refl, sym, ap, ◌∙◌, subst, length, get_or, take, arith, ◌⊎◌, inl, inr}
use Rattle.std.proofs.lemmas.Option.{none-some}
use Rattle.std.proofs.lemmas.Option.{same_Some}
use Rattle.std.proofs.lemmas.Bool.{cases_lt}
use Rattle.std.proofs.lemmas.List.{length-map, length-append, length-take, get_or_default, get_or_append_left, get_or-take, map-append, take-map}
use Rattle.std.proofs.Math.Seq.{get_or-append_seam}
use Rattle.std.specs.List.{slice_get}
use Rattle.std.proofs.lemmas.Option.{get_or_from_slice_get}
use Rattle.std.proofs.lemmas.List.Elements.{Contains-get_or}
use Rattle.px_chains.specs.Ends.{IsEndOfKey}
use Rattle.px_cnf.specs.Clauses.{negated}
use Rattle.px_cnf.specs.declared.literal.Literal.{Literal}
use Rattle.px_sat.specs.declared.step.Step.{Step}
use Rattle.px_sat.specs.Steps.{literals, variables_of, literal_at, IsTrue, IsNew, HasValue, IsPlaceOf, NoneHas, AreDistinct}
use Rattle.px_sat.specs.Logs.{is_true, is_false}
use Rattle.px_sat.specs.Searches.{reason_at}
use Rattle.px_sat.proofs.LiteralLemmas.{sides, not_negated}

literals_length : (steps : List Step) → length (literals steps) ≡ length steps
literals_length steps = length-map steps (λ s. s.literal)

pub true_at : (steps : List Step) (p : ℕ) → p < length steps → IsTrue steps (literal_at steps p)
true_at steps p h = Contains-get_or (literals steps) p _ (let e = literals_length steps in omega arith)

pub place_of : (steps : List Step) (l : Literal) → IsTrue steps l → (p : ℕ) × (p < length steps) × (literal_at steps p ≡ l)
place_of steps l (p, h, e) = (p, (let f = literals_length steps in omega arith), get_or_default (literals steps) p (record { variable = 0; positive = false }) l h ∙ e)

pub none_from_new : (steps : List Step) (l : Literal) → IsNew steps l → NoneHas steps l.variable
none_from_new steps l h p (n, e) = h (literal_at steps p) (true_at steps p n) e

pub new_from_none : (steps : List Step) (l : Literal) → NoneHas steps l.variable → IsNew steps l
new_from_none steps l h m t e = let (p, n, f) = place_of steps m t in h p (n, ap (λ (l : Literal). l.variable) f ∙ e)

variable_at : (steps : List Step) (p : ℕ) → get_or (variables_of steps) p 0 ≡ (literal_at steps p).variable
variable_at [] p = refl
variable_at (s ∷ ss) zero = refl
variable_at (s ∷ ss) (suc p) = variable_at ss p

-- the variables are the keys
pub place_from_end : (keys : List ℕ) (steps : List Step) (x n : ℕ) → keys ≡ variables_of steps → IsEndOfKey keys x (length keys) n → n ≢ 0 → IsPlaceOf steps x (n - 1)
place_from_end keys steps x n e h d =
    let f : length keys ≡ length steps = ap length e ∙ length-map steps (λ s. s.literal.variable) in
    (let w = h.within in omega arith, sym (variable_at steps (n - 1)) ∙ ap (λ ks. get_or ks (n - 1) 0) (sym e) ∙ h.here (omega arith))

pub none_from_end : (keys : List ℕ) (steps : List Step) (x n : ℕ) → keys ≡ variables_of steps → IsEndOfKey keys x (length keys) n → n ≡ 0 → NoneHas steps x
none_from_end keys steps x n e h z p (l, f) =
    let g : length keys ≡ length steps = ap length e ∙ length-map steps (λ s. s.literal.variable) in
    h.none_after p (omega arith) (omega arith) (ap (λ ks. get_or ks p 0) e ∙ variable_at steps p ∙ f)

-- ---- steps on variables of their own

-- of one variable only one literal is true
pub not_both : (steps : List Step) (l : Literal) → AreDistinct steps → IsTrue steps l → IsTrue steps (negated l) → ⊥
not_both steps l d t f =
    let (p, n, e) = place_of steps l t in
    let (q, m, g) = place_of steps (negated l) f in
    let s = d p q n m (ap (λ (k : Literal). k.variable) (e ∙ sym (ap (λ (k : Literal). record { variable = k.variable; positive = l.positive }) g))) in
    not_negated l (sym e ∙ ap (literal_at steps) s ∙ g)

-- the place of a literal that is true is its variable's
pub true_by_place : (steps : List Step) (l : Literal) (p : ℕ) → AreDistinct steps → IsPlaceOf steps l.variable p → IsTrue steps l → literal_at steps p ≡ l
true_by_place steps l p d (n, e) t =
    let (q, m, f) = place_of steps l t in
    ap (literal_at steps) (d p q n m (e ∙ sym (ap (λ (k : Literal). k.variable) f))) ∙ f

-- ---- more steps, and fewer

pub at_left : (steps us : List Step) (p : ℕ) → p < length steps → literal_at (steps ++ us) p ≡ literal_at steps p
at_left steps us p h =
    ap (λ (ls : List Literal). get_or ls p (record { variable = 0; positive = false })) (map-append (λ (s : Step). s.literal) steps us)
    ∙ get_or_append_left (literals steps) (literals us) _ p (let e = literals_length steps in omega arith)

pub at_last : (steps : List Step) (s : Step) → literal_at (steps ++ s ∷ []) (length steps) ≡ s.literal
at_last steps s =
    ap (λ (ls : List Literal). get_or ls (length steps) (record { variable = 0; positive = false })) (map-append (λ (s : Step). s.literal) steps (s ∷ []))
    ∙ ap (λ n. get_or (literals steps ++ s.literal ∷ []) n (record { variable = 0; positive = false })) (sym (literals_length steps))
    ∙ get_or-append_seam (literals steps) s.literal [] _

pub at_taken : (steps : List Step) (n p : ℕ) → p < n → literal_at (take n steps) p ≡ literal_at steps p
at_taken steps n p h =
    ap (λ (ls : List Literal). get_or ls p (record { variable = 0; positive = false })) (sym (take-map (λ (s : Step). s.literal) n steps))
    ∙ get_or-take n (literals steps) p _ h

-- a place of one step more is an old one or the last
pub places : (steps : List Step) (s : Step) (p : ℕ) → p < length (steps ++ s ∷ []) → (p < length steps) ⊎ (p ≡ length steps)
places steps s p h = elim (cases_lt p (length steps)) [
  | inl l ↦ inl l
  | inr l ↦ inr (let e = length-append steps (s ∷ []) in let f : length (s ∷ []) ≡ 1 = refl in omega arith)
]

pub distinct_more : (steps : List Step) (s : Step) → AreDistinct steps → IsNew steps s.literal → AreDistinct (steps ++ s ∷ [])
distinct_more steps s d new p q h k e = elim (places steps s p h) [
  | inl a ↦ (elim (places steps s q k) [
    | inl b ↦ d p q a b (ap (λ (l : Literal). l.variable) (sym (at_left steps _ p a)) ∙ e ∙ ap (λ (l : Literal). l.variable) (at_left steps _ q b))
    | inr b ↦ absurd (new (literal_at steps p) (true_at steps p a)
        (ap (λ (l : Literal). l.variable) (sym (at_left steps (s ∷ []) p a)) ∙ e ∙ ap (λ n. (literal_at (steps ++ s ∷ []) n).variable) b ∙ ap (λ (l : Literal). l.variable) (at_last steps s)))
  ])
  | inr a ↦ (elim (places steps s q k) [
    | inl b ↦ absurd (new (literal_at steps q) (true_at steps q b)
        (ap (λ (l : Literal). l.variable) (sym (at_left steps (s ∷ []) q b)) ∙ sym e ∙ ap (λ n. (literal_at (steps ++ s ∷ []) n).variable) a ∙ ap (λ (l : Literal). l.variable) (at_last steps s)))
    | inr b ↦ a ∙ sym b
  ])
]

pub distinct_fewer : (steps : List Step) (n : ℕ) → AreDistinct steps → AreDistinct (take n steps)
distinct_fewer steps n d p q h k e =
    let l = length-take n steps in
    d p q (omega arith) (omega arith)
    (ap (λ (l : Literal). l.variable) (sym (at_taken steps n p (omega arith))) ∙ e ∙ ap (λ (l : Literal). l.variable) (at_taken steps n q (omega arith)))

pub variables_more : (keys new_keys : List ℕ) (steps : List Step) (s : Step) → keys ≡ variables_of steps → new_keys ≡ keys ++ s.literal.variable ∷ [] → new_keys ≡ variables_of (steps ++ s ∷ [])
variables_more keys new_keys steps s e f = f ∙ ap (λ ks. ks ++ s.literal.variable ∷ []) e ∙ sym (map-append (λ (s : Step). s.literal.variable) steps (s ∷ []))

pub variables_fewer : (keys new_keys : List ℕ) (steps : List Step) (n : ℕ) → keys ≡ variables_of steps → new_keys ≡ take n keys → new_keys ≡ variables_of (take n steps)
variables_fewer keys new_keys steps n e f = f ∙ ap (take n) e ∙ take-map (λ (s : Step). s.literal.variable) n steps

-- ---- what is asked of them

pub value_at : (steps : List Step) (x p : ℕ) → IsPlaceOf steps x p → HasValue steps x
value_at steps x p (h, e) = by_sign (literal_at steps p) refl e
  where
    by_sign : (l : Literal) → literal_at steps p ≡ l → l.variable ≡ x → HasValue steps x
    by_sign l f g = elim (sides l (is_true x) g) [
      | inl k ↦ inl (subst (IsTrue steps) (f ∙ k) (true_at steps p h))
      | inr k ↦ inr (subst (IsTrue steps) (f ∙ k) (true_at steps p h))
    ]

pub known_value : (steps : List Step) (x : ℕ) (found : Option ℕ) → IfSome found (IsPlaceOf steps x) → is_some found ≡ true → HasValue steps x
known_value steps x None h e = let f : false ≡ true = e in cc
known_value steps x (Some p) h e = value_at steps x p h

pub unknown_value : (steps : List Step) (x : ℕ) (found : Option ℕ) → IfNone found (NoneHas steps x) → is_some found ≡ false → NoneHas steps x
unknown_value steps x None h e = h
unknown_value steps x (Some p) h e = let f : true ≡ false = e in cc

-- a variable without a step has no value
pub no_value : (steps : List Step) (x : ℕ) → NoneHas steps x → HasValue steps x → ⊥
no_value steps x h (inl t) = let (p, n, e) = place_of steps (is_true x) t in h p (n, ap (λ (l : Literal). l.variable) e)
no_value steps x h (inr t) = let (p, n, e) = place_of steps (is_false x) t in h p (n, ap (λ (l : Literal). l.variable) e)

-- the step at a place
pub reason_of : (steps : List Step) (p : ℕ) (s : Step) → slice_get steps p ≡ Some s → reason_at steps p ≡ s.reason
reason_of steps p s e = ap (λ (t : Step). t.reason) (get_or_from_slice_get steps p s _ e)

pub literal_of : (steps : List Step) (p : ℕ) (s : Step) → slice_get steps p ≡ Some s → literal_at steps p ≡ s.literal
literal_of [] p s e = absurd (none-some _ e)
literal_of (t ∷ ts) zero s e = ap (λ (u : Step). u.literal) (same_Some _ _ e)
literal_of (t ∷ ts) (suc p) s e = literal_of ts p s e
