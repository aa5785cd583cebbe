-- What a step of reading that gave something says.
use Rattle.std.proofs.Common.{◌≡◌, ◌<◌, ◌≤◌, ℕ, Bool, true, List, [], ◌∷◌, ◌++◌, Option, Some, None, Result, Ok, Err, refl, ap, sym, ◌∙◌, append_assoc, inl, inr, arith, rules}
use Rattle.std.proofs.lemmas.Option.{same_Some}
use denote.Enum.Bare.{same_true}
use Rattle.px_expressions.specs.Reading.{or_else}
use Rattle.px_expressions.proofs.ExactTools.{chosen, either, bind_some}
use Rattle.px_real_expressions.specs.contracts.terminal.Terminal.{the_type}
use Rattle.px_real_expressions.specs.declared.terminal.Terminal.{Terminal}
use Rattle.px_real_expressions.specs.Lexemes.{Lexeme, same, front, front_if}
use Rattle.px_real_expressions.specs.Operators.{level_of, front_by}
use Rattle.px_real_expressions.specs.Stops.{Stop, wrong, Read, ◌>>=◌, expect}
use Rattle.px_real_expressions.specs.Reading.{Reader}
use Rattle.px_real_expressions.specs.Grammar.{Gram}

-- a reader that is done gave what stands there
abbrev pub done : {A : Type 0} → A → List Lexeme → Read A
done a ts = Ok (a, ts)

pub same_Ok : {A : Type 0} (x y : A) → (a b : Result A Stop) → a ≡ Ok x → b ≡ Ok y → a ≡ b → x ≡ y
same_Ok x y a b h g e = cc

-- the value of a step that gave one
pub bind_ok : {A B : Type 0} (r : Result A Stop) (f : A → Result B Stop) (y : B) → (r >>= f) ≡ Ok y → (x : A) × (r ≡ Ok x) × (f x ≡ Ok y)
bind_ok (Ok x) f y e = (x, refl, e)
bind_ok (Err s) f y e = absurd cc

pub both_are : {A : Type 0} (a b : A) (ts us : List Lexeme) → done a ts ≡ done b us → (a ≡ b) × (ts ≡ us)
both_are {A = A} a b ts us e =
    let x : A × List Lexeme = (a, ts) in
    let y : A × List Lexeme = (b, us) in
    let p : x ≡ y = same_Ok x y (Ok x) (Ok y) refl refl e in
    (ap (λ (z : A × List Lexeme). z.0) p, ap (λ (z : A × List Lexeme). z.1) p)

pub same_is : (a b : Terminal) → same a b ≡ true → a ≡ b
same_is a b e = same_true the_type (search rules) a b e

pub same_self : (k : Terminal) → same k k ≡ true
same_self k = grind arith

pub front_is : (k : Terminal) (ts : List Lexeme) (x : Lexeme × List Lexeme) → front k ts ≡ Some x → (x.0.terminal ≡ k) × (ts ≡ x.0 ∷ x.1)
front_is k [] x e = absurd cc
front_is k (t ∷ ts) x e =
    let here : Lexeme × List Lexeme = (t, ts) in
    elim (chosen (same t.terminal k) (Some here) None (Some x) e) [
      | inl h ↦
          let p = same_Some here x h.1 in
          (ap (λ (z : Lexeme × List Lexeme). z.0.terminal) (sym p) ∙ same_is t.terminal k h.0, ap (λ (z : Lexeme × List Lexeme). z.0 ∷ z.1) p)
      | inr h ↦ absurd (let z = h.1 in cc)
    ]

pub expect_is : (k : Terminal) (ts : List Lexeme) (x : Lexeme × List Lexeme) → expect k ts ≡ Ok x → front k ts ≡ Some x
expect_is k ts x e =
    elim (either (front k ts) Ok (Err (wrong ts)) (Ok x) e) [
      | inl w ↦ w.1 ∙ ap Some (same_Ok w.0 x (Ok w.0) (Ok x) refl refl w.2)
      | inr w ↦ absurd (let z = w.1 in cc)
    ]

pub front_bind : {B : Type 0} (k : Terminal) (ts : List Lexeme) (f : Lexeme × List Lexeme → Result B Stop) (y : B) → (expect k ts >>= f) ≡ Ok y →
    (x : Lexeme × List Lexeme) × (x.0.terminal ≡ k) × (ts ≡ x.0 ∷ x.1) × (f x ≡ Ok y)
front_bind k ts f y e =
    let b = bind_ok (expect k ts) f y e in
    let p = front_is k ts b.0 (expect_is k ts b.0 b.1) in
    (b.0, p.0, p.1, b.2)

-- the lexeme that such a terminal is at the front
pub if_is : (is : Terminal → Bool) (ts : List Lexeme) (x : Lexeme × List Lexeme) → front_if is ts ≡ Some x → (is x.0.terminal ≡ true) × (ts ≡ x.0 ∷ x.1)
if_is is [] x e = absurd cc
if_is is (t ∷ ts) x e =
    let here : Lexeme × List Lexeme = (t, ts) in
    elim (chosen (is t.terminal) (Some here) None (Some x) e) [
      | inl h ↦
          let p = same_Some here x h.1 in
          (ap (λ (z : Lexeme × List Lexeme). is z.0.terminal) (sym p) ∙ h.0, ap (λ (z : Lexeme × List Lexeme). z.0 ∷ z.1) p)
      | inr h ↦ absurd (let z = h.1 in cc)
    ]

pub if_here : (is : Terminal → Bool) (t : Lexeme) (ts : List Lexeme) → is t.terminal ≡ true → front_if is (t ∷ ts) ≡ Some (t, ts)
if_here is t ts h = rw h refl

-- such a lexeme, or reading stops
pub if_bind : {B : Type 0} (is : Terminal → Bool) (ts : List Lexeme) (f : Lexeme × List Lexeme → Result B Stop) (y : B) → or_else (front_if is ts) f (Err (wrong ts)) ≡ Ok y →
    (x : Lexeme × List Lexeme) × (is x.0.terminal ≡ true) × (ts ≡ x.0 ∷ x.1) × (f x ≡ Ok y)
if_bind is ts f y e =
    elim (either (front_if is ts) f (Err (wrong ts)) (Ok y) e) [
      | inl w ↦ let p = if_is is ts w.0 w.1 in (w.0, p.0, p.1, w.2)
      | inr w ↦ absurd (let z = w.1 in cc)
    ]

-- the lexeme at the front is the one that stands there
pub front_here : (k : Terminal) (t : Lexeme) (ts : List Lexeme) → t.terminal ≡ k → front k (t ∷ ts) ≡ Some (t, ts)
front_here k t ts h =
    let is : same t.terminal k ≡ true = rw h (same_self k) in
    rw is refl

-- what a table gave of the first terminal
pub by_is : {A : Type 0} (f : Terminal → Option A) (ts : List Lexeme) (x : A × Lexeme × List Lexeme) → front_by f ts ≡ Some x → (f x.1.terminal ≡ Some x.0) × (ts ≡ x.1 ∷ x.2)
by_is f [] x e = absurd cc
by_is {A = A} f (t ∷ ts) x e =
    let b = bind_some (f t.terminal) (λ o. Some (o, t, ts)) x e in
    let p = same_Some _ _ b.2 in (
      ap (λ (z : A × Lexeme × List Lexeme). f z.1.terminal) (sym p) ∙ b.1 ∙ ap (λ (z : A × Lexeme × List Lexeme). Some z.0) p,
      ap (λ (z : A × Lexeme × List Lexeme). z.1 ∷ z.2) p,
    )

-- ---- readers and grammars

-- the lexemes at the front that were read
pub record Reads {A : Type 0} (G : Gram A) (ts : List Lexeme) (a : A) (rest : List Lexeme) : Type 0 where
  pub front : List Lexeme
  pub is : G front a
  pub parts : ts ≡ front ++ rest

-- what is read is in the grammar, and what is in the grammar is read where what follows stops it
pub record Exact {A : Type 0} (G : Gram A) (r : Reader A) (Follows : List Lexeme → Type 0) : Type 0 where
  pub sound : (ts : List Lexeme) (a : A) (rest : List Lexeme) → r ts ≡ Ok (a, rest) → Reads G ts a rest
  pub complete : (front : List Lexeme) (a : A) (rest : List Lexeme) → G front a → Follows rest → r (front ++ rest) ≡ Ok (a, rest)

pub part_bind : {A B : Type 0} {G : Gram A} {r : Reader A} {Follows : List Lexeme → Type 0} → Exact G r Follows →
    (ts : List Lexeme) (f : A × List Lexeme → Result B Stop) (y : B) → (r ts >>= f) ≡ Ok y → (x : A × List Lexeme) × Reads G ts x.0 x.1 × (f x ≡ Ok y)
part_bind {r = r} p ts f y e =
    let b = bind_ok (r ts) f y e in
    (b.0, p.sound ts b.0.0 b.0.1 b.1, b.2)

-- what may follow a tree of level k: nothing that ties as strongly
abbrev pub Stops : ℕ → List Lexeme → Type 0
Stops k [] = Unit {0}
Stops k (t ∷ ts) = k < level_of t.terminal

pub stops_less : (k j : ℕ) (ts : List Lexeme) → j ≤ k → Stops k ts → Stops j ts
stops_less k j [] le h = tt
stops_less k j (t ∷ ts) le h = omega arith

-- where a terminal of level 14 stands, all stops
pub stops_at : (k : Terminal) → level_of k ≡ 14 → (c : Lexeme) (rest : List Lexeme) → c.terminal ≡ k → Stops 13 (c ∷ rest)
stops_at k l c rest h = rw (h, l) (omega arith)

-- no terminal of a lower level stands where what precedes stops
pub not_at : (k : Terminal) (j : ℕ) (rest : List Lexeme) → level_of k ≤ j → Stops j rest → front k rest ≡ None
not_at k j [] l h = refl
not_at k j (t ∷ ts) l h =
    elim (chosen (same t.terminal k) (Some (t, ts)) None (front k (t ∷ ts)) refl) [
      | inl w ↦ absurd (let e = ap level_of (same_is t.terminal k w.0) in omega arith)
      | inr w ↦ sym w.1
    ]

-- and a table of terminals of lower levels gives nothing
pub not_by : {A : Type 0} (f : Terminal → Option A) (j : ℕ) (rest : List Lexeme) → ((k : Terminal) (x : A) → f k ≡ Some x → level_of k ≤ j) → Stops j rest → front_by f rest ≡ None
not_by f j [] l h = refl
not_by {A = A} f j (t ∷ ts) l h = by (f t.terminal) refl
  where
    by : (o : Option A) → f t.terminal ≡ o → front_by f (t ∷ ts) ≡ None
    by None e = rw e refl
    by (Some x) e = absurd (let le : level_of t.terminal ≤ j = l t.terminal x e in omega arith)

-- what stands before a bracket, with the one that opened
pub closed_parts : (o c : Lexeme) (a ts us rest vs : List Lexeme) → ts ≡ a ++ us → us ≡ c ∷ rest → rest ≡ vs → o ∷ ts ≡ (o ∷ a ++ c ∷ []) ++ vs
closed_parts o c a ts us rest vs h g f = ap (λ z. o ∷ z) (h ∙ ap (λ z. a ++ z) (g ∙ ap (λ z. c ∷ z) f) ∙ sym (append_assoc a (c ∷ []) vs))
