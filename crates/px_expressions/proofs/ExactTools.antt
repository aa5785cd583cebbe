-- What a step of reading that gave something says.
use Rattle.std.proofs.Common.{◌≡◌, ◌==◌, ◌<◌, ◌⊎◌, ℕ, Bool, true, false, cond, List, [], ◌∷◌, ◌++◌, Option, Some, None, refl, ap, sym, ◌∙◌, inl, inr, arith, rules}
use Rattle.std.proofs.lemmas.Option.{same_Some}
use denote.Enum.Bare.{same_true}
pub use Rattle.px_lexer.proofs.RunLemmas.{chosen}
use Rattle.px_expressions.specs.contracts.terminal.Terminal.{the_type}
use Rattle.px_expressions.specs.declared.terminal.Terminal.{Terminal}
use Rattle.px_expressions.specs.Lexemes.{Lexeme, same, front}
use Rattle.px_expressions.specs.Reading.{◌>>=◌, or_else, Reader}
use Rattle.px_expressions.specs.Grammar.{Gram}

-- the value of a step that gave one
pub bind_some : {A B : Type 0} (r : Option A) (f : A → Option B) (y : B) → (r >>= f) ≡ Some y → (x : A) × (r ≡ Some x) × (f x ≡ Some y)
bind_some (Some x) f y e = (x, refl, e)
bind_some None f y e = absurd cc

pub bool_is : (b : Bool) → cond b true false ≡ b
bool_is true = refl
bool_is false = refl

pub either : {A B : Type 0} (o : Option A) (f : A → B) (d z : B) → or_else o f d ≡ z → ((x : A) × (o ≡ Some x) × (f x ≡ z)) ⊎ ((o ≡ None) × (d ≡ z))
either (Some x) f d z e = inl (x, refl, e)
either None f d z e = inr (refl, e)

-- a reader that is done gave what stands there
abbrev pub done : {A : Type 0} → A → List Lexeme → Option (A × List Lexeme)
done a ts = Some (a, ts)

pub both_are : {A : Type 0} (a b : A) (ts us : List Lexeme) → done a ts ≡ done b us → (a ≡ b) × (ts ≡ us)
both_are {A = A} a b ts us e =
    let x : A × List Lexeme = (a, ts) in
    let y : A × List Lexeme = (b, us) in
    let p : x ≡ y = same_Some x y e in
    (ap (λ (z : A × List Lexeme). z.0) p, ap (λ (z : A × List Lexeme). z.1) p)

-- ---- numbers

pub positive : (d : ℕ) → 0 < d → (d == 0) ≡ false
positive d h = grind arith

pub is_positive : (d : ℕ) → (d == 0) ≡ false → 0 < d
is_positive d h = grind arith

-- ---- the lexeme at the front

pub same_is : (a b : Terminal) → same a b ≡ true → a ≡ b
same_is a b e = same_true the_type (search rules) a b e

pub front_is : (k : Terminal) (ts : List Lexeme) (x : Lexeme × List Lexeme) → front k ts ≡ Some x → (x.0.terminal ≡ k) × (ts ≡ x.0 ∷ x.1)
front_is k [] x e = absurd cc
front_is k (t ∷ ts) x e =
    let here : Lexeme × List Lexeme = (t, ts) in
    elim (chosen (same t.terminal k) (Some here) None (Some x) e) [
      | inl h ↦
          let p = same_Some here x h.1 in
          (ap (λ (z : Lexeme × List Lexeme). z.0.terminal) (sym p) ∙ same_is t.terminal k h.0, ap (λ (z : Lexeme × List Lexeme). z.0 ∷ z.1) p)
      | inr h ↦ absurd (let z = h.1 in cc)
    ]

pub front_bind : {B : Type 0} (k : Terminal) (ts : List Lexeme) (f : Lexeme × List Lexeme → Option B) (y : B) → (front k ts >>= f) ≡ Some y →
    (x : Lexeme × List Lexeme) × (x.0.terminal ≡ k) × (ts ≡ x.0 ∷ x.1) × (f x ≡ Some y)
front_bind k ts f y e =
    let b = bind_some (front k ts) f y e in
    let p = front_is k ts b.0 b.1 in
    (b.0, p.0, p.1, b.2)

-- ---- readers and grammars

-- the lexemes at the front that were read
pub record Reads {A : Type 0} (G : Gram A) (ts : List Lexeme) (a : A) (rest : List Lexeme) : Type 0 where
  pub front : List Lexeme
  pub is : G front a
  pub parts : ts ≡ front ++ rest

-- what is read is in the grammar, and what is in the grammar is read where what follows stops it
pub record Exact {A : Type 0} (G : Gram A) (r : Reader A) (Follows : List Lexeme → Type 0) : Type 0 where
  pub sound : (ts : List Lexeme) (a : A) (rest : List Lexeme) → r ts ≡ Some (a, rest) → Reads G ts a rest
  pub complete : (front : List Lexeme) (a : A) (rest : List Lexeme) → G front a → Follows rest → r (front ++ rest) ≡ Some (a, rest)

pub part_bind : {A B : Type 0} {G : Gram A} {r : Reader A} {Follows : List Lexeme → Type 0} → Exact G r Follows →
    (ts : List Lexeme) (f : A × List Lexeme → Option B) (y : B) → (r ts >>= f) ≡ Some y → (x : A × List Lexeme) × Reads G ts x.0 x.1 × (f x ≡ Some y)
part_bind {r = r} p ts f y e =
    let b = bind_some (r ts) f y e in
    (b.0, p.sound ts b.0.0 b.0.1 b.1, b.2)

-- anything may follow
abbrev pub Anything : List Lexeme → Type 0
Anything ts = Unit {0}
