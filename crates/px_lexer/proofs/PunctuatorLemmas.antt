-- The longest punctuator.
use Rattle.std.proofs.Common.{◌≡◌, ◌==◌, ◌&&◌, ℕ, suc, ◌<◌, ◌≤◌, Bool, true, false, cond, List, [], ◌∷◌, ◌++◌, length, Option, Some, None, refl, sym, ap, ap₂, subst, ◌∙◌, arith, inl, inr}
use Rattle.std.proofs.lemmas.Bool.{eqb-true, and_parts}
use Rattle.px_lexer.specs.Spelling.{spelling}
use Rattle.std.specs.List.{prefix_len}
use Rattle.px_lexer.specs.Bytes.{is_line_byte}
use Rattle.px_lexer.specs.Scanning.{class_of, beside, singles, with_equal, doubled, single, pair, triple, sized, punctuator_at, slash_at, comment_as, comment_end, piece_at}
use Rattle.px_lexer.proofs.ClassLemmas.{class_slash}
use Rattle.px_lexer.specs.declared.token.TokenKind.TheVariants as K
use Rattle.px_lexer.specs.declared.token.Punctuator.{Punctuator}
use Rattle.px_lexer.specs.declared.token.Punctuator.TheVariants.{OpenBrace, CloseBrace, OpenParenthesis, CloseParenthesis, OpenBracket, CloseBracket, Semicolon, Comma, Dot, Arrow, PlusPlus, MinusMinus, Plus, Minus, Star, Slash, Percent, Not, Tilde, Ampersand, Bar, Caret, AndAnd, OrOr, Less, Greater, LessEqual, GreaterEqual, EqualEqual, NotEqual, ShiftLeft, ShiftRight, Equal, PlusEqual, MinusEqual, StarEqual, SlashEqual, PercentEqual, AmpersandEqual, BarEqual, CaretEqual, ShiftLeftEqual, ShiftRightEqual, Question, Colon, Ellipsis}
use Rattle.px_lexer.specs.declared.piece.Piece.{Piece}
use Rattle.px_lexer.specs.declared.piece.Piece.TheVariants as P
use Rattle.px_lexer.specs.declared.piece.Class.TheVariants as C
use Rattle.px_lexer.proofs.RunLemmas.{chosen}

-- ---- the tables have the spellings

abbrev Rows : (ℕ → List ℕ) → List (ℕ × Punctuator) → Type 0
Rows f [] = Unit {0}
Rows f ((k, c) ∷ rows) = (spelling c ≡ f k) × Rows f rows

beside_sound : (f : ℕ → List ℕ) (rows : List (ℕ × Punctuator)) (a : ℕ) (c : Punctuator) → Rows f rows → beside a rows ≡ Some c → spelling c ≡ f a
beside_sound f [] a c h e = absurd cc
beside_sound f ((k, d) ∷ rows) a c h e =
    elim (chosen (a == k) (Some d) (beside a rows) (Some c) e) [
      | inl w ↦ let g : d ≡ c = (let z = w.1 in cc) in ap spelling (sym g) ∙ h.0 ∙ ap f (sym (eqb-true a k w.0))
      | inr w ↦ beside_sound f rows a c h.1 w.1
    ]

single_sound : (a : ℕ) (c : Punctuator) → single a ≡ Some c → spelling c ≡ a ∷ []
single_sound a c e = beside_sound (λ k. k ∷ []) singles a c (refl, (refl, (refl, (refl, (refl, (refl, (refl, (refl, (refl, (refl, (refl, (refl, (refl, (refl, (refl, (refl, (refl, (refl, (refl, (refl, (refl, (refl, (refl, (refl, tt)))))))))))))))))))))))) e

pair_sound : (a b : ℕ) (c : Punctuator) → pair a b ≡ Some c → spelling c ≡ a ∷ b ∷ []
pair_sound a b c e =
    elim (chosen (b == 61) (beside a with_equal) (cond (a == b) (beside a doubled) (cond (a == 45 && b == 62) (Some Arrow) None)) (Some c) e) [
      | inl w ↦ beside_sound (λ k. k ∷ 61 ∷ []) with_equal a c (refl, (refl, (refl, (refl, (refl, (refl, (refl, (refl, (refl, (refl, (refl, (refl, tt)))))))))))) w.1 ∙ ap (λ z. a ∷ z ∷ []) (sym (eqb-true b 61 w.0))
      | inr w ↦ elim (chosen (a == b) (beside a doubled) (cond (a == 45 && b == 62) (Some Arrow) None) (Some c) w.1) [
        | inl u ↦ beside_sound (λ k. k ∷ k ∷ []) doubled a c (refl, (refl, (refl, (refl, (refl, (refl, tt)))))) u.1 ∙ ap (λ z. a ∷ z ∷ []) (eqb-true a b u.0)
        | inr u ↦ elim (chosen (a == 45 && b == 62) (Some Arrow) None (Some c) u.1) [
          | inl v ↦
              let k = and_parts (a == 45) (b == 62) v.0 in
              let g : Arrow ≡ c = (let z = v.1 in cc) in
              ap spelling (sym g) ∙ ap₂ (λ x y. x ∷ y ∷ []) (sym (eqb-true a 45 k.0)) (sym (eqb-true b 62 k.1))
          | inr v ↦ absurd (let z = v.1 in cc)
        ]
      ]
    ]

-- three bytes that pass three tests
spelled : (a b d x y z : ℕ) → (a == x && (b == y && d == z)) ≡ true → x ∷ y ∷ z ∷ [] ≡ a ∷ b ∷ d ∷ []
spelled a b d x y z h =
    let k = and_parts (a == x) (b == y && d == z) h in
    let l = and_parts (b == y) (d == z) k.1 in
    rw (eqb-true a x k.0, eqb-true b y l.0, eqb-true d z l.1) refl

triple_sound : (a b d : ℕ) (c : Punctuator) → triple a b d ≡ Some c → spelling c ≡ a ∷ b ∷ d ∷ []
triple_sound a b d c e =
    elim (chosen (a == 46 && (b == 46 && d == 46)) (Some Ellipsis) _ (Some c) e) [
      | inl w ↦ let g : Ellipsis ≡ c = (let z = w.1 in cc) in ap spelling (sym g) ∙ spelled a b d 46 46 46 w.0
      | inr w ↦ elim (chosen (a == 60 && (b == 60 && d == 61)) (Some ShiftLeftEqual) _ (Some c) w.1) [
        | inl u ↦ let g : ShiftLeftEqual ≡ c = (let z = u.1 in cc) in ap spelling (sym g) ∙ spelled a b d 60 60 61 u.0
        | inr u ↦ elim (chosen (a == 62 && (b == 62 && d == 61)) (Some ShiftRightEqual) None (Some c) u.1) [
          | inl v ↦ let g : ShiftRightEqual ≡ c = (let z = v.1 in cc) in ap spelling (sym g) ∙ spelled a b d 62 62 61 v.0
          | inr v ↦ absurd (let z = v.1 in cc)
        ]
      ]
    ]

-- ---- each spelling stands in the tables

-- what the first byte of a punctuator is
data Sign (a : ℕ) : Type 0 where
  plain_sign : class_of a ≡ C.Other → Sign a
  slash_sign : a ≡ 47 → Sign a

data Shape (c : Punctuator) : Type 0 where
  one : (a : ℕ) → spelling c ≡ a ∷ [] → single a ≡ Some c → Sign a → Shape c
  two : (a b : ℕ) → spelling c ≡ a ∷ b ∷ [] → pair a b ≡ Some c → Sign a → Shape c
  three : (a b d : ℕ) → spelling c ≡ a ∷ b ∷ d ∷ [] → triple a b d ≡ Some c → Sign a → Shape c

shape : (c : Punctuator) → Shape c
unfolding class_of
shape OpenBrace = one 123 refl refl (plain_sign refl)
shape CloseBrace = one 125 refl refl (plain_sign refl)
shape OpenParenthesis = one 40 refl refl (plain_sign refl)
shape CloseParenthesis = one 41 refl refl (plain_sign refl)
shape OpenBracket = one 91 refl refl (plain_sign refl)
shape CloseBracket = one 93 refl refl (plain_sign refl)
shape Semicolon = one 59 refl refl (plain_sign refl)
shape Comma = one 44 refl refl (plain_sign refl)
shape Dot = one 46 refl refl (plain_sign refl)
shape Arrow = two 45 62 refl refl (plain_sign refl)
shape PlusPlus = two 43 43 refl refl (plain_sign refl)
shape MinusMinus = two 45 45 refl refl (plain_sign refl)
shape Plus = one 43 refl refl (plain_sign refl)
shape Minus = one 45 refl refl (plain_sign refl)
shape Star = one 42 refl refl (plain_sign refl)
shape Slash = one 47 refl refl (slash_sign refl)
shape Percent = one 37 refl refl (plain_sign refl)
shape Not = one 33 refl refl (plain_sign refl)
shape Tilde = one 126 refl refl (plain_sign refl)
shape Ampersand = one 38 refl refl (plain_sign refl)
shape Bar = one 124 refl refl (plain_sign refl)
shape Caret = one 94 refl refl (plain_sign refl)
shape AndAnd = two 38 38 refl refl (plain_sign refl)
shape OrOr = two 124 124 refl refl (plain_sign refl)
shape Less = one 60 refl refl (plain_sign refl)
shape Greater = one 62 refl refl (plain_sign refl)
shape LessEqual = two 60 61 refl refl (plain_sign refl)
shape GreaterEqual = two 62 61 refl refl (plain_sign refl)
shape EqualEqual = two 61 61 refl refl (plain_sign refl)
shape NotEqual = two 33 61 refl refl (plain_sign refl)
shape ShiftLeft = two 60 60 refl refl (plain_sign refl)
shape ShiftRight = two 62 62 refl refl (plain_sign refl)
shape Equal = one 61 refl refl (plain_sign refl)
shape PlusEqual = two 43 61 refl refl (plain_sign refl)
shape MinusEqual = two 45 61 refl refl (plain_sign refl)
shape StarEqual = two 42 61 refl refl (plain_sign refl)
shape SlashEqual = two 47 61 refl refl (slash_sign refl)
shape PercentEqual = two 37 61 refl refl (plain_sign refl)
shape AmpersandEqual = two 38 61 refl refl (plain_sign refl)
shape BarEqual = two 124 61 refl refl (plain_sign refl)
shape CaretEqual = two 94 61 refl refl (plain_sign refl)
shape ShiftLeftEqual = three 60 60 61 refl refl (plain_sign refl)
shape ShiftRightEqual = three 62 62 61 refl refl (plain_sign refl)
shape Question = one 63 refl refl (plain_sign refl)
shape Colon = one 58 refl refl (plain_sign refl)
shape Ellipsis = three 46 46 46 refl refl (plain_sign refl)

-- ---- what is spelled is found, or something longer

-- what was found is at least this long, and where it is no longer it is this piece
pub record FoundIn (o : Option (Piece × ℕ)) (q : Piece) (n : ℕ) : Type 0 where
  pub piece : Piece
  pub count : ℕ
  pub is : o ≡ Some (piece, count)
  pub least : n ≤ count
  pub same : count ≡ n → piece ≡ q

abbrev sign : Punctuator → Piece
sign c = P.Token (K.Punctuator c)

here : (o : Option Punctuator) (m : ℕ) (other : Option (Piece × ℕ)) (c : Punctuator) → o ≡ Some c → FoundIn (sized o m other) (sign c) m
here o m other c h = record { piece = sign c; count = m; is = rw h refl; least = omega arith; same = λ e. refl }

longer : (o : Option Punctuator) (m n : ℕ) (other : Option (Piece × ℕ)) (q : Piece) → n < m → FoundIn other q n → FoundIn (sized o m other) q n
longer (Some c) m n other q lt k = record { piece = sign c; count = m; is = refl; least = omega arith; same = λ e. absurd (omega arith) }
longer None m n other q lt k = k

one_found : (c : Punctuator) (a : ℕ) (r : List ℕ) → single a ≡ Some c → FoundIn (punctuator_at (a ∷ r)) (sign c) 1
unfolding punctuator_at
one_found c a [] h = here (single a) 1 None c h
one_found c a (b ∷ []) h = longer (pair a b) 2 1 _ (sign c) (omega arith) (here (single a) 1 None c h)
one_found c a (b ∷ d ∷ r) h = longer (triple a b d) 3 1 _ (sign c) (omega arith) (longer (pair a b) 2 1 _ (sign c) (omega arith) (here (single a) 1 None c h))

two_found : (c : Punctuator) (a b : ℕ) (r : List ℕ) → pair a b ≡ Some c → FoundIn (punctuator_at (a ∷ b ∷ r)) (sign c) 2
unfolding punctuator_at
two_found c a b [] h = here (pair a b) 2 _ c h
two_found c a b (d ∷ r) h = longer (triple a b d) 3 2 _ (sign c) (omega arith) (here (pair a b) 2 _ c h)

three_found : (c : Punctuator) (a b d : ℕ) (r : List ℕ) → triple a b d ≡ Some c → FoundIn (punctuator_at (a ∷ b ∷ d ∷ r)) (sign c) 3
unfolding punctuator_at
three_found c a b d r h = here (triple a b d) 3 _ c h

-- ---- after a slash

slash_one : (c : Punctuator) (r : List ℕ) → single 47 ≡ Some c → FoundIn (slash_at (47 ∷ r)) (sign c) 1
slash_one c [] h = one_found c 47 [] h
slash_one c (b ∷ bs) h = at_line (b == 47)
  where
    as_comment : (o : Option ℕ) → FoundIn (Some (comment_as o bs)) (sign c) 1
    as_comment (Some n) = record { piece = P.Space; count = suc (suc n); is = refl; least = omega arith; same = λ e. absurd (omega arith) }
    as_comment None = record { piece = P.OpenComment; count = suc (suc (length bs)); is = refl; least = omega arith; same = λ e. absurd (omega arith) }

    at_star : (t : Bool) → FoundIn (cond t (Some (comment_as (comment_end false bs) bs)) (punctuator_at (47 ∷ b ∷ bs))) (sign c) 1
    at_star true = as_comment (comment_end false bs)
    at_star false = one_found c 47 (b ∷ bs) h

    at_line : (t : Bool) → FoundIn (cond t (Some (P.Space, suc (suc (prefix_len is_line_byte bs)))) (cond (b == 42) (Some (comment_as (comment_end false bs) bs)) (punctuator_at (47 ∷ b ∷ bs)))) (sign c) 1
    at_line true = record { piece = P.Space; count = suc (suc (prefix_len is_line_byte bs)); is = refl; least = omega arith; same = λ e. absurd (omega arith) }
    at_line false = at_star (b == 42)

slash_two : (c : Punctuator) (b : ℕ) (r : List ℕ) → pair 47 b ≡ Some c → FoundIn (slash_at (47 ∷ b ∷ r)) (sign c) 2
slash_two c b r h = at_line (b == 47) refl
  where
    no_line : b ≡ 47 → ⊥
    no_line e = let z : pair 47 47 ≡ Some c = subst (λ x. pair 47 x ≡ Some c) e h in absurd cc

    no_comment : b ≡ 42 → ⊥
    no_comment e = let z : pair 47 42 ≡ Some c = subst (λ x. pair 47 x ≡ Some c) e h in absurd cc

    at_star : (t : Bool) → (b == 42) ≡ t → FoundIn (cond t (Some (comment_as (comment_end false r) r)) (punctuator_at (47 ∷ b ∷ r))) (sign c) 2
    at_star true e = absurd (no_comment (eqb-true b 42 e))
    at_star false e = two_found c 47 b r h

    at_line : (t : Bool) → (b == 47) ≡ t → FoundIn (cond t (Some (P.Space, suc (suc (prefix_len is_line_byte r)))) (cond (b == 42) (Some (comment_as (comment_end false r) r)) (punctuator_at (47 ∷ b ∷ r)))) (sign c) 2
    at_line true e = absurd (no_line (eqb-true b 47 e))
    at_line false e = at_star (b == 42) refl

-- ---- at a place

abbrev Found : Bool → Piece → ℕ → List ℕ → Type 0
Found fresh q n bytes = FoundIn (piece_at fresh bytes) q n

pub at_other : (fresh : Bool) (a : ℕ) (r : List ℕ) → class_of a ≡ C.Other → piece_at fresh (a ∷ r) ≡ punctuator_at (a ∷ r)
unfolding piece_at
at_other fresh a r h = rw h refl

pub at_slash : (fresh : Bool) (r : List ℕ) → piece_at fresh (47 ∷ r) ≡ slash_at (47 ∷ r)
unfolding piece_at
at_slash fresh r = rw class_slash refl

one_at : (fresh : Bool) (c : Punctuator) (a : ℕ) (r : List ℕ) → single a ≡ Some c → Sign a → Found fresh (sign c) 1 (a ∷ r)
one_at fresh c a r h (plain_sign k) = subst (λ o. FoundIn o (sign c) 1) (sym (at_other fresh a r k)) (one_found c a r h)
one_at fresh c a r h (slash_sign e) =
    let g : single 47 ≡ Some c = subst (λ x. single x ≡ Some c) e h in
    let w : Found fresh (sign c) 1 (47 ∷ r) = subst (λ o. FoundIn o (sign c) 1) (sym (at_slash fresh r)) (slash_one c r g) in
    subst (λ x. Found fresh (sign c) 1 (x ∷ r)) (sym e) w

two_at : (fresh : Bool) (c : Punctuator) (a b : ℕ) (r : List ℕ) → pair a b ≡ Some c → Sign a → Found fresh (sign c) 2 (a ∷ b ∷ r)
two_at fresh c a b r h (plain_sign k) = subst (λ o. FoundIn o (sign c) 2) (sym (at_other fresh a (b ∷ r) k)) (two_found c a b r h)
two_at fresh c a b r h (slash_sign e) =
    let g : pair 47 b ≡ Some c = subst (λ x. pair x b ≡ Some c) e h in
    let w : Found fresh (sign c) 2 (47 ∷ b ∷ r) = subst (λ o. FoundIn o (sign c) 2) (sym (at_slash fresh (b ∷ r))) (slash_two c b r g) in
    subst (λ x. Found fresh (sign c) 2 (x ∷ b ∷ r)) (sym e) w

three_at : (fresh : Bool) (c : Punctuator) (a b d : ℕ) (r : List ℕ) → triple a b d ≡ Some c → Sign a → Found fresh (sign c) 3 (a ∷ b ∷ d ∷ r)
three_at fresh c a b d r h (plain_sign k) = subst (λ o. FoundIn o (sign c) 3) (sym (at_other fresh a (b ∷ d ∷ r) k)) (three_found c a b d r h)
three_at fresh c a b d r h (slash_sign e) = absurd (let z : triple 47 b d ≡ Some c = subst (λ x. triple x b d ≡ Some c) e h in cc)

pub punctuator_found : (fresh : Bool) (c : Punctuator) (r : List ℕ) → FoundIn (piece_at fresh (spelling c ++ r)) (sign c) (length (spelling c))
punctuator_found fresh c r = go (shape c)
  where
    go : Shape c → FoundIn (piece_at fresh (spelling c ++ r)) (sign c) (length (spelling c))
    go (one a e h k) = subst (λ z. Found fresh (sign c) (length z) (z ++ r)) (sym e) (one_at fresh c a r h k)
    go (two a b e h k) = subst (λ z. Found fresh (sign c) (length z) (z ++ r)) (sym e) (two_at fresh c a b r h k)
    go (three a b d e h k) = subst (λ z. Found fresh (sign c) (length z) (z ++ r)) (sym e) (three_at fresh c a b d r h k)

-- ---- what is found is spelled

-- the punctuator that stands at the front
pub record Stands (bytes : List ℕ) (x : Piece × ℕ) : Type 0 where
  pub punctuator : Punctuator
  pub rest : List ℕ
  pub piece : x.0 ≡ P.Token (K.Punctuator punctuator)
  pub parts : bytes ≡ spelling punctuator ++ rest
  pub count : length (spelling punctuator) ≡ x.1

stands : (bytes : List ℕ) (o : Option Punctuator) (n : ℕ) (other : Option (Piece × ℕ)) (x : Piece × ℕ) →
    ((c : Punctuator) → o ≡ Some c → (rest : List ℕ) × (bytes ≡ spelling c ++ rest) × (length (spelling c) ≡ n)) →
    (other ≡ Some x → Stands bytes x) → sized o n other ≡ Some x → Stands bytes x
stands bytes (Some c) n other x h k e =
    let w = h c refl in
    let y : Piece × ℕ = (P.Token (K.Punctuator c), n) in
    let g : y ≡ x = cc in
    subst (λ (z : Piece × ℕ). Stands bytes z) g (record { punctuator = c; rest = w.0; piece = refl; parts = w.1; count = w.2 })
stands bytes None n other x h k e = k e

single_stands : (a : ℕ) (r : List ℕ) (c : Punctuator) → single a ≡ Some c → (rest : List ℕ) × (a ∷ r ≡ spelling c ++ rest) × (length (spelling c) ≡ 1)
single_stands a r c h = let e = single_sound a c h in (r, rw e refl, ap length e)

pair_stands : (a b : ℕ) (r : List ℕ) (c : Punctuator) → pair a b ≡ Some c → (rest : List ℕ) × (a ∷ b ∷ r ≡ spelling c ++ rest) × (length (spelling c) ≡ 2)
pair_stands a b r c h = let e = pair_sound a b c h in (r, rw e refl, ap length e)

triple_stands : (a b d : ℕ) (r : List ℕ) (c : Punctuator) → triple a b d ≡ Some c → (rest : List ℕ) × (a ∷ b ∷ d ∷ r ≡ spelling c ++ rest) × (length (spelling c) ≡ 3)
triple_stands a b d r c h = let e = triple_sound a b d c h in (r, rw e refl, ap length e)

nothing_stands : (bytes : List ℕ) (x : Piece × ℕ) → None ≡ Some x → Stands bytes x
nothing_stands bytes x e = absurd cc

pub punctuator_stands : (bytes : List ℕ) (x : Piece × ℕ) → punctuator_at bytes ≡ Some x → Stands bytes x
unfolding punctuator_at
punctuator_stands [] x e = absurd cc
punctuator_stands (a ∷ []) x e = stands _ (single a) 1 None x (λ c h. single_stands a [] c h) (λ f. nothing_stands _ x f) e
punctuator_stands (a ∷ b ∷ []) x e =
    stands _ (pair a b) 2 _ x (λ c h. pair_stands a b [] c h)
    (λ f. stands _ (single a) 1 None x (λ c h. single_stands a (b ∷ []) c h) (λ g. nothing_stands _ x g) f) e
punctuator_stands (a ∷ b ∷ d ∷ r) x e =
    stands _ (triple a b d) 3 _ x (λ c h. triple_stands a b d r c h)
    (λ f. stands _ (pair a b) 2 _ x (λ c h. pair_stands a b (d ∷ r) c h)
    (λ g. stands _ (single a) 1 None x (λ c h. single_stands a (b ∷ d ∷ r) c h) (λ i. nothing_stands _ x i) g) f) e

pub sign_some : (c : Punctuator) → 0 < length (spelling c)
sign_some c = go (shape c)
  where
    go : Shape c → 0 < length (spelling c)
    go (one a e h k) = rw e (omega arith)
    go (two a b e h k) = rw e (omega arith)
    go (three a b d e h k) = rw e (omega arith)
