-- The longest punctuator.
use Rattle.std.proofs.Common.{◌≡◌, ◌==◌, ◌&&◌, ℕ, suc, ◌<◌, ◌≤◌, Bool, true, false, cond, List, [], ◌∷◌, ◌++◌, length, drop, Option, Some, None, refl, sym, ap, ap₂, subst, ◌∙◌, arith, inl, inr, append-nil, length-append}
use Rattle.std.proofs.lemmas.Bool.{eqb-true, and_parts}
use Rattle.std.proofs.lemmas.List.{nil_from_length}
use Rattle.px_lexer.specs.Bytes.{is_digit}
use Rattle.px_lexer.specs.Spelling.{spelling}
use Rattle.px_lexer.specs.Scanning.{comment_end, single, pair, triple}
use Rattle.px_lexer.specs.Scanning as Profile
use Rattle.px_lexer.specs.declared.token.TokenKind.TheVariants as ProfileKind
use Rattle.px_lexer.specs.declared.piece.Piece.{Piece as ProfilePiece}
use Rattle.px_lexer.specs.declared.piece.Piece.TheVariants as ProfileIs
use Rattle.px_lexer.specs.declared.token.Punctuator.{Punctuator}
use Rattle.px_lexer.specs.declared.token.Punctuator.TheVariants.{OpenBrace, CloseBrace, OpenParenthesis, CloseParenthesis, OpenBracket, CloseBracket, Semicolon, Comma, Dot, Arrow, PlusPlus, MinusMinus, Plus, Minus, Star, Slash, Percent, Not, Tilde, Ampersand, Bar, Caret, AndAnd, OrOr, Less, Greater, LessEqual, GreaterEqual, EqualEqual, NotEqual, ShiftLeft, ShiftRight, Equal, PlusEqual, MinusEqual, StarEqual, SlashEqual, PercentEqual, AmpersandEqual, BarEqual, CaretEqual, ShiftLeftEqual, ShiftRightEqual, Question, Colon, Ellipsis}
use Rattle.px_real_tokens.specs.declared.token.TokenKind.TheVariants as K
use Rattle.px_real_tokens.specs.declared.piece.Piece.{Piece}
use Rattle.px_real_tokens.specs.declared.piece.Piece.TheVariants as P
use Rattle.px_real_tokens.specs.declared.piece.Class.TheVariants as C
use Rattle.px_real_tokens.specs.Bytes.{begins_byte, begins_digit, number_goes_on, run_of}
use Rattle.px_real_tokens.specs.Spelling.{IsPunctuator, usual, for_open_bracket, for_close_bracket, for_open_brace, for_close_brace}
use Rattle.px_real_tokens.specs.Scanning.{class_of, any_pair, sized, punctuator_at, number_at, line_run, line_at, digraph_at, slash_at, comment_as, piece_at}
use Rattle.px_lexer.proofs.RunLemmas.{chosen}
use Rattle.px_lexer.proofs.PunctuatorLemmas.{punctuator_stands}
use Rattle.px_real_tokens.proofs.ClassLemmas.{class_percent, class_dot, class_slash, digit_goes_on}

-- ---- each spelling stands in the tables

-- what the first byte of a punctuator is
data Sign (a : ℕ) : Type 0 where
  plain_sign : class_of a ≡ C.Other → Sign a
  slash_sign : a ≡ 47 → Sign a
  percent_sign : a ≡ 37 → Sign a
  dot_sign : a ≡ 46 → Sign a

data Shape (c : Punctuator) (f : List ℕ) : Type 0 where
  one : (a : ℕ) → f ≡ a ∷ [] → single a ≡ Some c → Sign a → Shape c f
  two : (a b : ℕ) → f ≡ a ∷ b ∷ [] → any_pair a b ≡ Some c → Sign a → Shape c f
  three : (a b d : ℕ) → f ≡ a ∷ b ∷ d ∷ [] → triple a b d ≡ Some c → Sign a → Shape c f

usual_shape : (c : Punctuator) → Shape c (spelling c)
unfolding class_of
usual_shape OpenBrace = one 123 refl refl (plain_sign refl)
usual_shape CloseBrace = one 125 refl refl (plain_sign refl)
usual_shape OpenParenthesis = one 40 refl refl (plain_sign refl)
usual_shape CloseParenthesis = one 41 refl refl (plain_sign refl)
usual_shape OpenBracket = one 91 refl refl (plain_sign refl)
usual_shape CloseBracket = one 93 refl refl (plain_sign refl)
usual_shape Semicolon = one 59 refl refl (plain_sign refl)
usual_shape Comma = one 44 refl refl (plain_sign refl)
usual_shape Dot = one 46 refl refl (dot_sign refl)
usual_shape Arrow = two 45 62 refl refl (plain_sign refl)
usual_shape PlusPlus = two 43 43 refl refl (plain_sign refl)
usual_shape MinusMinus = two 45 45 refl refl (plain_sign refl)
usual_shape Plus = one 43 refl refl (plain_sign refl)
usual_shape Minus = one 45 refl refl (plain_sign refl)
usual_shape Star = one 42 refl refl (plain_sign refl)
usual_shape Slash = one 47 refl refl (slash_sign refl)
usual_shape Percent = one 37 refl refl (percent_sign refl)
usual_shape Not = one 33 refl refl (plain_sign refl)
usual_shape Tilde = one 126 refl refl (plain_sign refl)
usual_shape Ampersand = one 38 refl refl (plain_sign refl)
usual_shape Bar = one 124 refl refl (plain_sign refl)
usual_shape Caret = one 94 refl refl (plain_sign refl)
usual_shape AndAnd = two 38 38 refl refl (plain_sign refl)
usual_shape OrOr = two 124 124 refl refl (plain_sign refl)
usual_shape Less = one 60 refl refl (plain_sign refl)
usual_shape Greater = one 62 refl refl (plain_sign refl)
usual_shape LessEqual = two 60 61 refl refl (plain_sign refl)
usual_shape GreaterEqual = two 62 61 refl refl (plain_sign refl)
usual_shape EqualEqual = two 61 61 refl refl (plain_sign refl)
usual_shape NotEqual = two 33 61 refl refl (plain_sign refl)
usual_shape ShiftLeft = two 60 60 refl refl (plain_sign refl)
usual_shape ShiftRight = two 62 62 refl refl (plain_sign refl)
usual_shape Equal = one 61 refl refl (plain_sign refl)
usual_shape PlusEqual = two 43 61 refl refl (plain_sign refl)
usual_shape MinusEqual = two 45 61 refl refl (plain_sign refl)
usual_shape StarEqual = two 42 61 refl refl (plain_sign refl)
usual_shape SlashEqual = two 47 61 refl refl (slash_sign refl)
usual_shape PercentEqual = two 37 61 refl refl (percent_sign refl)
usual_shape AmpersandEqual = two 38 61 refl refl (plain_sign refl)
usual_shape BarEqual = two 124 61 refl refl (plain_sign refl)
usual_shape CaretEqual = two 94 61 refl refl (plain_sign refl)
usual_shape ShiftLeftEqual = three 60 60 61 refl refl (plain_sign refl)
usual_shape ShiftRightEqual = three 62 62 61 refl refl (plain_sign refl)
usual_shape Question = one 63 refl refl (plain_sign refl)
usual_shape Colon = one 58 refl refl (plain_sign refl)
usual_shape Ellipsis = three 46 46 46 refl refl (dot_sign refl)

shape : (c : Punctuator) (f : List ℕ) → IsPunctuator c f → Shape c f
unfolding class_of
shape c f (usual e) = subst (λ z. Shape c z) (sym e) (usual_shape c)
shape c f (for_open_bracket k e) = two 60 58 e (rw k refl) (plain_sign refl)
shape c f (for_close_bracket k e) = two 58 62 e (rw k refl) (plain_sign refl)
shape c f (for_open_brace k e) = two 60 37 e (rw k refl) (plain_sign refl)
shape c f (for_close_brace k e) = two 37 62 e (rw k refl) (percent_sign refl)

pub punctuator_some : (c : Punctuator) (f : List ℕ) → IsPunctuator c f → 0 < length f
punctuator_some c f h = go (shape c f h)
  where
    go : Shape c f → 0 < length f
    go (one a e h k) = rw e (omega arith)
    go (two a b e h k) = rw e (omega arith)
    go (three a b d e h k) = rw e (omega arith)

-- ---- what is spelled is found, or something longer

-- what was found is at least this long, and where it is no longer it is this piece
pub record FoundIn (o : Option (Piece × ℕ)) (q : Piece) (n : ℕ) : Type 0 where
  pub piece : Piece
  pub count : ℕ
  pub is : o ≡ Some (piece, count)
  pub least : n ≤ count
  pub same : count ≡ n → piece ≡ q

abbrev sign : Punctuator → Piece
sign c = P.Token (K.Punctuator c)

-- a piece that is longer
pub found_longer : (p q : Piece) (m n : ℕ) → n < m → FoundIn (Some (p, m)) q n
found_longer p q m n lt = record { piece = p; count = m; is = refl; least = omega arith; same = λ e. absurd (omega arith) }

here : (o : Option Punctuator) (m : ℕ) (other : Option (Piece × ℕ)) (c : Punctuator) → o ≡ Some c → FoundIn (sized o m other) (sign c) m
here o m other c h = record { piece = sign c; count = m; is = rw h refl; least = omega arith; same = λ e. refl }

longer : (o : Option Punctuator) (m n : ℕ) (other : Option (Piece × ℕ)) (q : Piece) → n < m → FoundIn other q n → FoundIn (sized o m other) q n
longer (Some c) m n other q lt k = found_longer (sign c) q m n lt
longer None m n other q lt k = k

one_found : (c : Punctuator) (a : ℕ) (r : List ℕ) → single a ≡ Some c → FoundIn (punctuator_at (a ∷ r)) (sign c) 1
unfolding punctuator_at
one_found c a [] h = here (single a) 1 None c h
one_found c a (b ∷ []) h = longer (any_pair a b) 2 1 _ (sign c) (omega arith) (here (single a) 1 None c h)
one_found c a (b ∷ d ∷ r) h = longer (triple a b d) 3 1 _ (sign c) (omega arith) (longer (any_pair a b) 2 1 _ (sign c) (omega arith) (here (single a) 1 None c h))

two_found : (c : Punctuator) (a b : ℕ) (r : List ℕ) → any_pair a b ≡ Some c → FoundIn (punctuator_at (a ∷ b ∷ r)) (sign c) 2
unfolding punctuator_at
two_found c a b [] h = here (any_pair a b) 2 _ c h
two_found c a b (d ∷ r) h = longer (triple a b d) 3 2 _ (sign c) (omega arith) (here (any_pair a b) 2 _ c h)

three_found : (c : Punctuator) (a b d : ℕ) (r : List ℕ) → triple a b d ≡ Some c → FoundIn (punctuator_at (a ∷ b ∷ d ∷ r)) (sign c) 3
unfolding punctuator_at
three_found c a b d r h = here (triple a b d) 3 _ c h

-- ---- after a slash

slash_one : (c : Punctuator) (r : List ℕ) → single 47 ≡ Some c → FoundIn (slash_at (47 ∷ r)) (sign c) 1
slash_one c [] h = one_found c 47 [] h
slash_one c (b ∷ bs) h = at_line (b == 47)
  where
    as_comment : (o : Option ℕ) → FoundIn (Some (comment_as o bs)) (sign c) 1
    as_comment (Some n) = found_longer P.Space (sign c) (suc (suc n)) 1 (omega arith)
    as_comment None = found_longer P.OpenComment (sign c) (suc (suc (length bs))) 1 (omega arith)

    at_star : (t : Bool) → FoundIn (cond t (Some (comment_as (comment_end false bs) bs)) (punctuator_at (47 ∷ b ∷ bs))) (sign c) 1
    at_star true = as_comment (comment_end false bs)
    at_star false = one_found c 47 (b ∷ bs) h

    at_line : (t : Bool) → FoundIn (cond t (Some (P.Space, suc (suc (line_run bs)))) (cond (b == 42) (Some (comment_as (comment_end false bs) bs)) (punctuator_at (47 ∷ b ∷ bs)))) (sign c) 1
    at_line true = found_longer P.Space (sign c) (suc (suc (line_run bs))) 1 (omega arith)
    at_line false = at_star (b == 42)

slash_two : (c : Punctuator) (b : ℕ) (r : List ℕ) → any_pair 47 b ≡ Some c → FoundIn (slash_at (47 ∷ b ∷ r)) (sign c) 2
slash_two c b r h = at_line (b == 47) refl
  where
    no_line : b ≡ 47 → ⊥
    no_line e = let z : any_pair 47 47 ≡ Some c = subst (λ x. any_pair 47 x ≡ Some c) e h in absurd cc

    no_comment : b ≡ 42 → ⊥
    no_comment e = let z : any_pair 47 42 ≡ Some c = subst (λ x. any_pair 47 x ≡ Some c) e h in absurd cc

    at_star : (t : Bool) → (b == 42) ≡ t → FoundIn (cond t (Some (comment_as (comment_end false r) r)) (punctuator_at (47 ∷ b ∷ r))) (sign c) 2
    at_star true e = absurd (no_comment (eqb-true b 42 e))
    at_star false e = two_found c 47 b r h

    at_line : (t : Bool) → (b == 47) ≡ t → FoundIn (cond t (Some (P.Space, suc (suc (line_run r)))) (cond (b == 42) (Some (comment_as (comment_end false r) r)) (punctuator_at (47 ∷ b ∷ r)))) (sign c) 2
    at_line true e = absurd (no_line (eqb-true b 47 e))
    at_line false e = at_star (b == 42) refl

-- ---- after `%`

-- what stands at a `%`
abbrev percent_at : Bool → List ℕ → Option (Piece × ℕ)
percent_at fresh r = cond (begins_byte 58 r) (Some (digraph_at fresh (drop 1 r))) (punctuator_at (37 ∷ r))

digraph_longer : (fresh : Bool) (bs : List ℕ) (q : Piece) → FoundIn (Some (digraph_at fresh bs)) q 1
digraph_longer true bs q = found_longer (line_at 2 bs).0 q (line_at 2 bs).1 1 (omega arith)
digraph_longer false bs q = go (begins_byte 37 bs && begins_byte 58 (drop 1 bs))
  where
    go : (t : Bool) → FoundIn (Some (cond t (P.Token K.HashHash, 4) (P.Token K.Hash, 2))) q 1
    go true = found_longer (P.Token K.HashHash) q 4 1 (omega arith)
    go false = found_longer (P.Token K.Hash) q 2 1 (omega arith)

percent_one : (fresh : Bool) (c : Punctuator) (r : List ℕ) → single 37 ≡ Some c → FoundIn (percent_at fresh r) (sign c) 1
percent_one fresh c r h = go (begins_byte 58 r)
  where
    go : (t : Bool) → FoundIn (cond t (Some (digraph_at fresh (drop 1 r))) (punctuator_at (37 ∷ r))) (sign c) 1
    go true = digraph_longer fresh (drop 1 r) (sign c)
    go false = one_found c 37 r h

percent_two : (fresh : Bool) (c : Punctuator) (b : ℕ) (r : List ℕ) → any_pair 37 b ≡ Some c → FoundIn (percent_at fresh (b ∷ r)) (sign c) 2
percent_two fresh c b r h = go (b == 58) refl
  where
    no_colon : b ≡ 58 → ⊥
    no_colon e = let z : any_pair 37 58 ≡ Some c = subst (λ x. any_pair 37 x ≡ Some c) e h in absurd cc

    go : (t : Bool) → (b == 58) ≡ t → FoundIn (cond t (Some (digraph_at fresh r)) (punctuator_at (37 ∷ b ∷ r))) (sign c) 2
    go true e = absurd (no_colon (eqb-true b 58 e))
    go false e = two_found c 37 b r h

-- ---- after a dot

-- what stands at a dot
abbrev dot_at : List ℕ → Option (Piece × ℕ)
dot_at r = cond (begins_digit r) (Some (number_at 46 r)) (punctuator_at (46 ∷ r))

dotted_longer : (r : List ℕ) (q : Piece) → begins_digit r ≡ true → FoundIn (Some (number_at 46 r)) q 1
unfolding run_of
dotted_longer [] q h = absurd cc
dotted_longer (b ∷ bs) q h =
    let e : run_of number_goes_on 46 (b ∷ bs) ≡ suc (run_of number_goes_on b bs) = rw (digit_goes_on 46 b h) refl in
    found_longer (number_at 46 (b ∷ bs)).0 q (number_at 46 (b ∷ bs)).1 1 (omega (arith, e))

dot_one : (c : Punctuator) (r : List ℕ) → single 46 ≡ Some c → FoundIn (dot_at r) (sign c) 1
dot_one c r h = go (begins_digit r) refl
  where
    go : (t : Bool) → begins_digit r ≡ t → FoundIn (cond t (Some (number_at 46 r)) (punctuator_at (46 ∷ r))) (sign c) 1
    go true e = dotted_longer r (sign c) e
    go false e = one_found c 46 r h

-- no punctuator of two bytes begins with a dot
no_dot_pair : (c : Punctuator) (b : ℕ) → any_pair 46 b ≡ Some c → ⊥
no_dot_pair c b h = go (b == 61) (46 == b) h
  where
    go : (s t : Bool) → cond s None (cond t None None) ≡ Some c → ⊥
    go true t e = absurd cc
    go false true e = absurd cc
    go false false e = absurd cc

-- after a dot a punctuator of three bytes goes on with another one
second_dot : (c : Punctuator) (b d : ℕ) → triple 46 b d ≡ Some c → b ≡ 46
second_dot c b d h = go (b == 46 && d == 46) refl h
  where
    go : (t : Bool) → (b == 46 && d == 46) ≡ t → cond t (Some Ellipsis) None ≡ Some c → b ≡ 46
    go true e k = eqb-true b 46 (and_parts (b == 46) (d == 46) e).0
    go false e k = absurd cc

dot_three : (c : Punctuator) (b d : ℕ) (r : List ℕ) → triple 46 b d ≡ Some c → FoundIn (dot_at (b ∷ d ∷ r)) (sign c) 3
dot_three c b d r h =
    let e : is_digit b ≡ false = rw (second_dot c b d h) refl in
    subst (λ z. FoundIn (cond z (Some (number_at 46 (b ∷ d ∷ r))) (punctuator_at (46 ∷ b ∷ d ∷ r))) (sign c) 3) (sym e) (three_found c 46 b d r h)

-- ---- at a place

abbrev Found : Bool → Piece → ℕ → List ℕ → Type 0
Found fresh q n bytes = FoundIn (piece_at fresh bytes) q n

at_other : (fresh : Bool) (a : ℕ) (r : List ℕ) → class_of a ≡ C.Other → piece_at fresh (a ∷ r) ≡ punctuator_at (a ∷ r)
unfolding piece_at
at_other fresh a r h = rw h refl

at_slash : (fresh : Bool) (r : List ℕ) → piece_at fresh (47 ∷ r) ≡ slash_at (47 ∷ r)
unfolding piece_at
at_slash fresh r = rw class_slash refl

at_percent : (fresh : Bool) (r : List ℕ) → piece_at fresh (37 ∷ r) ≡ percent_at fresh r
unfolding piece_at
at_percent fresh r = rw class_percent refl

at_dot : (fresh : Bool) (r : List ℕ) → piece_at fresh (46 ∷ r) ≡ dot_at r
unfolding piece_at
at_dot fresh r = rw class_dot refl

one_at : (fresh : Bool) (c : Punctuator) (a : ℕ) (r : List ℕ) → single a ≡ Some c → Sign a → Found fresh (sign c) 1 (a ∷ r)
one_at fresh c a r h (plain_sign k) = subst (λ o. FoundIn o (sign c) 1) (sym (at_other fresh a r k)) (one_found c a r h)
one_at fresh c a r h (slash_sign e) =
    subst (λ x. Found fresh (sign c) 1 (x ∷ r)) (sym e) (subst (λ o. FoundIn o (sign c) 1) (sym (at_slash fresh r)) (slash_one c r (subst (λ x. single x ≡ Some c) e h)))
one_at fresh c a r h (percent_sign e) =
    subst (λ x. Found fresh (sign c) 1 (x ∷ r)) (sym e) (subst (λ o. FoundIn o (sign c) 1) (sym (at_percent fresh r)) (percent_one fresh c r (subst (λ x. single x ≡ Some c) e h)))
one_at fresh c a r h (dot_sign e) =
    subst (λ x. Found fresh (sign c) 1 (x ∷ r)) (sym e) (subst (λ o. FoundIn o (sign c) 1) (sym (at_dot fresh r)) (dot_one c r (subst (λ x. single x ≡ Some c) e h)))

two_at : (fresh : Bool) (c : Punctuator) (a b : ℕ) (r : List ℕ) → any_pair a b ≡ Some c → Sign a → Found fresh (sign c) 2 (a ∷ b ∷ r)
two_at fresh c a b r h (plain_sign k) = subst (λ o. FoundIn o (sign c) 2) (sym (at_other fresh a (b ∷ r) k)) (two_found c a b r h)
two_at fresh c a b r h (slash_sign e) =
    subst (λ x. Found fresh (sign c) 2 (x ∷ b ∷ r)) (sym e) (subst (λ o. FoundIn o (sign c) 2) (sym (at_slash fresh (b ∷ r))) (slash_two c b r (subst (λ x. any_pair x b ≡ Some c) e h)))
two_at fresh c a b r h (percent_sign e) =
    subst (λ x. Found fresh (sign c) 2 (x ∷ b ∷ r)) (sym e) (subst (λ o. FoundIn o (sign c) 2) (sym (at_percent fresh (b ∷ r))) (percent_two fresh c b r (subst (λ x. any_pair x b ≡ Some c) e h)))
two_at fresh c a b r h (dot_sign e) = absurd (no_dot_pair c b (subst (λ x. any_pair x b ≡ Some c) e h))

three_at : (fresh : Bool) (c : Punctuator) (a b d : ℕ) (r : List ℕ) → triple a b d ≡ Some c → Sign a → Found fresh (sign c) 3 (a ∷ b ∷ d ∷ r)
three_at fresh c a b d r h (plain_sign k) = subst (λ o. FoundIn o (sign c) 3) (sym (at_other fresh a (b ∷ d ∷ r) k)) (three_found c a b d r h)
three_at fresh c a b d r h (slash_sign e) = absurd (let z : triple 47 b d ≡ Some c = subst (λ x. triple x b d ≡ Some c) e h in cc)
three_at fresh c a b d r h (percent_sign e) = absurd (let z : triple 37 b d ≡ Some c = subst (λ x. triple x b d ≡ Some c) e h in cc)
three_at fresh c a b d r h (dot_sign e) =
    subst (λ x. Found fresh (sign c) 3 (x ∷ b ∷ d ∷ r)) (sym e) (subst (λ o. FoundIn o (sign c) 3) (sym (at_dot fresh (b ∷ d ∷ r))) (dot_three c b d r (subst (λ x. triple x b d ≡ Some c) e h)))

pub punctuator_found : (fresh : Bool) (c : Punctuator) (f r : List ℕ) → IsPunctuator c f → FoundIn (piece_at fresh (f ++ r)) (sign c) (length f)
punctuator_found fresh c f r h = go (shape c f h)
  where
    go : Shape c f → FoundIn (piece_at fresh (f ++ r)) (sign c) (length f)
    go (one a e h k) = subst (λ z. Found fresh (sign c) (length z) (z ++ r)) (sym e) (one_at fresh c a r h k)
    go (two a b e h k) = subst (λ z. Found fresh (sign c) (length z) (z ++ r)) (sym e) (two_at fresh c a b r h k)
    go (three a b d e h k) = subst (λ z. Found fresh (sign c) (length z) (z ++ r)) (sym e) (three_at fresh c a b d r h k)

-- ---- what is found is spelled

-- a punctuator of the profile that is all of some bytes
whole : (bytes : List ℕ) (c : Punctuator) (n : ℕ) → Profile.punctuator_at bytes ≡ Some (ProfileIs.Token (ProfileKind.Punctuator c), n) → length bytes ≡ n → bytes ≡ spelling c
whole bytes c n h e =
    let x : ProfilePiece × ℕ = (ProfileIs.Token (ProfileKind.Punctuator c), n) in
    let s = punctuator_stands bytes x h in
    let same : s.punctuator ≡ c = (let z = s.piece in cc) in
    let none : s.rest ≡ [] = nil_from_length s.rest (omega (arith, ap length s.parts, length-append (spelling s.punctuator) s.rest, s.count)) in
    s.parts ∙ ap₂ (λ d z. spelling d ++ z) same none ∙ append-nil (spelling c)

single_sound : (a : ℕ) (c : Punctuator) → single a ≡ Some c → a ∷ [] ≡ spelling c
unfolding Profile.punctuator_at
single_sound a c h = whole (a ∷ []) c 1 (rw h refl) refl

pair_sound : (a b : ℕ) (c : Punctuator) → pair a b ≡ Some c → a ∷ b ∷ [] ≡ spelling c
unfolding Profile.punctuator_at
pair_sound a b c h = whole (a ∷ b ∷ []) c 2 (rw h refl) refl

triple_sound : (a b d : ℕ) (c : Punctuator) → triple a b d ≡ Some c → a ∷ b ∷ d ∷ [] ≡ spelling c
unfolding Profile.punctuator_at
triple_sound a b d c h = whole (a ∷ b ∷ d ∷ []) c 3 (rw h refl) refl

-- two bytes that pass two tests
both_are : (a b x y : ℕ) → (a == x && b == y) ≡ true → a ∷ b ∷ [] ≡ x ∷ y ∷ []
both_are a b x y h = let k = and_parts (a == x) (b == y) h in ap₂ (λ u v. u ∷ v ∷ []) (eqb-true a x k.0) (eqb-true b y k.1)

any_pair_sound : (a b : ℕ) (c : Punctuator) → any_pair a b ≡ Some c → IsPunctuator c (a ∷ b ∷ [])
any_pair_sound a b c h =
    elim (chosen (a == 60 && b == 58) (Some OpenBracket) _ (Some c) h) [
      | inl w ↦ for_open_bracket (let z = w.1 in cc) (both_are a b 60 58 w.0)
      | inr w ↦ elim (chosen (a == 58 && b == 62) (Some CloseBracket) _ (Some c) w.1) [
        | inl v ↦ for_close_bracket (let z = v.1 in cc) (both_are a b 58 62 v.0)
        | inr v ↦ elim (chosen (a == 60 && b == 37) (Some OpenBrace) _ (Some c) v.1) [
          | inl u ↦ for_open_brace (let z = u.1 in cc) (both_are a b 60 37 u.0)
          | inr u ↦ elim (chosen (a == 37 && b == 62) (Some CloseBrace) (pair a b) (Some c) u.1) [
            | inl t ↦ for_close_brace (let z = t.1 in cc) (both_are a b 37 62 t.0)
            | inr t ↦ usual (pair_sound a b c t.1)
          ]
        ]
      ]
    ]

-- the punctuator that stands at the front
pub record Stands (bytes : List ℕ) (x : Piece × ℕ) : Type 0 where
  pub punctuator : Punctuator
  pub front : List ℕ
  pub rest : List ℕ
  pub spelled : IsPunctuator punctuator front
  pub piece : x.0 ≡ P.Token (K.Punctuator punctuator)
  pub parts : bytes ≡ front ++ rest
  pub count : length front ≡ x.1

stands : (bytes front rest : List ℕ) (o : Option Punctuator) (n : ℕ) (other : Option (Piece × ℕ)) (x : Piece × ℕ) →
    bytes ≡ front ++ rest → length front ≡ n → ((c : Punctuator) → o ≡ Some c → IsPunctuator c front) →
    (other ≡ Some x → Stands bytes x) → sized o n other ≡ Some x → Stands bytes x
stands bytes front rest (Some c) n other x parts count h k e =
    let y : Piece × ℕ = (P.Token (K.Punctuator c), n) in
    let g : y ≡ x = cc in
    subst (λ (z : Piece × ℕ). Stands bytes z) g (record { punctuator = c; front = front; rest = rest; spelled = h c refl; piece = refl; parts = parts; count = count })
stands bytes front rest None n other x parts count h k e = k e

nothing_stands : (bytes : List ℕ) (x : Piece × ℕ) → None ≡ Some x → Stands bytes x
nothing_stands bytes x e = absurd cc

single_stands : (a : ℕ) (r : List ℕ) (x : Piece × ℕ) → sized (single a) 1 None ≡ Some x → Stands (a ∷ r) x
single_stands a r x e = stands (a ∷ r) (a ∷ []) r (single a) 1 None x refl refl (λ c h. usual (single_sound a c h)) (λ f. nothing_stands _ x f) e

pair_stands : (a b : ℕ) (r : List ℕ) (x : Piece × ℕ) → sized (any_pair a b) 2 (sized (single a) 1 None) ≡ Some x → Stands (a ∷ b ∷ r) x
pair_stands a b r x e = stands (a ∷ b ∷ r) (a ∷ b ∷ []) r (any_pair a b) 2 _ x refl refl (λ c h. any_pair_sound a b c h) (λ f. single_stands a (b ∷ r) x f) e

pub sign_stands : (bytes : List ℕ) (x : Piece × ℕ) → punctuator_at bytes ≡ Some x → Stands bytes x
unfolding punctuator_at
sign_stands [] x e = absurd cc
sign_stands (a ∷ []) x e = single_stands a [] x e
sign_stands (a ∷ b ∷ []) x e = pair_stands a b [] x e
sign_stands (a ∷ b ∷ d ∷ r) x e =
    stands (a ∷ b ∷ d ∷ r) (a ∷ b ∷ d ∷ []) r (triple a b d) 3 _ x refl refl (λ c h. usual (triple_sound a b d c h)) (λ f. pair_stands a b (d ∷ r) x f) e
