-- The piece that is found is the longest.
use Rattle.std.proofs.Common.{◌≡◌, ◌≢◌, ◌==◌, ℕ, suc, ◌+◌, ◌<◌, ◌≤◌, Bool, true, false, cond, List, [], ◌∷◌, ◌++◌, length, take, Option, Some, None, refl, sym, ap, ap₂, subst, ◌∙◌, append_assoc, append-nil, length-append, arith, inl, inr}
use Rattle.std.specs.Prelude.{nat_le}
use Rattle.std.specs.List.{prefix_len, list_all}
use Rattle.std.proofs.lemmas.Bool.{eqb-true, leb-true, leb-false, le-leb, lt-leb}
use Rattle.std.proofs.lemmas.List.{take_at}
use Rattle.std.proofs.lemmas.Option.{same_Some}
use Rattle.px_lexer.specs.declared.token.TokenKind.{TokenKind}
use Rattle.px_lexer.specs.declared.token.TokenKind.TheVariants as K
use Rattle.px_lexer.specs.declared.piece.Piece.{Piece}
use Rattle.px_lexer.specs.declared.piece.Piece.TheVariants as P
use Rattle.px_lexer.specs.declared.piece.Class.{Class}
use Rattle.px_lexer.specs.declared.piece.Class.TheVariants as C
use Rattle.px_lexer.specs.declared.piece.Gap.TheVariants as G
use Rattle.px_lexer.specs.Bytes.{is_digit, is_blank, is_line_byte, is_word_byte, is_number_byte}
use Rattle.px_lexer.specs.Spelling.{IsWord, word, IsNumber, number, is_plain_decimal, decimal, IsQuoted, quoted, IsComment, comment, IsOpenComment, open_comment, IsLineComment, line_comment, IsBlanks, blanks, Includes, spelling, Spells, a_word, a_constant, a_large_constant, another_number, a_string, a_character, a_punctuator, a_directive, an_include, some_blanks, a_line_comment, a_closed_comment, an_open_comment}
use Rattle.px_lexer.specs.Tokens.{Longest, NoPiece}
use Rattle.px_lexer.specs.Scanning.{class_of, comment_end, quote_end, includes_from, number_of, number_at, line_piece, line_at, quoted_as, comment_as, slash_at, punctuator_at, piece_of, piece_at}
use Rattle.px_lexer.proofs.RunLemmas.{chosen, run_all, split}
use Rattle.px_lexer.proofs.ClassLemmas.{IsOf, letter, digit, blank, quote, apostrophe, hash, slash, other, of_its_class, class_letter, class_digit, class_blank, class_quote, class_apostrophe, class_hash, class_slash}
use Rattle.px_lexer.proofs.CommentLemmas.{comment_found, ends_after, comment_sound, never_ends}
use Rattle.px_lexer.proofs.QuoteLemmas.{quote_found, quote_sound, closes_open}
use Rattle.px_lexer.proofs.IncludeLemmas.{include_found, include_sound}
use Rattle.px_lexer.proofs.PunctuatorLemmas.{FoundIn, punctuator_found, punctuator_stands}

-- ---- what is spelled is found, or something longer

abbrev Found : Bool → Piece → ℕ → List ℕ → Type 0
Found fresh q n bytes = FoundIn (piece_at fresh bytes) q n

by_class : (fresh : Bool) (b : ℕ) (bs : List ℕ) (c : Class) → class_of b ≡ c → piece_at fresh (b ∷ bs) ≡ piece_of fresh c b bs
unfolding piece_at
by_class fresh b bs c h = rw h refl

word_found : (fresh : Bool) (q : Piece) (f r : List ℕ) → q ≡ P.Token K.Word → IsWord f → Found fresh q (length f) (f ++ r)
word_found fresh q f r g (word {b = b} {bs = bs} h k parts) =
    subst (λ z. Found fresh q (length z) (z ++ r)) (sym parts) (record {
      piece = P.Token K.Word;
      count = suc (prefix_len is_word_byte (bs ++ r));
      is = by_class fresh b (bs ++ r) C.Letter (class_letter b h);
      least = omega (arith, run_all is_word_byte bs r k);
      same = λ e. sym g;
    })

blanks_found : (fresh : Bool) (q : Piece) (f r : List ℕ) → q ≡ P.Space → IsBlanks f → Found fresh q (length f) (f ++ r)
blanks_found fresh q f r g (blanks {b = b} {bs = bs} h k parts) =
    subst (λ z. Found fresh q (length z) (z ++ r)) (sym parts) (record {
      piece = P.Space;
      count = suc (prefix_len is_blank (bs ++ r));
      is = by_class fresh b (bs ++ r) C.Blank (class_blank b h);
      least = omega (arith, run_all is_blank bs r k);
      same = λ e. sym g;
    })

number_found : (fresh : Bool) (q : Piece) (f r : List ℕ) → q ≡ number_of f → IsNumber f → Found fresh q (length f) (f ++ r)
number_found fresh q f r g (number {b = b} {bs = bs} h k parts) =
    let n = prefix_len is_number_byte (bs ++ r) + 1 in
    subst (λ z. Found fresh q (length z) (z ++ r)) (sym parts) (record {
      piece = number_of (take n (b ∷ bs ++ r));
      count = n;
      is = by_class fresh b (bs ++ r) C.Digit (class_digit b h);
      least = omega (arith, run_all is_number_byte bs r k);
      same = λ e. ap number_of (take_at (b ∷ bs) r n (sym e) ∙ sym parts) ∙ sym g;
    })

quoted_found : (fresh : Bool) (k : TokenKind) (q : ℕ) (f r : List ℕ) → q ≢ 10 → q ≢ 92 → ((bs : List ℕ) → piece_at fresh (q ∷ bs) ≡ quoted_as k (quote_end q false bs)) →
    IsQuoted q f → Found fresh (P.Token k) (length f) (f ++ r)
quoted_found fresh k q f r no_feed no_escape at_quote (quoted body h parts) =
    let e : (body ++ q ∷ []) ++ r ≡ body ++ q ∷ r = append_assoc body (q ∷ []) r in
    let found : quote_end q false ((body ++ q ∷ []) ++ r) ≡ Some (suc (length body)) = ap (quote_end q false) e ∙ quote_found q body r no_feed no_escape h in
    subst (λ z. Found fresh (P.Token k) (length z) (z ++ r)) (sym parts) (record {
      piece = P.Token k;
      count = suc (suc (length body));
      is = at_quote ((body ++ q ∷ []) ++ r) ∙ ap (quoted_as k) found;
      least = omega (arith, length-append body (q ∷ []));
      same = λ e. refl;
    })

-- a line of its own
line_found : (q : Piece) (bs r : List ℕ) → q ≡ line_piece (includes_from G.Outside bs) → list_all is_line_byte bs ≡ true → Found true q (suc (length bs)) (35 ∷ bs ++ r)
line_found q bs r g k =
    let n = prefix_len is_line_byte (bs ++ r) in
    record {
      piece = line_piece (includes_from G.Outside (take n (bs ++ r)));
      count = suc n;
      is = by_class true 35 (bs ++ r) C.Hash class_hash;
      least = omega (arith, run_all is_line_byte bs r k);
      same = λ e. ap (λ z. line_piece (includes_from G.Outside z)) (take_at bs r n (omega (arith, e))) ∙ sym g;
    }

directive_is : (bs : List ℕ) → ¬ Includes bs → P.Token K.Directive ≡ line_piece (includes_from G.Outside bs)
directive_is bs h = go (includes_from G.Outside bs) refl
  where
    go : (t : Bool) → includes_from G.Outside bs ≡ t → P.Token K.Directive ≡ line_piece t
    go true e = absurd (h (include_sound bs e))
    go false e = refl

slash_line : (fresh : Bool) (bs : List ℕ) → piece_at fresh (47 ∷ 47 ∷ bs) ≡ Some (P.Space, suc (suc (prefix_len is_line_byte bs)))
slash_line fresh bs = by_class fresh 47 (47 ∷ bs) C.Slash class_slash

slash_star : (fresh : Bool) (bs : List ℕ) → piece_at fresh (47 ∷ 42 ∷ bs) ≡ Some (comment_as (comment_end false bs) bs)
slash_star fresh bs = by_class fresh 47 (42 ∷ bs) C.Slash class_slash

line_comment_found : (fresh : Bool) (q : Piece) (f r : List ℕ) → q ≡ P.Space → IsLineComment f → Found fresh q (length f) (f ++ r)
line_comment_found fresh q f r g (line_comment {bs = bs} h parts) =
    subst (λ z. Found fresh q (length z) (z ++ r)) (sym parts) (record {
      piece = P.Space;
      count = suc (suc (prefix_len is_line_byte (bs ++ r)));
      is = slash_line fresh (bs ++ r);
      least = omega (arith, run_all is_line_byte bs r h);
      same = λ e. sym g;
    })

some_comment : ℕ → List ℕ → Option (Piece × ℕ)
some_comment n bs = Some (comment_as (Some n) bs)

comment_at : (fresh : Bool) (q : Piece) (f r : List ℕ) → q ≡ P.Space → IsComment f → Found fresh q (length f) (f ++ r)
comment_at fresh q f r g (comment body h parts) =
    let e : (body ++ 42 ∷ 47 ∷ []) ++ r ≡ body ++ 42 ∷ 47 ∷ r = append_assoc body (42 ∷ 47 ∷ []) r in
    let found : comment_end false ((body ++ 42 ∷ 47 ∷ []) ++ r) ≡ Some (suc (suc (length body))) = ap (comment_end false) e ∙ comment_found false body r h (λ z. absurd cc) in
    subst (λ z. Found fresh q (length z) (z ++ r)) (sym parts) (record {
      piece = P.Space;
      count = suc (suc (suc (suc (length body))));
      is = slash_star fresh ((body ++ 42 ∷ 47 ∷ []) ++ r) ∙ ap (λ z. Some (comment_as z ((body ++ 42 ∷ 47 ∷ []) ++ r))) found;
      least = omega (arith, length-append body (42 ∷ 47 ∷ []));
      same = λ e. sym g;
    })

open_at : (fresh : Bool) (q : Piece) (f r : List ℕ) → q ≡ P.OpenComment → IsOpenComment f → Found fresh q (length f) (f ++ r)
open_at fresh q f r g (open_comment {body = body} h parts) =
    subst (λ z. Found fresh q (length z) (z ++ r)) (sym parts) (go (comment_end false (body ++ r)) refl)
  where
    go : (o : Option ℕ) → comment_end false (body ++ r) ≡ o → Found fresh q (suc (suc (length body))) (47 ∷ 42 ∷ body ++ r)
    go (Some n) e =
        let l = ends_after false body r n h (λ z. absurd cc) e in
        record {
          piece = P.Space;
          count = suc (suc n);
          is = slash_star fresh (body ++ r) ∙ ap (λ z. Some (comment_as z (body ++ r))) e;
          least = omega arith;
          same = λ i. absurd (omega arith);
        }
    go None e = record {
      piece = P.OpenComment;
      count = suc (suc (length (body ++ r)));
      is = slash_star fresh (body ++ r) ∙ ap (λ z. Some (comment_as z (body ++ r))) e;
      least = omega (arith, length-append body r);
      same = λ i. sym g;
    }

constant_is : (f : List ℕ) → is_plain_decimal f ≡ true → decimal f ≤ 2147483647 → P.Token K.Constant ≡ number_of f
unfolding number_of
constant_is f h k = rw (h, le-leb (decimal f) 2147483647 k) refl

large_is : (f : List ℕ) → is_plain_decimal f ≡ true → 2147483647 < decimal f → P.LargeConstant ≡ number_of f
unfolding number_of
large_is f h k = rw (h, lt-leb (decimal f) 2147483647 k) refl

other_is : (f : List ℕ) → is_plain_decimal f ≡ false → P.Token K.OtherNumber ≡ number_of f
unfolding number_of
other_is f h = rw h refl

found : (fresh : Bool) (q : Piece) (f r : List ℕ) → Spells fresh q f → Found fresh q (length f) (f ++ r)
found fresh q f r (a_word g h) = word_found fresh q f r g h
found fresh q f r (a_constant g h k l) = number_found fresh q f r (g ∙ constant_is f k l) h
found fresh q f r (a_large_constant g h k l) = number_found fresh q f r (g ∙ large_is f k l) h
found fresh q f r (another_number g h k) = number_found fresh q f r (g ∙ other_is f k) h
found fresh q f r (a_string g h) =
    subst (λ z. Found fresh z (length f) (f ++ r)) (sym g)
    (quoted_found fresh K.String 34 f r (λ e. omega arith) (λ e. omega arith) (λ bs. by_class fresh 34 bs C.Quote class_quote) h)
found fresh q f r (a_character g h) =
    subst (λ z. Found fresh z (length f) (f ++ r)) (sym g)
    (quoted_found fresh K.Character 39 f r (λ e. omega arith) (λ e. omega arith) (λ bs. by_class fresh 39 bs C.Apostrophe class_apostrophe) h)
found fresh q f r (a_punctuator c g parts) =
    let w : Found fresh q (length (spelling c)) (spelling c ++ r) = subst (λ z. Found fresh z (length (spelling c)) (spelling c ++ r)) (sym g) (punctuator_found fresh c r) in
    subst (λ z. Found fresh q (length z) (z ++ r)) (sym parts) w
found fresh q f r (a_directive {bs = bs} g h k l parts) =
    let w : Found true q (length f) (f ++ r) = subst (λ z. Found true q (length z) (z ++ r)) (sym parts) (line_found q bs r (g ∙ directive_is bs l) k) in
    subst (λ z. Found z q (length f) (f ++ r)) (sym h) w
found fresh q f r (an_include {bs = bs} g h k l parts) =
    let e : q ≡ line_piece (includes_from G.Outside bs) = rw (include_found bs l) g in
    let w : Found true q (length f) (f ++ r) = subst (λ z. Found true q (length z) (z ++ r)) (sym parts) (line_found q bs r e k) in
    subst (λ z. Found z q (length f) (f ++ r)) (sym h) w
found fresh q f r (some_blanks g h) = blanks_found fresh q f r g h
found fresh q f r (a_line_comment g h) = line_comment_found fresh q f r g h
found fresh q f r (a_closed_comment g h) = comment_at fresh q f r g h
found fresh q f r (an_open_comment g h) = open_at fresh q f r g h

-- ---- what is found is spelled

pub record Takes (fresh : Bool) (bytes : List ℕ) (p : Piece) (n : ℕ) : Type 0 where
  pub front : List ℕ
  pub rest : List ℕ
  pub spells : Spells fresh p front
  pub parts : bytes ≡ front ++ rest
  pub count : length front ≡ n

-- what is known of the pair is known of its parts
takes : (fresh : Bool) (bytes : List ℕ) (x y : Piece × ℕ) → Some x ≡ Some y → Takes fresh bytes x.0 x.1 → Takes fresh bytes y.0 y.1
takes fresh bytes x y e t = subst (λ (z : Piece × ℕ). Takes fresh bytes z.0 z.1) (same_Some x y e) t

number_spells : (fresh : Bool) (f : List ℕ) → IsNumber f → Spells fresh (number_of f) f
unfolding number_of
number_spells fresh f h = by_digits (is_plain_decimal f) refl
  where
    by_size : (t : Bool) → nat_le (decimal f) 2147483647 ≡ t → is_plain_decimal f ≡ true → Spells fresh (cond t (P.Token K.Constant) P.LargeConstant) f
    by_size true e k = a_constant refl h k (leb-true (decimal f) 2147483647 e)
    by_size false e k = a_large_constant refl h k (leb-false (decimal f) 2147483647 e)

    by_digits : (t : Bool) → is_plain_decimal f ≡ t → Spells fresh (cond t (cond (nat_le (decimal f) 2147483647) (P.Token K.Constant) P.LargeConstant) (P.Token K.OtherNumber)) f
    by_digits true k = by_size (nat_le (decimal f) 2147483647) refl k
    by_digits false k = another_number refl h k

number_takes : (fresh : Bool) (b : ℕ) (bs : List ℕ) → is_digit b ≡ true → Takes fresh (b ∷ bs) (number_at (b ∷ bs)).0 (number_at (b ∷ bs)).1
number_takes fresh b bs h =
    let s = split is_number_byte bs in
    let n = prefix_len is_number_byte bs + 1 in
    let text : take n (b ∷ bs) ≡ b ∷ s.front = ap (λ z. take n (b ∷ z)) s.parts ∙ take_at (b ∷ s.front) s.rest n (omega (arith, s.count)) in
    let spelled : Spells fresh (number_of (take n (b ∷ bs))) (b ∷ s.front) = subst (λ z. Spells fresh (number_of z) (b ∷ s.front)) (sym text) (number_spells fresh (b ∷ s.front) (number h s.all refl)) in
    record { front = b ∷ s.front; rest = s.rest; spells = spelled; parts = ap (λ z. b ∷ z) s.parts; count = omega (arith, s.count) }

line_spells : (bs : List ℕ) (t : Bool) → includes_from G.Outside bs ≡ t → list_all is_line_byte bs ≡ true → Spells true (line_piece t) (35 ∷ bs)
line_spells bs true e h = an_include refl refl h (include_sound bs e) refl
line_spells bs false e h = a_directive refl refl h (λ k. absurd (let z = include_found bs k in cc)) refl

line_takes : (bs : List ℕ) → Takes true (35 ∷ bs) (line_at bs).0 (line_at bs).1
line_takes bs =
    let s = split is_line_byte bs in
    let n = prefix_len is_line_byte bs in
    let text : take n bs ≡ s.front = ap (take n) s.parts ∙ take_at s.front s.rest n s.count in
    let spelled : Spells true (line_piece (includes_from G.Outside (take n bs))) (35 ∷ s.front) =
    subst (λ z. Spells true (line_piece (includes_from G.Outside z)) (35 ∷ s.front)) (sym text) (line_spells s.front (includes_from G.Outside s.front) refl s.all) in
    record { front = 35 ∷ s.front; rest = s.rest; spells = spelled; parts = ap (λ z. 35 ∷ z) s.parts; count = omega (arith, s.count) }

hash_takes : (fresh : Bool) (bs : List ℕ) (y : Piece × ℕ) → cond fresh (Some (line_at bs)) None ≡ Some y → Takes fresh (35 ∷ bs) y.0 y.1
hash_takes true bs y e = takes true _ (line_at bs) y e (line_takes bs)
hash_takes false bs y e = absurd cc

quoted_takes : (fresh : Bool) (k : TokenKind) (q : ℕ) (bs : List ℕ) (y : Piece × ℕ) → ((f : List ℕ) → IsQuoted q f → Spells fresh (P.Token k) f) →
    quoted_as k (quote_end q false bs) ≡ Some y → Takes fresh (q ∷ bs) y.0 y.1
quoted_takes fresh k q bs y spelled e = go (quote_end q false bs) refl e
  where
    go : (o : Option ℕ) → quote_end q false bs ≡ o → quoted_as k o ≡ Some y → Takes fresh (q ∷ bs) y.0 y.1
    go None h e = absurd cc
    go (Some n) h e =
        let c = quote_sound q false bs n h in
        takes fresh _ (P.Token k, suc n) y e (record {
          front = q ∷ c.body ++ q ∷ [];
          rest = c.rest;
          spells = spelled _ (quoted c.body (closes_open q bs n c) refl);
          parts = ap (λ z. q ∷ z) (c.parts ∙ sym (append_assoc c.body (q ∷ []) c.rest));
          count = omega (arith, c.count, length-append c.body (q ∷ []));
        })

punctuator_takes : (fresh : Bool) (bytes : List ℕ) (y : Piece × ℕ) → punctuator_at bytes ≡ Some y → Takes fresh bytes y.0 y.1
punctuator_takes fresh bytes y e =
    let s = punctuator_stands bytes y e in
    record { front = spelling s.punctuator; rest = s.rest; spells = a_punctuator s.punctuator s.piece refl; parts = s.parts; count = s.count }

comment_takes : (fresh : Bool) (bs : List ℕ) → Takes fresh (47 ∷ 42 ∷ bs) (comment_as (comment_end false bs) bs).0 (comment_as (comment_end false bs) bs).1
comment_takes fresh bs = go (comment_end false bs) refl
  where
    go : (o : Option ℕ) → comment_end false bs ≡ o → Takes fresh (47 ∷ 42 ∷ bs) (comment_as o bs).0 (comment_as o bs).1
    go None h = record {
      front = 47 ∷ 42 ∷ bs;
      rest = [];
      spells = an_open_comment refl (open_comment (never_ends false bs h).0 refl);
      parts = sym (append-nil (47 ∷ 42 ∷ bs));
      count = refl;
    }
    go (Some n) h =
        elim (comment_sound false bs n h) [
          | inl v ↦ absurd (let z = v.is_star in cc)
          | inr v ↦ record {
            front = 47 ∷ 42 ∷ v.body ++ 42 ∷ 47 ∷ [];
            rest = v.rest;
            spells = a_closed_comment refl (comment v.body v.no_end refl);
            parts = ap (λ z. 47 ∷ 42 ∷ z) (v.parts ∙ sym (append_assoc v.body (42 ∷ 47 ∷ []) v.rest));
            count = omega (arith, v.count, length-append v.body (42 ∷ 47 ∷ []));
          }
        ]

slash_takes : (fresh : Bool) (bs : List ℕ) (y : Piece × ℕ) → slash_at (47 ∷ bs) ≡ Some y → Takes fresh (47 ∷ bs) y.0 y.1
slash_takes fresh [] y e = punctuator_takes fresh (47 ∷ []) y e
slash_takes fresh (b ∷ bs) y e =
    elim (chosen (b == 47) _ (cond (b == 42) (Some (comment_as (comment_end false bs) bs)) (punctuator_at (47 ∷ b ∷ bs))) (Some y) e) [
      | inl w ↦
          let s = split is_line_byte bs in
          takes fresh _ (P.Space, suc (suc (prefix_len is_line_byte bs))) y w.1 (record {
            front = 47 ∷ b ∷ s.front;
            rest = s.rest;
            spells = a_line_comment refl (line_comment s.all (ap (λ z. 47 ∷ z ∷ s.front) (eqb-true b 47 w.0)));
            parts = ap (λ z. 47 ∷ b ∷ z) s.parts;
            count = ap (λ z. suc (suc z)) s.count;
          })
      | inr w ↦
          elim (chosen (b == 42) (Some (comment_as (comment_end false bs) bs)) (punctuator_at (47 ∷ b ∷ bs)) (Some y) w.1) [
            | inl v ↦ takes fresh _ (comment_as (comment_end false bs) bs) y v.1 (subst (λ z. Takes fresh (47 ∷ z ∷ bs) (comment_as (comment_end false bs) bs).0 (comment_as (comment_end false bs) bs).1) (sym (eqb-true b 42 v.0)) (comment_takes fresh bs))
            | inr v ↦ punctuator_takes fresh (47 ∷ b ∷ bs) y v.1
          ]
    ]

of_class : (fresh : Bool) (c : Class) (b : ℕ) (bs : List ℕ) (y : Piece × ℕ) → IsOf b c → piece_of fresh c b bs ≡ Some y → Takes fresh (b ∷ bs) y.0 y.1
of_class fresh C.Letter b bs y (letter h) e =
    let s = split is_word_byte bs in
    takes fresh _ (P.Token K.Word, suc (prefix_len is_word_byte bs)) y e (record { front = b ∷ s.front; rest = s.rest; spells = a_word refl (word h s.all refl); parts = ap (λ z. b ∷ z) s.parts; count = ap suc s.count })
of_class fresh C.Digit b bs y (digit h) e = takes fresh _ (number_at (b ∷ bs)) y e (number_takes fresh b bs h)
of_class fresh C.Blank b bs y (blank h) e =
    let s = split is_blank bs in
    takes fresh _ (P.Space, suc (prefix_len is_blank bs)) y e (record { front = b ∷ s.front; rest = s.rest; spells = some_blanks refl (blanks h s.all refl); parts = ap (λ z. b ∷ z) s.parts; count = ap suc s.count })
of_class fresh C.Quote b bs y (quote h) e = subst (λ z. Takes fresh (z ∷ bs) y.0 y.1) (sym h) (quoted_takes fresh K.String 34 bs y (λ f k. a_string refl k) e)
of_class fresh C.Apostrophe b bs y (apostrophe h) e = subst (λ z. Takes fresh (z ∷ bs) y.0 y.1) (sym h) (quoted_takes fresh K.Character 39 bs y (λ f k. a_character refl k) e)
of_class fresh C.Hash b bs y (hash h) e = subst (λ z. Takes fresh (z ∷ bs) y.0 y.1) (sym h) (hash_takes fresh bs y e)
of_class fresh C.Slash b bs y (slash h) e =
    let f : slash_at (47 ∷ bs) ≡ Some y = subst (λ z. slash_at (z ∷ bs) ≡ Some y) h e in
    subst (λ z. Takes fresh (z ∷ bs) y.0 y.1) (sym h) (slash_takes fresh bs y f)
of_class fresh C.Other b bs y other e = punctuator_takes fresh (b ∷ bs) y e

pub taken : (fresh : Bool) (bytes : List ℕ) (y : Piece × ℕ) → piece_at fresh bytes ≡ Some y → Takes fresh bytes y.0 y.1
unfolding piece_at
taken fresh [] y e = absurd cc
taken fresh (b ∷ bs) y e = of_class fresh (class_of b) b bs y (of_its_class b) e

-- ---- the longest

abbrev some_piece : Piece → ℕ → Option (Piece × ℕ)
some_piece p n = Some (p, n)

count_is : (p q : Piece) (m n : ℕ) → some_piece p m ≡ some_piece q n → m ≡ n
count_is p q m n e =
    let x : Piece × ℕ = (p, m) in
    let y : Piece × ℕ = (q, n) in
    ap (λ (z : Piece × ℕ). z.1) (same_Some x y e)

-- the piece that is found is the longest
pub is_longest : (fresh : Bool) (bytes : List ℕ) (p : Piece) (n : ℕ) → piece_at fresh bytes ≡ Some (p, n) → (t : Takes fresh bytes p n) → Longest fresh bytes p t.front t.rest
is_longest fresh bytes p n h t = record {
  spells = t.spells;
  parts = t.parts;
  longest = λ q f r s e.
      let g = found fresh q f r s in
      let c = count_is _ _ _ _ (sym g.is ∙ ap (piece_at fresh) (sym e) ∙ h) in
      omega (arith, g.least, t.count, c);
}

-- the longest piece is found
pub longest_is : (fresh : Bool) (bytes : List ℕ) (p : Piece) (front rest : List ℕ) → Longest fresh bytes p front rest → piece_at fresh bytes ≡ Some (p, length front)
longest_is fresh bytes p front rest l =
    let g = found fresh p front rest l.spells in
    let h : piece_at fresh bytes ≡ Some (g.piece, g.count) = ap (piece_at fresh) l.parts ∙ g.is in
    let t = taken fresh bytes (g.piece, g.count) h in
    let le = l.longest g.piece t.front t.rest t.spells t.parts in
    let c : g.count ≡ length front = omega (arith, g.least, le, t.count) in
    h ∙ ap₂ some_piece (g.same c) c

-- where nothing is found nothing is spelled
pub nothing_is : (fresh : Bool) (bytes : List ℕ) → piece_at fresh bytes ≡ None → NoPiece fresh bytes
nothing_is fresh bytes h q f t s e =
    let g = found fresh q f t s in
    absurd (let z = sym g.is ∙ ap (piece_at fresh) (sym e) ∙ h in cc)
