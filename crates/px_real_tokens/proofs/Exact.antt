-- The piece that is found is the longest.
use Rattle.std.proofs.Common.{◌≡◌, ◌==◌, ◌&&◌, ℕ, suc, ◌+◌, Bool, true, false, cond, List, [], ◌∷◌, ◌++◌, length, take, drop, Option, Some, None, refl, sym, ap, ap₂, subst, ◌∙◌, append_assoc, append-nil, length-append, arith, inl, inr}
use Rattle.std.specs.Prelude.{unwrap_or}
use Rattle.std.specs.List.{prefix_len}
use Rattle.std.proofs.lemmas.Bool.{eqb-true, and_parts}
use Rattle.std.proofs.lemmas.List.{take_at, drop_at}
use Rattle.std.proofs.lemmas.Option.{same_Some}
use Rattle.px_lexer.specs.Bytes.{is_digit, is_blank}
use Rattle.px_lexer.specs.Spelling.{IsComment, comment, IsOpenComment, open_comment, IsBlanks, blanks}
use Rattle.px_lexer.specs.Scanning.{comment_end}
use Rattle.px_real_tokens.specs.declared.token.TokenKind.{TokenKind}
use Rattle.px_real_tokens.specs.declared.token.TokenKind.TheVariants as K
use Rattle.px_real_tokens.specs.declared.piece.Piece.{Piece}
use Rattle.px_real_tokens.specs.declared.piece.Piece.TheVariants as P
use Rattle.px_real_tokens.specs.declared.piece.Class.{Class}
use Rattle.px_real_tokens.specs.declared.piece.Class.TheVariants as C
use Rattle.px_real_tokens.specs.declared.piece.Gap.TheVariants as G
use Rattle.px_real_tokens.specs.Bytes.{is_name_letter, is_name_byte, begins_digit, begins_byte, number_goes_on, line_goes_on, goes_on_all, run_of, stays_on_line}
use Rattle.px_real_tokens.specs.Values.{number_value}
use Rattle.px_real_tokens.specs.Spelling.{IsWord, word, IsNumber, number, dotted, IsQuoted, quoted, is_encoding, IsLiteral, bare, prefixed, IsHash, hash, hash_digraph, hash_hash, hash_hash_digraph, IsMarker, IsHashLine, after_hash, after_digraph, IsLineComment, line_comment, Spells, a_word, a_number, a_string, a_character, a_punctuator, a_hash, a_marker, a_directive, some_blanks, a_line_comment, a_closed_comment, an_open_comment, a_join}
use Rattle.px_real_tokens.specs.Tokens.{Longest, NoPiece}
use Rattle.px_real_tokens.specs.Scanning.{class_of, number_at, literal_kind, literal_after, literal_at, word_of_length, word_at, line_run, marks_from, line_piece, line_at, hash_at, digraph_at, punctuator_at, comment_as, slash_at, piece_of, piece_at}
use Rattle.px_lexer.proofs.RunLemmas.{chosen, run_all, split}
use Rattle.px_lexer.proofs.CommentLemmas.{comment_found, ends_after, comment_sound, never_ends}
use Rattle.px_real_tokens.proofs.RunLemmas.{run_least, run}
use Rattle.px_real_tokens.proofs.ClassLemmas.{IsOf, letter, digit, blank, quote, percent, dot, slash, backslash, other, of_its_class, class_digit, class_blank, class_hash, class_percent, class_dot, class_slash, class_backslash, digit_goes_on}
use Rattle.px_real_tokens.proofs.ClassLemmas as Of
use Rattle.px_real_tokens.proofs.MarkerLemmas.{marker_found, marker_sound}
use Rattle.px_real_tokens.proofs.PunctuatorLemmas.{FoundIn, found_longer, punctuator_found, sign_stands}
use Rattle.px_real_tokens.proofs.LiteralLemmas.{IsQuote, word_found, literal_found, after_sound}

-- ---- what is spelled is found, or something longer

abbrev Found : Bool → Piece → ℕ → List ℕ → Type 0
Found fresh q n bytes = FoundIn (piece_at fresh bytes) q n

by_class : (fresh : Bool) (b : ℕ) (bs : List ℕ) (c : Class) → class_of b ≡ c → piece_at fresh (b ∷ bs) ≡ piece_of fresh c b bs
unfolding piece_at
by_class fresh b bs c h = rw h refl

blanks_found : (fresh : Bool) (q : Piece) (f r : List ℕ) → q ≡ P.Space → IsBlanks f → Found fresh q (length f) (f ++ r)
blanks_found fresh q f r g (blanks {b = b} {bs = bs} h k parts) =
    subst (λ z. Found fresh q (length z) (z ++ r)) (sym parts) (record {
      piece = P.Space;
      count = suc (prefix_len is_blank (bs ++ r));
      is = by_class fresh b (bs ++ r) C.Blank (class_blank b h);
      least = omega (arith, run_all is_blank bs r k);
      same = λ e. sym g;
    })

-- a number that begins with b
number_from : (fresh : Bool) (b : ℕ) (bs r : List ℕ) → goes_on_all number_goes_on b bs ≡ true → piece_at fresh (b ∷ bs ++ r) ≡ Some (number_at b (bs ++ r)) →
    Found fresh (P.Token (K.Number (number_value (b ∷ bs)))) (suc (length bs)) (b ∷ bs ++ r)
number_from fresh b bs r k e =
    let n = run_of number_goes_on b (bs ++ r) in
    record {
      piece = P.Token (K.Number (number_value (take (suc n) (b ∷ bs ++ r))));
      count = suc n;
      is = e;
      least = omega (arith, run_least number_goes_on b bs r k);
      same = λ i. ap (λ z. P.Token (K.Number (number_value z))) (take_at (b ∷ bs) r (suc n) (sym i));
    }

at_dot : (fresh : Bool) (b : ℕ) (bs : List ℕ) → is_digit b ≡ true → piece_at fresh (46 ∷ b ∷ bs) ≡ Some (number_at 46 (b ∷ bs))
unfolding piece_at
at_dot fresh b bs h = rw (class_dot, h) refl

number_found : (fresh : Bool) (q : Piece) (f r : List ℕ) → q ≡ P.Token (K.Number (number_value f)) → IsNumber f → Found fresh q (length f) (f ++ r)
number_found fresh q f r g (number {b = b} {bs = bs} h k parts) =
    let w = number_from fresh b bs r k (by_class fresh b (bs ++ r) C.Digit (class_digit b h)) in
    let v = subst (λ z. Found fresh (P.Token (K.Number (number_value z))) (length z) (z ++ r)) (sym parts) w in
    subst (λ p. Found fresh p (length f) (f ++ r)) (sym g) v
number_found fresh q f r g (dotted {b = b} {bs = bs} h k parts) =
    let all : goes_on_all number_goes_on 46 (b ∷ bs) ≡ true = rw (digit_goes_on 46 b h, k) refl in
    let w = number_from fresh 46 (b ∷ bs) r all (at_dot fresh b (bs ++ r) h) in
    let v = subst (λ z. Found fresh (P.Token (K.Number (number_value z))) (length z) (z ++ r)) (sym parts) w in
    subst (λ p. Found fresh p (length f) (f ++ r)) (sym g) v

-- a line that begins with `#`, or with its digraph

line_count : (skip : ℕ) (bs r : List ℕ) → line_run (bs ++ r) + skip ≡ length bs + skip → take (line_run (bs ++ r)) (bs ++ r) ≡ bs
line_count skip bs r e = take_at bs r (line_run (bs ++ r)) (omega (arith, e))

hash_line : (q : Piece) (bs r : List ℕ) → q ≡ line_piece (marks_from G.Outside bs) → stays_on_line bs ≡ true → Found true q (suc (length bs)) (35 ∷ bs ++ r)
hash_line q bs r g k =
    let n = line_run (bs ++ r) in
    record {
      piece = line_piece (marks_from G.Outside (take n (bs ++ r)));
      count = 1 + n;
      is = by_class true 35 (bs ++ r) C.Hash class_hash;
      least = omega (arith, run_least line_goes_on 0 bs r k);
      same = λ e. ap (λ z. line_piece (marks_from G.Outside z)) (line_count 1 bs r (omega (arith, e))) ∙ sym g;
    }

at_digraph : (fresh : Bool) (bs : List ℕ) → piece_at fresh (37 ∷ 58 ∷ bs) ≡ Some (digraph_at fresh bs)
unfolding piece_at
at_digraph fresh bs = rw class_percent refl

digraph_line : (q : Piece) (bs r : List ℕ) → q ≡ line_piece (marks_from G.Outside bs) → stays_on_line bs ≡ true → Found true q (suc (suc (length bs))) (37 ∷ 58 ∷ bs ++ r)
digraph_line q bs r g k =
    let n = line_run (bs ++ r) in
    record {
      piece = line_piece (marks_from G.Outside (take n (bs ++ r)));
      count = 2 + n;
      is = at_digraph true (bs ++ r);
      least = omega (arith, run_least line_goes_on 0 bs r k);
      same = λ e. ap (λ z. line_piece (marks_from G.Outside z)) (line_count 2 bs r (omega (arith, e))) ∙ sym g;
    }

directive_is : (bs : List ℕ) → ¬ IsMarker bs → P.Directive ≡ line_piece (marks_from G.Outside bs)
directive_is bs h = go (marks_from G.Outside bs) refl
  where
    go : (t : Bool) → marks_from G.Outside bs ≡ t → P.Directive ≡ line_piece t
    go true e = absurd (h (marker_sound bs e))
    go false e = refl

line_found : (fresh : Bool) (q : Piece) (bs f r : List ℕ) → fresh ≡ true → q ≡ line_piece (marks_from G.Outside bs) → stays_on_line bs ≡ true → IsHashLine bs f → Found fresh q (length f) (f ++ r)
line_found fresh q bs f r h g k (after_hash parts) =
    subst (λ z. Found z q (length f) (f ++ r)) (sym h) (subst (λ z. Found true q (length z) (z ++ r)) (sym parts) (hash_line q bs r g k))
line_found fresh q bs f r h g k (after_digraph parts) =
    subst (λ z. Found z q (length f) (f ++ r)) (sym h) (subst (λ z. Found true q (length z) (z ++ r)) (sym parts) (digraph_line q bs r g k))

-- `#` and `##` on a line that has something before them

at_hash : (bs : List ℕ) → piece_at false (35 ∷ bs) ≡ Some (hash_at false bs)
at_hash bs = by_class false 35 bs C.Hash class_hash

found_here : (o : Option (Piece × ℕ)) (p : Piece) (n : ℕ) → o ≡ Some (p, n) → FoundIn o p n
found_here o p n e = record { piece = p; count = n; is = e; least = omega arith; same = λ i. refl }

lone_hash : (r : List ℕ) → Found false (P.Token K.Hash) 1 (35 ∷ r)
lone_hash r = subst (λ o. FoundIn o (P.Token K.Hash) 1) (sym (at_hash r)) (go (begins_byte 35 r))
  where
    go : (t : Bool) → FoundIn (Some (cond t (P.Token K.HashHash, 2) (P.Token K.Hash, 1))) (P.Token K.Hash) 1
    go true = found_longer (P.Token K.HashHash) (P.Token K.Hash) 2 1 (omega arith)
    go false = found_here _ (P.Token K.Hash) 1 refl

lone_digraph : (r : List ℕ) → Found false (P.Token K.Hash) 2 (37 ∷ 58 ∷ r)
lone_digraph r = subst (λ o. FoundIn o (P.Token K.Hash) 2) (sym (at_digraph false r)) (go (begins_byte 37 r && begins_byte 58 (drop 1 r)))
  where
    go : (t : Bool) → FoundIn (Some (cond t (P.Token K.HashHash, 4) (P.Token K.Hash, 2))) (P.Token K.Hash) 2
    go true = found_longer (P.Token K.HashHash) (P.Token K.Hash) 4 2 (omega arith)
    go false = found_here _ (P.Token K.Hash) 2 refl

hash_found : (k : TokenKind) (f r : List ℕ) → IsHash k f → Found false (P.Token k) (length f) (f ++ r)
hash_found k f r (hash e parts) = rw (e, parts) (lone_hash r)
hash_found k f r (hash_digraph e parts) = rw (e, parts) (lone_digraph r)
hash_found k f r (hash_hash e parts) = rw (e, parts) (found_here _ (P.Token K.HashHash) 2 (at_hash (35 ∷ r)))
hash_found k f r (hash_hash_digraph e parts) = rw (e, parts) (found_here _ (P.Token K.HashHash) 4 (at_digraph false (37 ∷ 58 ∷ r)))

-- comments

slash_line : (fresh : Bool) (bs : List ℕ) → piece_at fresh (47 ∷ 47 ∷ bs) ≡ Some (P.Space, suc (suc (line_run bs)))
slash_line fresh bs = by_class fresh 47 (47 ∷ bs) C.Slash class_slash

slash_star : (fresh : Bool) (bs : List ℕ) → piece_at fresh (47 ∷ 42 ∷ bs) ≡ Some (comment_as (comment_end false bs) bs)
slash_star fresh bs = by_class fresh 47 (42 ∷ bs) C.Slash class_slash

line_comment_found : (fresh : Bool) (q : Piece) (f r : List ℕ) → q ≡ P.Space → IsLineComment f → Found fresh q (length f) (f ++ r)
line_comment_found fresh q f r g (line_comment {bs = bs} h parts) =
    subst (λ z. Found fresh q (length z) (z ++ r)) (sym parts) (record {
      piece = P.Space;
      count = suc (suc (line_run (bs ++ r)));
      is = slash_line fresh (bs ++ r);
      least = omega (arith, run_least line_goes_on 0 bs r h);
      same = λ e. sym g;
    })

comment_at : (fresh : Bool) (q : Piece) (f r : List ℕ) → q ≡ P.Space → IsComment f → Found fresh q (length f) (f ++ r)
comment_at fresh q f r g (comment body h parts) =
    let e : (body ++ 42 ∷ 47 ∷ []) ++ r ≡ body ++ 42 ∷ 47 ∷ r = append_assoc body (42 ∷ 47 ∷ []) r in
    let there : comment_end false ((body ++ 42 ∷ 47 ∷ []) ++ r) ≡ Some (suc (suc (length body))) = ap (comment_end false) e ∙ comment_found false body r h (λ z. absurd cc) in
    subst (λ z. Found fresh q (length z) (z ++ r)) (sym parts) (record {
      piece = P.Space;
      count = suc (suc (suc (suc (length body))));
      is = slash_star fresh ((body ++ 42 ∷ 47 ∷ []) ++ r) ∙ ap (λ z. Some (comment_as z ((body ++ 42 ∷ 47 ∷ []) ++ r))) there;
      least = omega (arith, length-append body (42 ∷ 47 ∷ []));
      same = λ e. sym g;
    })

open_at : (fresh : Bool) (q : Piece) (f r : List ℕ) → q ≡ P.OpenComment → IsOpenComment f → Found fresh q (length f) (f ++ r)
open_at fresh q f r g (open_comment {body = body} h parts) =
    subst (λ z. Found fresh q (length z) (z ++ r)) (sym parts) (go (comment_end false (body ++ r)) refl)
  where
    go : (o : Option ℕ) → comment_end false (body ++ r) ≡ o → Found fresh q (suc (suc (length body))) (47 ∷ 42 ∷ body ++ r)
    go (Some n) e =
        let l = ends_after false body r n h (λ z. absurd cc) e in
        record {
          piece = P.Space;
          count = suc (suc n);
          is = slash_star fresh (body ++ r) ∙ ap (λ z. Some (comment_as z (body ++ r))) e;
          least = omega arith;
          same = λ i. absurd (omega arith);
        }
    go None e = record {
      piece = P.OpenComment;
      count = suc (suc (length (body ++ r)));
      is = slash_star fresh (body ++ r) ∙ ap (λ z. Some (comment_as z (body ++ r))) e;
      least = omega (arith, length-append body r);
      same = λ i. sym g;
    }

join_found : (fresh : Bool) (r : List ℕ) → Found fresh P.Join 2 (92 ∷ 10 ∷ r)
join_found fresh r = found_here _ P.Join 2 (by_class fresh 92 (10 ∷ r) C.Backslash class_backslash)

found : (fresh : Bool) (q : Piece) (f r : List ℕ) → Spells fresh q f → Found fresh q (length f) (f ++ r)
found fresh q f r (a_word g h) = word_found fresh q f r g h
found fresh q f r (a_number g h) = number_found fresh q f r g h
found fresh q f r (a_string g h) = subst (λ z. Found fresh z (length f) (f ++ r)) (sym g) (literal_found fresh 34 f r (inl refl) h)
found fresh q f r (a_character g h) = subst (λ z. Found fresh z (length f) (f ++ r)) (sym g) (literal_found fresh 39 f r (inr refl) h)
found fresh q f r (a_punctuator c g h) = subst (λ z. Found fresh z (length f) (f ++ r)) (sym g) (punctuator_found fresh c f r h)
found fresh q f r (a_hash k g e h) = subst (λ z. Found z q (length f) (f ++ r)) (sym e) (subst (λ z. Found false z (length f) (f ++ r)) (sym g) (hash_found k f r h))
found fresh q f r (a_marker bs g e k m h) = line_found fresh q bs f r e (rw (marker_found bs m) g) k h
found fresh q f r (a_directive bs g e k m h) = line_found fresh q bs f r e (g ∙ directive_is bs m) k h
found fresh q f r (some_blanks g h) = blanks_found fresh q f r g h
found fresh q f r (a_line_comment g h) = line_comment_found fresh q f r g h
found fresh q f r (a_closed_comment g h) = comment_at fresh q f r g h
found fresh q f r (an_open_comment g h) = open_at fresh q f r g h
found fresh q f r (a_join g parts) = rw (g, parts) (join_found fresh r)

-- ---- what is found is spelled

pub record Takes (fresh : Bool) (bytes : List ℕ) (p : Piece) (n : ℕ) : Type 0 where
  pub front : List ℕ
  pub rest : List ℕ
  pub spells : Spells fresh p front
  pub parts : bytes ≡ front ++ rest
  pub count : length front ≡ n

-- what is known of the pair is known of its parts
takes : (fresh : Bool) (bytes : List ℕ) (x y : Piece × ℕ) → Some x ≡ Some y → Takes fresh bytes x.0 x.1 → Takes fresh bytes y.0 y.1
takes fresh bytes x y e t = subst (λ (z : Piece × ℕ). Takes fresh bytes z.0 z.1) (same_Some x y e) t

number_spells : (fresh : Bool) (b : ℕ) (front rest : List ℕ) → (IsNumber (b ∷ front)) → (n : ℕ) → length front ≡ n →
    Takes fresh (b ∷ front ++ rest) (P.Token (K.Number (number_value (take (suc n) (b ∷ front ++ rest))))) (suc n)
number_spells fresh b front rest h n e =
    let text : take (suc n) (b ∷ front ++ rest) ≡ b ∷ front = take_at (b ∷ front) rest (suc n) (ap suc e) in
    record { front = b ∷ front; rest = rest; spells = a_number (ap (λ z. P.Token (K.Number (number_value z))) text) h; parts = refl; count = ap suc e }

number_takes : (fresh : Bool) (b : ℕ) (bs : List ℕ) → ((front : List ℕ) → goes_on_all number_goes_on b front ≡ true → (rest : List ℕ) → bs ≡ front ++ rest → length front ≡ run_of number_goes_on b bs → IsNumber (b ∷ front)) →
    Takes fresh (b ∷ bs) (number_at b bs).0 (number_at b bs).1
number_takes fresh b bs make =
    let s = run number_goes_on b bs in
    let n = run_of number_goes_on b bs in
    subst (λ z. Takes fresh (b ∷ z) (P.Token (K.Number (number_value (take (suc n) (b ∷ z))))) (suc n)) (sym s.parts)
    (number_spells fresh b s.front s.rest (make s.front s.all s.rest s.parts s.count) n s.count)

-- after a dot and a digit there is a digit in the run
dotted_front : (b : ℕ) (bs front rest : List ℕ) → is_digit b ≡ true → goes_on_all number_goes_on 46 front ≡ true → b ∷ bs ≡ front ++ rest → length front ≡ run_of number_goes_on 46 (b ∷ bs) → IsNumber (46 ∷ front)
unfolding run_of
dotted_front b bs [] rest h all parts count =
    let e : run_of number_goes_on 46 (b ∷ bs) ≡ suc (run_of number_goes_on b bs) = rw (digit_goes_on 46 b h) refl in
    absurd (omega (arith, count, e))
dotted_front b bs (c ∷ cs) rest h all parts count =
    let same : b ≡ c = cc in
    let w = and_parts (number_goes_on 46 c) (goes_on_all number_goes_on c cs) all in
    dotted (subst (λ z. is_digit z ≡ true) same h) w.1 refl

punctuator_takes : (fresh : Bool) (bytes : List ℕ) (y : Piece × ℕ) → punctuator_at bytes ≡ Some y → Takes fresh bytes y.0 y.1
punctuator_takes fresh bytes y e =
    let s = sign_stands bytes y e in
    record { front = s.front; rest = s.rest; spells = a_punctuator s.punctuator s.piece s.spelled; parts = s.parts; count = s.count }

dot_takes : (fresh : Bool) (bs : List ℕ) (y : Piece × ℕ) → cond (begins_digit bs) (Some (number_at 46 bs)) (punctuator_at (46 ∷ bs)) ≡ Some y → Takes fresh (46 ∷ bs) y.0 y.1
dot_takes fresh [] y e = punctuator_takes fresh (46 ∷ []) y e
dot_takes fresh (b ∷ bs) y e =
    elim (chosen (is_digit b) (Some (number_at 46 (b ∷ bs))) (punctuator_at (46 ∷ b ∷ bs)) (Some y) e) [
      | inl w ↦ takes fresh (46 ∷ b ∷ bs) (number_at 46 (b ∷ bs)) y w.1
          (number_takes fresh 46 (b ∷ bs) (λ front all rest parts count. dotted_front b bs front rest w.0 all parts count))
      | inr w ↦ punctuator_takes fresh (46 ∷ b ∷ bs) y w.1
    ]

-- lines

line_spells : (bs f : List ℕ) (t : Bool) → marks_from G.Outside bs ≡ t → stays_on_line bs ≡ true → IsHashLine bs f → Spells true (line_piece t) f
line_spells bs f true e k h = a_marker bs refl refl k (marker_sound bs e) h
line_spells bs f false e k h = a_directive bs refl refl k (λ m. absurd (let z = marker_found bs m in cc)) h

line_takes : (bs : List ℕ) (skip : List ℕ) → ((f : List ℕ) → IsHashLine f (skip ++ f)) → Takes true (skip ++ bs) (line_at (length skip) bs).0 (line_at (length skip) bs).1
line_takes bs skip make =
    let s = run line_goes_on 0 bs in
    let n = line_run bs in
    let text : take n bs ≡ s.front = ap (take n) s.parts ∙ take_at s.front s.rest n s.count in
    let spelled : Spells true (line_piece (marks_from G.Outside (take n bs))) (skip ++ s.front) =
    subst (λ z. Spells true (line_piece (marks_from G.Outside z)) (skip ++ s.front)) (sym text) (line_spells s.front (skip ++ s.front) (marks_from G.Outside s.front) refl s.all (make s.front)) in
    record {
      front = skip ++ s.front;
      rest = s.rest;
      spells = spelled;
      parts = ap (λ z. skip ++ z) s.parts ∙ sym (append_assoc skip s.front s.rest);
      count = omega (arith, s.count, length-append skip s.front);
    }

-- the bytes begin with this one
begins_is : (c : ℕ) (bs : List ℕ) → begins_byte c bs ≡ true → bs ≡ c ∷ drop 1 bs
begins_is c [] h = absurd cc
begins_is c (b ∷ bs) h = ap (λ z. z ∷ bs) (eqb-true b c h)

hash_takes : (fresh : Bool) (bs : List ℕ) → Takes fresh (35 ∷ bs) (hash_at fresh bs).0 (hash_at fresh bs).1
hash_takes true bs = line_takes bs (35 ∷ []) (λ f. after_hash refl)
hash_takes false bs = go (begins_byte 35 bs) refl
  where
    go : (t : Bool) → begins_byte 35 bs ≡ t → Takes false (35 ∷ bs) (cond {A = Piece × ℕ} t (P.Token K.HashHash, 2) (P.Token K.Hash, 1)).0 (cond {A = Piece × ℕ} t (P.Token K.HashHash, 2) (P.Token K.Hash, 1)).1
    go true e = record { front = 35 ∷ 35 ∷ []; rest = drop 1 bs; spells = a_hash K.HashHash refl refl (hash_hash refl refl); parts = ap (λ z. 35 ∷ z) (begins_is 35 bs e); count = refl }
    go false e = record { front = 35 ∷ []; rest = bs; spells = a_hash K.Hash refl refl (hash refl refl); parts = refl; count = refl }

digraph_takes : (fresh : Bool) (bs : List ℕ) → Takes fresh (37 ∷ 58 ∷ bs) (digraph_at fresh bs).0 (digraph_at fresh bs).1
digraph_takes true bs = line_takes bs (37 ∷ 58 ∷ []) (λ f. after_digraph refl)
digraph_takes false bs = go (begins_byte 37 bs && begins_byte 58 (drop 1 bs)) refl
  where
    go : (t : Bool) → (begins_byte 37 bs && begins_byte 58 (drop 1 bs)) ≡ t → Takes false (37 ∷ 58 ∷ bs) (cond {A = Piece × ℕ} t (P.Token K.HashHash, 4) (P.Token K.Hash, 2)).0 (cond {A = Piece × ℕ} t (P.Token K.HashHash, 4) (P.Token K.Hash, 2)).1
    go true e =
        let w = and_parts (begins_byte 37 bs) (begins_byte 58 (drop 1 bs)) e in
        record {
          front = 37 ∷ 58 ∷ 37 ∷ 58 ∷ [];
          rest = drop 1 (drop 1 bs);
          spells = a_hash K.HashHash refl refl (hash_hash_digraph refl refl);
          parts = ap (λ z. 37 ∷ 58 ∷ z) (begins_is 37 bs w.0) ∙ ap (λ z. 37 ∷ 58 ∷ 37 ∷ z) (begins_is 58 (drop 1 bs) w.1);
          count = refl;
        }
    go false e = record { front = 37 ∷ 58 ∷ []; rest = bs; spells = a_hash K.Hash refl refl (hash_digraph refl refl); parts = refl; count = refl }

percent_takes : (fresh : Bool) (bs : List ℕ) (y : Piece × ℕ) → cond (begins_byte 58 bs) (Some (digraph_at fresh (drop 1 bs))) (punctuator_at (37 ∷ bs)) ≡ Some y → Takes fresh (37 ∷ bs) y.0 y.1
percent_takes fresh bs y e =
    elim (chosen (begins_byte 58 bs) (Some (digraph_at fresh (drop 1 bs))) (punctuator_at (37 ∷ bs)) (Some y) e) [
      | inl w ↦ takes fresh (37 ∷ bs) (digraph_at fresh (drop 1 bs)) y w.1
          (subst (λ z. Takes fresh (37 ∷ z) (digraph_at fresh (drop 1 bs)).0 (digraph_at fresh (drop 1 bs)).1) (sym (begins_is 58 bs w.0)) (digraph_takes fresh (drop 1 bs)))
      | inr w ↦ punctuator_takes fresh (37 ∷ bs) y w.1
    ]

join_takes : (fresh : Bool) (bs : List ℕ) (y : Piece × ℕ) → cond (begins_byte 10 bs) (Some (P.Join, 2)) None ≡ Some y → Takes fresh (92 ∷ bs) y.0 y.1
join_takes fresh bs y e =
    elim (chosen (begins_byte 10 bs) (Some (P.Join, 2)) None (Some y) e) [
      | inl w ↦ takes fresh (92 ∷ bs) (P.Join, 2) y w.1 (record { front = 92 ∷ 10 ∷ []; rest = drop 1 bs; spells = a_join refl refl; parts = ap (λ z. 92 ∷ z) (begins_is 10 bs w.0); count = refl })
      | inr w ↦ absurd (let z = w.1 in cc)
    ]

-- strings, characters and words

literal_spells : (fresh : Bool) (q : ℕ) (f : List ℕ) → IsQuote q → IsLiteral q f → Spells fresh (P.Token (literal_kind q f)) f
literal_spells fresh q f (inl e) h = rw e (a_string refl (subst (λ z. IsLiteral z f) e h))
literal_spells fresh q f (inr e) h = rw e (a_character refl (subst (λ z. IsLiteral z f) e h))

literal_takes : (fresh : Bool) (prefix rest : List ℕ) (y : Piece × ℕ) → ((q : ℕ) (g : List ℕ) → IsQuoted q g → IsLiteral q (prefix ++ g)) →
    literal_after (length prefix) (prefix ++ rest) rest ≡ Some y → Takes fresh (prefix ++ rest) y.0 y.1
literal_takes fresh prefix rest y make e =
    let l = after_sound (length prefix) (prefix ++ rest) rest y e in
    let g : List ℕ = l.quote ∷ l.body ++ l.quote ∷ [] in
    let tail : rest ≡ g ++ l.after = l.parts ∙ ap (λ z. l.quote ∷ z) (sym (append_assoc l.body (l.quote ∷ []) l.after)) in
    let parts : prefix ++ rest ≡ (prefix ++ g) ++ l.after = ap (λ z. prefix ++ z) tail ∙ sym (append_assoc prefix g l.after) in
    let count : length (prefix ++ g) ≡ y.1 = omega (arith, l.count, length-append prefix g, length-append l.body (l.quote ∷ [])) in
    let text : take y.1 (prefix ++ rest) ≡ prefix ++ g = ap (take y.1) parts ∙ take_at (prefix ++ g) l.after y.1 count in
    let kind : P.Token (literal_kind l.quote (prefix ++ g)) ≡ y.0 = ap (λ z. P.Token (literal_kind l.quote z)) (sym text) ∙ sym l.piece in
    record {
      front = prefix ++ g;
      rest = l.after;
      spells = subst (λ p. Spells fresh p (prefix ++ g)) kind (literal_spells fresh l.quote (prefix ++ g) l.is_quote (make l.quote g (quoted l.body l.quotable refl)));
      parts = parts;
      count = count;
    }

-- a word, and what stands after it
word_parts : (fresh : Bool) (w rest : List ℕ) → IsWord w → Takes fresh (w ++ rest) (word_of_length (length w) (w ++ rest)).0 (word_of_length (length w) (w ++ rest)).1
word_parts fresh w rest h =
    subst (λ z. Takes fresh (w ++ rest) (cond {A = Piece × ℕ} (is_encoding z) (unwrap_or (literal_at (length w) (w ++ rest)) (P.Token K.Word, length w)) (P.Token K.Word, length w)).0 (cond {A = Piece × ℕ} (is_encoding z) (unwrap_or (literal_at (length w) (w ++ rest)) (P.Token K.Word, length w)) (P.Token K.Word, length w)).1)
    (sym (take_at w rest (length w) refl)) (by_prefix (is_encoding w) refl)
  where
    alone : Takes fresh (w ++ rest) (P.Token K.Word) (length w)
    alone = record { front = w; rest = rest; spells = a_word refl h; parts = refl; count = refl }

    by_literal : (o : Option (Piece × ℕ)) → is_encoding w ≡ true → literal_at (length w) (w ++ rest) ≡ o → Takes fresh (w ++ rest) (unwrap_or {T = Piece × ℕ} o (P.Token K.Word, length w)).0 (unwrap_or {T = Piece × ℕ} o (P.Token K.Word, length w)).1
    by_literal None e k = alone
    by_literal (Some y) e k =
        literal_takes fresh w rest y (λ q g i. prefixed w e i refl) (ap (literal_after (length w) (w ++ rest)) (sym (drop_at w rest (length w) refl)) ∙ k)

    by_prefix : (t : Bool) → is_encoding w ≡ t →
        Takes fresh (w ++ rest) (cond {A = Piece × ℕ} t (unwrap_or (literal_at (length w) (w ++ rest)) (P.Token K.Word, length w)) (P.Token K.Word, length w)).0 (cond {A = Piece × ℕ} t (unwrap_or (literal_at (length w) (w ++ rest)) (P.Token K.Word, length w)) (P.Token K.Word, length w)).1
    by_prefix true e = by_literal (literal_at (length w) (w ++ rest)) e refl
    by_prefix false e = alone

word_takes : (fresh : Bool) (b : ℕ) (bs : List ℕ) → is_name_letter b ≡ true → Takes fresh (b ∷ bs) (word_at (b ∷ bs)).0 (word_at (b ∷ bs)).1
unfolding word_at
word_takes fresh b bs h =
    let s = split is_name_byte bs in
    let n : length (b ∷ s.front) ≡ suc (prefix_len is_name_byte bs) = ap suc s.count in
    let w = word_parts fresh (b ∷ s.front) s.rest (word h s.all refl) in
    let v : Takes fresh (b ∷ bs) (word_of_length (length (b ∷ s.front)) (b ∷ bs)).0 (word_of_length (length (b ∷ s.front)) (b ∷ bs)).1 =
    subst (λ z. Takes fresh (b ∷ z) (word_of_length (length (b ∷ s.front)) (b ∷ z)).0 (word_of_length (length (b ∷ s.front)) (b ∷ z)).1) (sym s.parts) w in
    subst (λ z. Takes fresh (b ∷ bs) (word_of_length z (b ∷ bs)).0 (word_of_length z (b ∷ bs)).1) n v

-- comments

comment_takes : (fresh : Bool) (bs : List ℕ) → Takes fresh (47 ∷ 42 ∷ bs) (comment_as (comment_end false bs) bs).0 (comment_as (comment_end false bs) bs).1
comment_takes fresh bs = go (comment_end false bs) refl
  where
    go : (o : Option ℕ) → comment_end false bs ≡ o → Takes fresh (47 ∷ 42 ∷ bs) (comment_as o bs).0 (comment_as o bs).1
    go None h = record {
      front = 47 ∷ 42 ∷ bs;
      rest = [];
      spells = an_open_comment refl (open_comment (never_ends false bs h).0 refl);
      parts = sym (append-nil (47 ∷ 42 ∷ bs));
      count = refl;
    }
    go (Some n) h =
        elim (comment_sound false bs n h) [
          | inl v ↦ absurd (let z = v.is_star in cc)
          | inr v ↦ record {
            front = 47 ∷ 42 ∷ v.body ++ 42 ∷ 47 ∷ [];
            rest = v.rest;
            spells = a_closed_comment refl (comment v.body v.no_end refl);
            parts = ap (λ z. 47 ∷ 42 ∷ z) (v.parts ∙ sym (append_assoc v.body (42 ∷ 47 ∷ []) v.rest));
            count = omega (arith, v.count, length-append v.body (42 ∷ 47 ∷ []));
          }
        ]

slash_takes : (fresh : Bool) (bs : List ℕ) (y : Piece × ℕ) → slash_at (47 ∷ bs) ≡ Some y → Takes fresh (47 ∷ bs) y.0 y.1
slash_takes fresh [] y e = punctuator_takes fresh (47 ∷ []) y e
slash_takes fresh (b ∷ bs) y e =
    elim (chosen (b == 47) _ (cond (b == 42) (Some (comment_as (comment_end false bs) bs)) (punctuator_at (47 ∷ b ∷ bs))) (Some y) e) [
      | inl w ↦
          let s = run line_goes_on 0 bs in
          takes fresh _ (P.Space, suc (suc (line_run bs))) y w.1 (record {
            front = 47 ∷ b ∷ s.front;
            rest = s.rest;
            spells = a_line_comment refl (line_comment s.all (ap (λ z. 47 ∷ z ∷ s.front) (eqb-true b 47 w.0)));
            parts = ap (λ z. 47 ∷ b ∷ z) s.parts;
            count = ap (λ z. suc (suc z)) s.count;
          })
      | inr w ↦
          elim (chosen (b == 42) (Some (comment_as (comment_end false bs) bs)) (punctuator_at (47 ∷ b ∷ bs)) (Some y) w.1) [
            | inl v ↦ takes fresh _ (comment_as (comment_end false bs) bs) y v.1 (subst (λ z. Takes fresh (47 ∷ z ∷ bs) (comment_as (comment_end false bs) bs).0 (comment_as (comment_end false bs) bs).1) (sym (eqb-true b 42 v.0)) (comment_takes fresh bs))
            | inr v ↦ punctuator_takes fresh (47 ∷ b ∷ bs) y v.1
          ]
    ]

-- where the first byte is known
at_byte : (fresh : Bool) (c : Class) (a b : ℕ) (bs : List ℕ) (y : Piece × ℕ) → b ≡ a → (piece_of fresh c a bs ≡ Some y → Takes fresh (a ∷ bs) y.0 y.1) → piece_of fresh c b bs ≡ Some y → Takes fresh (b ∷ bs) y.0 y.1
at_byte fresh c a b bs y h make e = subst (λ z. Takes fresh (z ∷ bs) y.0 y.1) (sym h) (make (subst (λ z. piece_of fresh c z bs ≡ Some y) h e))

of_class : (fresh : Bool) (c : Class) (b : ℕ) (bs : List ℕ) (y : Piece × ℕ) → IsOf b c → piece_of fresh c b bs ≡ Some y → Takes fresh (b ∷ bs) y.0 y.1
of_class fresh C.Letter b bs y (letter h) e = takes fresh (b ∷ bs) (word_at (b ∷ bs)) y e (word_takes fresh b bs h)
of_class fresh C.Digit b bs y (digit h) e = takes fresh (b ∷ bs) (number_at b bs) y e (number_takes fresh b bs (λ front all rest parts count. number h all refl))
of_class fresh C.Blank b bs y (blank h) e =
    let s = split is_blank bs in
    takes fresh _ (P.Space, suc (prefix_len is_blank bs)) y e (record { front = b ∷ s.front; rest = s.rest; spells = some_blanks refl (blanks h s.all refl); parts = ap (λ z. b ∷ z) s.parts; count = ap suc s.count })
of_class fresh C.Quote b bs y (quote h) e = literal_takes fresh [] (b ∷ bs) y (λ q g i. bare i) e
of_class fresh C.Hash b bs y (Of.hash h) e = at_byte fresh C.Hash 35 b bs y h (λ k. takes fresh (35 ∷ bs) (hash_at fresh bs) y k (hash_takes fresh bs)) e
of_class fresh C.Percent b bs y (percent h) e = at_byte fresh C.Percent 37 b bs y h (λ k. percent_takes fresh bs y k) e
of_class fresh C.Dot b bs y (dot h) e = at_byte fresh C.Dot 46 b bs y h (λ k. dot_takes fresh bs y k) e
of_class fresh C.Slash b bs y (slash h) e = at_byte fresh C.Slash 47 b bs y h (λ k. slash_takes fresh bs y k) e
of_class fresh C.Backslash b bs y (backslash h) e = at_byte fresh C.Backslash 92 b bs y h (λ k. join_takes fresh bs y k) e
of_class fresh C.Other b bs y other e = punctuator_takes fresh (b ∷ bs) y e

pub taken : (fresh : Bool) (bytes : List ℕ) (y : Piece × ℕ) → piece_at fresh bytes ≡ Some y → Takes fresh bytes y.0 y.1
unfolding piece_at
taken fresh [] y e = absurd cc
taken fresh (b ∷ bs) y e = of_class fresh (class_of b) b bs y (of_its_class b) e

-- ---- the longest

abbrev some_piece : Piece → ℕ → Option (Piece × ℕ)
some_piece p n = Some (p, n)

count_is : (p q : Piece) (m n : ℕ) → some_piece p m ≡ some_piece q n → m ≡ n
count_is p q m n e =
    let x : Piece × ℕ = (p, m) in
    let y : Piece × ℕ = (q, n) in
    ap (λ (z : Piece × ℕ). z.1) (same_Some x y e)

-- the piece that is found is the longest
pub is_longest : (fresh : Bool) (bytes : List ℕ) (p : Piece) (n : ℕ) → piece_at fresh bytes ≡ Some (p, n) → (t : Takes fresh bytes p n) → Longest fresh bytes p t.front t.rest
is_longest fresh bytes p n h t = record {
  spells = t.spells;
  parts = t.parts;
  longest = λ q f r s e.
      let g = found fresh q f r s in
      let c = count_is _ _ _ _ (sym g.is ∙ ap (piece_at fresh) (sym e) ∙ h) in
      omega (arith, g.least, t.count, c);
}

-- the longest piece is found
pub longest_is : (fresh : Bool) (bytes : List ℕ) (p : Piece) (front rest : List ℕ) → Longest fresh bytes p front rest → piece_at fresh bytes ≡ Some (p, length front)
longest_is fresh bytes p front rest l =
    let g = found fresh p front rest l.spells in
    let h : piece_at fresh bytes ≡ Some (g.piece, g.count) = ap (piece_at fresh) l.parts ∙ g.is in
    let t = taken fresh bytes (g.piece, g.count) h in
    let le = l.longest g.piece t.front t.rest t.spells t.parts in
    let c : g.count ≡ length front = omega (arith, g.least, le, t.count) in
    h ∙ ap₂ some_piece (g.same c) c

-- where nothing is found nothing is spelled
pub nothing_is : (fresh : Bool) (bytes : List ℕ) → piece_at fresh bytes ≡ None → NoPiece fresh bytes
nothing_is fresh bytes h q f t s e =
    let g = found fresh q f t s in
    absurd (let z = sym g.is ∙ ap (piece_at fresh) (sym e) ∙ h in cc)
