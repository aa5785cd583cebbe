-- Which lines that begin with `#` a preprocessor leaves.
use Rattle.std.proofs.Common.{◌≡◌, ◌⊎◌, ◌==◌, ◌||◌, not, ℕ, Bool, true, false, cond, List, [], ◌∷◌, ◌++◌, length, drop, refl, sym, ap, ap₂, ◌∙◌, append_assoc, arith, inl, inr}
use Rattle.std.specs.Prelude.{codes, nat_eq}
use Rattle.std.specs.List.{starts_with}
use Rattle.std.proofs.lemmas.Bool.{eqb-true, and_parts, or_cases}
use Rattle.std.proofs.lemmas.Bool.Decides.{Decides-eqb, nat_tests}
use Rattle.std.proofs.lemmas.Slice.Eq.{starts_is}
use Rattle.px_lexer.specs.Bytes.{is_blank, is_digit}
use Rattle.px_lexer.specs.Spelling.{HasNoEnd, comment}
use Rattle.px_real_tokens.specs.Bytes.{name_goes_on}
use Rattle.px_real_tokens.specs.Spelling.{begins_with, begins_marker, IsGap, nothing_more, a_blank, a_joint, a_comment, IsMarker, marker}
use Rattle.px_real_tokens.specs.Scanning.{marks_from}
use Rattle.px_real_tokens.specs.declared.piece.Gap.{Gap}
use Rattle.px_real_tokens.specs.declared.piece.Gap.TheVariants as G
use Rattle.px_lexer.proofs.RunLemmas.{chosen}
use Rattle.px_lexer.proofs.CommentLemmas.{NoSlash, no_end_cons, no_end_nil, no_end_tail, no_end_star, no_slash_head, no_slash_cons, no_slash_nil}

-- ---- a line that is left is found

abbrev in_comment : Bool → Gap
in_comment true = G.Star
in_comment false = G.Inside

by_star : (t : Bool) (rest : List ℕ) → cond t (marks_from G.Star rest) (marks_from G.Inside rest) ≡ marks_from (in_comment t) rest
by_star true rest = refl
by_star false rest = refl

-- a byte of a comment that doesn't end it
stays_inside : (star : Bool) (b : ℕ) (rest : List ℕ) → (star ≡ true → (b == 47) ≡ false) → marks_from (in_comment star) (b ∷ rest) ≡ marks_from (in_comment (b == 42)) rest
unfolding marks_from
stays_inside true b rest k = rw (k refl) (by_star (b == 42) rest)
stays_inside false b rest k = by_star (b == 42) rest

comment_skipped : (star : Bool) (body rest : List ℕ) → HasNoEnd body → (star ≡ true → NoSlash body) → marks_from (in_comment star) (body ++ 42 ∷ 47 ∷ rest) ≡ marks_from G.Outside rest
unfolding marks_from
comment_skipped true [] rest h k = refl
comment_skipped false [] rest h k = refl
comment_skipped star (b ∷ bs) rest h k =
    stays_inside star b (bs ++ 42 ∷ 47 ∷ rest) (λ e. no_slash_head b bs (k e))
    ∙ comment_skipped (b == 42) bs rest (no_end_tail b bs h) (λ e. no_end_star b bs h (eqb-true b 42 e))

opened : (rest : List ℕ) → marks_from G.Outside (47 ∷ 42 ∷ rest) ≡ marks_from G.Inside rest
unfolding marks_from
opened rest = refl

joined : (rest : List ℕ) → marks_from G.Outside (92 ∷ 10 ∷ rest) ≡ marks_from G.Outside rest
unfolding marks_from
joined rest = refl

blank_skipped : (b : ℕ) (rest : List ℕ) → is_blank b ≡ true → marks_from G.Outside (b ∷ rest) ≡ marks_from G.Outside rest
unfolding marks_from
blank_skipped b rest h = rw h refl

-- a comment with other bytes after it
comment_then : (body rest : List ℕ) → (47 ∷ 42 ∷ body ++ 42 ∷ 47 ∷ []) ++ rest ≡ 47 ∷ 42 ∷ (body ++ 42 ∷ 47 ∷ rest)
comment_then body rest = ap (λ z. 47 ∷ 42 ∷ z) (append_assoc body (42 ∷ 47 ∷ []) rest)

gap_skipped : (gap rest : List ℕ) → IsGap gap → marks_from G.Outside (gap ++ rest) ≡ marks_from G.Outside rest
gap_skipped gap rest (nothing_more parts) = ap (λ z. marks_from G.Outside (z ++ rest)) parts
gap_skipped gap rest (a_blank {b = b} {bs = bs} h k parts) =
    ap (λ z. marks_from G.Outside (z ++ rest)) parts ∙ blank_skipped b (bs ++ rest) h ∙ gap_skipped bs rest k
gap_skipped gap rest (a_joint {bs = bs} k parts) =
    ap (λ z. marks_from G.Outside (z ++ rest)) parts ∙ joined (bs ++ rest) ∙ gap_skipped bs rest k
gap_skipped gap rest (a_comment {bs = bs} c (comment body h e) k parts) =
    ap (λ z. marks_from G.Outside (z ++ rest)) parts
    ∙ ap (marks_from G.Outside) (append_assoc c bs rest ∙ ap (λ z. z ++ (bs ++ rest)) e ∙ comment_then body (bs ++ rest))
    ∙ opened (body ++ 42 ∷ 47 ∷ (bs ++ rest))
    ∙ comment_skipped false body (bs ++ rest) h (λ g. absurd cc)
    ∙ gap_skipped bs rest k

-- a word or a number begins with no byte of a gap
record NoGap (b : ℕ) : Type 0 where
  blank : is_blank b ≡ false
  slash : (b == 47) ≡ false
  backslash : (b == 92) ≡ false

letter_is : (first b : ℕ) (text bs : List ℕ) → begins_with (first ∷ text) (b ∷ bs) ≡ true → first ≡ b
letter_is first b text bs h =
    let w = and_parts (starts_with nat_eq (b ∷ bs) (first ∷ text)) (not (name_goes_on (drop (length (first ∷ text)) (b ∷ bs)))) h in
    let s = starts_is Decides-eqb (b ∷ bs) (first ∷ text) (starts_with nat_eq (b ∷ bs) (first ∷ text)) refl in
    let e = s.0 w.0 in
    cc

digit_no_gap : (b : ℕ) → is_digit b ≡ true → NoGap b
digit_no_gap b h = record { blank = grind (arith, nat_tests); slash = grind (arith, nat_tests); backslash = grind (arith, nat_tests) }

no_gap : (b : ℕ) (bs : List ℕ) → begins_marker (b ∷ bs) ≡ true → NoGap b
no_gap b bs h =
    elim (or_cases (is_digit b) _ h) [
      | inl d ↦ digit_no_gap b d
      | inr w ↦ elim (or_cases (begins_with (codes "line") (b ∷ bs)) _ w) [
        | inl l ↦ let e = letter_is 108 b (codes "ine") bs l in rw (← e) (record { blank = refl; slash = refl; backslash = refl })
        | inr v ↦ elim (or_cases (begins_with (codes "pragma") (b ∷ bs)) _ v) [
          | inl p ↦ let e = letter_is 112 b (codes "ragma") bs p in rw (← e) (record { blank = refl; slash = refl; backslash = refl })
          | inr i ↦ let e = letter_is 105 b (codes "dent") bs i in rw (← e) (record { blank = refl; slash = refl; backslash = refl })
        ]
      ]
    ]

begun : (rest : List ℕ) → begins_marker rest ≡ true → marks_from G.Outside rest ≡ true
unfolding marks_from
begun [] h = absurd cc
begun (b ∷ bs) h = let n = no_gap b bs h in rw (n.blank, n.slash, n.backslash) h

pub marker_found : (line : List ℕ) → IsMarker line → marks_from G.Outside line ≡ true
marker_found line (marker gap rest k h parts) = ap (marks_from G.Outside) parts ∙ gap_skipped gap rest k ∙ begun rest h

-- ---- a line that is found is left

here_sound : (f : List ℕ) → begins_marker f ≡ true → IsMarker f
here_sound f h = marker [] f (nothing_more refl) h refl

blank_sound : (b : ℕ) (bs : List ℕ) → is_blank b ≡ true → IsMarker bs → IsMarker (b ∷ bs)
blank_sound b bs h (marker gap rest k g parts) = marker (b ∷ gap) rest (a_blank h k refl) g (ap (λ z. b ∷ z) parts)

joint_sound : (bs : List ℕ) → IsMarker bs → IsMarker (92 ∷ 10 ∷ bs)
joint_sound bs (marker gap rest k g parts) = marker (92 ∷ 10 ∷ gap) rest (a_joint k refl) g (ap (λ z. 92 ∷ 10 ∷ z) parts)

-- bytes in a comment that ends before what makes the line one that is left
record Ends (star : Bool) (f : List ℕ) : Type 0 where
  pub body : List ℕ
  pub rest : List ℕ
  pub parts : f ≡ body ++ 42 ∷ 47 ∷ rest
  pub no_end : HasNoEnd body
  pub no_slash : star ≡ true → NoSlash body
  pub remaining : IsMarker rest

record EndsAtOnce (f : List ℕ) : Type 0 where
  pub rest : List ℕ
  pub parts : f ≡ 47 ∷ rest
  pub remaining : IsMarker rest

comment_sound : (f : List ℕ) → Ends false f → IsMarker (47 ∷ 42 ∷ f)
comment_sound f v = go v.remaining
  where
    go : IsMarker v.rest → IsMarker (47 ∷ 42 ∷ f)
    go (marker gap rest k g parts) =
        let c : List ℕ = 47 ∷ 42 ∷ v.body ++ 42 ∷ 47 ∷ [] in
        marker (c ++ gap) rest (a_comment c (comment v.body v.no_end refl) k refl) g
        (ap (λ z. 47 ∷ 42 ∷ z) v.parts ∙ sym (comment_then v.body v.rest) ∙ ap (λ z. c ++ z) parts ∙ sym (append_assoc c gap rest))

abbrev Meets : Gap → List ℕ → Type 0
Meets G.Outside f = IsMarker f
Meets G.Slash f = IsMarker (47 ∷ f)
Meets G.Backslash f = IsMarker (92 ∷ f)
Meets G.Inside f = Ends false f
Meets G.Star f = EndsAtOnce f ⊎ Ends true f

-- one more byte of a comment
one_more_byte : (star : Bool) (b : ℕ) (bs : List ℕ) → (b == 42) ≡ false → (star ≡ true → (b == 47) ≡ false) → Ends false bs → Ends star (b ∷ bs)
one_more_byte star b bs h k v = record {
  body = b ∷ v.body;
  rest = v.rest;
  parts = ap (λ z. b ∷ z) v.parts;
  no_end = no_end_cons b v.body v.no_end (λ e. absurd (let z : (b == 42) ≡ true = rw e refl in cc));
  no_slash = λ e. no_slash_cons b v.body (k e);
  remaining = v.remaining;
}

one_more_star : (star : Bool) (b : ℕ) (bs : List ℕ) → (b == 42) ≡ true → EndsAtOnce bs ⊎ Ends true bs → Ends star (b ∷ bs)
one_more_star star b bs h (inl v) = record {
  body = [];
  rest = v.rest;
  parts = ap₂ (λ x y. x ∷ y) (eqb-true b 42 h) v.parts;
  no_end = no_end_nil;
  no_slash = λ e. no_slash_nil;
  remaining = v.remaining;
}
one_more_star star b bs h (inr v) = record {
  body = b ∷ v.body;
  rest = v.rest;
  parts = ap (λ z. b ∷ z) v.parts;
  no_end = no_end_cons b v.body v.no_end (λ e. v.no_slash refl);
  no_slash = λ e. no_slash_cons b v.body (rw (eqb-true b 42 h) refl);
  remaining = v.remaining;
}

sound : (gap : Gap) (f : List ℕ) → marks_from gap f ≡ true → Meets gap f
unfolding marks_from
sound gap [] h = absurd cc
sound G.Outside (b ∷ bs) h =
    elim (chosen (is_blank b) _ (cond (b == 47) (marks_from G.Slash bs) (cond (b == 92) (marks_from G.Backslash bs) (begins_marker (b ∷ bs)))) true h) [
      | inl w ↦ blank_sound b bs w.0 (sound G.Outside bs w.1)
      | inr w ↦ elim (chosen (b == 47) _ (cond (b == 92) (marks_from G.Backslash bs) (begins_marker (b ∷ bs))) true w.1) [
        | inl u ↦ let e = eqb-true b 47 u.0 in rw e (sound G.Slash bs u.1)
        | inr u ↦ elim (chosen (b == 92) _ (begins_marker (b ∷ bs)) true u.1) [
          | inl t ↦ let e = eqb-true b 92 t.0 in rw e (sound G.Backslash bs t.1)
          | inr t ↦ here_sound (b ∷ bs) t.1
        ]
      ]
    ]
sound G.Slash (b ∷ bs) h =
    elim (chosen (b == 42) (marks_from G.Inside bs) false true h) [
      | inl w ↦ let e = eqb-true b 42 w.0 in rw e (comment_sound bs (sound G.Inside bs w.1))
      | inr w ↦ absurd (let z = w.1 in cc)
    ]
sound G.Backslash (b ∷ bs) h =
    elim (chosen (b == 10) (marks_from G.Outside bs) false true h) [
      | inl w ↦ let e = eqb-true b 10 w.0 in rw e (joint_sound bs (sound G.Outside bs w.1))
      | inr w ↦ absurd (let z = w.1 in cc)
    ]
sound G.Inside (b ∷ bs) h =
    elim (chosen (b == 42) (marks_from G.Star bs) (marks_from G.Inside bs) true h) [
      | inl w ↦ one_more_star false b bs w.0 (sound G.Star bs w.1)
      | inr w ↦ one_more_byte false b bs w.0 (λ e. absurd cc) (sound G.Inside bs w.1)
    ]
sound G.Star (b ∷ bs) h =
    elim (chosen (b == 47) _ (cond (b == 42) (marks_from G.Star bs) (marks_from G.Inside bs)) true h) [
      | inl w ↦ inl (record { rest = bs; parts = ap (λ z. z ∷ bs) (eqb-true b 47 w.0); remaining = sound G.Outside bs w.1 })
      | inr w ↦ elim (chosen (b == 42) (marks_from G.Star bs) (marks_from G.Inside bs) true w.1) [
        | inl u ↦ inr (one_more_star true b bs u.0 (sound G.Star bs u.1))
        | inr u ↦ inr (one_more_byte true b bs u.0 (λ e. w.0) (sound G.Inside bs u.1))
      ]
    ]

pub marker_sound : (line : List ℕ) → marks_from G.Outside line ≡ true → IsMarker line
marker_sound line h = sound G.Outside line h
