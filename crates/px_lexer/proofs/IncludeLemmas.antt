-- Which lines include.
use Rattle.std.proofs.Common.{◌≡◌, ◌⊎◌, ◌==◌, not, ℕ, Bool, true, false, cond, List, [], ◌∷◌, ◌++◌, drop, refl, sym, ap, ap₂, ◌∙◌, append_assoc, inl, inr}
use Rattle.std.specs.Prelude.{codes, nat_eq}
use Rattle.std.specs.List.{starts_with}
use Rattle.std.proofs.lemmas.Bool.{eqb-true, and_parts, not-true}
use Rattle.std.proofs.lemmas.Bool.Decides.{Decides-eqb}
use Rattle.std.proofs.lemmas.Slice.Eq.{starts_is}
use Rattle.px_lexer.specs.Bytes.{is_blank, goes_on}
use Rattle.px_lexer.specs.Spelling.{HasNoEnd, comment, IsGap, nothing_more, a_blank, a_comment, Includes, includes}
use Rattle.px_lexer.specs.Scanning.{includes_from, is_include}
use Rattle.px_lexer.specs.declared.piece.Gap.{Gap}
use Rattle.px_lexer.specs.declared.piece.Gap.TheVariants as G
use Rattle.px_lexer.proofs.RunLemmas.{chosen}
use Rattle.px_lexer.proofs.CommentLemmas.{NoSlash, no_end_cons, no_end_nil, no_end_tail, no_end_star, no_slash_head, no_slash_cons, no_slash_nil}

-- ---- a line that includes is found

abbrev in_comment : Bool → Gap
in_comment true = G.Star
in_comment false = G.Inside

-- a byte of a comment that doesn't end it
stays_inside : (star : Bool) (b : ℕ) (rest : List ℕ) → (star ≡ true → (b == 47) ≡ false) → includes_from (in_comment star) (b ∷ rest) ≡ includes_from (in_comment (b == 42)) rest
unfolding includes_from
stays_inside true b rest k = rw (k refl) (by_star (b == 42))
  where
    by_star : (t : Bool) → cond t (includes_from G.Star rest) (includes_from G.Inside rest) ≡ includes_from (in_comment t) rest
    by_star true = refl
    by_star false = refl
stays_inside false b rest k = by_star (b == 42)
  where
    by_star : (t : Bool) → cond t (includes_from G.Star rest) (includes_from G.Inside rest) ≡ includes_from (in_comment t) rest
    by_star true = refl
    by_star false = refl

comment_skipped : (star : Bool) (body rest : List ℕ) → HasNoEnd body → (star ≡ true → NoSlash body) → includes_from (in_comment star) (body ++ 42 ∷ 47 ∷ rest) ≡ includes_from G.Outside rest
unfolding includes_from
comment_skipped true [] rest h k = refl
comment_skipped false [] rest h k = refl
comment_skipped star (b ∷ bs) rest h k =
    stays_inside star b (bs ++ 42 ∷ 47 ∷ rest) (λ e. no_slash_head b bs (k e))
    ∙ comment_skipped (b == 42) bs rest (no_end_tail b bs h) (λ e. no_end_star b bs h (eqb-true b 42 e))

opened : (rest : List ℕ) → includes_from G.Outside (47 ∷ 42 ∷ rest) ≡ includes_from G.Inside rest
unfolding includes_from
opened rest = refl

blank_skipped : (b : ℕ) (rest : List ℕ) → is_blank b ≡ true → includes_from G.Outside (b ∷ rest) ≡ includes_from G.Outside rest
unfolding includes_from
blank_skipped b rest h = rw h refl

-- a comment before other bytes
comment_before : (c body rest : List ℕ) → c ≡ 47 ∷ 42 ∷ body ++ 42 ∷ 47 ∷ [] → c ++ rest ≡ 47 ∷ 42 ∷ (body ++ 42 ∷ 47 ∷ rest)
comment_before c body rest e = ap (λ z. z ++ rest) e ∙ ap (λ z. 47 ∷ 42 ∷ z) (append_assoc body (42 ∷ 47 ∷ []) rest)

gap_skipped : (gap rest : List ℕ) → IsGap gap → includes_from G.Outside (gap ++ rest) ≡ includes_from G.Outside rest
gap_skipped gap rest (nothing_more parts) = ap (λ z. includes_from G.Outside (z ++ rest)) parts
gap_skipped gap rest (a_blank {b = b} {bs = bs} h k parts) =
    ap (λ z. includes_from G.Outside (z ++ rest)) parts ∙ blank_skipped b (bs ++ rest) h ∙ gap_skipped bs rest k
gap_skipped gap rest (a_comment {bs = bs} c (comment body h e) k parts) =
    ap (λ z. includes_from G.Outside (z ++ rest)) parts
    ∙ ap (includes_from G.Outside) (append_assoc c bs rest ∙ comment_before c body (bs ++ rest) e)
    ∙ opened (body ++ 42 ∷ 47 ∷ (bs ++ rest))
    ∙ comment_skipped false body (bs ++ rest) h (λ g. absurd cc)
    ∙ gap_skipped bs rest k

word_found : (rest : List ℕ) → goes_on rest ≡ false → includes_from G.Outside (codes "include" ++ rest) ≡ true
unfolding includes_from
word_found rest h = rw h refl

pub include_found : (line : List ℕ) → Includes line → includes_from G.Outside line ≡ true
include_found line (includes gap rest k h parts) =
    ap (includes_from G.Outside) parts ∙ ap (includes_from G.Outside) (append_assoc gap (codes "include") rest) ∙ gap_skipped gap (codes "include" ++ rest) k ∙ word_found rest h

-- ---- a line that is found includes

word_sound : (f : List ℕ) → is_include f ≡ true → Includes f
word_sound f h =
    let w = and_parts (starts_with nat_eq f (codes "include")) (not (goes_on (drop 7 f))) h in
    let s = starts_is Decides-eqb f (codes "include") (starts_with nat_eq f (codes "include")) refl in
    includes [] (drop 7 f) (nothing_more refl) (not-true (goes_on (drop 7 f)) w.1) (s.0 w.0)

blank_sound : (b : ℕ) (bs : List ℕ) → is_blank b ≡ true → Includes bs → Includes (b ∷ bs)
blank_sound b bs h (includes gap rest k g parts) = includes (b ∷ gap) rest (a_blank h k refl) g (ap (λ z. b ∷ z) parts)

-- bytes in a comment that ends before the line includes
record Ends (star : Bool) (f : List ℕ) : Type 0 where
  pub body : List ℕ
  pub rest : List ℕ
  pub parts : f ≡ body ++ 42 ∷ 47 ∷ rest
  pub no_end : HasNoEnd body
  pub no_slash : star ≡ true → NoSlash body
  pub remaining : Includes rest

record EndsAtOnce (f : List ℕ) : Type 0 where
  pub rest : List ℕ
  pub parts : f ≡ 47 ∷ rest
  pub remaining : Includes rest

comment_sound : (f : List ℕ) → Ends false f → Includes (47 ∷ 42 ∷ f)
comment_sound f v = go v.remaining
  where
    go : Includes v.rest → Includes (47 ∷ 42 ∷ f)
    go (includes gap rest k g parts) =
        let c : List ℕ = 47 ∷ 42 ∷ v.body ++ 42 ∷ 47 ∷ [] in
        includes (c ++ gap) rest (a_comment c (comment v.body v.no_end refl) k refl) g
        (ap (λ z. 47 ∷ 42 ∷ z) v.parts ∙ sym (comment_before c v.body v.rest refl) ∙ ap (λ z. c ++ z) parts
        ∙ sym (append_assoc c (gap ++ codes "include") rest) ∙ ap (λ z. z ++ rest) (sym (append_assoc c gap (codes "include"))))

abbrev Meets : Gap → List ℕ → Type 0
Meets G.Outside f = Includes f
Meets G.Slash f = Includes (47 ∷ f)
Meets G.Inside f = Ends false f
Meets G.Star f = EndsAtOnce f ⊎ Ends true f

-- one more byte of a comment
one_more_byte : (star : Bool) (b : ℕ) (bs : List ℕ) → (b == 42) ≡ false → (star ≡ true → (b == 47) ≡ false) → Ends false bs → Ends star (b ∷ bs)
one_more_byte star b bs h k v = record {
  body = b ∷ v.body;
  rest = v.rest;
  parts = ap (λ z. b ∷ z) v.parts;
  no_end = no_end_cons b v.body v.no_end (λ e. absurd (let z : (b == 42) ≡ true = rw e refl in cc));
  no_slash = λ e. no_slash_cons b v.body (k e);
  remaining = v.remaining;
}

one_more_star : (star : Bool) (b : ℕ) (bs : List ℕ) → (b == 42) ≡ true → EndsAtOnce bs ⊎ Ends true bs → Ends star (b ∷ bs)
one_more_star star b bs h (inl v) = record {
  body = [];
  rest = v.rest;
  parts = ap₂ (λ x y. x ∷ y) (eqb-true b 42 h) v.parts;
  no_end = no_end_nil;
  no_slash = λ e. no_slash_nil;
  remaining = v.remaining;
}
one_more_star star b bs h (inr v) = record {
  body = b ∷ v.body;
  rest = v.rest;
  parts = ap (λ z. b ∷ z) v.parts;
  no_end = no_end_cons b v.body v.no_end (λ e. v.no_slash refl);
  no_slash = λ e. no_slash_cons b v.body (rw (eqb-true b 42 h) refl);
  remaining = v.remaining;
}

sound : (gap : Gap) (f : List ℕ) → includes_from gap f ≡ true → Meets gap f
unfolding includes_from
sound gap [] h = absurd cc
sound G.Outside (b ∷ bs) h =
    elim (chosen (is_blank b) _ (cond (b == 47) (includes_from G.Slash bs) (is_include (b ∷ bs))) true h) [
      | inl w ↦ blank_sound b bs w.0 (sound G.Outside bs w.1)
      | inr w ↦ elim (chosen (b == 47) _ (is_include (b ∷ bs)) true w.1) [
        | inl u ↦ let e = eqb-true b 47 u.0 in rw e (sound G.Slash bs u.1)
        | inr u ↦ word_sound (b ∷ bs) u.1
      ]
    ]
sound G.Slash (b ∷ bs) h =
    elim (chosen (b == 42) (includes_from G.Inside bs) false true h) [
      | inl w ↦ let e = eqb-true b 42 w.0 in rw e (comment_sound bs (sound G.Inside bs w.1))
      | inr w ↦ absurd (let z = w.1 in cc)
    ]
sound G.Inside (b ∷ bs) h =
    elim (chosen (b == 42) (includes_from G.Star bs) (includes_from G.Inside bs) true h) [
      | inl w ↦ one_more_star false b bs w.0 (sound G.Star bs w.1)
      | inr w ↦ one_more_byte false b bs w.0 (λ e. absurd cc) (sound G.Inside bs w.1)
    ]
sound G.Star (b ∷ bs) h =
    elim (chosen (b == 47) _ (cond (b == 42) (includes_from G.Star bs) (includes_from G.Inside bs)) true h) [
      | inl w ↦ inl (record { rest = bs; parts = ap (λ z. z ∷ bs) (eqb-true b 47 w.0); remaining = sound G.Outside bs w.1 })
      | inr w ↦ elim (chosen (b == 42) (includes_from G.Star bs) (includes_from G.Inside bs) true w.1) [
        | inl u ↦ inr (one_more_star true b bs u.0 (sound G.Star bs u.1))
        | inr u ↦ inr (one_more_byte true b bs u.0 (λ e. w.0) (sound G.Inside bs u.1))
      ]
    ]

pub include_sound : (line : List ℕ) → includes_from G.Outside line ≡ true → Includes line
include_sound line h = sound G.Outside line h
