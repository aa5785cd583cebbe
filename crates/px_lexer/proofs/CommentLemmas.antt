-- Where a comment ends.
use Rattle.std.proofs.Common.{◌≡◌, ◌≢◌, ◌⊎◌, ◌==◌, ◌&&◌, ℕ, suc, ◌<◌, Bool, true, false, List, [], ◌∷◌, ◌++◌, length, Option, Some, None, refl, ap, ap₂, ◌∙◌, arith, inl, inr}
use Rattle.std.proofs.lemmas.Bool.{eqb-true, eqb-false, and_parts, ne_eqb}
use Rattle.px_lexer.specs.Spelling.{HasNoEnd}
use Rattle.px_lexer.specs.Scanning.{comment_end, one_more}
use Rattle.px_lexer.proofs.RunLemmas.{chosen}
use Rattle.px_lexer.proofs.QuoteLemmas.{one_more_is}

-- the bytes don't begin with a slash
abbrev pub NoSlash : List ℕ → Type 0
NoSlash body = (c : List ℕ) → body ≢ 47 ∷ c

no_end_at : (b : ℕ) (body : List ℕ) → HasNoEnd body → (b ≡ 42 → NoSlash body) → (a c : List ℕ) → b ∷ body ≢ a ++ 42 ∷ 47 ∷ c
no_end_at b body h k [] c e = let f : b ≡ 42 = cc in let g : body ≡ 47 ∷ c = cc in k f c g
no_end_at b body h k (x ∷ a) c e = let g : body ≡ a ++ 42 ∷ 47 ∷ c = cc in h a c g

pub no_end_cons : (b : ℕ) (body : List ℕ) → HasNoEnd body → (b ≡ 42 → NoSlash body) → HasNoEnd (b ∷ body)
no_end_cons b body h k = λ a c e. no_end_at b body h k a c e

no_end_nowhere : (a c : List ℕ) → [] ≢ a ++ 42 ∷ 47 ∷ c
no_end_nowhere [] c e = absurd cc
no_end_nowhere (x ∷ a) c e = absurd cc

pub no_end_nil : HasNoEnd []
no_end_nil = λ a c e. no_end_nowhere a c e

pub no_end_tail : (b : ℕ) (body : List ℕ) → HasNoEnd (b ∷ body) → HasNoEnd body
no_end_tail b body h = λ a c e. h (b ∷ a) c (ap (λ z. b ∷ z) e)

pub no_end_star : (b : ℕ) (body : List ℕ) → HasNoEnd (b ∷ body) → b ≡ 42 → NoSlash body
no_end_star b body h e = λ c g. h [] c (ap₂ (λ x y. x ∷ y) e g)

pub no_slash_head : (b : ℕ) (body : List ℕ) → NoSlash (b ∷ body) → (b == 47) ≡ false
no_slash_head b body h = ne_eqb b 47 (λ e. h body (ap (λ z. z ∷ body) e))

pub no_slash_cons : (b : ℕ) (body : List ℕ) → (b == 47) ≡ false → NoSlash (b ∷ body)
no_slash_cons b body h = λ c e. let f : b ≡ 47 = cc in eqb-false b 47 h f

pub no_slash_nil : NoSlash []
no_slash_nil = λ c e. absurd cc

-- the test of a byte where none ends the comment
open_test : (star : Bool) (b : ℕ) (body : List ℕ) → (star ≡ true → NoSlash (b ∷ body)) → (star && b == 47) ≡ false
open_test true b body k = no_slash_head b body (k refl)
open_test false b body k = refl

pub comment_found : (star : Bool) (body r : List ℕ) → HasNoEnd body → (star ≡ true → NoSlash body) → comment_end star (body ++ 42 ∷ 47 ∷ r) ≡ Some (suc (suc (length body)))
unfolding comment_end
comment_found true [] r h k = refl
comment_found false [] r h k = refl
comment_found star (b ∷ bs) r h k =
    rw (open_test star b bs k, comment_found (b == 42) bs r (no_end_tail b bs h) (λ e. no_end_star b bs h (eqb-true b 42 e))) refl

one_more_none : (o : Option ℕ) → one_more o ≡ None → o ≡ None
one_more_none (Some m) e = absurd cc
one_more_none None e = refl

ends_somewhere : (star : Bool) (bs : List ℕ) (n : ℕ) → comment_end star bs ≡ Some n → 0 < n
unfolding comment_end
ends_somewhere star [] n e = absurd cc
ends_somewhere star (b ∷ bs) n e =
    elim (chosen (star && b == 47) (Some 1) (one_more (comment_end (b == 42) bs)) (Some n) e) [
      | inl w ↦ let z : 1 ≡ n = (let y = w.1 in cc) in omega arith
      | inr w ↦ let o = one_more_is (comment_end (b == 42) bs) n w.1 in omega (arith, o.2)
    ]

-- a comment ends after what has no end
pub ends_after : (star : Bool) (body r : List ℕ) (n : ℕ) → HasNoEnd body → (star ≡ true → NoSlash body) → comment_end star (body ++ r) ≡ Some n → length body < n
unfolding comment_end
ends_after star [] r n h k e = ends_somewhere star r n e
ends_after star (b ∷ bs) r n h k e =
    let f = rw (open_test star b bs k) at e in
    let o = one_more_is (comment_end (b == 42) (bs ++ r)) n f in
    let l = ends_after (b == 42) bs r o.0 (no_end_tail b bs h) (λ g. no_end_star b bs h (eqb-true b 42 g)) o.1 in
    omega (arith, l, o.2)

-- where the bytes end the comment
pub record Ends (star : Bool) (bs : List ℕ) (n : ℕ) : Type 0 where
  pub body : List ℕ
  pub rest : List ℕ
  pub parts : bs ≡ body ++ 42 ∷ 47 ∷ rest
  pub no_end : HasNoEnd body
  pub no_slash : star ≡ true → NoSlash body
  pub count : n ≡ suc (suc (length body))

pub record EndsAtOnce (star : Bool) (bs : List ℕ) (n : ℕ) : Type 0 where
  pub rest : List ℕ
  pub is_star : star ≡ true
  pub parts : bs ≡ 47 ∷ rest
  pub count : n ≡ 1

slash_test : (star : Bool) (b : ℕ) (bs : List ℕ) → (star && b == 47) ≡ false → star ≡ true → NoSlash (b ∷ bs)
slash_test true b bs h e = no_slash_cons b bs h
slash_test false b bs h e = absurd cc

pub comment_sound : (star : Bool) (bs : List ℕ) (n : ℕ) → comment_end star bs ≡ Some n → EndsAtOnce star bs n ⊎ Ends star bs n
unfolding comment_end
comment_sound star [] n e = absurd cc
comment_sound star (b ∷ bs) n e =
    elim (chosen (star && b == 47) (Some 1) (one_more (comment_end (b == 42) bs)) (Some n) e) [
      | inl w ↦
          let k = and_parts star (b == 47) w.0 in
          inl (record { rest = bs; is_star = k.0; parts = ap (λ z. z ∷ bs) (eqb-true b 47 k.1); count = let z = w.1 in cc })
      | inr w ↦
          let o = one_more_is (comment_end (b == 42) bs) n w.1 in
          elim (comment_sound (b == 42) bs o.0 o.1) [
            | inl v ↦ inr (record {
              body = [];
              rest = v.rest;
              parts = ap₂ (λ x y. x ∷ y) (eqb-true b 42 v.is_star) v.parts;
              no_end = no_end_nil;
              no_slash = λ g. no_slash_nil;
              count = o.2 ∙ ap suc v.count;
            })
            | inr v ↦ inr (record {
              body = b ∷ v.body;
              rest = v.rest;
              parts = ap (λ z. b ∷ z) v.parts;
              no_end = no_end_cons b v.body v.no_end (λ g. v.no_slash (rw g refl));
              no_slash = slash_test star b v.body w.0;
              count = o.2 ∙ ap suc v.count;
            })
          ]
    ]

pub never_ends : (star : Bool) (bs : List ℕ) → comment_end star bs ≡ None → HasNoEnd bs × (star ≡ true → NoSlash bs)
unfolding comment_end
never_ends star [] e = (no_end_nil, λ g. no_slash_nil)
never_ends star (b ∷ bs) e =
    elim (chosen (star && b == 47) (Some 1) (one_more (comment_end (b == 42) bs)) None e) [
      | inl w ↦ absurd (let z = w.1 in cc)
      | inr w ↦
          let v = never_ends (b == 42) bs (one_more_none (comment_end (b == 42) bs) w.1) in
          (no_end_cons b bs v.0 (λ g. v.1 (rw g refl)), slash_test star b bs w.0)
    ]
