-- The readers of types read exactly what the grammar says.
use Rattle.std.proofs.Common.{◌≡◌, ℕ, List, [], ◌∷◌, ◌++◌, Some, None, refl, ap, sym, ◌∙◌, append_assoc, inl, inr}
use Rattle.px_expressions.specs.declared.terminal.Terminal.TheVariants as T
use Rattle.px_expressions.specs.Lexemes.{Lexeme, front}
use Rattle.px_expressions.specs.Reading.{or_else, base_at, stars_at, type_at}
use Rattle.px_expressions.specs.Grammar.{IsBase, is_int, is_struct, IsStars, no_star, one_star, two_stars, IsType, is_type}
use Rattle.px_expressions.proofs.ExactTools.{either, done, both_are, front_is, front_bind, Reads, Exact, part_bind, Anything}
use Rattle.px_syntax.specs.declared.type_name.Base.{Base}
use Rattle.px_syntax.specs.declared.type_name.Base.TheVariants as B
use Rattle.px_syntax.specs.declared.type_name.TypeName.{TypeName}

base_sound : (ts : List Lexeme) (b : Base) (rest : List Lexeme) → base_at ts ≡ Some (b, rest) → Reads IsBase ts b rest
unfolding base_at
base_sound ts b rest h =
    elim (either (front T.Int ts) (λ x. done B.Int x.1) _ (done b rest) h) [
      | inl w ↦
          let f = front_is T.Int ts w.0 w.1 in
          let q = both_are B.Int b w.0.1 rest w.2 in
          record { front = w.0.0 ∷ []; is = is_int f.0 refl (sym q.0); parts = f.1 ∙ ap (λ z. w.0.0 ∷ z) q.1 }
      | inr w ↦
          let s = front_bind T.Struct ts _ (b, rest) w.1 in
          let n = front_bind T.Name s.0.1 _ (b, rest) s.3 in
          let q = both_are (B.Struct n.0.0.text) b n.0.1 rest n.3 in
          record { front = s.0.0 ∷ n.0.0 ∷ []; is = is_struct s.1 n.1 refl (sym q.0); parts = s.2 ∙ ap (λ z. s.0.0 ∷ z) (n.2 ∙ ap (λ z. n.0.0 ∷ z) q.1) }
    ]

base_complete : (ts : List Lexeme) (b : Base) (rest : List Lexeme) → IsBase ts b → Anything rest → base_at (ts ++ rest) ≡ Some (b, rest)
unfolding base_at
base_complete ts b rest (is_int k parts g) f = rw (parts, g, k) refl
base_complete ts b rest (is_struct k kn parts g) f = rw (parts, g, k, kn) refl

pub base_exact : Exact IsBase base_at Anything
base_exact = record { sound = base_sound; complete = base_complete }

-- no star follows
abbrev pub NoStar : List Lexeme → Type 0
NoStar ts = front T.Star ts ≡ None

stars_sound : (ts : List Lexeme) (n : ℕ) (rest : List Lexeme) → stars_at ts ≡ Some (n, rest) → Reads IsStars ts n rest
unfolding stars_at
stars_sound ts n rest h =
    elim (either (front T.Star ts) (λ x. or_else (front T.Star x.1) (λ y. done 2 y.1) (done 1 x.1)) (done 0 ts) (done n rest) h) [
      | inl w ↦
          let f = front_is T.Star ts w.0 w.1 in
          elim (either (front T.Star w.0.1) (λ y. done 2 y.1) (done 1 w.0.1) (done n rest) w.2) [
            | inl v ↦
                let g = front_is T.Star w.0.1 v.0 v.1 in
                let q = both_are 2 n v.0.1 rest v.2 in
                record { front = w.0.0 ∷ v.0.0 ∷ []; is = two_stars f.0 g.0 refl (sym q.0); parts = f.1 ∙ ap (λ z. w.0.0 ∷ z) (g.1 ∙ ap (λ z. v.0.0 ∷ z) q.1) }
            | inr v ↦
                let q = both_are 1 n w.0.1 rest v.1 in
                record { front = w.0.0 ∷ []; is = one_star f.0 refl (sym q.0); parts = f.1 ∙ ap (λ z. w.0.0 ∷ z) q.1 }
          ]
      | inr w ↦
          let q = both_are 0 n ts rest w.1 in
          record { front = []; is = no_star refl (sym q.0); parts = q.1 }
    ]

stars_complete : (ts : List Lexeme) (n : ℕ) (rest : List Lexeme) → IsStars ts n → NoStar rest → stars_at (ts ++ rest) ≡ Some (n, rest)
unfolding stars_at
stars_complete ts n rest (no_star parts g) f = rw (parts, g, f) refl
stars_complete ts n rest (one_star k parts g) f = rw (parts, g, k, f) refl
stars_complete ts n rest (two_stars k l parts g) f = rw (parts, g, k, l) refl

pub stars_exact : Exact IsStars stars_at NoStar
stars_exact = record { sound = stars_sound; complete = stars_complete }

type_sound : (ts : List Lexeme) (a : TypeName) (rest : List Lexeme) → type_at ts ≡ Some (a, rest) → Reads IsType ts a rest
unfolding type_at
type_sound ts a rest h =
    let b = part_bind base_exact ts _ (a, rest) h in
    let s = part_bind stars_exact b.0.1 _ (a, rest) b.2 in
    let q = both_are (record { base = b.0.0; stars = s.0.0 }) a s.0.1 rest s.2 in
    record {
      front = b.1.front ++ s.1.front;
      is = is_type b.1.is s.1.is refl (sym q.0);
      parts = b.1.parts ∙ ap (λ z. b.1.front ++ z) (s.1.parts ∙ ap (λ z. s.1.front ++ z) q.1) ∙ sym (append_assoc b.1.front s.1.front rest);
    }

type_complete : (ts : List Lexeme) (a : TypeName) (rest : List Lexeme) → IsType ts a → NoStar rest → type_at (ts ++ rest) ≡ Some (a, rest)
unfolding type_at
type_complete ts a rest (is_type {ts1 = ts1} {ts2 = ts2} {b = b} {n = n} p s parts g) f =
    let one : base_at (ts1 ++ (ts2 ++ rest)) ≡ Some (b, ts2 ++ rest) = base_exact.complete ts1 b (ts2 ++ rest) p tt in
    let two : stars_at (ts2 ++ rest) ≡ Some (n, rest) = stars_exact.complete ts2 n rest s f in
    rw (parts, append_assoc ts1 ts2 rest, g, one, two) refl

pub type_exact : Exact IsType type_at NoStar
type_exact = record { sound = type_sound; complete = type_complete }
