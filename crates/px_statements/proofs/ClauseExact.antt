-- The readers of what stands in the heads of statements read exactly what the grammar says.
use Rattle.std.proofs.Common.{◌≡◌, ℕ, Bool, true, false, cond, List, [], ◌∷◌, ◌++◌, Option, Some, None, refl, sym, ap, subst, ◌∙◌, append_assoc, inl, inr}
use Rattle.px_expressions.specs.declared.terminal.Terminal.{Terminal}
use Rattle.px_expressions.specs.declared.terminal.Terminal.TheVariants as T
use Rattle.px_expressions.specs.Lexemes.{Lexeme, same, front}
use Rattle.px_expressions.specs.Reading.{Reader, begins_type, expression_at}
use Rattle.px_statements.specs.SimpleReading.{declaration_at, simple_at, condition_at, optional_at, first_at}
use Rattle.px_expressions.specs.Grammar.{Gram, is_int, is_struct, Parenthesised, parenthesised, IsExpression}
use Rattle.px_statements.specs.SimpleGrammar.{IsDeclaration, is_declaration, IsSimple, IsOptional, is_missing, is_there, IsFirst, is_first_declaration, is_first_simple}
use Rattle.px_expressions.proofs.ExactTools.{chosen, either, done, both_are, front_is, front_bind, same_is, Reads, Exact, part_bind, Anything}
use Rattle.px_expressions.proofs.ListExact.{NoComma}
use Rattle.px_expressions.proofs.ExpressionExact.{stops_at, begins, closed_parts, front_here, expression_exact, expression_shut}
use Rattle.px_statements.proofs.SimpleExact.{AfterInit, declaration_exact, simple_exact, simple_shut, starts}
use Rattle.px_syntax.specs.ExpressionTree.{ExpressionTree}
use Rattle.px_syntax.specs.StatementTree.{DeclarationTree, SimpleTree, FirstTree, first_declaration, first_simple}

-- nothing is read where this terminal stands
abbrev pub AwayFrom : {A : Type 0} → Terminal → Reader A → Type 0
AwayFrom k r = (t : Lexeme) (ts : List Lexeme) → t.terminal ≡ k → r (t ∷ ts) ≡ None

pub away_front : {A : Type 0} (r : Reader A) (k : Terminal) → AwayFrom k r → (ts : List Lexeme) (x : A × List Lexeme) → r ts ≡ Some x → front k ts ≡ None
away_front r k away [] x h = refl
away_front r k away (t ∷ ts) x h =
    elim (chosen (same t.terminal k) (Some (t, ts)) None (front k (t ∷ ts)) refl) [
      | inl w ↦ absurd (let z = away t ts (same_is t.terminal k w.0) in cc)
      | inr w ↦ sym w.1
    ]

-- ---- what may be missing

module _ {A : Type 0} {G : Gram A} {part : Reader A} {Follows : List Lexeme → Type 0} (k : Terminal) (p : Exact G part Follows)
    (may : (c : Lexeme) (rest : List Lexeme) → c.terminal ≡ k → Follows (c ∷ rest)) (away : AwayFrom k part) where
  optional_sound : (ts : List Lexeme) (a : Option A) (rest : List Lexeme) → optional_at k part ts ≡ Some (a, rest) → Reads (IsOptional G k) ts a rest
  unfolding optional_at
  optional_sound ts a rest h =
      elim (either (front k ts) (λ x. done None x.1) _ (done a rest) h) [
        | inl w ↦
            let f = front_is k ts w.0 w.1 in
            let q = both_are None a w.0.1 rest w.2 in
            record { front = w.0.0 ∷ []; is = is_missing f.0 refl (sym q.0); parts = f.1 ∙ ap (λ z. w.0.0 ∷ z) q.1 }
        | inr w ↦
            let y = part_bind p ts _ (a, rest) w.1 in
            let f = front_bind k y.0.1 _ (a, rest) y.2 in
            let q = both_are (Some y.0.0) a f.0.1 rest f.3 in
            record {
              front = y.1.front ++ f.0.0 ∷ [];
              is = is_there f.0.0 y.1.is f.1 refl (sym q.0);
              parts = y.1.parts ∙ ap (λ z. y.1.front ++ z) (f.2 ∙ ap (λ z. f.0.0 ∷ z) q.1) ∙ sym (append_assoc y.1.front (f.0.0 ∷ []) rest);
            }
      ]

  optional_complete : (ts : List Lexeme) (a : Option A) (rest : List Lexeme) → IsOptional G k ts a → Anything rest → optional_at k part (ts ++ rest) ≡ Some (a, rest)
  unfolding optional_at
  optional_complete ts a rest (is_missing {t = t} h parts g) f = rw (parts, g, front_here k t rest h) refl
  optional_complete ts a rest (is_there {ts1 = ts1} {x = x} t g h parts e) f =
      let one : part (ts1 ++ t ∷ rest) ≡ Some (x, t ∷ rest) = p.complete ts1 x (t ∷ rest) g (may t rest h) in
      rw (parts, append_assoc ts1 (t ∷ []) rest, e, away_front part k away (ts1 ++ t ∷ rest) (x, t ∷ rest) one, one, front_here k t rest h) refl

  pub optional_exact : Exact (IsOptional G k) (optional_at k part) Anything
  optional_exact = record { sound = optional_sound; complete = optional_complete }

-- ---- what may follow

pub expression_away : (d : ℕ) (k : Terminal) → begins k ≡ false → AwayFrom k (expression_at d)
expression_away d k b t ts h = expression_shut d t ts (ap begins h ∙ b)

pub simple_away : (d : ℕ) (k : Terminal) → starts k ≡ false → AwayFrom k (simple_at d)
simple_away d k b t ts h = simple_shut d t ts (ap starts h ∙ b)

abbrev pub AfterDeclaration : List Lexeme → Type 0
AfterDeclaration rest = AfterInit rest × NoComma rest

pub semicolon_follows : (c : Lexeme) (rest : List Lexeme) → c.terminal ≡ T.Semicolon → AfterDeclaration (c ∷ rest)
semicolon_follows c rest h = ((stops_at T.Semicolon refl c rest h, rw h refl), rw h refl)

-- ---- the first clause of a `for`

pub declaration_begins : (d : ℕ) (ts : List Lexeme) (a : DeclarationTree) (rest : List Lexeme) → IsDeclaration d ts a → begins_type (ts ++ rest) ≡ true
declaration_begins d ts a rest (is_declaration (is_int k h g) s parts r) = rw (parts, h, k) refl
declaration_begins d ts a rest (is_declaration (is_struct k kn h g) s parts r) = rw (parts, h, k) refl

neither : (x : Lexeme × List Lexeme) (m n : Bool) → cond m (Some x) None ≡ None → cond n (Some x) None ≡ None → cond m true n ≡ false
neither x true n a b = absurd cc
neither x false true a b = absurd cc
neither x false false a b = refl

-- a simple statement begins with no type
pub simple_begins : (d : ℕ) (ts : List Lexeme) (x : SimpleTree × List Lexeme) → simple_at d ts ≡ Some x → begins_type ts ≡ false
simple_begins d [] x h = refl
simple_begins d (t ∷ ts) x h =
    let a : front T.Int (t ∷ ts) ≡ None = away_front (simple_at d) T.Int (simple_away d T.Int refl) (t ∷ ts) x h in
    let b : front T.Struct (t ∷ ts) ≡ None = away_front (simple_at d) T.Struct (simple_away d T.Struct refl) (t ∷ ts) x h in
    neither (t, ts) (same t.terminal T.Int) (same t.terminal T.Struct) a b

first_sound : (d : ℕ) (ts : List Lexeme) (a : FirstTree) (rest : List Lexeme) → first_at d ts ≡ Some (a, rest) → Reads (IsFirst d) ts a rest
unfolding first_at
first_sound d ts a rest h =
    elim (chosen (begins_type ts) _ _ (done a rest) h) [
      | inl w ↦
          let x = part_bind (declaration_exact d) ts _ (a, rest) w.1 in
          let q = both_are (first_declaration x.0.0) a x.0.1 rest x.2 in
          record { front = x.1.front; is = is_first_declaration x.1.is (sym q.0); parts = x.1.parts ∙ ap (λ z. x.1.front ++ z) q.1 }
      | inr w ↦
          let x = part_bind (simple_exact d) ts _ (a, rest) w.1 in
          let q = both_are (first_simple x.0.0) a x.0.1 rest x.2 in
          record { front = x.1.front; is = is_first_simple x.1.is (sym q.0); parts = x.1.parts ∙ ap (λ z. x.1.front ++ z) q.1 }
    ]

first_complete : (d : ℕ) (ts : List Lexeme) (a : FirstTree) (rest : List Lexeme) → IsFirst d ts a → AfterDeclaration rest → first_at d (ts ++ rest) ≡ Some (a, rest)
unfolding first_at
first_complete d ts a rest (is_first_declaration {x = x} p g) f =
    let one : declaration_at d (ts ++ rest) ≡ Some (x, rest) = (declaration_exact d).complete ts x rest p f in
    rw (declaration_begins d ts x rest p, g, one) refl
first_complete d ts a rest (is_first_simple {x = x} p g) f =
    let one : simple_at d (ts ++ rest) ≡ Some (x, rest) = (simple_exact d).complete ts x rest p f.0.0 in
    rw (simple_begins d (ts ++ rest) (x, rest) one, g, one) refl

first_exact : (d : ℕ) → Exact (IsFirst d) (first_at d) AfterDeclaration
first_exact d = record { sound = first_sound d; complete = first_complete d }

first_away : (d : ℕ) → AwayFrom T.Semicolon (first_at d)
unfolding first_at
first_away d t ts h =
    let plain : begins_type (t ∷ ts) ≡ false = rw h refl in
    rw (plain, simple_away d T.Semicolon refl t ts h) refl

pub first_clause : (d : ℕ) → Exact (IsOptional (IsFirst d) T.Semicolon) (optional_at T.Semicolon (first_at d)) Anything
first_clause d = optional_exact T.Semicolon (first_exact d) semicolon_follows (first_away d)

pub middle_clause : (d : ℕ) → Exact (IsOptional (IsExpression d) T.Semicolon) (optional_at T.Semicolon (expression_at d)) Anything
middle_clause d = optional_exact T.Semicolon (expression_exact d) (λ c rest h. stops_at T.Semicolon refl c rest h) (expression_away d T.Semicolon refl)

pub last_clause : (d : ℕ) → Exact (IsOptional (IsSimple d) T.CloseParenthesis) (optional_at T.CloseParenthesis (simple_at d)) Anything
last_clause d = optional_exact T.CloseParenthesis (simple_exact d) (λ c rest h. stops_at T.CloseParenthesis refl c rest h) (simple_away d T.CloseParenthesis refl)

-- ---- conditions

condition_sound : (d : ℕ) (ts : List Lexeme) (e : ExpressionTree) (rest : List Lexeme) → condition_at d ts ≡ Some (e, rest) → Reads (Parenthesised (IsExpression d)) ts e rest
unfolding condition_at
condition_sound d ts e rest h =
    let o = front_bind T.OpenParenthesis ts _ (e, rest) h in
    let x = part_bind (expression_exact d) o.0.1 _ (e, rest) o.3 in
    let c = front_bind T.CloseParenthesis x.0.1 _ (e, rest) x.2 in
    let q = both_are x.0.0 e c.0.1 rest c.3 in
    record {
      front = o.0.0 ∷ x.1.front ++ c.0.0 ∷ [];
      is = parenthesised c.0.0 o.1 c.1 (subst (λ z. IsExpression d x.1.front z) q.0 x.1.is) refl;
      parts = o.2 ∙ closed_parts o.0.0 c.0.0 x.1.front o.0.1 x.0.1 c.0.1 rest x.1.parts c.2 q.1;
    }

pub condition_complete : (d : ℕ) (ts : List Lexeme) (e : ExpressionTree) (rest : List Lexeme) → Parenthesised (IsExpression d) ts e → Anything rest → condition_at d (ts ++ rest) ≡ Some (e, rest)
unfolding condition_at
condition_complete d ts e rest (parenthesised {o = o} c {ts1 = ts1} ko kc g parts) f =
    let one : expression_at d (ts1 ++ c ∷ rest) ≡ Some (e, c ∷ rest) = (expression_exact d).complete ts1 e (c ∷ rest) g (stops_at T.CloseParenthesis refl c rest kc) in
    rw (parts, ko, append_assoc ts1 (c ∷ []) rest, one, kc) refl

pub condition_exact : (d : ℕ) → Exact (Parenthesised (IsExpression d)) (condition_at d) Anything
condition_exact d = record { sound = condition_sound d; complete = condition_complete d }
