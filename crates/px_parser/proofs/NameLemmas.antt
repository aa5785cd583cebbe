-- The name of an item is the text of the token that stands before its first `(`.
use Rattle.std.proofs.Common.{◌≡◌, ◌≢◌, ℕ, true, false, List, [], ◌∷◌, ◌++◌, Option, Some, None, refl, ap, sym, ◌∙◌, inl, inr}
use Rattle.std.proofs.lemmas.Option.{same_Some}
use Rattle.px_lexer.specs.declared.token.Token.{Token}
use Rattle.px_lexer.specs.declared.token.TokenKind.{TokenKind}
use Rattle.px_lexer.specs.declared.token.TokenKind.TheVariants as K
use Rattle.px_lexer.specs.declared.token.Punctuator.TheVariants as P
use Rattle.px_expressions.specs.Lexemes.{token_text}
use Rattle.px_expressions.proofs.ExactTools.{chosen}
use Rattle.px_cutting.specs.Shape.{IsFunctionShaped}
use Rattle.px_parser.specs.Names.{is_parenthesis, NoParenthesis, no_token, another, IsFunctionName, function_name, before_first}

-- no `(` stands before: the token is the one that is read
passed : (last : Option Token) (before : List Token) (t o : Token) (behind : List Token) → NoParenthesis before → t.kind ≡ K.Word → o.kind ≡ K.Punctuator P.OpenParenthesis →
    before_first last (before ++ t ∷ o ∷ behind) ≡ Some t
passed last before t o behind (no_token h) k ko = rw (h, k, ko) refl
passed last before t o behind (another {t = u} {ts1 = us} p m parts) k ko = rw (parts, p) (passed (Some u) us t o behind m k ko)

-- where a token is read, it stands directly before the first `(`
record Found (ts : List Token) (t : Token) : Type 0 where
  pub before : List Token
  pub parenthesis : Token
  pub behind : List Token
  pub none : NoParenthesis before
  pub is : parenthesis.kind ≡ K.Punctuator P.OpenParenthesis
  pub parts : ts ≡ before ++ t ∷ parenthesis ∷ behind

parenthesis_is : (k : TokenKind) → is_parenthesis k ≡ true → k ≡ K.Punctuator P.OpenParenthesis
parenthesis_is (K.Punctuator P.OpenParenthesis) h = refl
parenthesis_is _ h = absurd cc

found_after : (u : Token) (ts : List Token) (t : Token) → is_parenthesis u.kind ≡ false → before_first (Some u) ts ≡ Some t → Found (u ∷ ts) t
found_after u [] t k h = absurd cc
found_after u (v ∷ ts) t k h =
    elim (chosen (is_parenthesis v.kind) (Some u) (before_first (Some v) ts) (Some t) h) [
      | inl w ↦ record { before = []; parenthesis = v; behind = ts; none = no_token refl; is = parenthesis_is v.kind w.0; parts = ap (λ z. z ∷ v ∷ ts) (same_Some u t w.1) }
      | inr w ↦
          let f = found_after v ts t w.0 w.1 in
          record { before = u ∷ f.before; parenthesis = f.parenthesis; behind = f.behind; none = another k f.none refl; is = f.is; parts = ap (λ z. u ∷ z) f.parts }
    ]

found : (ts : List Token) (t : Token) → before_first None ts ≡ Some t → Found ts t
found [] t h = absurd cc
found (v ∷ ts) t h =
    elim (chosen (is_parenthesis v.kind) None (before_first (Some v) ts) (Some t) h) [
      | inl w ↦ absurd (let z = w.1 in cc)
      | inr w ↦ found_after v ts t w.0 w.1
    ]

pub is_named : (source : List ℕ) (ts : List Token) (t : Token) (name : List ℕ) → IsFunctionShaped ts → Some t ≡ before_first None ts → t.kind ≡ K.Word → name ≡ token_text source t →
    IsFunctionName source ts name
is_named source ts t name shaped h k e = let f = found ts t (sym h) in function_name f.before t f.parenthesis f.behind shaped f.none k f.is f.parts e

-- the token of a name
pub record Token_of (source : List ℕ) (ts : List Token) (name : List ℕ) : Type 0 where
  pub token : Token
  pub read : before_first None ts ≡ Some token
  pub word : token.kind ≡ K.Word
  pub text : name ≡ token_text source token
  pub shaped : IsFunctionShaped ts

pub token_of : (source : List ℕ) (ts : List Token) (name : List ℕ) → IsFunctionName source ts name → Token_of source ts name
token_of source ts name (function_name before t o behind shaped m k ko parts e) =
    record { token = t; read = ap (before_first None) parts ∙ passed None before t o behind m k ko; word = k; text = e; shaped = shaped }

pub no_token_before : (source : List ℕ) (ts : List Token) (name : List ℕ) → None ≡ before_first None ts → IsFunctionName source ts name → ⊥
no_token_before source ts name e h = let f = token_of source ts name h in let z = e ∙ f.read in absurd cc

pub no_word_before : (source : List ℕ) (ts : List Token) (name : List ℕ) (t : Token) → Some t ≡ before_first None ts → t.kind ≢ K.Word → IsFunctionName source ts name → ⊥
no_word_before source ts name t e ne h =
    let f = token_of source ts name h in
    let same : t ≡ f.token = same_Some t f.token (e ∙ f.read) in
    ne (ap (λ z. z.kind) same ∙ f.word)

pub one_name : (source : List ℕ) (ts : List Token) (a b : List ℕ) → IsFunctionName source ts a → IsFunctionName source ts b → a ≡ b
one_name source ts a b g h =
    let f = token_of source ts a g in
    let k = token_of source ts b h in
    let same : f.token ≡ k.token = same_Some f.token k.token (sym f.read ∙ k.read) in
    f.text ∙ ap (token_text source) same ∙ sym k.text
