-- Tokens are read or refused, and have a name or none.
use Rattle.std.proofs.Common.{◌≡◌, ◌≢◌, ◌⊎◌, inl, inr, ℕ, suc, ◌-◌, ◌<◌, ◌≤◌, ◌==◌, Bool, true, false, List, [], ◌∷◌, ◌++◌, length, length-append, take, drop, get_or, drop-cons, Option, Some, None, Result, Ok, Err, refl, sym, ap, ap₂, ◌∙◌, subst, arith, codes}
use Rattle.std.proofs.lemmas.List.{take-append-drop}
use Rattle.std.proofs.lemmas.Bool.Decides.{Decides-eqb}
use Rattle.std.specs.Bool.{Decides}
use Rattle.std.proofs.Math.ListN.{drop_of_length-le}
use Rattle.px_base.specs.declared.trace.Site.{Site}
use Rattle.px_lexer.specs.declared.token.Token.{Token}
use Rattle.px_lexer.specs.declared.token.TokenKind.{TokenKind}
use Rattle.px_lexer.specs.declared.token.TokenKind.TheVariants as K
use Rattle.px_cutting.specs.declared.cutting.Span.{Span}
use Rattle.px_cutting.specs.declared.roles.Pair.TheVariants.{Braces}
use Rattle.px_cutting.specs.declared.roles.Role.{Role}
use Rattle.px_cutting.specs.declared.roles.Role.TheVariants.{Closes}
use Rattle.px_cutting.specs.Cutting.{role, span, Cuts}
use Rattle.px_cutting.specs.Shape.{IsOneItem, IsFunctionShaped, function_shaped}
use Rattle.px_cutting.proofs.CuttingExact.{one_cutting, some_cutting}
use Rattle.px_expressions.specs.Lexemes.{lexemes, token_text}
use Rattle.px_syntax.specs.ItemTree.{ItemTree}
use Rattle.px_parser.specs.ItemReading.{item_at}
use Rattle.px_parser.specs.ItemGrammar.{IsItem}
use Rattle.px_parser.specs.Whole.{whole}
use Rattle.px_parser.specs.Refusals.{outside_word, NoneOutside, none_left, none_here, IsRefusal, first_outside, form}
use Rattle.px_parser.specs.Names.{IsFunctionName, before_first}
use Rattle.px_parser.specs.Existence.{SomeItem, SomeName}
use Rattle.px_parser.proofs.ParseLemmas.{blank, tree_found, no_tree_found}
use Rattle.px_parser.proofs.NameLemmas.{is_named, no_token_before, no_word_before, token_of}
use Rattle.px_cutting.proofs.ShapeLemmas.{same_last}

-- ---- a tree or a refusal

-- the first token that is outside the grammar
record FirstOutside (source : List ℕ) (ts : List Token) : Type 0 where
  pub before : List Token
  pub token : Token
  pub behind : List Token
  pub word : List ℕ
  pub none : NoneOutside source before
  pub outside : outside_word source token ≡ Some word
  pub parts : ts ≡ before ++ token ∷ behind

first_of : (source : List ℕ) (t : Token) (ts : List Token) (o : Option (List ℕ)) → outside_word source t ≡ o → FirstOutside source ts ⊎ NoneOutside source ts → FirstOutside source (t ∷ ts) ⊎ NoneOutside source (t ∷ ts)
first_of source t ts (Some word) e rest = inl (record { before = []; token = t; behind = ts; word = word; none = none_left refl; outside = e; parts = refl })
first_of source t ts None e (inl f) =
    inl (record { before = t ∷ f.before; token = f.token; behind = f.behind; word = f.word; none = none_here e f.none refl; outside = f.outside; parts = ap (λ z. t ∷ z) f.parts })
first_of source t ts None e (inr m) = inr (none_here e m refl)

first_or_none : (source : List ℕ) (ts : List Token) → FirstOutside source ts ⊎ NoneOutside source ts
first_or_none source [] = inr (none_left refl)
first_or_none source (t ∷ ts) = first_of source t ts (outside_word source t) refl (first_or_none source ts)

refusal_by : (source : List ℕ) (t : Token) (ts : List Token) → FirstOutside source (t ∷ ts) ⊎ NoneOutside source (t ∷ ts) → (word : List ℕ) × (place : Site) × IsRefusal source (t ∷ ts) word place
refusal_by source t ts (inl f) = (f.word, f.token.site, first_outside f.before f.token f.behind f.none f.outside f.parts refl)
refusal_by source t ts (inr m) = (codes "form", t.site, form m refl refl refl)

some_refusal : (source : List ℕ) (ts : List Token) → 0 < length ts → (word : List ℕ) × (place : Site) × IsRefusal source ts word place
some_refusal source [] pos = absurd (omega (arith, pos))
some_refusal source (t ∷ ts) pos = refusal_by source t ts (first_or_none source (t ∷ ts))

pub some_item : SomeItem
some_item source ts pos = go (whole (item_at (get_or ts 0 blank).site (lexemes source ts))) refl
  where
    go : (o : Option ItemTree) → o ≡ whole (item_at (get_or ts 0 blank).site (lexemes source ts)) →
        ((item : ItemTree) × IsItem (lexemes source ts) item) ⊎ (((item : ItemTree) → ¬ IsItem (lexemes source ts) item) × ((word : List ℕ) × (place : Site) × IsRefusal source ts word place))
    go (Some a) e = inl (a, tree_found source ts (lexemes source ts) (Some a) a (get_or ts 0 blank).site pos refl refl e refl)
    go None e = inr (no_tree_found source ts (lexemes source ts) None (get_or ts 0 blank).site pos refl refl e refl, some_refusal source ts pos)

-- ---- a name or none

abbrev Either : Type 0 → Type 0
Either P = P ⊎ (P → ⊥)

same_number : (a b : ℕ) → Either (a ≡ b)
same_number a b = by (a == b) (Decides-eqb a b)
  where
    by : (x : Bool) → Decides x (a ≡ b) → Either (a ≡ b)
    by true d = inl (d.0 refl)
    by false d = inr (λ e. absurd (let z = d.1 e in cc))

is_brace : (r : Role) → Either (r ≡ Closes Braces)
is_brace (Closes Braces) = inl refl
is_brace _ = inr (λ e. absurd cc)

is_word : (k : TokenKind) → Either (k ≡ K.Word)
is_word K.Word = inl refl
is_word _ = inr (λ e. absurd cc)

whole_by : (n : ℕ) (spans : List Span) → Either (spans ≡ span 0 n ∷ [])
whole_by n [] = inr (λ e. absurd cc)
whole_by n (s ∷ t ∷ spans) = inr (λ e. absurd cc)
whole_by n (s ∷ []) = by (same_number s.first 0) (same_number s.after n)
  where
    by : Either (s.first ≡ 0) → Either (s.after ≡ n) → Either (s ∷ [] ≡ span 0 n ∷ [])
    by (inl a) (inl b) = inl (ap₂ (λ x y. span x y ∷ []) a b)
    by (inl a) (inr b) = inr (λ e. b (let z : s ≡ span 0 n = cc in ap (λ (x : Span). x.after) z))
    by (inr a) b = inr (λ e. a (let z : s ≡ span 0 n = cc in ap (λ (x : Span). x.first) z))

one_item_by : (ts : List Token) (r : Result (List Span) Site) → Cuts 0 ts r → Either (IsOneItem ts)
one_item_by ts (Err place) cut = inr (λ whole. let e = one_cutting 0 ts (Err place) (Ok (span 0 (length ts) ∷ [])) cut whole in absurd cc)
one_item_by ts (Ok spans) cut = by (whole_by (length ts) spans)
  where
    by : Either (spans ≡ span 0 (length ts) ∷ []) → Either (IsOneItem ts)
    by (inl e) = inl (subst (λ ss. Cuts 0 ts (Ok ss)) e cut)
    by (inr ne) = inr (λ whole. ne (let e = one_cutting 0 ts (Ok spans) (Ok (span 0 (length ts) ∷ [])) cut whole in cc))

-- the last token, and those before it
last_of : (t : Token) (ts : List Token) → (before : List Token) × (c : Token) × (t ∷ ts ≡ before ++ c ∷ [])
last_of t [] = ([], t, refl)
last_of t (u ∷ ts) = let r = last_of u ts in (t ∷ r.0, r.1, ap (λ z. t ∷ z) r.2)

shaped_by : (ts before : List Token) (c : Token) → ts ≡ before ++ c ∷ [] → Either (IsOneItem ts) → Either (role c ≡ Closes Braces) → Either (IsFunctionShaped ts)
shaped_by ts before c parts (inl whole) (inl k) = inl (function_shaped before c whole k parts)
shaped_by ts before c parts (inl whole) (inr ne) = inr (no_brace ts before c parts ne)
  where
    no_brace : (ts before : List Token) (c : Token) → ts ≡ before ++ c ∷ [] → (role c ≢ Closes Braces) → IsFunctionShaped ts → ⊥
    no_brace ts before c parts ne (function_shaped other d w k p) = ne (ap role (same_last before other c d (sym parts ∙ p)) ∙ k)
shaped_by ts before c parts (inr not) k = inr (no_item ts not)
  where
    no_item : (ts : List Token) → (IsOneItem ts → ⊥) → IsFunctionShaped ts → ⊥
    no_item ts not (function_shaped other d w k p) = not w

empty_is_not : (ts : List Token) → ts ≡ [] → IsFunctionShaped ts → ⊥
empty_is_not ts e (function_shaped before c w k parts) = absurd (let z = sym e ∙ parts in omega (arith, ap length z, length-append before (c ∷ [])))

shaped_or_not : (ts : List Token) → Either (IsFunctionShaped ts)
shaped_or_not [] = inr (empty_is_not [] refl)
shaped_or_not (t ∷ ts) =
    let last = last_of t ts in
    let cut = some_cutting 0 (t ∷ ts) in
    shaped_by (t ∷ ts) last.0 last.1 last.2 (one_item_by (t ∷ ts) cut.0 cut.1) (is_brace (role last.1))

pub some_name : SomeName
some_name source ts = by (before_first None ts) refl (shaped_or_not ts)
  where
    word_by : (t : Token) → Some t ≡ before_first None ts → IsFunctionShaped ts → Either (t.kind ≡ K.Word) → ((name : List ℕ) × IsFunctionName source ts name) ⊎ ((name : List ℕ) → ¬ IsFunctionName source ts name)
    word_by t e shaped (inl k) = inl (token_text source t, is_named source ts t (token_text source t) shaped e k refl)
    word_by t e shaped (inr ne) = inr (λ name. no_word_before source ts name t e ne)

    by : (o : Option Token) → o ≡ before_first None ts → Either (IsFunctionShaped ts) → ((name : List ℕ) × IsFunctionName source ts name) ⊎ ((name : List ℕ) → ¬ IsFunctionName source ts name)
    by None e s = inr (λ name. no_token_before source ts name e)
    by (Some t) e (inl shaped) = word_by t e shaped (is_word t.kind)
    by (Some t) e (inr not) = inr (λ name h. not (token_of source ts name h).shaped)
