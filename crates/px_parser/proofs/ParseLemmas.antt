-- What the answer of the parser says of all tokens of an item.
use Rattle.std.proofs.Common.{◌≡◌, ◌+◌, ℕ, suc, ◌<◌, ◌≤◌, List, [], ◌∷◌, ◌++◌, length, take, drop, get_or, drop-cons, Option, Some, None, Result, Err, refl, sym, ap, ap₂, subst, ◌∙◌, arith, codes}
use Rattle.std.proofs.lemmas.List.{take_more, take_all, take-append-drop}
use Rattle.std.proofs.lemmas.Option.{same_Some}
use Rattle.px_base.specs.declared.trace.Site.{Site}
use Rattle.px_lexer.specs.declared.token.Token.{Token}
use Rattle.px_lexer.specs.declared.token.TokenKind.TheVariants as K
use Rattle.px_expressions.specs.Lexemes.{Lexeme, lexeme, lexemes}
use Rattle.px_parser.specs.ItemReading.{item_at}
use Rattle.px_parser.specs.ItemGrammar.{IsItem}
use Rattle.px_parser.specs.Refusals.{outside_word, NoneOutside, none_left, none_here, IsRefusal, first_outside, form}
use Rattle.px_parser.specs.Whole.{if_all, whole}
use Rattle.px_expressions.proofs.ExactTools.{done}
use Rattle.px_parser.proofs.ItemExact.{item_is, is_item_read}
use Rattle.px_syntax.specs.ItemTree.{ItemTree}
use Rattle.px_parser.specs.declared.parsing.ParseFault.{ParseFault}
use Rattle.px_parser.specs.declared.parsing.ParseFault.TheVariants.{Outside}

-- ---- trees

whole_is : (x : Option (ItemTree × List Lexeme)) (a : ItemTree) → whole x ≡ Some a → x ≡ Some (a, [])
whole_is None a h = absurd cc
whole_is (Some x) a h = go x.0 x.1 h
  where
    go : (b : ItemTree) (ts : List Lexeme) → if_all b ts ≡ Some a → done b ts ≡ done a []
    go b [] h = ap (λ z. done z []) (same_Some b a h)
    go b (t ∷ ts) h = absurd cc

-- the token that stands for one past the end
abbrev pub blank : Token
blank = record { kind = K.Word; site = record { file = 0; line = 0; column = 0 }; start = 0; end = 0 }

pub tree_found : (source : List ℕ) (tokens : List Token) (us : List Lexeme) (o : Option ItemTree) (a : ItemTree) (place : Site) → 0 < length tokens → us ≡ lexemes source tokens → place ≡ (get_or tokens 0 blank).site →
    o ≡ whole (item_at place us) → o ≡ Some a → IsItem (lexemes source tokens) a
tree_found source [] us o a place pos e k h f = absurd (omega arith)
tree_found source (t ∷ ts) us o a place pos e k h f =
    item_is (lexeme source t) (lexemes source ts) a (whole_is (item_at t.site (lexemes source (t ∷ ts))) a (ap₂ (λ y z. whole (item_at y z)) (sym k) (sym e) ∙ sym h ∙ f))

pub no_tree_found : (source : List ℕ) (tokens : List Token) (us : List Lexeme) (o : Option ItemTree) (place : Site) → 0 < length tokens → us ≡ lexemes source tokens → place ≡ (get_or tokens 0 blank).site →
    o ≡ whole (item_at place us) → o ≡ None → (a : ItemTree) → IsItem (lexemes source tokens) a → ⊥
no_tree_found source [] us o place pos e k h f a g = absurd (omega arith)
no_tree_found source (t ∷ ts) us o place pos e k h f a g =
    let read : whole (item_at t.site (lexemes source (t ∷ ts))) ≡ Some a = ap whole (is_item_read (lexeme source t) (lexemes source ts) a g) in
    let none : whole (item_at t.site (lexemes source (t ∷ ts))) ≡ None = ap₂ (λ y z. whole (item_at y z)) (sym k) (sym e) ∙ sym h ∙ f in
    absurd cc

-- ---- refusals

none_more : (source : List ℕ) {ts : List Token} (t : Token) → NoneOutside source ts → outside_word source t ≡ None → NoneOutside source (ts ++ t ∷ [])
none_more source t (none_left h) e = subst (λ z. NoneOutside source (z ++ t ∷ [])) (sym h) (none_here e (none_left refl) refl)
none_more source t (none_here {t = u} {ts1 = us} k m parts) e = subst (λ z. NoneOutside source (z ++ t ∷ [])) (sym parts) (none_here k (none_more source t m e) refl)

pub none_at_first : (source : List ℕ) (ts : List Token) → NoneOutside source (take 0 ts)
none_at_first source ts = none_left refl

pub none_so_far : (source : List ℕ) (ts : List Token) (d : Token) (i : ℕ) → i < length ts → None ≡ outside_word source (get_or ts i d) → NoneOutside source (take i ts) → NoneOutside source (take (i + 1) ts)
none_so_far source ts d i lt h m = subst (λ z. NoneOutside source z) (sym (take_more ts i d lt)) (none_more source (get_or ts i d) m (sym h))

split_at : (ts : List Token) (d : Token) (i : ℕ) → i < length ts → ts ≡ take i ts ++ get_or ts i d ∷ drop (suc i) ts
split_at ts d i lt = sym (take-append-drop i ts) ∙ ap (λ z. take i ts ++ z) (drop-cons ts i d lt)

pub refused_at : (source : List ℕ) (ts : List Token) (d : Token) (i : ℕ) (word : List ℕ) → i < length ts → Some word ≡ outside_word source (get_or ts i d) → NoneOutside source (take i ts) →
    IsRefusal source ts word (get_or ts i d).site
refused_at source ts d i word lt h m = first_outside (take i ts) (get_or ts i d) (drop (suc i) ts) m (sym h) (split_at ts d i lt) refl

pub refused_as_form : (source : List ℕ) (ts : List Token) (d : Token) (i : ℕ) (word : List ℕ) → 0 < length ts → length ts ≤ i → word ≡ codes "form" → NoneOutside source (take i ts) →
    IsRefusal source ts word (get_or ts 0 d).site
refused_as_form source [] d i word pos le h m = absurd (omega arith)
refused_as_form source (t ∷ ts) d i word pos le h m = form (subst (λ z. NoneOutside source z) (take_all i (t ∷ ts) le) m) refl h refl

words_are : (w v : List ℕ) (s p : Site) → Outside w s ≡ Outside v p → (w ≡ v) × (s ≡ p)
words_are w v s p e = (cc, cc)

-- the word and the place of a fault
pub refusal_is : {T : Type 0} (source : List ℕ) (ts : List Token) (w v : List ℕ) (s p : Site) (r : Result T ParseFault) → r ≡ Err (Outside w s) → r ≡ Err (Outside v p) →
    IsRefusal source ts w s → IsRefusal source ts v p
refusal_is source ts w v s p r h g m =
    let same : Outside w s ≡ Outside v p = cc in
    let e = words_are w v s p same in
    subst (λ z. IsRefusal source ts z p) e.0 (subst (λ z. IsRefusal source ts w z) e.1 m)
