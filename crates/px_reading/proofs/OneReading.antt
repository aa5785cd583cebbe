-- What a source is read as is determined.
use Rattle.std.proofs.Common.{◌≡◌, ℕ, List, [], ◌∷◌, Option, Some, None, Result, Ok, Err, refl, sym, ap, ap₂, ◌∙◌, subst}
use Rattle.px_lexer.specs.declared.token.Token.{Token}
use Rattle.px_lexer.specs.declared.token.LexFault.{LexFault}
use Rattle.px_lexer.specs.Tokens.{Lexes}
use Rattle.px_lexer.proofs.Readings.{one_reading}
use Rattle.px_cutting.specs.declared.cutting.Span.{Span}
use Rattle.px_cutting.specs.Cutting.{Cuts}
use Rattle.px_cutting.proofs.CuttingExact.{one_cutting}
use Rattle.px_parser.proofs.ItemExact.{one_item}
use Rattle.px_parser.proofs.RefusalExact.{one_refusal}
use Rattle.px_parser.proofs.NameLemmas.{one_name}
use Rattle.px_syntax.specs.ParsedTree.{ParsedTree, parsed, out, FileTree}
use Rattle.px_reading.specs.declared.reading.SourceFault.{SourceFault}
use Rattle.px_reading.specs.declared.reading.SourceFault.TheVariants.{Byte, Comment, Constant, Unbalanced}
use Rattle.px_reading.specs.Sources.{IsNamed, IsParsed, AreParsed, IsFileOf, HasFault}
use Rattle.px_reading.specs.Laws.{OneReading}

one_naming : (source : List ℕ) (ts : List Token) (a b : Option (List ℕ)) → IsNamed source ts a → IsNamed source ts b → a ≡ b
one_naming source ts None None h k = refl
one_naming source ts None (Some b) h k = absurd (h b k)
one_naming source ts (Some a) None h k = absurd (k a h)
one_naming source ts (Some a) (Some b) h k = ap Some (one_name source ts a b h k)

same_parsed : (source : List ℕ) (ts : List Token) (a b : ParsedTree) → IsParsed source ts a → IsParsed source ts b → a ≡ b
same_parsed source ts (parsed a) (parsed b) h k = ap parsed (one_item _ a b h k)
same_parsed source ts (parsed a) (out n s w) h k = absurd (k.0 a h)
same_parsed source ts (out n s w) (parsed b) h k = absurd (h.0 b k)
same_parsed source ts (out n s w) (out m t v) h k =
    let words = one_refusal source ts w v s t h.1 k.1 in
    ap (λ z. out z s w) (one_naming source ts n m h.2 k.2) ∙ ap₂ (λ x y. out m y x) words.0 words.1

all_parsed : (source : List ℕ) (ts : List Token) (spans : List Span) (a b : List ParsedTree) → AreParsed source ts spans a → AreParsed source ts spans b → a ≡ b
all_parsed source ts [] [] [] h k = refl
all_parsed source ts [] [] (y ∷ b) h k = absurd k
all_parsed source ts [] (x ∷ a) b h k = absurd h
all_parsed source ts (s ∷ spans) [] b h k = absurd h
all_parsed source ts (s ∷ spans) (x ∷ a) [] h k = absurd k
all_parsed source ts (s ∷ spans) (x ∷ a) (y ∷ b) h k = ap₂ (λ u v. u ∷ v) (same_parsed source _ x y h.0 k.0) (all_parsed source ts spans a b h.1 k.1)

ok_same : {A B : Type 0} (x y : A) → Path (Result A B) (Ok x) (Ok y) → x ≡ y
ok_same x y e = cc

same_file : (number : ℕ) (name source : List ℕ) (f g : FileTree) → IsFileOf number name source f → IsFileOf number name source g → f ≡ g
same_file number name source f g h k =
    let tokens : h.tokens ≡ k.tokens = ok_same _ _ (one_reading number source (Ok h.tokens) (Ok k.tokens) h.lexed k.lexed) in
    let cut = subst (λ ts. Cuts 0 ts (Ok h.spans)) tokens h.cut in
    let spans : h.spans ≡ k.spans = ok_same _ _ (one_cutting 0 k.tokens (Ok h.spans) (Ok k.spans) cut k.cut) in
    let items = subst (λ ss. AreParsed source k.tokens ss f.items) spans (subst (λ ts. AreParsed source ts h.spans f.items) tokens h.items) in
    ap₂ (λ n is. record { name = n; items = is }) (h.named ∙ sym k.named) (all_parsed source k.tokens k.spans f.items g.items items k.items)

-- the fault that a source has is an error of the lexer, or of the cutting
err_same : {A B : Type 0} (x y : B) → Path (Result A B) (Err x) (Err y) → x ≡ y
err_same x y e = cc

no_tokens : (number : ℕ) (source : List ℕ) (ts : List Token) (e : LexFault) → Lexes number source (Ok ts) → ¬ Lexes number source (Err e)
no_tokens number source ts e h k = let z = one_reading number source (Ok ts) (Err e) h k in cc

same_error : (number : ℕ) (source : List ℕ) (a b : LexFault) → Lexes number source (Err a) → Lexes number source (Err b) → a ≡ b
same_error number source a b h k = err_same a b (one_reading number source (Err a) (Err b) h k)

same_fault : (number : ℕ) (source : List ℕ) (a b : SourceFault) → HasFault number source a → HasFault number source b → a ≡ b
same_fault number source (Byte s) (Byte t) h k = ap Byte (let z = same_error number source _ _ h k in cc)
same_fault number source (Byte s) (Comment t) h k = absurd (let z = same_error number source _ _ h k in cc)
same_fault number source (Byte s) (Constant t) h k = absurd (let z = same_error number source _ _ h k in cc)
same_fault number source (Byte s) (Unbalanced t) h k = absurd (no_tokens number source k.0 _ k.1 h)
same_fault number source (Comment s) (Byte t) h k = absurd (let z = same_error number source _ _ h k in cc)
same_fault number source (Comment s) (Comment t) h k = ap Comment (let z = same_error number source _ _ h k in cc)
same_fault number source (Comment s) (Constant t) h k = absurd (let z = same_error number source _ _ h k in cc)
same_fault number source (Comment s) (Unbalanced t) h k = absurd (no_tokens number source k.0 _ k.1 h)
same_fault number source (Constant s) (Byte t) h k = absurd (let z = same_error number source _ _ h k in cc)
same_fault number source (Constant s) (Comment t) h k = absurd (let z = same_error number source _ _ h k in cc)
same_fault number source (Constant s) (Constant t) h k = ap Constant (let z = same_error number source _ _ h k in cc)
same_fault number source (Constant s) (Unbalanced t) h k = absurd (no_tokens number source k.0 _ k.1 h)
same_fault number source (Unbalanced s) (Byte t) h k = absurd (no_tokens number source h.0 _ h.1 k)
same_fault number source (Unbalanced s) (Comment t) h k = absurd (no_tokens number source h.0 _ h.1 k)
same_fault number source (Unbalanced s) (Constant t) h k = absurd (no_tokens number source h.0 _ h.1 k)
same_fault number source (Unbalanced s) (Unbalanced t) h k =
    let tokens : h.0 ≡ k.0 = ok_same _ _ (one_reading number source (Ok h.0) (Ok k.0) h.1 k.1) in
    ap Unbalanced (err_same s t (one_cutting 0 k.0 (Err s) (Err t) (subst (λ ts. Cuts 0 ts (Err s)) tokens h.2) k.2))

no_fault : (number : ℕ) (name source : List ℕ) (f : FileTree) (a : SourceFault) → IsFileOf number name source f → ¬ HasFault number source a
no_fault number name source f (Byte s) h k = no_tokens number source h.tokens _ h.lexed k
no_fault number name source f (Comment s) h k = no_tokens number source h.tokens _ h.lexed k
no_fault number name source f (Constant s) h k = no_tokens number source h.tokens _ h.lexed k
no_fault number name source f (Unbalanced s) h k =
    let tokens : h.tokens ≡ k.0 = ok_same _ _ (one_reading number source (Ok h.tokens) (Ok k.0) h.lexed k.1) in
    let z = one_cutting 0 k.0 (Ok h.spans) (Err s) (subst (λ ts. Cuts 0 ts (Ok h.spans)) tokens h.cut) k.2 in cc

pub determined : OneReading
determined = record { one_file = same_file; one_fault = same_fault; not_both = no_fault }
