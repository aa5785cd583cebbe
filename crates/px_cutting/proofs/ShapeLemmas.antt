-- The shape of an item, by its length and its last token.
use Rattle.std.proofs.Common.{◌≡◌, ◌≢◌, ℕ, suc, ◌+◌, ◌-◌, ◌<◌, ◌≤◌, ◌==◌, Bool, true, false, List, [], ◌∷◌, ◌++◌, length, take, drop, get_or, drop-cons, Result, Ok, Err, refl, ap, sym, subst, ◌∙◌, length-append, arith, nat_eq}
use Rattle.std.specs.Bool.{Decides}
use Rattle.std.proofs.lemmas.Bool.Decides.{Decides-eqb}
use Rattle.std.proofs.lemmas.List.{take-append-drop}
use Rattle.std.proofs.Math.ListN.{drop_of_length-le}
use Rattle.px_base.specs.declared.trace.Site.{Site}
use Rattle.px_lexer.specs.declared.token.Token.{Token}
use Rattle.px_lexer.specs.declared.token.TokenKind.{TokenKind}
use Rattle.px_lexer.specs.declared.token.TokenKind.TheVariants.{Word}
use Rattle.px_cutting.specs.declared.cutting.Span.{Span}
use Rattle.px_cutting.specs.declared.roles.Pair.TheVariants.{Braces}
use Rattle.px_cutting.specs.declared.roles.Role.{Role}
use Rattle.px_cutting.specs.declared.roles.Role.TheVariants.{Closes}
use Rattle.px_cutting.specs.Roles.{role_of, closes_brace}
use Rattle.px_cutting.specs.Cutting.{role, span, Cuts, nothing_left, IsFirstItem}
use Rattle.px_cutting.specs.Shape.{IsFunctionShaped, function_shaped}
use Rattle.px_cutting.proofs.CuttingExact.{one_cutting, some_cutting}

brace_is : (r : Role) → closes_brace r ≡ true → r ≡ Closes Braces
brace_is (Closes Braces) h = refl
brace_is _ h = absurd cc

-- the last token, and those before it
last_is : (ts : List Token) (d : Token) → 0 < length ts → ts ≡ take (length ts - 1) ts ++ get_or ts (length ts - 1) d ∷ []
last_is ts d pos =
    let le : length ts ≤ suc (length ts - 1) = omega arith in
    let none : drop (suc (length ts - 1)) ts ≡ [] = drop_of_length-le ts le in
    let here : drop (length ts - 1) ts ≡ get_or ts (length ts - 1) d ∷ drop (suc (length ts - 1)) ts = drop-cons ts (length ts - 1) d (omega arith) in
    sym (take-append-drop (length ts - 1) ts) ∙ ap (λ z. take (length ts - 1) ts ++ z) (here ∙ ap (λ z. get_or ts (length ts - 1) d ∷ z) none)

pub same_last : (xs ys : List Token) (a b : Token) → xs ++ a ∷ [] ≡ ys ++ b ∷ [] → a ≡ b
same_last [] [] a b h = cc
same_last [] (y ∷ ys) a b h = absurd (omega (arith, ap length h, length-append ys (b ∷ [])))
same_last (x ∷ xs) [] a b h = absurd (omega (arith, ap length h, length-append xs (a ∷ [])))
same_last (x ∷ xs) (y ∷ ys) a b h = same_last xs ys a b cc

abbrev spans : List Span → Result (List Span) Site
spans all = Ok all

one_span : (a b : ℕ) (remaining : List Span) → spans (span 0 a ∷ remaining) ≡ spans (span 0 b ∷ []) → a ≡ b
one_span a b remaining h = let e : span 0 a ≡ span 0 b = cc in ap (λ z. z.after) e

-- the role of the token with this number
pub role_is : (ts : List Token) (i : ℕ) (t : Token) (k : TokenKind) (r : Role) → r ≡ role_of k → k ≡ t.kind → ((d : Token) → t ≡ get_or ts i d) → r ≡ role (get_or ts i t)
role_is ts i t k r e f h = e ∙ ap role_of (f ∙ ap (λ (z : Token). z.kind) (h t))

pub some_left : (ts : List Token) (b : Bool) → b ≡ (length ts == 0) → b ≡ false → 0 < length ts
some_left ts b is h = let none : (length ts == 0) ≡ false = sym is ∙ h in grind arith

-- any token, for the places where none stands
abbrev pub no_token : Token
no_token = record { kind = Word; site = record { file = 0; line = 0; column = 0 }; start = 0; end = 0 }

-- the last token closes no brace
pub other_end : (ts : List Token) (d : Token) (r : Role) (b : Bool) → 0 < length ts → r ≡ role (get_or ts (length ts - 1) d) → b ≡ closes_brace r → b ≡ false → IsFunctionShaped ts → ⊥
other_end ts d r b pos is test h (function_shaped before c whole k parts) =
    let last : get_or ts (length ts - 1) d ≡ c = same_last (take (length ts - 1) ts) before (get_or ts (length ts - 1) d) c (sym (last_is ts d pos) ∙ parts) in
    let closes : closes_brace r ≡ true = ap closes_brace (is ∙ ap role last ∙ k) in
    absurd (let e : true ≡ false = sym closes ∙ sym test ∙ h in cc)

-- the tokens aren't cut into items
pub not_cut : (ts : List Token) (place : Site) → Cuts 0 ts (Err place) → IsFunctionShaped ts → ⊥
not_cut ts place cut (function_shaped before c whole k parts) = let e = one_cutting 0 ts (Err place) (Ok (span 0 (length ts) ∷ [])) cut whole in absurd cc

-- the first item is all tokens
pub shaped : (ts : List Token) (d : Token) (r : Role) (b : Bool) (n : ℕ) → 0 < length ts → r ≡ role (get_or ts (length ts - 1) d) → b ≡ closes_brace r → b ≡ true →
    IsFirstItem ts n → n ≡ length ts → IsFunctionShaped ts
shaped ts d r b n pos is test h f e =
    let le : length ts ≤ n = omega arith in
    let none : drop n ts ≡ [] = drop_of_length-le ts le in
    let whole : Cuts 0 ts (Ok (span 0 (0 + n) ∷ [])) = f.2 0 (Ok []) (nothing_left none refl) in
    let count : 0 + n ≡ length ts = omega arith in
    function_shaped (take (length ts - 1) ts) (get_or ts (length ts - 1) d) (subst (λ z. Cuts 0 ts (Ok (span 0 z ∷ []))) count whole)
    (sym is ∙ brace_is r (sym test ∙ h)) (last_is ts d pos)

-- tokens are left after the first item
pub not_whole : (ts : List Token) (n : ℕ) → IsFirstItem ts n → n ≢ length ts → IsFunctionShaped ts → ⊥
not_whole ts n f ne (function_shaped before c whole k parts) = go (some_cutting (0 + n) (drop n ts))
  where
    go : (r : Result (List Span) Site) × Cuts (0 + n) (drop n ts) r → ⊥
    go (Ok remaining, cut) =
        let e : spans (span 0 (0 + n) ∷ remaining) ≡ spans (span 0 (length ts) ∷ []) = one_cutting 0 ts _ _ (f.2 0 (Ok remaining) cut) whole in
        ne (omega (arith, one_span (0 + n) (length ts) remaining e))
    go (Err place, cut) = let e : Err place ≡ Ok (span 0 (length ts) ∷ []) = one_cutting 0 ts _ _ (f.2 0 (Err place) cut) whole in absurd cc

-- the first item is all tokens or it isn't
pub whole_or_not : (ts : List Token) (d : Token) (r : Role) (b : Bool) (n : ℕ) → 0 < length ts → r ≡ role (get_or ts (length ts - 1) d) → b ≡ closes_brace r → b ≡ true →
    IsFirstItem ts n → Decides (nat_eq n (length ts)) (IsFunctionShaped ts)
whole_or_not ts d r b n pos is test h f = by (nat_eq n (length ts)) (Decides-eqb n (length ts))
  where
    by : (x : Bool) → Decides x (n ≡ length ts) → Decides x (IsFunctionShaped ts)
    by true e = (λ z. shaped ts d r b n pos is test h f (e.0 refl), λ z. refl)
    by false e = (λ z. absurd cc, λ z. absurd (not_whole ts n f (λ same. absurd (let y = e.1 same in cc)) z))
