-- The spans of a cutting are within the tokens, and none is empty.
use Rattle.std.proofs.Common.{◌≡◌, ℕ, zero, suc, ◌+◌, ◌-◌, ◌<◌, ◌≤◌, List, [], ◌∷◌, ◌++◌, length, get_or, Option, Some, None, IfSome, IfNone, Result, Ok, Err, refl, sym, ap, ◌∙◌, subst, arith}
use Rattle.px_base.specs.declared.trace.Site.{Site}
use Rattle.px_lexer.specs.declared.token.Token.{Token}
use Rattle.px_cutting.specs.declared.cutting.Span.{Span}
use Rattle.px_cutting.specs.Cutting.{Cuts, nothing_left, a_directive, an_item, stopped, left_over, with_spans, span}
use Rattle.px_cutting.specs.Shape.{tokens_in}
use Rattle.px_cutting.proofs.CuttingExact.{shorter}
use Rattle.px_parser.specs.Names.{IsFunctionName}
use Rattle.px_syntax.specs.ParsedTree.{ParsedTree}
use Rattle.px_reading.specs.Sources.{AreWithin, IsNamed, IsParsed, AreParsed}

more_within : (n m : ℕ) → n ≤ m → (spans : List Span) → AreWithin n spans → AreWithin m spans
more_within n m h [] w = tt
more_within n m h (s ∷ spans) w = (w.0, omega (arith, h, w.1), more_within n m h spans w.2)

-- one span in front of others
one_before : (n : ℕ) (s : Span) (remaining : Result (List Span) Site) (spans : List Span) → Ok spans ≡ with_spans (s ∷ []) remaining →
    s.first < s.after → s.after ≤ n → ((rest : List Span) → remaining ≡ Ok rest → AreWithin n rest) → AreWithin n spans
one_before n s (Ok rest) spans e some fits within =
    let same : spans ≡ s ∷ rest = cc in subst (AreWithin n) (sym same) (some, fits, within rest refl)
one_before n s (Err place) spans e some fits within = absurd (let z = e in cc)

pub within : (at : ℕ) (ts : List Token) (r : Result (List Span) Site) (spans : List Span) → Cuts at ts r → r ≡ Ok spans → AreWithin (at + length ts) spans
within at ts r spans (nothing_left parts g) e = let none : spans ≡ [] = cc in subst (AreWithin (at + length ts)) (sym none) tt
within at ts r spans (a_directive {ts1 = ts1} {remaining = remaining} k cut parts g) e =
    let size : length ts ≡ suc (length ts1) = ap length parts in
    one_before (at + length ts) (span at (at + 1)) remaining spans (sym e ∙ g) (omega arith) (omega (arith, size))
    (λ rest is. more_within (at + 1 + length ts1) (at + length ts) (omega (arith, size)) rest (within (at + 1) ts1 remaining rest cut is))
within at ts r spans (an_item t ts1 {ts2 = ts2} {remaining = remaining} parts k goes cut g) e =
    let less : length ts2 < length ts = shorter ts2 goes refl in
    one_before (at + length ts) (span at (at + (length ts - length ts2))) remaining spans (sym e ∙ g) (omega (arith, less)) (omega (arith, less))
    (λ rest is. more_within (at + (length ts - length ts2) + length ts2) (at + length ts) (omega (arith, less)) rest (within (at + (length ts - length ts2)) ts2 remaining rest cut is))
within at ts r spans (stopped t ts1 parts k goes g) e = absurd (let z = sym g ∙ e in cc)
within at ts r spans (left_over t ts1 parts k goes g) e = absurd (let z = sym g ∙ e in cc)

pub within_all : (ts : List Token) (spans : List Span) → Cuts 0 ts (Ok spans) → AreWithin (length ts) spans
within_all ts spans cut = subst (λ n. AreWithin n spans) (let e : 0 + length ts ≡ length ts = omega arith in e) (within 0 ts (Ok spans) spans cut refl)

-- a span of a cutting
pub within_at : (n : ℕ) (spans : List Span) (i : ℕ) (d : Span) → AreWithin n spans → i < length spans → (get_or spans i d).first < (get_or spans i d).after × (get_or spans i d).after ≤ n
within_at n [] i d w h = absurd (omega (arith, h))
within_at n (s ∷ spans) zero d w h = (w.0, w.1)
within_at n (s ∷ spans) (suc i) d w h = within_at n spans i d w.2 (omega (arith, h))

-- one item more
pub parsed_push : (source : List ℕ) (ts : List Token) (spans : List Span) (items : List ParsedTree) (s : Span) (x : ParsedTree) →
    AreParsed source ts spans items → IsParsed source (tokens_in ts s) x → AreParsed source ts (spans ++ s ∷ []) (items ++ x ∷ [])
parsed_push source ts [] [] s x h k = (k, tt)
parsed_push source ts [] (y ∷ items) s x h k = absurd h
parsed_push source ts (r ∷ spans) [] s x h k = absurd h
parsed_push source ts (r ∷ spans) (y ∷ items) s x h k = (h.0, parsed_push source ts spans items s x h.1 k)

pub named : (source : List ℕ) (ts : List Token) (r : Option (List ℕ)) → IfSome r (λ name. IsFunctionName source ts name) → IfNone r ((name : List ℕ) → IsFunctionName source ts name → ⊥) → IsNamed source ts r
named source ts None h k = k
named source ts (Some name) h k = h
