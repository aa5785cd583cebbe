-- Each item of a file is an item by itself.
use Rattle.std.proofs.Common.{◌≡◌, ◌≢◌, ℕ, ◌+◌, ◌-◌, ◌≤◌, Bool, false, List, [], ◌∷◌, ◌++◌, length, take, drop, Result, Ok, Err, All, refl, ap, sym, subst, ◌∙◌, append_assoc, length-append, arith}
use Rattle.std.proofs.lemmas.List.{drop-drop}
use Rattle.std.proofs.lemmas.List.Elements.{All-weaker, All-nil, All-cons}
use Rattle.px_base.specs.declared.trace.Site.{Site}
use Rattle.px_lexer.specs.declared.token.Token.{Token}
use Rattle.px_cutting.specs.declared.cutting.Span.{Span}
use Rattle.px_cutting.specs.declared.roles.Role.TheVariants.{Directive}
use Rattle.px_cutting.specs.Cutting.{role, Outcome, ends, GoesOn, at_file_end, at_semicolon, at_body, after_group, after_other, at_close, at_broken, with_spans, span, Cuts, nothing_left, a_directive, an_item, stopped, left_over}
use Rattle.px_cutting.specs.Shape.{IsOneItem, tokens_in}
use Rattle.px_cutting.proofs.CuttingExact.{shorter}

-- the tokens at the front that are the item
record Alone (after : Bool) (ts ts2 : List Token) : Type 0 where
  pub front : List Token
  pub goes : GoesOn after front (ends [])
  pub parts : ts ≡ front ++ ts2

same_rest : (us vs : List Token) → ends us ≡ ends vs → us ≡ vs
same_rest us vs e = cc

alone : {after : Bool} {ts : List Token} {r : Outcome} (ts2 : List Token) → GoesOn after ts r → r ≡ ends ts2 → Alone after ts ts2
alone ts2 (at_file_end parts g) e = absurd (let z = sym g ∙ e in cc)
alone ts2 (at_semicolon {t = t} {ts1 = ts1} k parts g) e =
    record { front = t ∷ []; goes = at_semicolon k refl refl; parts = parts ∙ ap (λ z. t ∷ z) (same_rest ts1 ts2 (sym g ∙ e)) }
alone ts2 (at_body {o = o} c {ts1 = ts1} {ts2 = us} k body m kc parts g) e = record {
  front = o ∷ ts1 ++ c ∷ [];
  goes = at_body c k body m kc refl refl;
  parts = parts ∙ ap (λ z. o ∷ ts1 ++ c ∷ z) (same_rest us ts2 (sym g ∙ e)) ∙ ap (λ z. o ∷ z) (sym (append_assoc ts1 (c ∷ []) ts2));
}
alone ts2 (after_group {o = o} c {ts1 = ts1} k body m kc n parts) e =
    let a = alone ts2 n e in
    record {
      front = o ∷ ts1 ++ c ∷ a.front;
      goes = after_group c k body m kc a.goes refl;
      parts = parts ∙ ap (λ z. o ∷ ts1 ++ c ∷ z) a.parts ∙ ap (λ z. o ∷ z) (sym (append_assoc ts1 (c ∷ a.front) ts2));
    }
alone ts2 (after_other {t = t} k n parts) e =
    let a = alone ts2 n e in
    record { front = t ∷ a.front; goes = after_other k a.goes refl; parts = parts ∙ ap (λ z. t ∷ z) a.parts }
alone ts2 (at_close k parts g) e = absurd (let z = sym g ∙ e in cc)
alone ts2 (at_broken k h parts g) e = absurd (let z = sym g ∙ e in cc)

same_first : (t u : Token) (ts us : List Token) → t ∷ ts ≡ u ∷ us → t ≡ u
same_first t u ts us e = cc

-- an item that goes on to its end is one
one_item : (front : List Token) (t : Token) (ts1 ts2 : List Token) → role t ≢ Directive → t ∷ ts1 ≡ front ++ ts2 → GoesOn false front (ends []) → IsOneItem front
one_item [] t ts1 ts2 d e g = absurd (let z = shorter [] g refl in omega arith)
one_item (u ∷ us) t ts1 ts2 d e g =
    let same : t ≡ u = same_first t u ts1 (us ++ ts2) e in
    let count : length (u ∷ us) ≡ 0 + (length (u ∷ us) - length {A = Token} []) = omega arith in
    an_item u us {ts2 = []} {remaining = Ok []} refl (λ k. d (ap role same ∙ k)) g (nothing_left refl refl) (ap (λ z. Ok (span 0 z ∷ [])) count)

one_directive : (t : Token) → role t ≡ Directive → IsOneItem (t ∷ [])
one_directive t k = a_directive {remaining = Ok []} k (nothing_left refl refl) refl refl

-- an item of tokens that begin at the place `at`, by itself
record Stands (at : ℕ) (ts : List Token) (s : Span) : Type 0 where
  pub from : at ≤ s.first
  pub item : IsOneItem (take (s.after - s.first) (drop (s.first - at) ts))

-- the first
first_stands : (at n : ℕ) (front ts ts2 : List Token) → n ≡ length front → ts ≡ front ++ ts2 → IsOneItem front → Stands at ts (span at (at + n))
first_stands at n front ts ts2 count parts one =
    let a : at + n - at ≡ length front = omega arith in
    let b : at - at ≡ 0 = omega arith in
    let c : take (at + n - at) (drop (at - at) ts) ≡ front = ap (λ z. take z (drop (at - at) ts)) a ∙ ap (λ z. take (length front) (drop z ts)) b ∙ ap (take (length front)) parts ∙ take_front front ts2 in
    record { from = omega arith; item = subst IsOneItem (sym c) one }
  where
    take_front : (us vs : List Token) → take (length us) (us ++ vs) ≡ us
    take_front [] vs = refl
    take_front (u ∷ us) vs = ap (λ z. u ∷ z) (take_front us vs)

drop_front : (us vs : List Token) → drop (length us) (us ++ vs) ≡ vs
drop_front [] vs = refl
drop_front (u ∷ us) vs = drop_front us vs

-- those after the first
stands_after : (at n : ℕ) (front ts ts2 : List Token) → n ≡ length front → ts ≡ front ++ ts2 → (s : Span) → Stands (at + n) ts2 s → Stands at ts s
stands_after at n front ts ts2 count parts s h =
    let behind : drop n ts ≡ ts2 = ap (λ z. drop z ts) count ∙ ap (drop (length front)) parts ∙ drop_front front ts2 in
    let from : at + n ≤ s.first = h.from in
    let k : n + (s.first - (at + n)) ≡ s.first - at = omega arith in
    let same : drop (s.first - (at + n)) ts2 ≡ drop (s.first - at) ts = ap (drop (s.first - (at + n))) (sym behind) ∙ drop-drop (s.first - (at + n)) n ts ∙ ap (λ z. drop z ts) k in
    record { from = omega arith; item = subst (λ z. IsOneItem (take (s.after - s.first) z)) same h.item }

-- the spans of a cutting with an item first
spans_are : (x : Span) (remaining : Result (List Span) Site) (ss : List Span) → with_spans (x ∷ []) remaining ≡ Ok ss → (us : List Span) × (remaining ≡ Ok us) × (ss ≡ x ∷ us)
spans_are x (Ok us) ss e = (us, refl, cc)
spans_are x (Err place) ss e = absurd cc

items_stand : {at : ℕ} {ts : List Token} {r : Result (List Span) Site} (ss : List Span) → Cuts at ts r → r ≡ Ok ss → All (Stands at ts) ss
items_stand {at = at} {ts = ts} ss (nothing_left h g) e = let z : ss ≡ [] = cc in subst (All (Stands at ts)) (sym z) (All-nil (Stands at ts))
items_stand {at = at} {ts = ts} ss (a_directive {t = t} {ts1 = ts1} {remaining = remaining} k c parts g) e =
    let x = spans_are (span at (at + 1)) remaining ss (sym g ∙ e) in
    let rest = All-weaker (Stands (at + 1) ts1) (Stands at ts) (stands_after at 1 (t ∷ []) ts ts1 refl parts) x.0 (items_stand x.0 c x.1) in
    subst (All (Stands at ts)) (sym x.2) (All-cons (Stands at ts) (span at (at + 1)) x.0 (first_stands at 1 (t ∷ []) ts ts1 refl parts (one_directive t k)) rest)
items_stand {at = at} {ts = ts} ss (an_item t ts1 {ts2 = ts2} {remaining = remaining} parts d goes c g) e =
    let n : ℕ = length ts - length ts2 in
    let a = alone ts2 goes refl in
    let count : n ≡ length a.front = omega (arith, ap length a.parts, length-append a.front ts2) in
    let x = spans_are (span at (at + n)) remaining ss (sym g ∙ e) in
    let rest = All-weaker (Stands (at + n) ts2) (Stands at ts) (stands_after at n a.front ts ts2 count a.parts) x.0 (items_stand x.0 c x.1) in
    subst (All (Stands at ts)) (sym x.2) (All-cons (Stands at ts) (span at (at + n)) x.0 (first_stands at n a.front ts ts2 count a.parts (one_item a.front t ts1 ts2 d (sym parts ∙ a.parts) a.goes)) rest)
items_stand ss (stopped t ts1 parts d h g) e = absurd (let z = sym g ∙ e in cc)
items_stand ss (left_over t ts1 parts d h g) e = absurd (let z = sym g ∙ e in cc)

pub items_stand_alone : (ts : List Token) (ss : List Span) → Cuts 0 ts (Ok ss) → All (λ s. IsOneItem (tokens_in ts s)) ss
items_stand_alone ts ss c = All-weaker (Stands 0 ts) (λ s. IsOneItem (tokens_in ts s)) by ss (items_stand ss c refl)
  where
    by : (s : Span) → Stands 0 ts s → IsOneItem (tokens_in ts s)
    by s h = let k : s.first - 0 ≡ s.first = omega arith in subst (λ z. IsOneItem (take (s.after - s.first) (drop z ts))) k h.item
