-- Brackets of what stands side by side.
use Rattle.std.proofs.Common.{◌≡◌, Bool, true, false, if◌then◌else◌, List, [], ◌∷◌, ◌++◌, Option, Some, None, Ok, Err, refl, ap, sym, subst, ◌∙◌, append_assoc}
use Rattle.px_real_expressions.specs.declared.terminal.Terminal.{Terminal}
use Rattle.px_real_expressions.specs.declared.terminal.Terminal.TheVariants as T
use Rattle.px_real_expressions.specs.Lexemes.{Lexeme, same}
use Rattle.px_real_expressions.specs.Held.{closing, closes_something, Balanced, no_token, a_plain, a_group, with_one, close_at, held_by, held_at}
use Rattle.px_real_expressions.specs.Stops.{wrong}
use Rattle.px_real_expressions.specs.Reading.{held_up_to}
use Rattle.px_real_expressions.specs.Grammar.{Between, between, IsHeld, is_held}
use Rattle.px_real_expressions.proofs.Tools.{done, both_are}
use Rattle.px_real_expressions.proofs.HeldExact.{Held, with_all, passes, held_exact, one_is}
use Rattle.px_real_statements.specs.Phrases.{is_loose, Phrase}
use Rattle.px_real_statements.specs.Phrases as P

pub balanced_both : {a b : List Lexeme} → Balanced a → Balanced b → Balanced (a ++ b)
balanced_both (no_token h) n = rw h n
balanced_both {b = b} (a_plain {t = t} o s m parts) n = rw parts (a_plain o s (balanced_both m n) refl)
balanced_both {b = b} (a_group {o = o} c {ts1 = ts1} {ts2 = ts2} h m kc m2 parts) n = rw (parts, append_assoc ts1 (c ∷ ts2) b) (a_group c h m kc (balanced_both m2 n) refl)

loose_plain : (k : Terminal) → is_loose k ≡ true → (closing k ≡ None) × (closes_something k ≡ false)
loose_plain T.OpenParenthesis h = absurd cc
loose_plain T.CloseParenthesis h = absurd cc
loose_plain T.OpenBracket h = absurd cc
loose_plain T.CloseBracket h = absurd cc
loose_plain T.OpenBrace h = absurd cc
loose_plain T.CloseBrace h = absurd cc
loose_plain _ h = (refl, refl)

pub one_token : (t : Lexeme) → closing t.terminal ≡ None → closes_something t.terminal ≡ false → Balanced (t ∷ [])
one_token t o s = a_plain o s (no_token refl) refl

-- a terminal that is no bracket, by its name
pub one_of : (t : Lexeme) (k : Terminal) → t.terminal ≡ k → closing k ≡ None → closes_something k ≡ false → Balanced (t ∷ [])
one_of t k h o s = one_token t (ap closing h ∙ o) (ap closes_something h ∙ s)

pub phrase_balanced : {ts : List Lexeme} → Phrase ts → Balanced ts
phrase_balanced (P.no_token h) = no_token h
phrase_balanced (P.a_plain {t = t} s m parts) = let p = loose_plain t.terminal s in a_plain p.0 p.1 (phrase_balanced m) parts
phrase_balanced (P.a_group c h m kc m2 parts) = a_group c h m kc (phrase_balanced m2) parts
phrase_balanced (P.a_choice {q = q} c {ts1 = ts1} {ts2 = ts2} h m kc m2 parts) =
    rw parts
    (balanced_both (one_of q T.Question h refl refl) (balanced_both (phrase_balanced m) (balanced_both (one_of c T.Colon kc refl refl) (phrase_balanced m2))))

pub between_balanced : {A : Type 0} {G : List Lexeme → A → Type 0} {opening ending : Terminal} {ts : List Lexeme} {o : Lexeme} {a : A} →
    closing opening ≡ Some ending → ((us : List Lexeme) (x : A) → G us x → Balanced us) → Between opening ending G ts o a → Balanced ts
between_balanced h part (between {o = o} c ko kc g parts) = a_group c (ap closing ko ∙ h) (part _ _ g) kc (no_token refl) parts

pub held_balanced : {ts a : List Lexeme} → IsHeld ts a → Balanced ts
held_balanced (is_held m e) = m

pub held_same : {ts a : List Lexeme} → IsHeld ts a → ts ≡ a
held_same (is_held m e) = sym e

-- no bracket closes at the front
opens_nothing_closed : (k c : Terminal) → closing k ≡ Some c → closes_something k ≡ false
opens_nothing_closed T.OpenParenthesis c h = refl
opens_nothing_closed T.OpenBracket c h = refl
opens_nothing_closed T.OpenBrace c h = refl
opens_nothing_closed _ c h = absurd cc

pub balanced_first : {t : Lexeme} {us ts : List Lexeme} → Balanced ts → ts ≡ t ∷ us → closes_something t.terminal ≡ false
balanced_first (no_token h) e = absurd (let x = sym e ∙ h in cc)
balanced_first {t = t} (a_plain {t = u} o s m parts) e = let x : u ≡ t = (let y = sym parts ∙ e in cc) in ap (λ (z : Lexeme). closes_something z.terminal) (sym x) ∙ s
balanced_first {t = t} (a_group {o = u} c {k = k} h m kc m2 parts) e =
    let x : u ≡ t = (let y = sym parts ∙ e in cc) in ap (λ (z : Lexeme). closes_something z.terminal) (sym x) ∙ opens_nothing_closed u.terminal k h

all_is : (us : List Lexeme) (r : Held) (a rest : List Lexeme) → with_all us r ≡ Ok (a, rest) → (v : List Lexeme) × (r ≡ Ok (v, rest)) × (a ≡ us ++ v)
all_is us (Ok x) a rest e = let q = both_are (us ++ x.0) a x.1 rest e in (x.0, ap (λ z. done x.0 z) q.1, sym q.0)
all_is us (Err s) a rest e = absurd cc

-- tokens whose brackets match, at the front of such tokens up to the bracket that closes what stands around them
pub front_within : (c : Lexeme) (a b us rest : List Lexeme) → c.terminal ≡ T.CloseBrace → Balanced a → Balanced b → b ++ c ∷ rest ≡ a ++ us → (v : List Lexeme) × (b ≡ a ++ v) × (us ≡ v ++ c ∷ rest) × Balanced v
unfolding held_up_to
front_within c a b us rest kc m n e =
    let all : held_at T.CloseBrace [] (b ++ c ∷ rest) ≡ Ok (b, c ∷ rest) = (held_exact T.CloseBrace refl refl).complete b b (c ∷ rest) (is_held n refl) (c, rest, refl, kc) in
    let both : with_all a (held_at T.CloseBrace [] us) ≡ Ok (b, c ∷ rest) = sym (passes T.CloseBrace [] us m) ∙ ap (held_at T.CloseBrace []) (sym e) ∙ all in
    let w = all_is a (held_at T.CloseBrace [] us) b (c ∷ rest) both in
    let r = (held_exact T.CloseBrace refl refl).sound us w.0 (c ∷ rest) w.1 in
    (w.0, w.2, r.parts ∙ ap (λ z. z ++ c ∷ rest) (held_same r.is), subst Balanced (held_same r.is) (held_balanced r.is))

-- what is held begins with the first token, unless that closes it
pub held_first : (k : Terminal) (t : Lexeme) (ts a rest : List Lexeme) → same t.terminal k ≡ false → held_up_to k (t ∷ ts) ≡ Ok (a, rest) → (a1 : List Lexeme) × (a ≡ t ∷ a1)
unfolding held_up_to
held_first k t ts a rest n h = by (closing t.terminal) h
  where
    taken : (r : Held) → with_one t r ≡ Ok (a, rest) → (a1 : List Lexeme) × (a ≡ t ∷ a1)
    taken r g = let one = one_is t r a rest g in (one.0, one.2)

    plain : (b : Bool) → (if b then (if same t.terminal k then close_at [] t ts (λ k1 ks1. held_at k1 ks1 ts) else Err (wrong (t ∷ ts))) else with_one t (held_at k [] ts)) ≡ Ok (a, rest) → (a1 : List Lexeme) × (a ≡ t ∷ a1)
    plain true g = absurd (let e : Err (wrong (t ∷ ts)) ≡ done a rest = sym (rw n refl) ∙ g in cc)
    plain false g = taken (held_at k [] ts) g

    by : (o : Option Terminal) → held_by o k [] t ts (λ k1 ks1. held_at k1 ks1 ts) ≡ Ok (a, rest) → (a1 : List Lexeme) × (a ≡ t ∷ a1)
    by (Some c) g = taken (held_at c (k ∷ []) ts) g
    by None g = plain (closes_something t.terminal) g
