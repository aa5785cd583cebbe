-- What is held stands between brackets that match.
use Rattle.std.proofs.Common.{◌≡◌, true, false, List, [], ◌∷◌, ◌++◌, Option, Some, None, Ok, Err, refl, ap, sym, subst, ◌∙◌, append_assoc, inl, inr}
use Rattle.std.proofs.lemmas.List.{append-nil}
use Rattle.px_expressions.proofs.ExactTools.{chosen}
use Rattle.px_real_expressions.specs.declared.terminal.Terminal.{Terminal}
use Rattle.px_real_expressions.specs.declared.terminal.Terminal.TheVariants as T
use Rattle.px_real_expressions.specs.Lexemes.{Lexeme, same, front_if}
use Rattle.px_real_expressions.specs.Held.{closing, closes_something, Balanced, no_token, a_plain, a_group, with_one, close_at, held_by, held_at}
use Rattle.px_real_expressions.specs.Operators.{begins_type}
use Rattle.px_real_expressions.specs.Stops.{Read, ◌>>=◌}
use Rattle.px_real_expressions.specs.Reading.{held_up_to, type_at}
use Rattle.px_real_expressions.specs.Grammar.{IsHeld, is_held, IsTypeName, is_type_name}
use Rattle.px_real_expressions.proofs.Tools.{done, both_are, same_is, same_self, if_bind, Reads, Exact}

abbrev pub Held : Type 0
Held = Read (List Lexeme)

-- these at the front of what is held
abbrev pub with_all : List Lexeme → Held → Held
with_all us read = read >>= λ x. Ok (us ++ x.0, x.1)

pub with_none : (r : Held) → with_all [] r ≡ r
with_none (Ok x) = refl
with_none (Err s) = refl

pub with_more : (t : Lexeme) (us : List Lexeme) (r : Held) → with_one t (with_all us r) ≡ with_all (t ∷ us) r
with_more t us (Ok x) = refl
with_more t us (Err s) = refl

pub with_both : (us vs : List Lexeme) (r : Held) → with_all us (with_all vs r) ≡ with_all (us ++ vs) r
with_both us vs (Ok x) = ap (λ z. done z x.1) (sym (append_assoc us vs x.0))
with_both us vs (Err s) = refl

-- one that closes nothing opens what a bracket closes
pub closes_is : (k c : Terminal) → closing k ≡ Some c → (closing c ≡ None) × (closes_something c ≡ true)
closes_is T.OpenParenthesis c h = let e : T.CloseParenthesis ≡ c = cc in rw (← e) (refl, refl)
closes_is T.OpenBracket c h = let e : T.CloseBracket ≡ c = cc in rw (← e) (refl, refl)
closes_is T.OpenBrace c h = let e : T.CloseBrace ≡ c = cc in rw (← e) (refl, refl)
closes_is _ c h = absurd cc

-- a lexeme that closes the bracket that was opened last
close_step : (k : Terminal) (ks : List Terminal) (c : Lexeme) (ts : List Lexeme) → c.terminal ≡ k → closing k ≡ None → closes_something k ≡ true →
    held_at k ks (c ∷ ts) ≡ close_at ks c ts (λ k1 ks1. held_at k1 ks1 ts)
close_step k ks c ts h n s = rw (h, n, s, same_self k) refl

-- tokens whose brackets match are passed over
pub passes : {us : List Lexeme} (k : Terminal) (ks : List Terminal) (ts : List Lexeme) → Balanced us → held_at k ks (us ++ ts) ≡ with_all us (held_at k ks ts)
passes k ks ts (no_token h) = rw h (sym (with_none (held_at k ks ts)))
passes k ks ts (a_plain {t = t} {ts1 = ts1} n s m parts) =
    rw (parts, n, s) (ap (with_one t) (passes k ks ts m) ∙ with_more t ts1 (held_at k ks ts))
passes k ks ts (a_group {o = o} c {k = c1} {ts1 = ts1} {ts2 = ts2} h m kc n parts) =
    let ends = closes_is o.terminal c1 h in
    let one : held_at c1 (k ∷ ks) (ts1 ++ (c ∷ ts2 ++ ts)) ≡ with_all ts1 (held_at c1 (k ∷ ks) (c ∷ ts2 ++ ts)) = passes c1 (k ∷ ks) (c ∷ ts2 ++ ts) m in
    let two : held_at c1 (k ∷ ks) (c ∷ ts2 ++ ts) ≡ with_one c (held_at k ks (ts2 ++ ts)) = close_step c1 (k ∷ ks) c (ts2 ++ ts) kc ends.0 ends.1 in
    let three : held_at k ks (ts2 ++ ts) ≡ with_all ts2 (held_at k ks ts) = passes k ks ts n in
    rw (parts, append_assoc ts1 (c ∷ ts2) ts, h)
    (ap (with_one o) (one ∙ ap (with_all ts1) (two ∙ ap (with_one c) three ∙ with_more c ts2 (held_at k ks ts)) ∙ with_both ts1 (c ∷ ts2) (held_at k ks ts))
    ∙ with_more o (ts1 ++ c ∷ ts2) (held_at k ks ts))

-- what stands before the bracket that closes the first of those that are open
data Within : Terminal → List Terminal → List Lexeme → Type 0 where
  last_one : {k : Terminal} {ks : List Terminal} {ts : List Lexeme} → ks ≡ [] → Balanced ts → Within k ks ts
  one_more : {k k1 : Terminal} {ks ks1 : List Terminal} {ts1 ts2 ts : List Lexeme} (c : Lexeme) → ks ≡ k1 ∷ ks1 → Balanced ts1 → c.terminal ≡ k → Within k1 ks1 ts2 → ts ≡ ts1 ++ c ∷ ts2 → Within k ks ts

plain_within : {k : Terminal} {ks : List Terminal} {ts : List Lexeme} (t : Lexeme) → closing t.terminal ≡ None → closes_something t.terminal ≡ false → Within k ks ts → Within k ks (t ∷ ts)
plain_within t n s (last_one e m) = last_one e (a_plain n s m refl)
plain_within t n s (one_more {ts1 = ts1} c e m kc w parts) = one_more {ts1 = t ∷ ts1} c e (a_plain n s m refl) kc w (ap (λ z. t ∷ z) parts)

group_within : {k : Terminal} {ks : List Terminal} {us vs : List Lexeme} (o c : Lexeme) (c1 : Terminal) → closing o.terminal ≡ Some c1 → Balanced us → c.terminal ≡ c1 → Within k ks vs → Within k ks (o ∷ us ++ c ∷ vs)
group_within o c c1 h m kc (last_one e n) = last_one e (a_group c h m kc n refl)
group_within {us = us} o c c1 h m kc (one_more {ts1 = ts1} {ts2 = ts2} d e n kd w parts) =
    one_more {ts1 = o ∷ us ++ c ∷ ts1} d e (a_group c h m kc n refl) kd w
    (ap (λ z. o ∷ us ++ c ∷ z) parts ∙ ap (λ z. o ∷ z) (sym (append_assoc us (c ∷ ts1) (d ∷ ts2))))

opened_within : {k : Terminal} {ks js : List Terminal} {ts : List Lexeme} (o : Lexeme) (c1 : Terminal) → closing o.terminal ≡ Some c1 → Within c1 js ts → js ≡ k ∷ ks → Within k ks (o ∷ ts)
opened_within o c1 h (last_one e m) g = absurd (let z = sym e ∙ g in cc)
opened_within {k = k} {ks = ks} o c1 h (one_more {k1 = k1} {ks1 = ks1} {ts1 = ts1} {ts2 = ts2} c e m kc w parts) g =
    let heads : k1 ≡ k = cc in
    let tails : ks1 ≡ ks = cc in
    let w1 : Within k ks ts2 = subst (λ z. Within z ks ts2) heads (subst (λ z. Within k1 z ts2) tails w) in
    subst (λ z. Within k ks (o ∷ z)) (sym parts) (group_within o c c1 h m kc w1)

-- what was held, and the bracket that follows it
record IsWithin (k : Terminal) (ks : List Terminal) (ts a rest : List Lexeme) : Type 0 where
  pub within : Within k ks a
  pub parts : ts ≡ a ++ rest

pub one_is : (t : Lexeme) (r : Held) (a rest : List Lexeme) → with_one t r ≡ Ok (a, rest) → (a1 : List Lexeme) × (r ≡ Ok (a1, rest)) × (a ≡ t ∷ a1)
one_is t (Ok x) a rest e = let q = both_are (t ∷ x.0) a x.1 rest e in (x.0, ap (λ z. done x.0 z) q.1, sym q.0)
one_is t (Err s) a rest e = absurd cc

held_by_is : (o : Option Terminal) (k : Terminal) (ks : List Terminal) (t : Lexeme) (ts a rest : List Lexeme) → closing t.terminal ≡ o →
    ((k1 : Terminal) (ks1 : List Terminal) (a1 : List Lexeme) → held_at k1 ks1 ts ≡ Ok (a1, rest) → IsWithin k1 ks1 ts a1 rest) →
    held_by o k ks t ts (λ k1 ks1. held_at k1 ks1 ts) ≡ Ok (a, rest) → IsWithin k ks (t ∷ ts) a rest
held_by_is (Some c) k ks t ts a rest e next h =
    let one = one_is t (held_at c (k ∷ ks) ts) a rest h in
    let w = next c (k ∷ ks) one.0 one.1 in
    record { within = subst (Within k ks) (sym one.2) (opened_within t c e w.within refl); parts = ap (λ z. t ∷ z) w.parts ∙ ap (λ z. z ++ rest) (sym one.2) }
held_by_is None k ks t ts a rest e next h =
    elim (chosen (closes_something t.terminal) _ (with_one t (held_at k ks ts)) (done a rest) h) [
      | inl w ↦
          elim (chosen (same t.terminal k) (close_at ks t ts (λ k1 ks1. held_at k1 ks1 ts)) _ (done a rest) w.1) [
            | inl v ↦ closes ks (same_is t.terminal k v.0) v.1
            | inr v ↦ absurd (let z = v.1 in cc)
          ]
      | inr w ↦
          let one = one_is t (held_at k ks ts) a rest w.1 in
          let u = next k ks one.0 one.1 in
          record { within = subst (Within k ks) (sym one.2) (plain_within t e w.0 u.within); parts = ap (λ z. t ∷ z) u.parts ∙ ap (λ z. z ++ rest) (sym one.2) }
    ]
  where
    closes : (js : List Terminal) → t.terminal ≡ k → close_at js t ts (λ k1 ks1. held_at k1 ks1 ts) ≡ Ok (a, rest) → IsWithin k js (t ∷ ts) a rest
    closes [] kt g =
        let q = both_are [] a (t ∷ ts) rest g in
        record { within = subst (Within k []) q.0 (last_one refl (no_token refl)); parts = q.1 ∙ ap (λ z. z ++ rest) q.0 }
    closes (k1 ∷ js) kt g =
        let one = one_is t (held_at k1 js ts) a rest g in
        let u = next k1 js one.0 one.1 in
        record { within = subst (Within k (k1 ∷ js)) (sym one.2) (one_more {ts1 = []} t refl (no_token refl) kt u.within refl); parts = ap (λ z. t ∷ z) u.parts ∙ ap (λ z. z ++ rest) (sym one.2) }

held_is : (k : Terminal) (ks : List Terminal) (ts a rest : List Lexeme) → held_at k ks ts ≡ Ok (a, rest) → IsWithin k ks ts a rest
held_is k ks [] a rest h = absurd cc
held_is k ks (t ∷ ts) a rest h = held_by_is (closing t.terminal) k ks t ts a rest refl (λ k1 ks1 a1 g. held_is k1 ks1 ts a1 rest g) h

balanced_is : {k : Terminal} {ks : List Terminal} {a : List Lexeme} → Within k ks a → ks ≡ [] → Balanced a
balanced_is (last_one e m) g = m
balanced_is (one_more c e m kc w parts) g = absurd (let z = sym e ∙ g in cc)

-- a bracket of this terminal follows
abbrev pub ClosedBy : Terminal → List Lexeme → Type 0
ClosedBy k rest = (c : Lexeme) × (us : List Lexeme) × (rest ≡ c ∷ us) × (c.terminal ≡ k)

held_complete : (k : Terminal) (a rest : List Lexeme) → closing k ≡ None → closes_something k ≡ true → Balanced a → ClosedBy k rest → held_at k [] (a ++ rest) ≡ Ok (a, rest)
held_complete k a rest n s m (c, us, e, kc) =
    let last : held_at k [] (c ∷ us) ≡ done [] (c ∷ us) = close_step k [] c us kc n s in
    let all : held_at k [] (a ++ (c ∷ us)) ≡ with_all a (done [] (c ∷ us)) = passes k [] (c ∷ us) m ∙ ap (with_all a) last in
    rw e (all ∙ ap (λ z. done z (c ∷ us)) (append-nil a))

pub held_exact : (k : Terminal) → closing k ≡ None → closes_something k ≡ true → Exact IsHeld (held_up_to k) (ClosedBy k)
unfolding held_up_to
held_exact k n s = record {
  sound = λ ts a rest h. let w = held_is k [] ts a rest h in record { front = a; is = is_held (balanced_is w.within refl) refl; parts = w.parts };
  complete = λ ts a rest g f. held_there k n s ts a rest g f;
}
  where
    held_there : (k : Terminal) → closing k ≡ None → closes_something k ≡ true → (ts a rest : List Lexeme) → IsHeld ts a → ClosedBy k rest → held_at k [] (ts ++ rest) ≡ Ok (a, rest)
    held_there k n s ts a rest (is_held m e) f = rw e (held_complete k ts rest n s m f)

type_there : (ts a rest : List Lexeme) → IsTypeName ts a → ClosedBy T.CloseParenthesis rest → type_at (ts ++ rest) ≡ Ok (a, rest)
unfolding type_at
type_there ts a rest (is_type_name {t = t} {ts1 = ts1} k m parts e) f =
    let all : held_at T.CloseParenthesis [] (ts ++ rest) ≡ Ok (ts, rest) = held_complete T.CloseParenthesis ts rest refl refl m f in
    let begun : front_if begins_type (ts ++ rest) ≡ Some (t, ts1 ++ rest) = rw (parts, k) refl in
    rw (begun, e) all

-- a word that begins a type's name is no bracket
type_plain : (k : Terminal) → begins_type k ≡ true → (closing k ≡ None) × (closes_something k ≡ false)
type_plain T.Type h = (refl, refl)
type_plain T.TypeName h = (refl, refl)
type_plain _ h = absurd cc

-- a lexeme that is no bracket
plain_step : (k : Terminal) (ks : List Terminal) (t : Lexeme) (ts : List Lexeme) → closing t.terminal ≡ None → closes_something t.terminal ≡ false → held_at k ks (t ∷ ts) ≡ with_one t (held_at k ks ts)
plain_step k ks t ts n s = rw (n, s) refl

type_first : (t : Lexeme) (us a rest : List Lexeme) → begins_type t.terminal ≡ true → held_at T.CloseParenthesis [] (t ∷ us) ≡ Ok (a, rest) → (a1 : List Lexeme) × (a ≡ t ∷ a1)
type_first t us a rest k h =
    let one = one_is t (held_at T.CloseParenthesis [] us) a rest (sym (let p = type_plain t.terminal k in plain_step T.CloseParenthesis [] t us p.0 p.1) ∙ h) in
    (one.0, one.2)

type_sound : (ts a rest : List Lexeme) → type_at ts ≡ Ok (a, rest) → Reads IsTypeName ts a rest
unfolding type_at
type_sound ts a rest h =
    let b = if_bind begins_type ts _ (a, rest) h in
    let w = held_is T.CloseParenthesis [] ts a rest b.3 in
    let begun = type_first b.0.0 b.0.1 a rest b.1 (sym (ap (held_at T.CloseParenthesis []) b.2) ∙ b.3) in
    record { front = a; is = is_type_name b.1 (balanced_is w.within refl) begun.1 refl; parts = w.parts }

pub type_exact : Exact IsTypeName type_at (ClosedBy T.CloseParenthesis)
type_exact = record { sound = type_sound; complete = type_there }
