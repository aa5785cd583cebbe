-- The labels before a statement.
use Rattle.std.proofs.Common.{◌≡◌, ℕ, zero, suc, ◌<◌, ◌≤◌, true, false, List, [], ◌∷◌, ◌++◌, length, Option, Some, None, Ok, refl, ap, sym, subst, ◌∙◌, append_assoc, length-append, arith, inl, inr}
use Rattle.std.proofs.lemmas.Option.{same_Some}
use Rattle.px_expressions.specs.Reading.{or_else}
use Rattle.px_expressions.proofs.ExactTools.{either}
use Rattle.px_real_expressions.specs.declared.terminal.Terminal.{Terminal}
use Rattle.px_real_expressions.specs.declared.terminal.Terminal.TheVariants as T
use Rattle.px_real_expressions.specs.Lexemes.{Lexeme, same, front, front_if}
use Rattle.px_real_expressions.specs.Operators.{is_identifier}
use Rattle.px_real_expressions.specs.Held.{closing, closes_something, Balanced, no_token, a_plain}
use Rattle.px_real_expressions.specs.Stops.{◌>>=◌}
use Rattle.px_real_expressions.specs.Reading.{closed_at}
use Rattle.px_real_expressions.proofs.Tools.{done, both_are, bind_ok, front_is, front_here, front_bind, if_is, part_bind, Reads}
use Rattle.px_real_statements.specs.Phrases.{Phrase}
use Rattle.px_real_statements.specs.StatementTree.{LabelTree, named, case, default}
use Rattle.px_real_statements.specs.Grammar.{IsLabel, is_named, is_case, is_default, Labels, no_label, one_label}
use Rattle.px_real_statements.specs.PhraseReading.{ends, turn_outside, phrase_at}
use Rattle.px_real_statements.specs.Reading.{up_to, named_front, label_at, labels_at}
use Rattle.px_real_statements.proofs.PhraseExact.{IsPhrase, is_phrase, phrase_exact}
use Rattle.px_real_statements.proofs.Balance.{balanced_both, one_of, phrase_balanced}

-- ---- phrases up to a terminal

-- a phrase and what ends it
pub record UpTo (k : Terminal) (ts a rest : List Lexeme) : Type 0 where
  pub last : Lexeme
  pub is : Phrase a
  pub ends_it : last.terminal ≡ k
  pub parts : ts ≡ a ++ last ∷ rest

phrase_of : {ts a : List Lexeme} → IsPhrase ts a → Phrase a
phrase_of (is_phrase p e) = subst Phrase (sym e) p

same_phrase : {ts a : List Lexeme} → IsPhrase ts a → ts ≡ a
same_phrase (is_phrase p e) = sym e

-- what ends a phrase
abbrev pub Ends : Terminal → Type 0
Ends k = turn_outside 0 k ≡ ends

pub up_to_sound : (k : Terminal) → Ends k → (ts a rest : List Lexeme) → up_to k ts ≡ Ok (a, rest) → UpTo k ts a rest
unfolding closed_at
up_to_sound k e ts a rest h =
    let x = part_bind (phrase_exact k e) ts _ (a, rest) h in
    let c = front_bind k x.0.1 _ (a, rest) x.2 in
    let q = both_are x.0.0 a c.0.1 rest c.3 in
    record {
      last = c.0.0;
      is = subst Phrase q.0 (phrase_of x.1.is);
      ends_it = c.1;
      parts = x.1.parts ∙ ap (λ z. z ++ x.0.1) (same_phrase x.1.is ∙ q.0) ∙ ap (λ z. a ++ z) (c.2 ∙ ap (λ z. c.0.0 ∷ z) q.1);
    }

pub up_to_complete : (k : Terminal) → Ends k → (a : List Lexeme) (c : Lexeme) (rest : List Lexeme) → Phrase a → c.terminal ≡ k → up_to k (a ++ c ∷ rest) ≡ Ok (a, rest)
unfolding closed_at
up_to_complete k e a c rest p kc =
    let one : phrase_at (a ++ c ∷ rest) ≡ Ok (a, c ∷ rest) = (phrase_exact k e).complete a a (c ∷ rest) (is_phrase p refl) (c, rest, refl, kc) in
    rw (one, front_here k c rest kc) refl

-- a colon ends a phrase where no choice is open, and so do a semicolon and a parenthesis
pub at_colon : Ends T.Colon
at_colon = refl

pub at_semicolon : Ends T.Semicolon
at_semicolon = refl

pub at_parenthesis : Ends T.CloseParenthesis
at_parenthesis = refl

-- ---- labels

-- no label stands there
pub record NoLabel (ts : List Lexeme) : Type 0 where
  pub no_name : named_front ts ≡ None
  pub no_case : front T.Case ts ≡ None
  pub no_default : front T.Default ts ≡ None

named_is : (ts : List Lexeme) (x : LabelTree × List Lexeme) → named_front ts ≡ Some x →
    (t : Lexeme) × (c : Lexeme) × (is_identifier t.terminal ≡ true) × (c.terminal ≡ T.Colon) × (ts ≡ t ∷ c ∷ x.1) × (x.0 ≡ named t.text t.site)
unfolding named_front
named_is ts x h =
    elim (either (front_if is_identifier ts) _ None (Some x) h) [
      | inl w ↦
          elim (either (front T.Colon w.0.1) _ None (Some x) w.2) [
            | inl v ↦
                let p = if_is is_identifier ts w.0 w.1 in
                let q = front_is T.Colon w.0.1 v.0 v.1 in
                let r = same_Some _ x v.2 in
                (w.0.0, v.0.0, p.0, q.0, p.1 ∙ ap (λ z. w.0.0 ∷ z) (q.1 ∙ ap (λ z. v.0.0 ∷ z) (ap (λ (z : LabelTree × List Lexeme). z.1) r)), sym (ap (λ (z : LabelTree × List Lexeme). z.0) r))
            | inr v ↦ absurd (let z = v.1 in cc)
          ]
      | inr w ↦ absurd (let z = w.1 in cc)
    ]

named_here : (t c : Lexeme) (ts : List Lexeme) → is_identifier t.terminal ≡ true → c.terminal ≡ T.Colon → named_front (t ∷ c ∷ ts) ≡ Some (named t.text t.site, ts)
unfolding named_front
named_here t c ts h kc = rw (h, front_here T.Colon c ts kc) refl

-- what was read of one label
one_is : (l : LabelTree) (us : List Lexeme) (o : Option LabelTree) (rest : List Lexeme) → done (Some l) us ≡ done o rest → (o ≡ Some l) × (us ≡ rest)
one_is l us o rest h = let q = both_are (Some l) o us rest h in (sym q.0, q.1)

-- a label that was read, or that there is none
abbrev pub ReadLabel : List Lexeme → Option LabelTree → List Lexeme → Type 0
ReadLabel ts (Some l) rest = Reads IsLabel ts l rest
ReadLabel ts None rest = ts ≡ rest

some_read : (ts : List Lexeme) (l : LabelTree) (o : Option LabelTree) (rest : List Lexeme) → o ≡ Some l → Reads IsLabel ts l rest → ReadLabel ts o rest
some_read ts l o rest e r = subst (λ z. ReadLabel ts z rest) (sym e) r

pub label_sound : (ts : List Lexeme) (o : Option LabelTree) (rest : List Lexeme) → label_at ts ≡ Ok (o, rest) → ReadLabel ts o rest
unfolding label_at
label_sound ts o rest h =
    elim (either (named_front ts) _ _ (Ok (o, rest)) h) [
      | inl w ↦
          let q = one_is w.0.0 w.0.1 o rest w.2 in
          let p = named_is ts w.0 w.1 in
          some_read ts w.0.0 o rest q.0 (record { front = p.0 ∷ p.1 ∷ []; is = is_named p.2 p.3 refl p.5; parts = p.4 ∙ ap (λ z. p.0 ∷ p.1 ∷ z) q.1 })
      | inr v ↦
          elim (either (front T.Case ts) _ _ (Ok (o, rest)) v.1) [
            | inl w ↦
                let b = bind_ok (up_to T.Colon w.0.1) _ (o, rest) w.2 in
                let u = up_to_sound T.Colon at_colon w.0.1 b.0.0 b.0.1 b.1 in
                let q = one_is (case w.0.0.site b.0.0) b.0.1 o rest b.2 in
                let p = front_is T.Case ts w.0 w.1 in
                some_read ts (case w.0.0.site b.0.0) o rest q.0
                (record {
                  front = w.0.0 ∷ b.0.0 ++ u.last ∷ [];
                  is = is_case u.last p.0 u.is u.ends_it refl refl;
                  parts = p.1 ∙ ap (λ z. w.0.0 ∷ z) (u.parts ∙ ap (λ z. b.0.0 ++ u.last ∷ z) q.1 ∙ sym (append_assoc b.0.0 (u.last ∷ []) rest));
                })
            | inr x ↦
                elim (either (front T.Default ts) _ _ (Ok (o, rest)) x.1) [
                  | inl w ↦
                      let c = front_bind T.Colon w.0.1 _ (o, rest) w.2 in
                      let q = one_is (default w.0.0.site) c.0.1 o rest c.3 in
                      let p = front_is T.Default ts w.0 w.1 in
                      some_read ts (default w.0.0.site) o rest q.0
                      (record { front = w.0.0 ∷ c.0.0 ∷ []; is = is_default p.0 c.1 refl refl; parts = p.1 ∙ ap (λ z. w.0.0 ∷ z) (c.2 ∙ ap (λ z. c.0.0 ∷ z) q.1) })
                  | inr w ↦ let q = both_are None o ts rest w.1 in subst (λ z. ReadLabel ts z rest) q.0 q.1
                ]
          ]
    ]

pub labels_sound : (n : ℕ) (ts : List Lexeme) (ls : List LabelTree) (rest : List Lexeme) → labels_at n ts ≡ Ok (ls, rest) → Reads Labels ts ls rest
unfolding labels_at
labels_sound zero ts ls rest h = let q = both_are [] ls ts rest h in record { front = []; is = no_label refl (sym q.0); parts = q.1 }
labels_sound (suc n) ts ls rest h =
    let b = bind_ok (label_at ts) _ (ls, rest) h in
    by b.0.0 b.0.1 (λ us ls1 rest1 g. labels_sound n us ls1 rest1 g) (label_sound ts b.0.0 b.0.1 b.1) b.2
  where
    by : (o : Option LabelTree) (us : List Lexeme) → ((vs : List Lexeme) (ls1 : List LabelTree) (rest1 : List Lexeme) → labels_at n vs ≡ Ok (ls1, rest1) → Reads Labels vs ls1 rest1) → ReadLabel ts o us → or_else o (λ l. labels_at n us >>= λ y. done (l ∷ y.0) y.1) (done [] us) ≡ Ok (ls, rest) → Reads Labels ts ls rest
    by (Some l) us next r g =
        let c = bind_ok (labels_at n us) (λ y. done (l ∷ y.0) y.1) (ls, rest) g in
        let q = both_are (l ∷ c.0.0) ls c.0.1 rest c.2 in
        let more = next us c.0.0 c.0.1 c.1 in
        record {
          front = r.front ++ more.front;
          is = one_label r.is more.is refl (sym q.0);
          parts = r.parts ∙ ap (λ z. r.front ++ z) (more.parts ∙ ap (λ z. more.front ++ z) q.1) ∙ sym (append_assoc r.front more.front rest);
        }
    by None us next e g = let q = both_are [] ls us rest g in record { front = []; is = no_label refl (sym q.0); parts = e ∙ q.1 }

-- a word of a label is no name
pub not_named : (k : Terminal) (t : Lexeme) (ts : List Lexeme) → t.terminal ≡ k → is_identifier k ≡ false → named_front (t ∷ ts) ≡ None
unfolding named_front
not_named k t ts h n = rw (h, n) refl

pub front_other : (k j : Terminal) (t : Lexeme) (ts : List Lexeme) → t.terminal ≡ k → same k j ≡ false → front j (t ∷ ts) ≡ None
front_other k j t ts h n = rw (h, n) refl

label_complete : (ts : List Lexeme) (l : LabelTree) (rest : List Lexeme) → IsLabel ts l → label_at (ts ++ rest) ≡ Ok (Some l, rest)
unfolding label_at
label_complete ts l rest (is_named {t = t} {c = c} kt kc parts g) = rw (parts, g, named_here t c rest kt kc) refl
label_complete ts l rest (is_case {t = t} c {ts1 = ts1} kt p kc parts g) =
    let all : List Lexeme = ts1 ++ c ∷ rest in
    let value : up_to T.Colon all ≡ Ok (ts1, rest) = up_to_complete T.Colon at_colon ts1 c rest p kc in
    rw (parts, g, append_assoc ts1 (c ∷ []) rest, not_named T.Case t all kt refl, front_here T.Case t all kt, value) refl
label_complete ts l rest (is_default {t = t} {c = c} kt kc parts g) =
    let all : List Lexeme = c ∷ rest in
    rw (parts, g, not_named T.Default t all kt refl, front_other T.Default T.Case t all kt refl, front_here T.Default t all kt, front_here T.Colon c rest kc) refl

no_label_read : (ts : List Lexeme) → NoLabel ts → label_at ts ≡ Ok (None, ts)
unfolding label_at
no_label_read ts none = rw (none.no_name, none.no_case, none.no_default) refl

-- a label has a first token
label_some : {ts : List Lexeme} {l : LabelTree} → IsLabel ts l → 0 < length ts
label_some (is_named kt kc parts g) = rw parts (omega arith)
label_some (is_case c kt p kc parts g) = rw parts (omega arith)
label_some (is_default kt kc parts g) = rw parts (omega arith)

pub labels_complete : (n : ℕ) {ts : List Lexeme} {ls : List LabelTree} (rest : List Lexeme) → Labels ts ls → NoLabel rest → length ts ≤ n → labels_at n (ts ++ rest) ≡ Ok (ls, rest)
unfolding labels_at
labels_complete zero rest (no_label h g) none le = rw (h, g) refl
labels_complete (suc n) rest (no_label h g) none le = rw (h, g, no_label_read rest none) refl
labels_complete zero rest (one_label {ts1 = ts1} {ts2 = ts2} m ms parts g) none le =
    let some : 0 < length ts1 = label_some m in
    absurd (omega (arith, ap length parts, length-append ts1 ts2))
labels_complete (suc n) rest (one_label {ts1 = ts1} {ts2 = ts2} {l = l} {ls1 = ls1} m ms parts g) none le =
    let some : 0 < length ts1 = label_some m in
    let fits : length ts2 ≤ n = omega (arith, ap length parts, length-append ts1 ts2) in
    let one : label_at (ts1 ++ (ts2 ++ rest)) ≡ Ok (Some l, ts2 ++ rest) = label_complete ts1 l (ts2 ++ rest) m in
    let more : labels_at n (ts2 ++ rest) ≡ Ok (ls1, rest) = labels_complete n rest ms none fits in
    rw (parts, g, append_assoc ts1 ts2 rest, one, more) refl

-- a name is no bracket
identifier_plain : (k : Terminal) → is_identifier k ≡ true → (closing k ≡ None) × (closes_something k ≡ false)
identifier_plain T.Name h = (refl, refl)
identifier_plain T.TypeName h = (refl, refl)
identifier_plain _ h = absurd cc

label_balanced : {ts : List Lexeme} {l : LabelTree} → IsLabel ts l → Balanced ts
label_balanced (is_named {t = t} {c = c} kt kc parts g) = let p = identifier_plain t.terminal kt in a_plain p.0 p.1 (one_of c T.Colon kc refl refl) parts
label_balanced (is_case {t = t} c kt p kc parts g) = rw parts (balanced_both (one_of t T.Case kt refl refl) (balanced_both (phrase_balanced p) (one_of c T.Colon kc refl refl)))
label_balanced (is_default {t = t} {c = c} kt kc parts g) = rw parts (balanced_both (one_of t T.Default kt refl refl) (one_of c T.Colon kc refl refl))

pub labels_balanced : {ts : List Lexeme} {ls : List LabelTree} → Labels ts ls → Balanced ts
labels_balanced (no_label h g) = no_token h
labels_balanced (one_label m ms parts g) = rw parts (balanced_both (label_balanced m) (labels_balanced ms))
