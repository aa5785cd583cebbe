-- The readers of enumerators and of parameters read what the grammar says.
use Rattle.std.proofs.Common.{◌≡◌, ℕ, Bool, true, false, not, ◌&&◌, ◌||◌, if◌then◌else◌, List, [], ◌∷◌, ◌++◌, length, Ok, Err, refl, ap, sym, subst, ◌∙◌, append_assoc, arith, inl, inr}
use Rattle.std.proofs.lemmas.List.{append-nil}
use Rattle.px_expressions.proofs.ExactTools.{either}
use Rattle.px_real_expressions.specs.declared.terminal.Terminal.TheVariants as T
use Rattle.px_real_expressions.specs.Lexemes.{Lexeme, front_if}
use Rattle.px_real_expressions.specs.Operators.{is_identifier}
use Rattle.px_real_expressions.specs.Stops.{wrong, ◌>>=◌}
use Rattle.px_real_expressions.proofs.Tools.{done, both_are, bind_ok, if_is, Reads}
use Rattle.px_real_declarations.specs.declared.trailing.Trailing.TheVariants as E
use Rattle.px_real_declarations.specs.declared.role.Role.TheVariants as R
use Rattle.px_real_declarations.specs.Roles.{role, same_role, begins_keyword}
use Rattle.px_real_declarations.specs.DeclarationTree.{DeclarationTree, EnumeratorTree, ParametersTree, parameters, identifiers}
use Rattle.px_real_declarations.specs.Grammar.{Types, begins_specifier, IsParameter, is_parameter, IsEnumerator, is_enumerator, Enumerators, are_enumerators, and_a_comma, Listed, none_listed, some_listed, Variadic, not_variadic, is_variadic, IsOther, is_other, Parameters, no_parameters, are_parameters, are_names}
use Rattle.px_real_declarations.specs.Reading.{attributes_at, value_at, parameter_at}
use Rattle.px_real_declarations.specs.HeldReading.{separated_from, enumerator_at, enumerators_at, is_other_name, other_at, parameters_at}
use Rattle.px_real_declarations.proofs.PartExact.{Ended}
use Rattle.px_real_declarations.proofs.GroupExact.{plain_role, attributes_sound, attributes_complete}
use Rattle.px_real_declarations.proofs.SpecifierExact.{identifier_plain}
use Rattle.px_real_declarations.proofs.DeclaratorExact.{role_same}
use Rattle.px_real_declarations.proofs.DeclarationExact.{equal_mark, value_sound, value_complete, value_role, specifiers_first}
use Rattle.px_real_declarations.proofs.ParameterExact.{parameter_exact}
use Rattle.px_real_declarations.proofs.SeparatedExact.{Tail, no_tail, dots_tail, comma_tail, Separated, the_last, one_before, ExactOf, separated_sound, separated_complete, separated_first, InParts, in_parts, joined, pair}

-- ---- first tokens

identifier_no_dots : (t : Lexeme) → is_identifier t.terminal ≡ true → same_role R.Ellipsis (role t) ≡ false
identifier_no_dots t h = ap (same_role R.Ellipsis) (plain_role t (identifier_plain t.terminal h))

specifier_no_dots : (types : Types) (t : Lexeme) → begins_specifier types false t ≡ true → same_role R.Ellipsis (role t) ≡ false
specifier_no_dots types t h = by (same_role R.Ellipsis (role t)) refl
  where
    name : (b : Bool) → is_identifier t.terminal ≡ b → (begins_keyword R.Ellipsis || (not false && (b && types t.text))) ≡ true → is_identifier t.terminal ≡ true
    name true e g = e
    name false e g = absurd cc

    by : (b : Bool) → same_role R.Ellipsis (role t) ≡ b → b ≡ false
    by true e =
        let r : role t ≡ R.Ellipsis = sym (role_same R.Ellipsis (role t) e) in
        let id = name (is_identifier t.terminal) refl (sym (ap (λ z. begins_keyword z || (not false && (is_identifier t.terminal && types t.text))) r) ∙ h) in
        sym e ∙ identifier_no_dots t id
    by false e = refl

-- whether a parameter or a name stands there
specifier_other : (types : Types) (t : Lexeme) → begins_specifier types false t ≡ true → is_other_name types t ≡ false
specifier_other types t h = by (is_identifier t.terminal) refl
  where
    known : (b : Bool) → (begins_keyword R.Other || (not false && (true && b))) ≡ true → (true && not b) ≡ false
    known true g = refl
    known false g = absurd cc

    by : (b : Bool) → is_identifier t.terminal ≡ b → (b && not (types t.text)) ≡ false
    by true e = known (types t.text) (sym (ap (λ z. begins_keyword z || (not false && (is_identifier t.terminal && types t.text))) (plain_role t (identifier_plain t.terminal e)) ∙ ap (λ z. begins_keyword R.Other || (not false && (z && types t.text))) e) ∙ h)
    by false e = refl

-- ---- enumerators

enumerator_sound : (ts : List Lexeme) (x : EnumeratorTree) (rest : List Lexeme) → enumerator_at ts ≡ Ok (x, rest) → Reads IsEnumerator ts x rest
unfolding enumerator_at
enumerator_sound ts x rest h =
    elim (either (front_if is_identifier ts) _ (Err (wrong ts)) (Ok (x, rest)) h) [
      | inl w ↦
          let k = if_is is_identifier ts w.0 w.1 in
          let gs = bind_ok (attributes_at w.0.1) _ (x, rest) w.2 in
          let v = bind_ok (value_at T.Equal gs.0.1) _ (x, rest) gs.2 in
          let tree : EnumeratorTree = record { name = w.0.0.text; site = w.0.0.site; attributes = gs.0.0; value = v.0.0 } in
          let q = both_are tree x v.0.1 rest v.2 in
          let a = attributes_sound w.0.1 gs.0.0 gs.0.1 gs.1 in
          let b = value_sound T.Equal gs.0.1 v.0.0 v.0.1 v.1 in
          record {
            front = w.0.0 ∷ (a.front ++ b.front);
            is = is_enumerator k.0 a.is b.is refl (sym q.0);
            parts = k.1 ∙ ap (λ z. w.0.0 ∷ z) (a.parts ∙ ap (λ z. a.front ++ z) (b.parts ∙ ap (λ z. b.front ++ z) q.1) ∙ sym (append_assoc a.front b.front rest));
          }
      | inr w ↦ absurd cc
    ]

enumerator_complete : (front : List Lexeme) (x : EnumeratorTree) (rest : List Lexeme) → IsEnumerator front x → Ended rest → enumerator_at (front ++ rest) ≡ Ok (x, rest)
unfolding enumerator_at
enumerator_complete us x rest (is_enumerator {t = t} {ts1 = ts1} {ts2 = ts2} {gs = gs} {v = v} k a b parts e) f =
    let one : attributes_at (ts1 ++ (ts2 ++ rest)) ≡ Ok (gs, ts2 ++ rest) = attributes_complete (ts2 ++ rest) a (value_role (same_role R.Attribute) T.Equal rest refl equal_mark b f) in
    let two : value_at T.Equal (ts2 ++ rest) ≡ Ok (v, rest) = value_complete T.Equal rest equal_mark b f in
    rw (parts, e, append_assoc ts1 ts2 rest, k, one, two) refl

enumerator_first : {ts : List Lexeme} {x : EnumeratorTree} → IsEnumerator ts x → (t : Lexeme) × (us : List Lexeme) × (same_role R.Ellipsis (role t) ≡ false) × (ts ≡ t ∷ us)
enumerator_first (is_enumerator {t = t} {ts1 = ts1} {ts2 = ts2} k a b parts e) = (t, ts1 ++ ts2, identifier_no_dots t k, parts)

enumerator_exact : ExactOf IsEnumerator enumerator_at
enumerator_exact = record { sound = enumerator_sound; complete = enumerator_complete; first = enumerator_first }

-- what stands behind the last enumerator
enumerators_of : {ts : List Lexeme} {es : List EnumeratorTree} {b : Bool} → Separated E.Comma IsEnumerator ts es b → Enumerators ts es
enumerators_of {ts = ts} {es = es} {b = b} s = let w = in_parts s in by w w.tail
  where
    by : (w : InParts E.Comma IsEnumerator ts es b) → Tail E.Comma w.behind b → Enumerators ts es
    by w (no_tail h g) = let e : ts ≡ w.listed = w.parts ∙ ap (λ z. w.listed ++ z) h ∙ append-nil w.listed in rw (e, w.same) (are_enumerators w.is)
    by w (dots_tail is k d h g) = absurd cc
    by w (comma_tail {c = c} is k h g) = and_a_comma c w.is k (w.parts ∙ ap (λ z. w.listed ++ z) h) w.same

pub enumerators_sound : (ts : List Lexeme) (es : List EnumeratorTree) → enumerators_at ts ≡ Ok (es, []) → Enumerators ts es
enumerators_sound [] es h = let q = both_are [] es [] [] h in are_enumerators (none_listed refl (sym q.0))
enumerators_sound (t ∷ ts) es h =
    let x = bind_ok (separated_from E.Comma (length (t ∷ ts)) enumerator_at (t ∷ ts)) _ (es, []) h in
    let q = both_are x.0.0.0 es x.0.1 [] x.2 in
    let here : separated_from E.Comma (length (t ∷ ts)) enumerator_at (t ∷ ts) ≡ Ok ((es, x.0.0.1), []) = x.1 ∙ ap (λ z. done (pair z x.0.0.1) x.0.1) q.0 ∙ ap (λ z. done (pair es x.0.0.1) z) q.1 in
    enumerators_of (separated_sound E.Comma enumerator_exact (length (t ∷ ts)) (t ∷ ts) es x.0.0.1 here)

enumerators_read : {ts : List Lexeme} {es : List EnumeratorTree} {b : Bool} → Separated E.Comma IsEnumerator ts es b → enumerators_at ts ≡ Ok (es, [])
enumerators_read {ts = ts} {es = es} {b = b} s =
    let f = separated_first E.Comma enumerator_exact s in
    let one : separated_from E.Comma (length (f.0 ∷ f.1)) enumerator_at (f.0 ∷ f.1) ≡ Ok ((es, b), []) =
    ap (λ z. separated_from E.Comma (length z) enumerator_at z) (sym f.3) ∙ separated_complete E.Comma enumerator_exact (length ts) s (omega arith) in
    rw (f.3, one) refl

pub enumerators_complete : {ts : List Lexeme} {es : List EnumeratorTree} → Enumerators ts es → enumerators_at ts ≡ Ok (es, [])
enumerators_complete (are_enumerators (none_listed h e)) = rw (h, e) refl
enumerators_complete {ts = ts} (are_enumerators (some_listed m ms parts e)) = rw e (enumerators_read (joined {e = E.Comma} (some_listed m ms parts refl) (no_tail refl refl) (sym (append-nil ts))))
enumerators_complete (and_a_comma c l k parts e) = rw e (enumerators_read (joined l (comma_tail refl k refl refl) parts))

-- ---- parameters

parameter_begins : (types : Types) (n : ℕ) {ts : List Lexeme} {d : DeclarationTree} → IsParameter types n ts d → (t : Lexeme) × (us : List Lexeme) × (begins_specifier types false t ≡ true) × (ts ≡ t ∷ us)
parameter_begins types n (is_parameter ts2 {ts3 = ts3} m f i a star parts e) =
    let b = specifiers_first m refl in
    (b.head, b.tail ++ (ts2 ++ ts3), b.begins, parts ∙ ap (λ z. z ++ (ts2 ++ ts3)) b.parts)

parameter_of : (types : Types) (n : ℕ) → ExactOf (IsParameter types n) (parameter_at types n)
parameter_of types n = record {
  sound = (parameter_exact types n).sound;
  complete = (parameter_exact types n).complete;
  first = λ m. (let b = parameter_begins types n m in (b.0, b.1, specifier_no_dots types b.0 b.2, b.3));
}

other_sound : (types : Types) (ts : List Lexeme) (x : List ℕ) (rest : List Lexeme) → other_at types ts ≡ Ok (x, rest) → Reads (IsOther types) ts x rest
unfolding other_at
other_sound types [] x rest h = absurd cc
other_sound types (t ∷ ts) x rest h = by (is_identifier t.terminal) (types t.text) refl refl h
  where
    by : (a b : Bool) → is_identifier t.terminal ≡ a → types t.text ≡ b → (if a && not b then done t.text ts else Err (wrong (t ∷ ts))) ≡ Ok (x, rest) → Reads (IsOther types) (t ∷ ts) x rest
    by true false e f g = let q = both_are t.text x ts rest g in record { front = t ∷ []; is = is_other e f refl (sym q.0); parts = ap (λ z. t ∷ z) q.1 }
    by true true e f g = absurd cc
    by false b e f g = absurd cc

other_complete : (types : Types) (front : List Lexeme) (x : List ℕ) (rest : List Lexeme) → IsOther types front x → Ended rest → other_at types (front ++ rest) ≡ Ok (x, rest)
unfolding other_at
other_complete types us x rest (is_other k h parts e) f = rw (parts, e, k, h) refl

other_first : {types : Types} {ts : List Lexeme} {x : List ℕ} → IsOther types ts x → (t : Lexeme) × (us : List Lexeme) × (same_role R.Ellipsis (role t) ≡ false) × (ts ≡ t ∷ us)
other_first (is_other {t = t} k h parts e) = (t, [], identifier_no_dots t k, parts)

other_of : (types : Types) → ExactOf (IsOther types) (other_at types)
other_of types = record { sound = other_sound types; complete = other_complete types; first = other_first }

-- nothing stands behind the last name
names_of : {types : Types} {ts : List Lexeme} {ws : List (List ℕ)} {b : Bool} → Separated E.Nothing (IsOther types) ts ws b → (w : InParts E.Nothing (IsOther types) ts ws b) × (ts ≡ w.listed)
names_of {types = types} {ts = ts} {ws = ws} {b = b} s = let w = in_parts s in (w, by w w.tail)
  where
    by : (w : InParts E.Nothing (IsOther types) ts ws b) → Tail E.Nothing w.behind b → ts ≡ w.listed
    by w (no_tail h g) = w.parts ∙ ap (λ z. w.listed ++ z) h ∙ append-nil w.listed
    by w (dots_tail is k d h g) = absurd cc
    by w (comma_tail is k h g) = absurd cc

-- what stands behind the last parameter
variadic_of : {ts : List Lexeme} {b : Bool} → Tail E.Dots ts b → Variadic ts b
variadic_of (no_tail h g) = not_variadic h g
variadic_of (dots_tail {t = t} is k d h g) = is_variadic k (sym (role_same R.Ellipsis (role t) d)) h g
variadic_of (comma_tail is k h g) = absurd cc

tail_of : {ts : List Lexeme} {b : Bool} → Variadic ts b → Tail E.Dots ts b
tail_of (not_variadic h g) = no_tail h g
tail_of (is_variadic k d h g) = dots_tail refl k (ap (same_role R.Ellipsis) d) h g

module _ (types : Types) (n : ℕ) where
  pub parameters_sound : (ts : List Lexeme) (p : ParametersTree) → parameters_at types n ts ≡ Ok (p, []) → Parameters types n ts p
  parameters_sound [] p h = let q = both_are (identifiers []) p [] [] h in no_parameters refl (sym q.0)
  parameters_sound (t ∷ ts) p h = by (is_other_name types t) h
    where
      by : (b : Bool) → (if b
          then (separated_from E.Nothing (length (t ∷ ts)) (other_at types) (t ∷ ts) >>= λ x. done (identifiers x.0.0) x.1)
          else (separated_from E.Dots (length (t ∷ ts)) (parameter_at types n) (t ∷ ts) >>= λ x. done (parameters x.0.0 x.0.1) x.1)) ≡ Ok (p, []) → Parameters types n (t ∷ ts) p
      by true g =
          let x = bind_ok (separated_from E.Nothing (length (t ∷ ts)) (other_at types) (t ∷ ts)) _ (p, []) g in
          let q = both_are (identifiers x.0.0.0) p x.0.1 [] x.2 in
          let here : separated_from E.Nothing (length (t ∷ ts)) (other_at types) (t ∷ ts) ≡ Ok ((x.0.0.0, x.0.0.1), []) = x.1 ∙ ap (λ z. done (pair x.0.0.0 x.0.0.1) z) q.1 in
          let w = names_of (separated_sound E.Nothing (other_of types) (length (t ∷ ts)) (t ∷ ts) x.0.0.0 x.0.0.1 here) in
          are_names (subst (λ z. Listed (IsOther types) z (w.0.x ∷ w.0.rest)) (sym w.1) w.0.is) (sym q.0 ∙ ap identifiers w.0.same)
      by false g =
          let x = bind_ok (separated_from E.Dots (length (t ∷ ts)) (parameter_at types n) (t ∷ ts)) _ (p, []) g in
          let q = both_are (parameters x.0.0.0 x.0.0.1) p x.0.1 [] x.2 in
          let here : separated_from E.Dots (length (t ∷ ts)) (parameter_at types n) (t ∷ ts) ≡ Ok ((x.0.0.0, x.0.0.1), []) = x.1 ∙ ap (λ z. done (pair x.0.0.0 x.0.0.1) z) q.1 in
          let w = in_parts (separated_sound E.Dots (parameter_of types n) (length (t ∷ ts)) (t ∷ ts) x.0.0.0 x.0.0.1 here) in
          are_parameters w.is (variadic_of w.tail) w.parts (sym q.0 ∙ ap (λ z. parameters z x.0.0.1) w.same)

  names_there : {ts : List Lexeme} {w : List ℕ} {ws : List (List ℕ)} → Listed (IsOther types) ts (w ∷ ws) → parameters_at types n ts ≡ Ok (identifiers (w ∷ ws), [])
  names_there {ts = ts} {w = w} {ws = ws} l =
      let s : Separated E.Nothing (IsOther types) ts (w ∷ ws) false = joined l (no_tail refl refl) (sym (append-nil ts)) in
      by s (separated_complete E.Nothing (other_of types) (length ts) s (omega arith))
    where
      first_other : {us : List Lexeme} {x : List ℕ} → IsOther types us x → (t : Lexeme) × (vs : List Lexeme) × (is_other_name types t ≡ true) × (us ≡ t ∷ vs)
      first_other (is_other {t = t} k h parts e) = (t, [], rw (k, h) refl, parts)

      first_of : {us : List Lexeme} {xs : List (List ℕ)} {b : Bool} → Separated E.Nothing (IsOther types) us xs b → (t : Lexeme) × (vs : List Lexeme) × (is_other_name types t ≡ true) × (us ≡ t ∷ vs)
      first_of (the_last {ts2 = ts2} m t parts g) = let f = first_other m in (f.0, f.1 ++ ts2, f.2, parts ∙ ap (λ z. z ++ ts2) f.3)
      first_of (one_before c {ts2 = ts2} m k s parts g) = let f = first_other m in (f.0, f.1 ++ c ∷ ts2, f.2, parts ∙ ap (λ z. z ++ c ∷ ts2) f.3)

      by : Separated E.Nothing (IsOther types) ts (w ∷ ws) false → separated_from E.Nothing (length ts) (other_at types) ts ≡ Ok ((w ∷ ws, false), []) → parameters_at types n ts ≡ Ok (identifiers (w ∷ ws), [])
      by s one =
          let f = first_of s in
          let here : separated_from E.Nothing (length (f.0 ∷ f.1)) (other_at types) (f.0 ∷ f.1) ≡ Ok ((w ∷ ws, false), []) = ap (λ z. separated_from E.Nothing (length z) (other_at types) z) (sym f.3) ∙ one in
          rw (f.3, f.2, here) refl

  pub parameters_complete : {ts : List Lexeme} {p : ParametersTree} → Parameters types n ts p → parameters_at types n ts ≡ Ok (p, [])
  parameters_complete (no_parameters h e) = rw (h, e) refl
  parameters_complete (are_names l e) = rw e (names_there l)
  parameters_complete {ts = ts} (are_parameters {ts1 = ts1} {ts2 = ts2} {d = d} {ds = ds} {b = b} l v parts e) =
      let s : Separated E.Dots (IsParameter types n) ts (d ∷ ds) b = joined l (tail_of v) parts in
      rw e (by s (separated_complete E.Dots (parameter_of types n) (length ts) s (omega arith)))
    where
      begins : {us : List Lexeme} {x : DeclarationTree} → IsParameter types n us x → (t : Lexeme) × (vs : List Lexeme) × (is_other_name types t ≡ false) × (us ≡ t ∷ vs)
      begins m = let f = parameter_begins types n m in (f.0, f.1, specifier_other types f.0 f.2, f.3)

      first_of : {us : List Lexeme} {xs : List DeclarationTree} {c : Bool} → Separated E.Dots (IsParameter types n) us xs c → (t : Lexeme) × (vs : List Lexeme) × (is_other_name types t ≡ false) × (us ≡ t ∷ vs)
      first_of (the_last {ts2 = us2} m t p1 g) = let f = begins m in (f.0, f.1 ++ us2, f.2, p1 ∙ ap (λ z. z ++ us2) f.3)
      first_of (one_before c {ts2 = us2} m k s p1 g) = let f = begins m in (f.0, f.1 ++ c ∷ us2, f.2, p1 ∙ ap (λ z. z ++ c ∷ us2) f.3)

      by : Separated E.Dots (IsParameter types n) ts (d ∷ ds) b → separated_from E.Dots (length ts) (parameter_at types n) ts ≡ Ok ((d ∷ ds, b), []) → parameters_at types n ts ≡ Ok (parameters (d ∷ ds) b, [])
      by s one =
          let f = first_of s in
          let here : separated_from E.Dots (length (f.0 ∷ f.1)) (parameter_at types n) (f.0 ∷ f.1) ≡ Ok ((d ∷ ds, b), []) = ap (λ z. separated_from E.Dots (length z) (parameter_at types n) z) (sym f.3) ∙ one in
          rw (f.3, f.2, here) refl
