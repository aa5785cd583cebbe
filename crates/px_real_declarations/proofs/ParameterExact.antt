-- The reader of parameters reads what the grammar says.
use Rattle.std.proofs.Common.{◌≡◌, ℕ, ◌≤◌, Bool, true, false, ◌||◌, List, [], ◌∷◌, ◌++◌, length, Some, None, Ok, refl, ap, sym, ◌∙◌, append_assoc, length-append, arith}
use Rattle.std.proofs.lemmas.Bool.{or_right}
use Rattle.px_real_expressions.specs.declared.terminal.Terminal.TheVariants as T
use Rattle.px_real_expressions.specs.Lexemes.{Lexeme, same, front}
use Rattle.px_real_expressions.specs.Stops.{◌>>=◌}
use Rattle.px_real_expressions.proofs.Tools.{done, both_are, bind_ok, same_is, Reads, Exact}
use Rattle.px_real_declarations.specs.declared.role.Role.TheVariants as R
use Rattle.px_real_declarations.specs.Roles.{has_role, same_role}
use Rattle.px_real_declarations.specs.DeclarationTree.{GroupTree, SpecifierTree, DeclaratorTree, DeclarationTree, declaration, any_says}
use Rattle.px_real_declarations.specs.Grammar.{Types, is_group, Attributes, no_more, one_more, begins_specifier, begins_with, ends_in_atomic, ends_in_star, IsParameter, is_parameter}
use Rattle.px_real_declarations.specs.Reading.{role_front, attributes_at, specifiers_at, declarator_at, some_specifiers, parameter_at}
use Rattle.px_real_declarations.proofs.GroupExact.{attributes_sound, attributes_complete}
use Rattle.px_real_declarations.proofs.SpecifierExact.{ReadSpecifiers, specifiers_sound, specifiers_complete}
use Rattle.px_real_declarations.proofs.DeclaratorExact.{attribute_has_role, begins_declarator, First, nothing, begun, After, after_first, after_token, after_nothing, declarator_exact, star_takes_all}
use Rattle.px_real_declarations.proofs.PartExact.{at_end, at_semicolon, Ended, at_over, at_comma}
use Rattle.px_real_declarations.proofs.DeclarationExact.{role_no_declarator, ended_role, begins_less, front_less, ended_begins, ended_front}

-- what a parameter ends with follows
after_ended : (d : DeclaratorTree) {rest : List Lexeme} → Ended rest → After true d rest
after_ended d (at_over (at_end e)) = rw e (after_nothing true d)
after_ended d (at_over (at_semicolon {c = c} {us = us} kc e)) = rw e (after_token true d T.Semicolon c us kc refl refl)
after_ended d (at_comma {c = c} {us = us} kc e) = rw e (after_token true d T.Comma c us kc refl refl)

-- what attributes follow
attributes_after : (d : DeclaratorTree) {ts : List Lexeme} {gs : List GroupTree} (rest : List Lexeme) → Attributes ts gs → (ends_in_star d ≡ true → gs ≡ []) → Ended rest → After true d (ts ++ rest)
attributes_after d rest (no_more h e) f g = rw h (after_ended d g)
attributes_after d rest (one_more {ts2 = ts2} (is_group {t = t} {ts1 = us1} k m h1 tree) ms h e) f g =
    rw (h, h1) (after_first true d t ((us1 ++ ts2) ++ rest) (role_no_declarator t.terminal (attribute_has_role t k)) (λ mm s. absurd (let z = sym e ∙ f s in cc)))

pub role_no_brace : (t : Lexeme) (ts : List Lexeme) → (has_role t.terminal || begins_declarator t.terminal) ≡ true → front T.OpenBrace (t ∷ ts) ≡ None
role_no_brace t ts h = by (same t.terminal T.OpenBrace) refl
  where
    by : (b : Bool) → same t.terminal T.OpenBrace ≡ b → front T.OpenBrace (t ∷ ts) ≡ None
    by true e = absurd (let z : true ≡ false = sym h ∙ ap (λ x. has_role x || begins_declarator x) (same_is t.terminal T.OpenBrace e) in cc)
    by false e = rw e refl

attributes_no_brace : {ts : List Lexeme} {gs : List GroupTree} (rest : List Lexeme) → Attributes ts gs → Ended rest → front T.OpenBrace (ts ++ rest) ≡ None
attributes_no_brace rest (no_more h e) f = rw h (ended_front T.OpenBrace [] refl refl refl f)
attributes_no_brace rest (one_more {ts2 = ts2} (is_group {t = t} {ts1 = us1} k m h1 tree) ms h e) f = rw (h, h1) (role_no_brace t ((us1 ++ ts2) ++ rest) (rw (attribute_has_role t k) refl))

-- no braces stand behind the specifiers
no_brace : {ts us : List Lexeme} {d : DeclaratorTree} {gs : List GroupTree} (rest : List Lexeme) → First true ts d → Attributes us gs → Ended rest → front T.OpenBrace (ts ++ (us ++ rest)) ≡ None
no_brace rest (nothing mm h n) m f = rw h (attributes_no_brace rest m f)
no_brace {us = us} rest (begun t vs b h) m f = rw h (role_no_brace t (vs ++ (us ++ rest)) (or_right (has_role t.terminal) (begins_declarator t.terminal) b))

parameter_complete : (types : Types) (n : ℕ) (ts : List Lexeme) (p : DeclarationTree) (rest : List Lexeme) → IsParameter types n ts p → Ended rest → parameter_at types n (ts ++ rest) ≡ Ok (p, rest)
unfolding parameter_at
parameter_complete types n ts p rest (is_parameter {ts1 = ts1} ts2 {ts3 = ts3} {s = s} {ss = ss} {gs = gs} {d = d} m f i a star parts e) g =
    let q = declarator_exact types true n in
    let whole : ts ++ rest ≡ ts1 ++ (ts2 ++ (ts3 ++ rest)) = ap (λ z. z ++ rest) parts ∙ append_assoc ts1 (ts2 ++ ts3) rest ∙ ap (λ z. ts1 ++ z) (append_assoc ts2 ts3 rest) in
    let fits : length ts1 ≤ length (ts ++ rest) = omega (arith, ap length whole, length-append ts1 (ts2 ++ (ts3 ++ rest))) in
    let none = ap (begins_with (begins_specifier types (any_says false (s ∷ ss)))) (sym (append_assoc ts2 ts3 rest)) ∙ ended_begins types (any_says false (s ∷ ss)) (ts2 ++ ts3) f.none_begins g in
    let alone : ends_in_atomic (s ∷ ss) ≡ true → front T.OpenParenthesis (ts2 ++ (ts3 ++ rest)) ≡ None =
    λ at. ap (front T.OpenParenthesis) (sym (append_assoc ts2 ts3 rest)) ∙ ended_front T.OpenParenthesis (ts2 ++ ts3) refl refl (f.no_group at) g in
    let one : specifiers_at types (length (ts ++ rest)) false (ts ++ rest) ≡ Ok (s ∷ ss, ts2 ++ (ts3 ++ rest)) =
    ap (specifiers_at types (length (ts ++ rest)) false) whole ∙ specifiers_complete types (length (ts ++ rest)) false (ts2 ++ (ts3 ++ rest)) m none alone (no_brace rest (q.first i) a g) fits in
    let two : declarator_at types true n (ts2 ++ (ts3 ++ rest)) ≡ Ok (d, ts3 ++ rest) = q.complete ts2 d (ts3 ++ rest) i (attributes_after d rest a star g) in
    let three : attributes_at (ts3 ++ rest) ≡ Ok (gs, rest) = attributes_complete rest a (ended_role (same_role R.Attribute) refl g) in
    rw (e, one, two, three) refl

-- no attribute is read where none stands
none_read : {ts us : List Lexeme} (rest : List Lexeme) {gs : List GroupTree} → Attributes ts gs → us ≡ ts ++ rest → role_front (same_role R.Attribute) us ≡ None → gs ≡ []
none_read rest (no_more h e) parts none = e
none_read rest (one_more {ts2 = ts2} (is_group {t = t} {ts1 = us1} k m h1 tree) ms h e) parts none =
    let here : role_front (same_role R.Attribute) (t ∷ ((us1 ++ ts2) ++ rest)) ≡ None = sym (ap (role_front (same_role R.Attribute)) (parts ∙ ap (λ z. z ++ rest) (h ∙ ap (λ z. z ++ ts2) h1))) ∙ none in
    let there : role_front (same_role R.Attribute) (t ∷ ((us1 ++ ts2) ++ rest)) ≡ Some (t, (us1 ++ ts2) ++ rest) = rw k refl in
    absurd (let z = sym there ∙ here in cc)

parameter_sound : (types : Types) (n : ℕ) (ts : List Lexeme) (p : DeclarationTree) (rest : List Lexeme) → parameter_at types n ts ≡ Ok (p, rest) → Reads (IsParameter types n) ts p rest
unfolding parameter_at
parameter_sound types n ts p rest h =
    let a = bind_ok (specifiers_at types (length ts) false ts) _ (p, rest) h in
    by a.0.0 a.0.1 (specifiers_sound types (length ts) false ts a.0.0 a.0.1 (omega arith) a.1) a.2
  where
    by : (xs : List SpecifierTree) (us : List Lexeme) → ReadSpecifiers types false ts xs us →
        (some_specifiers xs us >>= λ ss. declarator_at types true n ss.1 >>= λ d. attributes_at d.1 >>= λ gs.
        done (declaration ss.0 (record { before = []; declarator = d.0; label = None; after = gs.0; value = None } ∷ [])) gs.1) ≡ Ok (p, rest) → Reads (IsParameter types n) ts p rest
    by [] us m g = absurd cc
    by (s ∷ ss) us m g =
        let d = bind_ok (declarator_at types true n us) _ (p, rest) g in
        let gs = bind_ok (attributes_at d.0.1) _ (p, rest) d.2 in
        let tree : DeclarationTree = declaration (s ∷ ss) (record { before = []; declarator = d.0.0; label = None; after = gs.0.0; value = None } ∷ []) in
        let q = both_are tree p gs.0.1 rest gs.2 in
        let i = (declarator_exact types true n).sound us d.0.0 d.0.1 d.1 in
        let r = attributes_sound d.0.1 gs.0.0 gs.0.1 gs.1 in
        let here : List Lexeme = i.front ++ r.front in
        let whole : us ≡ here ++ gs.0.1 = i.parts ∙ ap (λ z. i.front ++ z) r.parts ∙ sym (append_assoc i.front r.front gs.0.1) in
        let none = begins_less (begins_specifier types (any_says false (s ∷ ss))) here gs.0.1 (ap (begins_with (begins_specifier types (any_says false (s ∷ ss)))) (sym whole) ∙ m.none_begins) in
        record {
          front = m.reads.front ++ here;
          is = is_parameter i.front m.reads.is (record { none_begins = none; no_group = λ e. front_less T.OpenParenthesis here gs.0.1 (ap (front T.OpenParenthesis) (sym whole) ∙ m.no_group e) })
              i.is r.is (λ e. none_read gs.0.1 r.is r.parts (star_takes_all types true n us d.0.0 d.0.1 d.1 e)) refl (sym q.0);
          parts = m.reads.parts ∙ ap (λ z. m.reads.front ++ z) (whole ∙ ap (λ z. here ++ z) q.1) ∙ sym (append_assoc m.reads.front here rest);
        }

-- a parameter is read exactly, up to a comma
pub parameter_exact : (types : Types) (n : ℕ) → Exact (IsParameter types n) (parameter_at types n) Ended
parameter_exact types n = record { sound = parameter_sound types n; complete = parameter_complete types n }
