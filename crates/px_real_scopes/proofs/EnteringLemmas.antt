-- What specifiers bring into scope, by what the code reads.
use Rattle.std.proofs.Common.{◌≡◌, ℕ, zero, suc, ◌-◌, ◌<◌, false, List, [], Option, Some, None, Err, refl, ap, sym, ◌∙◌, arith}
use Rattle.px_expressions.specs.Reading.{or_else}
use Rattle.px_real_expressions.specs.Lexemes.{Lexeme}
use Rattle.px_real_declarations.specs.DeclarationTree.{DeclarationTree, EnumeratorTree}
use Rattle.px_real_declarations.specs.Grammar.{Members, Enumerators}
use Rattle.px_real_declaring.specs.declared.reading.DeclarationFault.{DeclarationFault}
use Rattle.px_real_declaring.specs.declared.reading.DeclarationFault.TheVariants as D
use Rattle.px_real_declaring.specs.Items.{nesting_limit}
use Rattle.px_real_declaring.specs.Whole.{NoneIs}
use Rattle.px_real_scopes.specs.Scopes.{NamedTree, Scopes}
use Rattle.px_real_scopes.specs.Lookups.{is_seen, are_types}
use Rattle.px_real_scopes.specs.Entering.{in_turn, with_enumerated, with_enumeration, Entering, with_line, with_definition, defined_by, defined_as, with_specifier, deeper_by}
use Rattle.px_real_scopes.specs.Steps.{Comes}
use Rattle.px_real_scopes.proofs.ReadLemmas.{members_are_read, no_members_are_read, enumerators_are_read, no_enumerators_are_read}

-- ---- what braces hold

pub too_deep : (depth : ℕ) (held : List Lexeme) (n : ℕ) (st : Scopes) → depth ≡ 0 → defined_as (deeper_by depth) held (n, st) ≡ None
unfolding deeper_by
too_deep zero held n st h = refl
too_deep (suc d) held n st h = absurd cc

none_defined : (deeper : Option Entering) (held : List Lexeme) (n : ℕ) (st : Scopes) → ((ds : List DeclarationTree) → Members (are_types st.bindings) nesting_limit held ds → ⊥) → defined_as deeper held (n, st) ≡ None
none_defined None held n st h = refl
none_defined (Some deeper) held n st h = ap (λ z. or_else z (defined_by deeper n st) None) (no_members_are_read (are_types st.bindings) held h)

pub not_members : (deeper : Option Entering) (held : List Lexeme) (n : ℕ) (st new : Scopes) (e : DeclarationFault) → NoneIs (Members (are_types st.bindings) nesting_limit held) e → Comes (defined_as deeper held (n, st)) new (Err e)
not_members deeper held n st new D.NoMemory h = tt
not_members deeper held n st new (D.NotADeclaration at) h = none_defined deeper held n st h
not_members deeper held n st new (D.Deep at) h = none_defined deeper held n st h

pub defined_is : (depth : ℕ) (held : List Lexeme) (n : ℕ) (st : Scopes) (ds : List DeclarationTree) → 0 < depth → Members (are_types st.bindings) nesting_limit held ds →
    defined_as (deeper_by depth) held (n, st) ≡ defined_by (with_specifier (deeper_by (depth - 1)) false) n st ds
unfolding deeper_by
defined_is zero held n st ds lt m = absurd (omega arith)
defined_is (suc d) held n st ds lt m =
    let s : suc d - 1 ≡ d = omega arith in
    rw s (ap (λ z. or_else z (defined_by (with_specifier (deeper_by d) false) n st) None) (members_are_read (are_types st.bindings) held ds m))

pub defines : (deeper : Entering) (n : ℕ) (st : Scopes) (ds : List DeclarationTree) (st1 : Scopes) (ms : List NamedTree) (new : Scopes) →
    in_turn (with_line deeper (is_seen st n)) (st, []) ds ≡ Some (st1, ms) → new ≡ with_definition n (st1, ms) → defined_by deeper n st ds ≡ Some new
defines deeper n st ds st1 ms new h e = ap (λ z. or_else z (λ x. Some (with_definition n x)) None) h ∙ ap (λ z. Some z) (sym e)

-- ---- enumerations

none_enumerated : (tag : Option (List ℕ)) (held : List Lexeme) (st : Scopes) → ((es : List EnumeratorTree) → Enumerators held es → ⊥) → with_enumeration tag (Some held) st ≡ None
none_enumerated tag held st h = ap (λ z. or_else z (λ es. Some (with_enumerated tag es st)) None) (no_enumerators_are_read held h)

pub not_enumerators : (tag : Option (List ℕ)) (held : List Lexeme) (st new : Scopes) (e : DeclarationFault) → NoneIs (Enumerators held) e → Comes (with_enumeration tag (Some held) st) new (Err e)
not_enumerators tag held st new D.NoMemory h = tt
not_enumerators tag held st new (D.NotADeclaration at) h = none_enumerated tag held st h
not_enumerators tag held st new (D.Deep at) h = none_enumerated tag held st h

pub enumerated_is : (tag : Option (List ℕ)) (held : List Lexeme) (st new : Scopes) (es : List EnumeratorTree) → Enumerators held es → new ≡ with_enumerated tag es st → with_enumeration tag (Some held) st ≡ Some new
enumerated_is tag held st new es m h = ap (λ z. or_else z (λ es. Some (with_enumerated tag es st)) None) (enumerators_are_read held es m) ∙ ap (λ z. Some z) (sym h)
