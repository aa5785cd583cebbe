-- The enumerators that are found are those that specifiers declare.
use Rattle.std.proofs.Common.{◌≡◌, ℕ, zero, suc, ◌-◌, ◌<◌, true, List, [], ◌∷◌, ◌++◌, map, Option, Some, None, Ok, Err, refl, ap, sym, ◌∙◌, append_assoc, arith}
use Rattle.std.proofs.lemmas.List.{append-nil}
use Rattle.px_base.specs.declared.trace.Site.{Site}
use Rattle.px_expressions.specs.Reading.{or_else}
use Rattle.px_real_expressions.specs.Lexemes.{Lexeme}
use Rattle.px_real_expressions.specs.Stops.{Read}
use Rattle.px_real_expressions.proofs.Tools.{done}
use Rattle.px_real_declarations.specs.declared.role.Role.{Role}
use Rattle.px_real_declarations.specs.declared.role.Role.TheVariants as R
use Rattle.px_real_declarations.specs.Roles.{role_of}
use Rattle.px_real_declarations.specs.DeclarationTree.{GroupTree, SpecifierTree, keyword, type_name, group, tagged, DeclarationTree, declaration, assertion, EnumeratorTree}
use Rattle.px_real_declarations.specs.Grammar.{Types, Members, Enumerators}
use Rattle.px_real_declarations.specs.HeldReading.{members_at, enumerators_at}
use Rattle.px_real_declarations.specs.Names.{enumerator_name, specifiers_of, is_bare, Enumerate, nothing, bare, of_enumeration, of_record}
use Rattle.px_real_declarations.proofs.MemberExact.{members_whole_sound, members_whole_complete}
use Rattle.px_real_declarations.proofs.HeldExact.{enumerators_sound, enumerators_complete}
use Rattle.px_real_declaring.specs.declared.reading.DeclarationFault.{DeclarationFault}
use Rattle.px_real_declaring.specs.declared.reading.DeclarationFault.TheVariants as D
use Rattle.px_real_declaring.specs.Items.{nesting_limit}
use Rattle.px_real_declaring.specs.Whole.{NoneIs}
use Rattle.px_real_names.specs.Enumerated as H
use Rattle.px_real_names.specs.Enumerated.{as_whole, Words, Adds, both, of_each, of_members, of_held, deeper_by, enumerated_by}

-- ---- names of several

pub whole_of : {A : Type 0} (r : Read A) (a : A) → as_whole r ≡ Some a → r ≡ done a []
whole_of (Ok (b, [])) a h = let e : b ≡ a = cc in ap (λ z. done z []) e
whole_of (Ok (b, t ∷ ts)) a h = absurd cc
whole_of (Err s) a h = absurd cc

both_some : (x y : Words) (ws : List (List ℕ)) → both x y ≡ Some ws → (us : List (List ℕ)) × (vs : List (List ℕ)) × (x ≡ Some us) × (y ≡ Some vs) × (ws ≡ us ++ vs)
both_some (Some xs) (Some ys) ws h = let e : xs ++ ys ≡ ws = cc in (xs, ys, refl, refl, sym e)
both_some (Some xs) None ws h = absurd cc
both_some None y ws h = absurd cc

pub both_assoc : (x y z : Words) → both (both x y) z ≡ both x (both y z)
both_assoc (Some xs) (Some ys) (Some zs) = ap Some (append_assoc xs ys zs)
both_assoc (Some xs) (Some ys) None = refl
both_assoc (Some xs) None z = refl
both_assoc None y z = refl

both_nothing : (x : Words) → both x (Some []) ≡ x
both_nothing (Some xs) = ap Some (append-nil xs)
both_nothing None = refl

nothing_both : (x : Words) → both (Some []) x ≡ x
nothing_both (Some xs) = refl
nothing_both None = refl

each_of : (one : SpecifierTree → Words) (ss ts : List SpecifierTree) → of_each one (ss ++ ts) ≡ both (of_each one ss) (of_each one ts)
each_of one [] ts = sym (nothing_both (of_each one ts))
each_of one (s ∷ ss) ts = ap (both (one s)) (each_of one ss ts) ∙ sym (both_assoc (one s) (of_each one ss) (of_each one ts))

members_are : (one : SpecifierTree → Words) (ds : List DeclarationTree) → of_members one ds ≡ of_each one (specifiers_of ds)
members_are one [] = refl
members_are one (declaration ss xs ∷ ds) = ap (both (of_each one ss)) (members_are one ds) ∙ sym (each_of one ss (specifiers_of ds))
members_are one (assertion g ∷ ds) = nothing_both (of_members one ds) ∙ members_are one ds

-- ---- what is found is declared

module _ (types : Types) where
  -- those of one specifier, before others
  abbrev Before : ℕ → SpecifierTree → List (List ℕ) → Type 0
  Before d s us = (ss : List SpecifierTree) (vs : List (List ℕ)) → Enumerate types nesting_limit d ss vs → Enumerate types nesting_limit d (s ∷ ss) (us ++ vs)

  bare_before : (d : ℕ) (s : SpecifierTree) (us : List (List ℕ)) → is_bare s ≡ true → us ≡ [] → Before d s us
  bare_before d s us b e ss vs m = bare b (rw e m) refl

  abbrev Deeper : ℕ → Type 0
  Deeper d = (ss : List SpecifierTree) (ws : List (List ℕ)) → of_each (enumerated_by types d) ss ≡ Some ws → Enumerate types nesting_limit d ss ws

  enumeration_before : (d : ℕ) (word : List ℕ) (site : Site) (gs : List GroupTree) (tag : Option (List ℕ)) (held : List Lexeme) (us : List (List ℕ)) → role_of word ≡ R.Enumeration →
      or_else (as_whole (enumerators_at held)) (λ es. Some (map enumerator_name es)) None ≡ Some us → Before d (tagged word site gs tag (Some held)) us
  enumeration_before d word site gs tag held us r h = by (as_whole (enumerators_at held)) refl h
    where
      by : (o : Option (List EnumeratorTree)) → as_whole (enumerators_at held) ≡ o → or_else o (λ es. Some (map enumerator_name es)) None ≡ Some us → Before d (tagged word site gs tag (Some held)) us
      by (Some es) e g ss vs m =
          let same : map enumerator_name es ≡ us = cc in
          of_enumeration r (enumerators_sound held es (whole_of (enumerators_at held) es e)) m refl (ap (λ z. z ++ vs) (sym same))
      by None e g ss vs m = absurd cc

  record_before : (d : ℕ) (word : List ℕ) (site : Site) (gs : List GroupTree) (tag : Option (List ℕ)) (held : List Lexeme) (us : List (List ℕ)) → role_of word ≡ R.Record → Deeper d →
      or_else (as_whole (members_at types nesting_limit held)) (of_members (enumerated_by types d)) None ≡ Some us → Before (suc d) (tagged word site gs tag (Some held)) us
  record_before d word site gs tag held us r next h = by (as_whole (members_at types nesting_limit held)) refl h
    where
      by : (o : Option (List DeclarationTree)) → as_whole (members_at types nesting_limit held) ≡ o → or_else o (of_members (enumerated_by types d)) None ≡ Some us → Before (suc d) (tagged word site gs tag (Some held)) us
      by (Some ds) e g ss vs m =
          let inside : of_each (enumerated_by types d) (specifiers_of ds) ≡ Some us = sym (members_are (enumerated_by types d) ds) ∙ g in
          of_record r refl (members_whole_sound types nesting_limit held ds (whole_of (members_at types nesting_limit held) ds e)) (next (specifiers_of ds) us inside) m refl refl
      by None e g ss vs m = absurd cc

  held_before : (d : ℕ) (word : List ℕ) (site : Site) (gs : List GroupTree) (tag : Option (List ℕ)) (held : List Lexeme) (us : List (List ℕ)) (r : Role) → role_of word ≡ r → ((d1 : ℕ) → d ≡ suc d1 → Deeper d1) →
      of_held types (deeper_by types d) r held ≡ Some us → Before d (tagged word site gs tag (Some held)) us
  unfolding deeper_by
  held_before d word site gs tag held us R.Enumeration e next h = enumeration_before d word site gs tag held us e h
  held_before zero word site gs tag held us R.Record e next h = absurd cc
  held_before (suc d) word site gs tag held us R.Record e next h = record_before d word site gs tag held us e (next d refl) h
  held_before d word site gs tag held us _ e next h = absurd cc

  one_before : (d : ℕ) (s : SpecifierTree) (us : List (List ℕ)) → ((d1 : ℕ) → d ≡ suc d1 → Deeper d1) → enumerated_by types d s ≡ Some us → Before d s us
  one_before d (keyword word site) us next h = bare_before d (keyword word site) us refl (let e : [] ≡ us = cc in sym e)
  one_before d (type_name word site) us next h = bare_before d (type_name word site) us refl (let e : [] ≡ us = cc in sym e)
  one_before d (group g) us next h = bare_before d (group g) us refl (let e : [] ≡ us = cc in sym e)
  one_before d (tagged word site gs tag None) us next h = bare_before d (tagged word site gs tag None) us refl (let e : [] ≡ us = cc in sym e)
  one_before d (tagged word site gs tag (Some held)) us next h = held_before d word site gs tag held us (role_of word) refl next h

  each_sound : (d : ℕ) → ((d1 : ℕ) → d ≡ suc d1 → Deeper d1) → Deeper d
  each_sound d next [] ws h = nothing refl (let e : [] ≡ ws = cc in sym e)
  each_sound d next (s ∷ ss) ws h =
      let b = both_some (enumerated_by types d s) (of_each (enumerated_by types d) ss) ws h in
      rw (b.4) (one_before d s b.0 next b.2 ss b.1 (each_sound d next ss b.1 b.3))

  pub enumerated_sound : (d : ℕ) → Deeper d
  enumerated_sound zero = each_sound zero (λ d1 e. absurd cc)
  enumerated_sound (suc d) = each_sound (suc d) (λ d1 e. (let same : d ≡ d1 = cc in rw (← same) (enumerated_sound d)))

  -- ---- what is declared is found

  bare_there : (d : ℕ) (s : SpecifierTree) → is_bare s ≡ true → enumerated_by types d s ≡ Some []
  bare_there d (keyword word site) b = refl
  bare_there d (type_name word site) b = refl
  bare_there d (group g) b = refl
  bare_there d (tagged word site gs tag None) b = refl
  bare_there d (tagged word site gs tag (Some held)) b = absurd cc

  enumeration_there : (d : ℕ) (r : Role) (held : List Lexeme) (es : List EnumeratorTree) → r ≡ R.Enumeration → enumerators_at held ≡ done es [] → of_held types (deeper_by types d) r held ≡ Some (map enumerator_name es)
  enumeration_there d r held es e h = ap (λ z. of_held types (deeper_by types d) z held) e ∙ ap (λ z. or_else (as_whole z) (λ xs. Some (map enumerator_name xs)) None) h

  record_there : (d d1 : ℕ) (r : Role) (held : List Lexeme) (ds : List DeclarationTree) (ws : List (List ℕ)) → d ≡ suc d1 → r ≡ R.Record → members_at types nesting_limit held ≡ done ds [] →
      of_members (enumerated_by types d1) ds ≡ Some ws → of_held types (deeper_by types d) r held ≡ Some ws
  unfolding deeper_by
  record_there zero d1 r held ds ws deep e h g = absurd cc
  record_there (suc d) d1 r held ds ws deep e h g =
      let same : d ≡ d1 = cc in
      ap (λ z. of_held types (deeper_by types (suc d)) z held) e ∙ ap (λ z. or_else (as_whole z) (of_members (enumerated_by types d)) None) h ∙ ap (λ z. of_members (enumerated_by types z) ds) same ∙ g

  first_and : (d : ℕ) (s : SpecifierTree) (ss : List SpecifierTree) (us vs : List (List ℕ)) → enumerated_by types d s ≡ Some us → of_each (enumerated_by types d) ss ≡ Some vs → of_each (enumerated_by types d) (s ∷ ss) ≡ Some (us ++ vs)
  first_and d s ss us vs h g = ap (λ z. both z (of_each (enumerated_by types d) ss)) h ∙ ap (both (Some us)) g

  pub enumerated_complete : {d : ℕ} {ss : List SpecifierTree} {ws : List (List ℕ)} → Enumerate types nesting_limit d ss ws → of_each (enumerated_by types d) ss ≡ Some ws
  enumerated_complete (nothing h e) = rw (h, e) refl
  enumerated_complete {d = d} (bare {s = s} {ss1 = ss1} {words = ws} b m h) =
      ap (of_each (enumerated_by types d)) h ∙ first_and d s ss1 [] ws (bare_there d s b) (enumerated_complete m)
  enumerated_complete {d = d} (of_enumeration {word = word} {s = site} {gs = gs} {tag = tag} {held = held} {es = es} {ss1 = ss1} {words1 = ws1} r es_are m h e) =
      let here = enumeration_there d (role_of word) held es r (enumerators_complete es_are) in
      ap (of_each (enumerated_by types d)) h ∙ first_and d (tagged word site gs tag (Some held)) ss1 (map enumerator_name es) ws1 here (enumerated_complete m) ∙ ap Some (sym e)
  enumerated_complete {d = d} (of_record {d1 = d1} {word = word} {s = site} {gs = gs} {tag = tag} {held = held} {ds = ds} {ss1 = ss1} {words1 = ws1} {words2 = ws2} r deep ds_are m1 m2 h e) =
      let inside : of_members (enumerated_by types d1) ds ≡ Some ws1 = members_are (enumerated_by types d1) ds ∙ enumerated_complete m1 in
      let here = record_there d d1 (role_of word) held ds ws1 deep r (members_whole_complete types nesting_limit ds_are) inside in
      ap (of_each (enumerated_by types d)) h ∙ first_and d (tagged word site gs tag (Some held)) ss1 ws1 ws2 here (enumerated_complete m2) ∙ ap Some (sym e)

-- ---- where the code stops

no_enumeration : (held : List Lexeme) → ((es : List EnumeratorTree) → Enumerators held es → ⊥) → H.of_enumeration held ≡ None
no_enumeration held h = by (as_whole (enumerators_at held)) refl
  where
    by : (o : Option (List EnumeratorTree)) → as_whole (enumerators_at held) ≡ o → or_else o (λ es. Some (map enumerator_name es)) None ≡ None
    by (Some es) e = absurd (h es (enumerators_sound held es (whole_of (enumerators_at held) es e)))
    by None e = refl

pub enumeration_fails : (held : List Lexeme) (old new : List (List ℕ)) (e : DeclarationFault) → NoneIs (Enumerators held) e → Adds old new (Err e) (H.of_enumeration held)
enumeration_fails held old new D.NoMemory h = tt
enumeration_fails held old new (D.NotADeclaration at) h = no_enumeration held h
enumeration_fails held old new (D.Deep at) h = no_enumeration held h

pub enumeration_found : (held : List Lexeme) (old new : List (List ℕ)) (es : List EnumeratorTree) → Enumerators held es → new ≡ old ++ map enumerator_name es → both (Some old) (H.of_enumeration held) ≡ Some new
enumeration_found held old new es m h = ap (λ z. both (Some old) (or_else (as_whole z) (λ xs. Some (map enumerator_name xs)) None)) (enumerators_complete m) ∙ ap Some (sym h)

module _ (types : Types) where
  no_record : (deeper : Option (SpecifierTree → Words)) (held : List Lexeme) → ((ds : List DeclarationTree) → Members types nesting_limit held ds → ⊥) → H.of_record types deeper held ≡ None
  no_record None held h = refl
  no_record (Some deeper) held h = by (as_whole (members_at types nesting_limit held)) refl
    where
      by : (o : Option (List DeclarationTree)) → as_whole (members_at types nesting_limit held) ≡ o → or_else o (of_members deeper) None ≡ None
      by (Some ds) e = absurd (h ds (members_whole_sound types nesting_limit held ds (whole_of (members_at types nesting_limit held) ds e)))
      by None e = refl

  pub record_fails : (deeper : Option (SpecifierTree → Words)) (held : List Lexeme) (old new : List (List ℕ)) (e : DeclarationFault) → NoneIs (Members types nesting_limit held) e → Adds old new (Err e) (H.of_record types deeper held)
  record_fails deeper held old new D.NoMemory h = tt
  record_fails deeper held old new (D.NotADeclaration at) h = no_record deeper held h
  record_fails deeper held old new (D.Deep at) h = no_record deeper held h

  pub too_deep : (depth : ℕ) (held : List Lexeme) → depth ≡ 0 → H.of_record types (deeper_by types depth) held ≡ None
  unfolding deeper_by
  too_deep zero held h = refl
  too_deep (suc n) held h = absurd cc

  pub record_is : (depth : ℕ) (held : List Lexeme) (ds : List DeclarationTree) → 0 < depth → Members types nesting_limit held ds → H.of_record types (deeper_by types depth) held ≡ of_members (enumerated_by types (depth - 1)) ds
  unfolding deeper_by
  record_is zero held ds lt m = absurd (omega arith)
  record_is (suc n) held ds lt m =
      let s : suc n - 1 ≡ n = omega arith in
      rw s (ap (λ z. or_else (as_whole z) (of_members (enumerated_by types n)) None) (members_whole_complete types nesting_limit m))
