-- What declarations add is no block.
use Rattle.std.proofs.Common.{◌≡◌, ℕ, zero, suc, Bool, false, List, [], ◌∷◌, ◌++◌, Option, Some, None, is_some, length, refl, ap, sym, subst, ◌∙◌, append_assoc}
use Rattle.std.proofs.lemmas.Option.{same_Some}
use Rattle.px_base.specs.declared.trace.Site.{Site}
use Rattle.px_expressions.specs.Reading.{or_else}
use Rattle.px_real_expressions.specs.Lexemes.{Lexeme}
use Rattle.px_real_declarations.specs.declared.role.Role.{Role}
use Rattle.px_real_declarations.specs.declared.role.Role.TheVariants as R
use Rattle.px_real_declarations.specs.Roles.{role_of}
use Rattle.px_real_declarations.specs.DeclarationTree.{SpecifierTree, keyword, type_name, group, tagged, DeclaredTree, DeclarationTree, declaration, assertion, EnumeratorTree}
use Rattle.px_real_declarations.specs.HeldReading.{members_at, enumerators_at}
use Rattle.px_real_declarations.specs.Names.{declared_name, is_typedef}
use Rattle.px_real_declaring.specs.Items.{nesting_limit}
use Rattle.px_real_types.specs.Words.{is_struct_word}
use Rattle.px_real_names.specs.Enumerated.{as_whole, struct_limit}
use Rattle.px_real_types.specs.declared.known.Known.{Known}
use Rattle.px_real_scopes.specs.Scopes.{MeaningTree, TagTree, an_enumeration, BindingTree, begins_block, of_name, of_tag, of_place, NamedTree, Scopes}
use Rattle.px_real_scopes.specs.Lookups.{behind_block, entered, is_seen, are_types}
use Rattle.px_real_scopes.specs.Knowing.{type_word, specified_known}
use Rattle.px_real_scopes.specs.Entering.{in_turn, counted_on, enumerator_value, enumerator_binding, with_enumerators, with_tag, with_enumerated, with_enumeration, declared_number, record_binding, new_record, meant_record, Entering, with_members, with_line, with_definition, defined_by, defined_if, with_tagged, with_specifier, deeper_by, with_specifiers}
use Rattle.px_real_scopes.specs.Behind.{with_name, declared_meaning, with_one, with_declared, declares_none, behind}
use Rattle.px_real_scopes.specs.Laws.{BlocksAreLeft}

-- ---- what is added

abbrev NoBlock : List BindingTree → Type 0
NoBlock [] = Unit {0}
NoBlock (begins_block ∷ bs) = ⊥
NoBlock (b ∷ bs) = NoBlock bs

record Adds (old new : List BindingTree) : Type 0 where
  more : List BindingTree
  no_block : NoBlock more
  is : new ≡ more ++ old

no_block_behind : (cs bs : List BindingTree) → NoBlock cs → NoBlock bs → NoBlock (cs ++ bs)
no_block_behind [] bs h g = g
no_block_behind (begins_block ∷ cs) bs h g = absurd h
no_block_behind (of_name name m ∷ cs) bs h g = no_block_behind cs bs h g
no_block_behind (of_tag name t ∷ cs) bs h g = no_block_behind cs bs h g
no_block_behind (of_place site n ∷ cs) bs h g = no_block_behind cs bs h g

adds_none : (bs : List BindingTree) → Adds bs bs
adds_none bs = record { more = []; no_block = tt; is = refl }

adds_on : {a b c : List BindingTree} → Adds a b → Adds b c → Adds a c
adds_on {a} h g = record { more = g.more ++ h.more; no_block = no_block_behind g.more h.more g.no_block h.no_block; is = g.is ∙ ap (λ z. g.more ++ z) h.is ∙ sym (append_assoc g.more h.more a) }

adds_name : (name : List ℕ) (m : MeaningTree) (bs : List BindingTree) → Adds bs (of_name name m ∷ bs)
adds_name name m bs = record { more = of_name name m ∷ []; no_block = tt; is = refl }

adds_tag : (tag : Option (List ℕ)) (t : TagTree) (bs : List BindingTree) → Adds bs (with_tag tag t bs)
adds_tag (Some tag) t bs = record { more = of_tag tag t ∷ []; no_block = tt; is = refl }
adds_tag None t bs = adds_none bs

adds_record : (tag : Option (List ℕ)) (site : Site) (n : ℕ) (bs : List BindingTree) → Adds bs (record_binding tag site n ∷ bs)
adds_record (Some tag) site n bs = record { more = record_binding (Some tag) site n ∷ []; no_block = tt; is = refl }
adds_record None site n bs = record { more = record_binding None site n ∷ []; no_block = tt; is = refl }

adds_enumerators : (next : Option ℕ) (es : List EnumeratorTree) (bs : List BindingTree) → Adds bs (with_enumerators next es bs)
adds_enumerators next [] bs = adds_none bs
adds_enumerators next (e ∷ es) bs =
    let v = enumerator_value next e.value in
    adds_on (record { more = enumerator_binding e.name v ∷ []; no_block = tt; is = refl }) (adds_enumerators (counted_on v) es (enumerator_binding e.name v ∷ bs))

-- ---- what comes of something

came : {A B : Type 0} (o : Option A) (f : A → Option B) (b : B) → or_else o f None ≡ Some b → (a : A) × (o ≡ Some a) × (f a ≡ Some b)
came (Some a) f b h = (a, refl, h)
came None f b h = absurd cc

abbrev Grown : Scopes → Scopes → Type 0
Grown st st1 = Adds st.bindings st1.bindings

grown_is : (st mid st1 : Scopes) → Grown st mid → Some mid ≡ Some st1 → Grown st st1
grown_is st mid st1 g h = subst (λ z. Grown st z) (same_Some mid st1 h) g

-- one after the other
turns : {A S : Type 0} (bindings : S → List BindingTree) (next : S → A → Option S) → ((st : S) (x : A) (st1 : S) → next st x ≡ Some st1 → Adds (bindings st) (bindings st1)) →
    (xs : List A) (st st1 : S) → in_turn next st xs ≡ Some st1 → Adds (bindings st) (bindings st1)
turns bindings next one [] st st1 h = subst (λ z. Adds (bindings st) (bindings z)) (same_Some st st1 h) (adds_none (bindings st))
turns bindings next one (x ∷ xs) st st1 h = let c = came (next st x) (λ z. in_turn next z xs) st1 h in adds_on (one st x c.0 c.1) (turns bindings next one xs c.0 st1 c.2)

-- ---- specifiers

enumerates : (tag : Option (List ℕ)) (held : Option (List Lexeme)) (st st1 : Scopes) → with_enumeration tag held st ≡ Some st1 → Grown st st1
enumerates tag None st st1 h = grown_is st st st1 (adds_none st.bindings) h
enumerates tag (Some held) st st1 h =
    let c = came (as_whole (enumerators_at held)) (λ es. Some (with_enumerated tag es st)) st1 h in
    grown_is st (with_enumerated tag c.0 st) st1 (adds_on (adds_tag tag an_enumeration st.bindings) (adds_enumerators (Some 0) c.0 (with_tag tag an_enumeration st.bindings))) c.2

meant : (is_struct : Bool) (tag : Option (List ℕ)) (site : Site) (st : Scopes) (o : Option ℕ) (x : ℕ × Scopes) → x ≡ or_else o (λ n. (n, st)) (length st.records, new_record is_struct tag site st) → Grown st x.1
meant is_struct tag site st (Some n) x h = subst (λ (z : ℕ × Scopes). Grown st z.1) (sym h) (adds_none st.bindings)
meant is_struct tag site st None x h = subst (λ (z : ℕ × Scopes). Grown st z.1) (sym h) (adds_record tag site (length st.records) st.bindings)

abbrev AllGrow : Entering → Type 0
AllGrow e = (st : Scopes) (s : SpecifierTree) (st1 : Scopes) → e st s ≡ Some st1 → Grown st st1

abbrev IfGrow : Option Entering → Type 0
IfGrow (Some e) = AllGrow e
IfGrow None = Unit {0}

line_grows : (deeper : Entering) → AllGrow deeper → (cells : Bool) (x : Scopes × List NamedTree) (d : DeclarationTree) (y : Scopes × List NamedTree) → with_line deeper cells x d ≡ Some y → Grown x.0 y.0
line_grows deeper g cells x (assertion a) y h = subst (λ z. Grown x.0 z.0) (same_Some x y h) (adds_none x.0.bindings)
line_grows deeper g cells x (declaration ss xs) y h =
    let c = came (in_turn deeper x.0 ss) (λ st. Some (st, with_members cells st ss x.1 xs)) y h in
    subst (λ z. Grown x.0 z.0) (same_Some (c.0, with_members cells c.0 ss x.1 xs) y c.2) (turns (λ st. st.bindings) deeper g ss x.0 c.0 c.1)

defined_grows : (deeper : Entering) → AllGrow deeper → (n : ℕ) (st : Scopes) (ds : List DeclarationTree) (st1 : Scopes) → defined_by deeper n st ds ≡ Some st1 → Grown st st1
defined_grows deeper g n st ds st1 h =
    let c = came (in_turn (with_line deeper (is_seen st n)) (st, []) ds) (λ x. Some (with_definition n x)) st1 h in
    grown_is st (with_definition n c.0) st1 (turns (λ (x : Scopes × List NamedTree). x.0.bindings) (with_line deeper (is_seen st n)) (line_grows deeper g (is_seen st n)) ds (st, []) c.0 c.1) c.2

held_grows : (deeper : Option Entering) → IfGrow deeper → (held : Option (List Lexeme)) (x : ℕ × Scopes) (st1 : Scopes) → defined_if deeper held x ≡ Some st1 → Grown x.1 st1
held_grows deeper g None x st1 h = grown_is x.1 x.1 st1 (adds_none x.1.bindings) h
held_grows None g (Some held) (n, st) st1 h = absurd cc
held_grows (Some deeper) g (Some held) (n, st) st1 h =
    let c = came (as_whole (members_at (are_types st.bindings) nesting_limit held)) (defined_by deeper n st) st1 h in defined_grows deeper g n st c.0 st1 c.2

tagged_grows : (deeper : Option Entering) → IfGrow deeper → (alone : Bool) (r : Role) (word : List ℕ) (site : Site) (tag : Option (List ℕ)) (held : Option (List Lexeme)) (st st1 : Scopes) →
    with_tagged deeper alone r word site tag held st ≡ Some st1 → Grown st st1
tagged_grows deeper g alone R.Enumeration word site tag held st st1 h = enumerates tag held st st1 h
tagged_grows deeper g alone R.Record word site tag held st st1 h =
    let x = meant_record (is_struct_word word) alone (is_some held) tag site st in
    adds_on (meant (is_struct_word word) tag site st (declared_number st alone (is_some held) tag) x refl) (held_grows deeper g held x st1 h)
tagged_grows deeper g alone _ word site tag held st st1 h = grown_is st st st1 (adds_none st.bindings) h

specifier_grows : (deeper : Option Entering) → IfGrow deeper → (alone : Bool) → AllGrow (with_specifier deeper alone)
specifier_grows deeper g alone st (keyword word site) st1 h = grown_is st st st1 (adds_none st.bindings) h
specifier_grows deeper g alone st (type_name word site) st1 h = grown_is st st st1 (adds_none st.bindings) h
specifier_grows deeper g alone st (group a) st1 h = grown_is st st st1 (adds_none st.bindings) h
specifier_grows deeper g alone st (tagged word site gs tag held) st1 h = tagged_grows deeper g alone (role_of word) word site tag held st st1 h

deeper_grows : (n : ℕ) → IfGrow (deeper_by n)
unfolding deeper_by
deeper_grows zero = tt
deeper_grows (suc n) = specifier_grows (deeper_by n) (deeper_grows n) false

-- ---- declarations

name_grows : (o : Option (List ℕ)) (m : MeaningTree) (st : Scopes) → Grown st (with_name o m st)
name_grows (Some name) m st = adds_name name m st.bindings
name_grows None m st = adds_none st.bindings

declared_grows : (is_type : Bool) (k : Known) (w : List ℕ) (xs : List DeclaredTree) (st : Scopes) → Grown st (with_declared is_type k w st xs)
declared_grows is_type k w [] st = adds_none st.bindings
declared_grows is_type k w (x ∷ xs) st = adds_on (name_grows (declared_name x.declarator) (declared_meaning st is_type k w x) st) (declared_grows is_type k w xs (with_one is_type k w st x))

declaration_grows : (st : Scopes) (d : DeclarationTree) (st1 : Scopes) → behind st d ≡ Some st1 → Grown st st1
declaration_grows st (assertion a) st1 h = grown_is st st st1 (adds_none st.bindings) h
declaration_grows st (declaration ss xs) st1 h =
    let c = came (with_specifiers (declares_none xs) ss st) (λ z. Some (with_declared (is_typedef ss) (specified_known z ss) (type_word ss) z xs)) st1 h in
    adds_on (turns (λ z. z.bindings) (with_specifier (deeper_by struct_limit) (declares_none xs)) (specifier_grows (deeper_by struct_limit) (deeper_grows struct_limit) (declares_none xs)) ss st c.0 c.1)
    (grown_is c.0 (with_declared (is_typedef ss) (specified_known c.0 ss) (type_word ss) c.0 xs) st1 (declared_grows (is_typedef ss) (specified_known c.0 ss) (type_word ss) xs c.0) c.2)

-- ---- and so the block is left where it was entered

up_to_block : (cs bs : List BindingTree) → NoBlock cs → behind_block (cs ++ begins_block ∷ bs) ≡ bs
up_to_block [] bs h = refl
up_to_block (begins_block ∷ cs) bs h = absurd h
up_to_block (of_name name m ∷ cs) bs h = up_to_block cs bs h
up_to_block (of_tag name t ∷ cs) bs h = up_to_block cs bs h
up_to_block (of_place site n ∷ cs) bs h = up_to_block cs bs h

pub blocks_are_left : BlocksAreLeft
blocks_are_left st st1 ds h =
    let g = turns (λ z. z.bindings) behind declaration_grows ds (entered st) st1 h in
    ap behind_block g.is ∙ up_to_block g.more st.bindings g.no_block
