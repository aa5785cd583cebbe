-- What is known after one item more.
use Rattle.std.proofs.Common.{◌≡◌, ◌∙◌, ℕ, Bool, true, false, not, ◌&&◌, ◌||◌, cond, List, [], ◌∷◌, ◌++◌, length, nat_lt, Option, None, Some, option_map, option_and_then, is_some, if◌then◌else◌, Result, Ok, Err, IfOk, OnOk, refl, sym, ap, ap₂, true≢false}
use Rattle.std.specs.Option.{option_or}
use Rattle.std.specs.List.{list_any}
use Rattle.std.specs.Str.{bytes_eq}
use Rattle.std.specs.Cmp.Lexicographic.{nat_list_eq_equiv, bytes_decides}
use Rattle.std.proofs.lemmas.List.Folds.{list_any-append}
use Rattle.std.proofs.lemmas.Bool.{or_right}
use Rattle.px_base.specs.declared.trace.Site.{Site}
use Rattle.px_terms.specs.declared.faults.NoMemory.{NoMemory}
use Rattle.px_syntax.specs.declared.type_name.TypeName.{TypeName}
use Rattle.px_syntax.specs.declared.item.FieldDeclaration.{FieldDeclaration}
use Rattle.px_syntax.specs.declared.item.ResultType.{ResultType}
use Rattle.px_syntax.specs.declared.item.Parameter.{Parameter}
use Rattle.px_syntax.specs.StatementTree.{StatementTree}
use Rattle.px_syntax.specs.ItemTree.{struct, declared, prototype, function}
use Rattle.px_syntax.specs.ParsedTree.{ParsedTree, parsed, out}
use Rattle.px_bodies.specs.Types.{when}
use Rattle.px_bodies.specs.Environment.{Environment, Signature, environment_of, empty_environment, with_struct, with_signature, signature_of, fields_of}
use Rattle.px_typing.specs.declared.marking.Reading.{Reading}
use Rattle.px_typing.specs.Sights.{sighted}
use Rattle.px_typing.specs.Declarations.{Fields, first_of, fields_by, defined_by, declared_by, fields_in, kept_fields}
use Rattle.px_typing.specs.Keeping.{is_duplicate}
use Rattle.px_typing.specs.Readings.{Holds, Knows, with_fields, with_definition, with_first}

-- ---- options

or-none : {A : Type 0} (o : Option A) → option_or o None ≡ o
or-none None = refl
or-none (Some x) = refl

or_assoc : {A : Type 0} (o p q : Option A) → option_or o (option_or p q) ≡ option_or (option_or o p) q
or_assoc None p q = refl
or_assoc (Some x) p q = refl

or-found : {A : Type 0} (o p : Option A) → is_some o ≡ true → option_or o p ≡ o
or-found None p h = absurd (true≢false (sym h))
or-found (Some x) p h = refl

or-missed : {A : Type 0} (o p : Option A) → is_some o ≡ false → option_or o p ≡ p
or-missed None p h = refl
or-missed (Some x) p h = absurd (true≢false h)

pub none_is : {A : Type 0} (o : Option A) → is_some o ≡ false → o ≡ None
none_is None h = refl
none_is (Some x) h = absurd (true≢false h)

is_some-or : {A : Type 0} (o p : Option A) → is_some (option_or o p) ≡ (is_some o || is_some p)
is_some-or None p = refl
is_some-or (Some x) p = refl

is_some-when : {A : Type 0} (b : Bool) (x : A) → is_some (when b x) ≡ b
is_some-when true x = refl
is_some-when false x = refl

pub first_of-append : {A B : Type 0} (says : A → Option B) (xs ys : List A) → first_of says (xs ++ ys) ≡ option_or (first_of says xs) (first_of says ys)
first_of-append says [] ys = refl
first_of-append says (x ∷ xs) ys = ap (option_or (says x)) (first_of-append says xs ys) ∙ or_assoc (says x) (first_of says xs) (first_of says ys)

-- what is said first, after one item more
pub first_of-more : {A B : Type 0} (says : A → Option B) (xs : List A) (x : A) → first_of says (xs ++ x ∷ []) ≡ option_or (first_of says xs) (says x)
first_of-more says xs x = first_of-append says xs (x ∷ []) ∙ ap (option_or (first_of says xs)) (or-none (says x))

first_of-unsaid : {A B : Type 0} (says : A → Option B) (xs : List A) (x : A) → says x ≡ None → first_of says (xs ++ x ∷ []) ≡ first_of says xs
first_of-unsaid says xs x e = first_of-more says xs x ∙ ap (option_or (first_of says xs)) e ∙ or-none (first_of says xs)

-- ---- names

pub same_name : (a b : List ℕ) → bytes_eq a b ≡ true → a ≡ b
same_name a b h = (bytes_decides a b).0 h

or_false : (b : Bool) → (b || false) ≡ b
or_false true = refl
or_false false = refl

-- a name that is seen is among those seen
pub any-sighted : (seen : List (List ℕ)) (name other : List ℕ) → list_any (bytes_eq other) (sighted bytes_eq seen name) ≡ (list_any (bytes_eq other) seen || bytes_eq other name)
any-sighted seen name other = by (list_any (bytes_eq name) seen) refl (bytes_eq other name) refl
  where
    by : (b : Bool) → list_any (bytes_eq name) seen ≡ b → (d : Bool) → bytes_eq other name ≡ d →
        list_any (bytes_eq other) (if b then seen else seen ++ name ∷ []) ≡ (list_any (bytes_eq other) seen || d)
    by true h true e = ap (λ n. list_any (bytes_eq n) seen) (same_name other name e) ∙ h ∙ sym (or_right (list_any (bytes_eq other) seen) true refl)
    by true h false e = sym (or_false (list_any (bytes_eq other) seen))
    by false h d e = list_any-append (bytes_eq other) seen (name ∷ []) ∙ ap (λ b. list_any (bytes_eq other) seen || b) (or_false (bytes_eq other name) ∙ e)

-- ---- a signature more

module _ (env : Environment) (name : List ℕ) (sg : Signature) where
  signature_when : (b : Bool) → is_some (env.signature name) ≡ b → (other : List ℕ) (d : Bool) → bytes_eq other name ≡ d →
      (if b then env else with_signature env name sg).signature other ≡ option_or (env.signature other) (when d sg)
  signature_when true h other true e = sym (or-found (env.signature other) (Some sg) (ap (λ n. is_some (env.signature n)) (same_name other name e) ∙ h))
  signature_when true h other false e = sym (or-none (env.signature other))
  signature_when false h other true e =
      ap (λ b. cond b (Some sg) (env.signature other)) (nat_list_eq_equiv.symm name other ∙ e)
      ∙ sym (or-missed (env.signature other) (Some sg) (ap (λ n. is_some (env.signature n)) (same_name other name e) ∙ h))
  signature_when false h other false e =
      ap (λ b. cond b (Some sg) (env.signature other)) (nat_list_eq_equiv.symm name other ∙ e) ∙ sym (or-none (env.signature other))

  pub signature-with_first : (other : List ℕ) → (with_first env name sg).signature other ≡ option_or (env.signature other) (when (bytes_eq other name) sg)
  signature-with_first other = signature_when (is_some (env.signature name)) refl other (bytes_eq other name) refl

  others_when : (b : Bool) → (if b then env else with_signature env name sg).fields ≡ env.fields
  others_when true = refl
  others_when false = refl

  types_when : (b : Bool) → (if b then env else with_signature env name sg).type_number ≡ env.type_number
  types_when true = refl
  types_when false = refl

  names_when : (b : Bool) → (if b then env else with_signature env name sg).proc_number ≡ env.proc_number
  names_when true = refl
  names_when false = refl

-- ---- a struct more

module _ (env : Environment) (tag : List ℕ) (fs : Fields) (said : List ℕ → Option Fields) (known : (other : List ℕ) → env.fields other ≡ option_and_then kept_fields (said other)) where
  with_kept : (o : Option Fields) (other : List ℕ) (d : Bool) → bytes_eq other tag ≡ d → is_some (said tag) ≡ false → o ≡ kept_fields fs →
      (with_fields env tag o).fields other ≡ option_and_then kept_fields (option_or (said other) (when d fs))
  with_kept None other true e h k =
      known other ∙ ap (option_and_then kept_fields) (none_is (said other) (ap (λ n. is_some (said n)) (same_name other tag e) ∙ h)) ∙ k
      ∙ sym (ap (λ o. option_and_then kept_fields (option_or o (Some fs))) (none_is (said other) (ap (λ n. is_some (said n)) (same_name other tag e) ∙ h)))
  with_kept None other false e h k = known other ∙ sym (ap (option_and_then kept_fields) (or-none (said other)))
  with_kept (Some gs) other true e h k =
      ap (λ b. cond b (Some gs) (env.fields other)) (nat_list_eq_equiv.symm tag other ∙ e) ∙ k
      ∙ sym (ap (λ o. option_and_then kept_fields (option_or o (Some fs))) (none_is (said other) (ap (λ n. is_some (said n)) (same_name other tag e) ∙ h)))
  with_kept (Some gs) other false e h k =
      ap (λ b. cond b (Some gs) (env.fields other)) (nat_list_eq_equiv.symm tag other ∙ e) ∙ known other
      ∙ sym (ap (option_and_then kept_fields) (or-none (said other)))

  fields_when : (duplicate : Bool) → is_some (said tag) ≡ duplicate → (other : List ℕ) (d : Bool) → bytes_eq other tag ≡ d →
      (with_definition duplicate env tag fs).fields other ≡ option_and_then kept_fields (option_or (said other) (when d fs))
  fields_when true h other true e =
      known other ∙ sym (ap (option_and_then kept_fields) (or-found (said other) (Some fs) (ap (λ n. is_some (said n)) (same_name other tag e) ∙ h)))
  fields_when true h other false e = known other ∙ sym (ap (option_and_then kept_fields) (or-none (said other)))
  fields_when false h other d e = with_kept (kept_fields fs) other d e h refl

  pub fields-with_definition : (duplicate : Bool) → is_some (said tag) ≡ duplicate → (other : List ℕ) →
      (with_definition duplicate env tag fs).fields other ≡ option_and_then kept_fields (option_or (said other) (when (bytes_eq other tag) fs))
  fields-with_definition duplicate h other = fields_when duplicate h other (bytes_eq other tag) refl

  kept_same : {A : Type 0} (look : Environment → A) → ((gs : Fields) → look (with_struct env tag gs) ≡ look env) → (o : Option Fields) → look (with_fields env tag o) ≡ look env
  kept_same look same None = refl
  kept_same look same (Some gs) = same gs

  pub same_in_definition : {A : Type 0} (look : Environment → A) → ((gs : Fields) → look (with_struct env tag gs) ≡ look env) → (duplicate : Bool) → look (with_definition duplicate env tag fs) ≡ look env
  same_in_definition look same true = refl
  same_in_definition look same false = kept_same look same (kept_fields fs)

-- ---- an item more

module _ (before : List ParsedTree) (r r' : Reading) (k : Knows before [] r) where
  pub after_struct : (site : Site) (tag : List ℕ) (ds : List FieldDeclaration) (duplicate : Bool) → duplicate ≡ list_any (bytes_eq tag) r.structs →
      r'.structs ≡ sighted bytes_eq r.structs tag → environment_of r'.environment ≡ with_definition duplicate (environment_of r.environment) tag (fields_of ds) →
      (duplicate ≡ is_duplicate before (parsed (struct site tag ds))) × Knows (before ++ parsed (struct site tag ds) ∷ []) [] r'
  after_struct site tag ds duplicate h s e =
      let x : ParsedTree = parsed (struct site tag ds) in
      let env = environment_of r.environment in
      let known : duplicate ≡ is_some (first_of (fields_by tag) before) = h ∙ k.structs tag in (
        known,
        record {
          structs = λ other.
              ap (list_any (bytes_eq other)) s ∙ any-sighted r.structs tag other
              ∙ ap₂ (λ a b. a || b) (k.structs other) (sym (is_some-when (bytes_eq other tag) (fields_of ds)))
              ∙ sym (ap is_some (first_of-more (fields_by other) before x) ∙ is_some-or (first_of (fields_by other) before) (when (bytes_eq other tag) (fields_of ds)));
          holds = record {
            fields = λ other.
                ap (λ (v : Environment). v.fields other) e
                ∙ fields-with_definition env tag (fields_of ds) (λ t. first_of (fields_by t) before) k.holds.fields duplicate (sym known) other
                ∙ sym (ap (option_and_then kept_fields) (first_of-more (fields_by other) before x));
            signatures = λ name.
                ap (λ (v : Environment). v.signature name) e
                ∙ same_in_definition env tag (fields_of ds) (λ t. first_of (fields_by t) before) k.holds.fields (λ v. v.signature name) (λ gs. refl) duplicate
                ∙ k.holds.signatures name
                ∙ sym (ap (λ o. option_or o None) (first_of-unsaid (defined_by name) before x refl));
            types = λ t.
                ap (λ (v : Environment). v.type_number t) e
                ∙ same_in_definition env tag (fields_of ds) (λ t. first_of (fields_by t) before) k.holds.fields (λ v. v.type_number t) (λ gs. refl) duplicate
                ∙ k.holds.types t;
            names = λ name.
                ap (λ (v : Environment). v.proc_number name) e
                ∙ same_in_definition env tag (fields_of ds) (λ t. first_of (fields_by t) before) k.holds.fields (λ v. v.proc_number name) (λ gs. refl) duplicate
                ∙ k.holds.names name;
          };
        },
      )

  pub after_function : (site : Site) (result : ResultType) (name : List ℕ) (ps : List Parameter) (body : List StatementTree) (duplicate : Bool) →
      duplicate ≡ is_some ((environment_of r.environment).signature name) → r'.structs ≡ r.structs →
      environment_of r'.environment ≡ with_first (environment_of r.environment) name (signature_of result ps) →
      (duplicate ≡ is_duplicate before (parsed (function site result name ps body))) × Knows (before ++ parsed (function site result name ps body) ∷ []) [] r'
  after_function site result name ps body duplicate h s e =
      let x : ParsedTree = parsed (function site result name ps body) in
      let env = environment_of r.environment in
      let sg = signature_of result ps in (
        h ∙ ap is_some (k.holds.signatures name ∙ or-none (first_of (defined_by name) before)),
        record {
          structs = λ other. ap (list_any (bytes_eq other)) s ∙ k.structs other ∙ sym (ap is_some (first_of-unsaid (fields_by other) before x refl));
          holds = record {
            fields = λ other.
                ap (λ (v : Environment). v.fields other) e ∙ ap (λ f. f other) (others_when env name sg (is_some (env.signature name)))
                ∙ k.holds.fields other ∙ sym (ap (option_and_then kept_fields) (first_of-unsaid (fields_by other) before x refl));
            signatures = λ other.
                ap (λ (v : Environment). v.signature other) e ∙ signature-with_first env name sg other
                ∙ ap (λ o. option_or o (when (bytes_eq other name) sg)) (k.holds.signatures other ∙ or-none (first_of (defined_by other) before))
                ∙ sym (or-none (first_of (defined_by other) (before ++ x ∷ [])) ∙ first_of-more (defined_by other) before x);
            types = λ t. ap (λ (v : Environment). v.type_number t) e ∙ ap (λ f. f t) (types_when env name sg (is_some (env.signature name))) ∙ k.holds.types t;
            names = λ n. ap (λ (v : Environment). v.proc_number n) e ∙ ap (λ f. f n) (names_when env name sg (is_some (env.signature name))) ∙ k.holds.names n;
          };
        },
      )

-- an item that defines nothing
pub after_other : (before : List ParsedTree) (x : ParsedTree) (r : Reading) → ((tag : List ℕ) → fields_by tag x ≡ None) → ((name : List ℕ) → defined_by name x ≡ None) →
    Knows before [] r → Knows (before ++ x ∷ []) [] r
after_other before x r f d k = record {
  structs = λ tag. k.structs tag ∙ sym (ap is_some (first_of-unsaid (fields_by tag) before x (f tag)));
  holds = record {
    fields = λ tag. k.holds.fields tag ∙ sym (ap (option_and_then kept_fields) (first_of-unsaid (fields_by tag) before x (f tag)));
    signatures = λ name. k.holds.signatures name ∙ sym (ap (λ o. option_or o None) (first_of-unsaid (defined_by name) before x (d name)));
    types = k.holds.types;
    names = k.holds.names;
  };
}

-- a prototype more, and an item that is none
pub after_prototype : (defined before : List ParsedTree) (r r' : Reading) → Knows defined before r →
    (site : Site) (result : ResultType) (name : List ℕ) (ps : List Parameter) → r'.structs ≡ r.structs →
    environment_of r'.environment ≡ with_first (environment_of r.environment) name (signature_of result ps) →
    Knows defined (before ++ parsed (prototype site result name ps) ∷ []) r'
after_prototype defined before r r' k site result name ps s e =
    let x : ParsedTree = parsed (prototype site result name ps) in
    let env = environment_of r.environment in
    let sg = signature_of result ps in
    record {
      structs = λ other. ap (list_any (bytes_eq other)) s ∙ k.structs other;
      holds = record {
        fields = λ other. ap (λ (v : Environment). v.fields other) e ∙ ap (λ f. f other) (others_when env name sg (is_some (env.signature name))) ∙ k.holds.fields other;
        signatures = λ other.
            ap (λ (v : Environment). v.signature other) e ∙ signature-with_first env name sg other
            ∙ ap (λ o. option_or o (when (bytes_eq other name) sg)) (k.holds.signatures other)
            ∙ sym (ap (option_or (first_of (defined_by other) defined)) (first_of-more (declared_by other) before x)
            ∙ or_assoc (first_of (defined_by other) defined) (first_of (declared_by other) before) (when (bytes_eq other name) sg));
        types = λ t. ap (λ (v : Environment). v.type_number t) e ∙ ap (λ f. f t) (types_when env name sg (is_some (env.signature name))) ∙ k.holds.types t;
        names = λ n. ap (λ (v : Environment). v.proc_number n) e ∙ ap (λ f. f n) (names_when env name sg (is_some (env.signature name))) ∙ k.holds.names n;
      };
    }

pub after_no_prototype : (defined before : List ParsedTree) (x : ParsedTree) (r : Reading) → ((name : List ℕ) → declared_by name x ≡ None) → Knows defined before r →
    Knows defined (before ++ x ∷ []) r
after_no_prototype defined before x r d k = record {
  structs = k.structs;
  holds = record {
    fields = k.holds.fields;
    signatures = λ name. k.holds.signatures name ∙ sym (ap (option_or (first_of (defined_by name) defined)) (first_of-unsaid (declared_by name) before x (d name)));
    types = k.holds.types;
    names = k.holds.names;
  };
}

-- an environment in which nothing is declared
pub nothing_known : (r : Reading) → r.structs ≡ [] → environment_of r.environment ≡ empty_environment → Knows [] [] r
nothing_known r s e = record {
  structs = λ tag. ap (list_any (bytes_eq tag)) s;
  holds = record {
    fields = λ tag. ap (λ (v : Environment). v.fields tag) e;
    signatures = λ name. ap (λ (v : Environment). v.signature name) e;
    types = λ t. ap (λ (v : Environment). v.type_number t) e;
    names = λ name. ap (λ (v : Environment). v.proc_number name) e;
  };
}

-- ---- the answers of calls

abbrev pub Defines : Reading → Reading → Result Bool NoMemory → ParsedTree → Type 0
Defines r r' result x = (before : List ParsedTree) → Knows before [] r → IfOk result (λ duplicate. duplicate ≡ is_duplicate before x) × OnOk result (Knows (before ++ x ∷ []) [] r')

pub defines_struct : (r r' : Reading) (result : Result Bool NoMemory) (site : Site) (tag : List ℕ) (ds : List FieldDeclaration) →
    IfOk result (λ duplicate. duplicate ≡ list_any (bytes_eq tag) r.structs) → OnOk result (r'.structs ≡ sighted bytes_eq r.structs tag) →
    IfOk result (λ duplicate. environment_of r'.environment ≡ with_definition duplicate (environment_of r.environment) tag (fields_of ds)) →
    Defines r r' result (parsed (struct site tag ds))
defines_struct r r' (Ok duplicate) site tag ds h s e before k = after_struct before r r' k site tag ds duplicate h s e
defines_struct r r' (Err x) site tag ds h s e before k = (tt, tt)

pub defines_function : (r r' : Reading) (answer : Result Bool NoMemory) (site : Site) (result : ResultType) (name : List ℕ) (ps : List Parameter) (body : List StatementTree) →
    IfOk answer (λ duplicate. duplicate ≡ is_some ((environment_of r.environment).signature name)) → OnOk answer (r'.structs ≡ r.structs) →
    OnOk answer (environment_of r'.environment ≡ with_first (environment_of r.environment) name (signature_of result ps)) →
    Defines r r' answer (parsed (function site result name ps body))
defines_function r r' (Ok duplicate) site result name ps body h s e before k = after_function before r r' k site result name ps body duplicate h s e
defines_function r r' (Err x) site result name ps body h s e before k = (tt, tt)

-- an item that defines nothing is no duplicate
pub defines_nothing : (r : Reading) (x : ParsedTree) → ((tag : List ℕ) → fields_by tag x ≡ None) → ((name : List ℕ) → defined_by name x ≡ None) →
    ((before : List ParsedTree) → false ≡ is_duplicate before x) → Defines r r (Ok false) x
defines_nothing r x f d l before k = (l before, after_other before x r f d k)

abbrev pub Declares : Reading → Reading → ParsedTree → Type 0
Declares r r' x = (defined before : List ParsedTree) → Knows defined before r → Knows defined (before ++ x ∷ []) r'

pub declares_prototype : (r r' : Reading) (site : Site) (result : ResultType) (name : List ℕ) (ps : List Parameter) → r'.structs ≡ r.structs →
    environment_of r'.environment ≡ with_first (environment_of r.environment) name (signature_of result ps) → Declares r r' (parsed (prototype site result name ps))
declares_prototype r r' site result name ps s e defined before k = after_prototype defined before r r' k site result name ps s e

pub declares_nothing : (r : Reading) (x : ParsedTree) → ((name : List ℕ) → declared_by name x ≡ None) → Declares r r x
declares_nothing r x d defined before k = after_no_prototype defined before x r d k
