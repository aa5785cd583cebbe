-- The fields of the structs that are defined are mentioned.
use Rattle.std.proofs.Common.{◌≡◌, ◌∙◌, ℕ, Bool, true, false, not, ◌&&◌, List, [], ◌∷◌, ◌++◌, length, flat_map, is_some, nat_lt, bytes_eq, codes, Option, Some, None, option_and_then, refl, sym, ap, ap₂, subst, true≢false}
use Rattle.std.specs.Option.{option_or}
use Rattle.std.specs.List.{AllByRecursion, cons_option}
use Rattle.std.proofs.lemmas.Slice.Eq.{bytes_eq-Decides}
use Rattle.std.proofs.lemmas.Bool.{not-true, and_parts}
use Rattle.px_syntax.specs.declared.type_name.TypeName.{TypeName}
use Rattle.px_syntax.specs.declared.item.FieldDeclaration.{FieldDeclaration}
use Rattle.px_syntax.specs.ItemTree.{ItemTree, struct, declared, prototype, function}
use Rattle.px_syntax.specs.ParsedTree.{ParsedTree, parsed, out}
use Rattle.px_bodies.specs.Types.{when}
use Rattle.px_bodies.specs.Environment.{fields_of}
use Rattle.px_typing.specs.Declarations.{Fields, first_of, fields_by, kept_fields, are_typed_fields, fields_in}
use Rattle.px_typing.specs.Keeping.{is_duplicate, first_word, word_of, Judged, kept_tree, kept_trees}
use Rattle.px_typing.specs.Mentions.{Mention, of_type, of_item}
use Rattle.px_typing.proofs.ReadingLemmas.{first_of-more}
use Rattle.px_programs.proofs.Lists.{all_first, all_second}
use Rattle.px_programs.proofs.KeptItems.{judged_after, bare}

-- what is kept, and why
when_given : (b : Bool) (fs gs : Fields) → when b fs ≡ Some gs → (b ≡ true) × (fs ≡ gs)
when_given true fs gs h = (refl, cc)
when_given false fs gs h = absurd cc

no_word : (a b c : Bool) (w1 w2 w3 : List ℕ) → a ≡ false → b ≡ false → c ≡ true → first_word ((a, w1) ∷ (b, w2) ∷ (not c, w3) ∷ []) ≡ None
no_word true b c w1 w2 w3 h k l = absurd (true≢false h)
no_word false true c w1 w2 w3 h k l = absurd (true≢false k)
no_word false false true w1 w2 w3 h k l = refl
no_word false false false w1 w2 w3 h k l = absurd (true≢false (sym l))

module _ (items : List ParsedTree) (Q : Mention → Type 0) (tag : List ℕ) (fs : Fields) (few : nat_lt 64 (length fs) ≡ false) (typed : are_typed_fields fs ≡ true) where
  abbrev OfKept : List Judged → Type 0
  OfKept js = AllByRecursion Q (flat_map of_item (kept_trees js))

  abbrev AreMentioned : Type 0
  AreMentioned = AllByRecursion Q (flat_map (λ (f : List ℕ × TypeName). of_type f.1) fs)

  of_rest : (o : Option ItemTree) (ts : List ItemTree) → AllByRecursion Q (flat_map of_item (cons_option o ts)) → AllByRecursion Q (flat_map of_item ts)
  of_rest None ts h = h
  of_rest (Some x) ts h = all_second Q (of_item x) (flat_map of_item ts) h

  -- an item that says nothing of the struct
  passed : (before xs : List ParsedTree) (x : ParsedTree) (j : Judged) (js : List Judged) → first_of (fields_by tag) before ≡ None → fields_by tag x ≡ None
      → option_or (fields_by tag x) (first_of (fields_by tag) xs) ≡ Some fs → OfKept (j ∷ js)
      → (first_of (fields_by tag) (before ++ x ∷ []) ≡ None → first_of (fields_by tag) xs ≡ Some fs → OfKept js → AreMentioned) → AreMentioned
  passed before xs x j js none says h k on =
      on (first_of-more (fields_by tag) before x ∙ ap₂ option_or none says) (ap (λ o. option_or o (first_of (fields_by tag) xs)) (sym says) ∙ h) (of_rest (kept_tree j) (kept_trees js) k)

  -- the definition of this struct, or of another
  defined : (before xs : List ParsedTree) (site : _) (name : List ℕ) (ds : List FieldDeclaration) (js : List Judged) → first_of (fields_by tag) before ≡ None → (b : Bool) → bytes_eq tag name ≡ b
      → option_or (when b (fields_of ds)) (first_of (fields_by tag) xs) ≡ Some fs
      → OfKept (record { item = parsed (struct site name ds); word = word_of (bare items) (is_duplicate before (parsed (struct site name ds))) (parsed (struct site name ds)) } ∷ js)
      → (first_of (fields_by tag) (before ++ parsed (struct site name ds) ∷ []) ≡ None → first_of (fields_by tag) xs ≡ Some fs → OfKept js → AreMentioned) → AreMentioned
  defined before xs site name ds js none true e h k on =
      let same : fields_of ds ≡ fs = cc in
      let duplicate : is_some (first_of (fields_by name) before) ≡ false = ap (λ t. is_some (first_of (fields_by t) before)) (sym ((bytes_eq-Decides tag name).0 e)) ∙ ap is_some none in
      let word = no_word (is_some (first_of (fields_by name) before)) (nat_lt 64 (length (fields_of ds))) (are_typed_fields (fields_of ds)) (codes "duplicate") (codes "fields") (codes "type")
      duplicate (ap (λ gs. nat_lt 64 (length gs)) same ∙ few) (ap are_typed_fields same ∙ typed) in
      let kept = subst (λ w. OfKept (record { item = parsed (struct site name ds); word = w } ∷ js)) word k in
      subst (λ gs. AllByRecursion Q (flat_map (λ (f : List ℕ × TypeName). of_type f.1) gs)) same
      (all_first Q (flat_map (λ (f : List ℕ × TypeName). of_type f.1) (fields_of ds)) (flat_map of_item (kept_trees js)) kept.1)
  defined before xs site name ds js none false e h k on =
      let x = parsed (struct site name ds) in
      let says : fields_by tag x ≡ None = ap (λ b. when b (fields_of ds)) e in
      on (first_of-more (fields_by tag) before x ∙ ap₂ option_or none says) h (of_rest (kept_tree (record { item = x; word = word_of (bare items) (is_duplicate before x) x })) (kept_trees js) k)

  mentioned : (before xs : List ParsedTree) → first_of (fields_by tag) before ≡ None → first_of (fields_by tag) xs ≡ Some fs → OfKept (judged_after items before xs) → AreMentioned
  mentioned before [] none h k = absurd (none_some h)
    where
      none_some : None ≡ Some fs → ⊥
      none_some g = cc
  mentioned before (parsed (struct site name ds) ∷ xs) none h k =
      let x = parsed (struct site name ds) in
      defined before xs site name ds (judged_after items (before ++ x ∷ []) xs) none (bytes_eq tag name) refl h k (mentioned (before ++ x ∷ []) xs)
  mentioned before (parsed (declared site name) ∷ xs) none h k =
      let x = parsed (declared site name) in
      passed before xs x (record { item = x; word = word_of (bare items) (is_duplicate before x) x }) (judged_after items (before ++ x ∷ []) xs) none refl h k (mentioned (before ++ x ∷ []) xs)
  mentioned before (parsed (prototype site result name ps) ∷ xs) none h k =
      let x = parsed (prototype site result name ps) in
      passed before xs x (record { item = x; word = word_of (bare items) (is_duplicate before x) x }) (judged_after items (before ++ x ∷ []) xs) none refl h k (mentioned (before ++ x ∷ []) xs)
  mentioned before (parsed (function site result name ps body) ∷ xs) none h k =
      let x = parsed (function site result name ps body) in
      passed before xs x (record { item = x; word = word_of (bare items) (is_duplicate before x) x }) (judged_after items (before ++ x ∷ []) xs) none refl h k (mentioned (before ++ x ∷ []) xs)
  mentioned before (out name site word ∷ xs) none h k =
      let x = out name site word in
      passed before xs x (record { item = x; word = word_of (bare items) (is_duplicate before x) x }) (judged_after items (before ++ x ∷ []) xs) none refl h k (mentioned (before ++ x ∷ []) xs)

module _ (items : List ParsedTree) (Q : Mention → Type 0) (tag : List ℕ) where
  by_first : (o : Option Fields) (gs : Fields) → first_of (fields_by tag) items ≡ o → option_and_then kept_fields o ≡ Some gs
      → AllByRecursion Q (flat_map of_item (kept_trees (judged_after items [] items))) → AllByRecursion Q (flat_map (λ (f : List ℕ × TypeName). of_type f.1) gs)
  by_first None gs is h k = absurd cc
  by_first (Some fs) gs is h k =
      let r = when_given (not (nat_lt 64 (length fs)) && are_typed_fields fs) fs gs h in
      let rules = and_parts (not (nat_lt 64 (length fs))) (are_typed_fields fs) r.0 in
      subst (λ l. AllByRecursion Q (flat_map (λ (f : List ℕ × TypeName). of_type f.1) l)) r.1
      (mentioned items Q tag fs (not-true (nat_lt 64 (length fs)) rules.0) rules.1 [] items refl is k)

  -- the fields of each struct that is defined
  pub fields_mentioned : (gs : Fields) → fields_in items tag ≡ Some gs
      → AllByRecursion Q (flat_map of_item (kept_trees (judged_after items [] items))) → AllByRecursion Q (flat_map (λ (f : List ℕ × TypeName). of_type f.1) gs)
  fields_mentioned gs h k = by_first (first_of (fields_by tag) items) gs refl h k
