-- What is numbered after one sight, and after many.
use Rattle.std.proofs.Common.{◌≡◌, ◌∙◌, ℕ, Bool, true, false, ◌&&◌, List, [], ◌∷◌, ◌++◌, length, nat_eq, if◌then◌else◌, ◌+◌, ◌<◌, add-one, get_or, map, take, filter_map, flat_map, Option, None, Some, option_to_list, append-nil, refl, sym, ap, ap₂, subst, true≢false}
use Rattle.indexmap.specs.IndexSet.{insert_all}
use Rattle.std.specs.List.{list_any, cons_option}
use Rattle.std.proofs.lemmas.List.{take_more}
use Rattle.std.proofs.lemmas.List.Elements.{filter_map-append}
use Rattle.std.proofs.lemmas.List.Concat.{flat_map-append}
use Rattle.std.specs.Str.{bytes_eq}
use Rattle.std.specs.Cmp.{IsEquivalence}
use Rattle.std.proofs.lemmas.Cmp.{nat_eq_equiv, nat_list_eq_equiv}
use Rattle.px_syntax.specs.declared.type_name.Base.{Base}
use Rattle.px_syntax.specs.declared.type_name.Base.TheVariants.{Int, Struct}
use Rattle.px_syntax.specs.declared.type_name.TypeName.{TypeName}
use Rattle.px_bodies.specs.Types.{int, same_base, same_type}
use Rattle.px_bodies.specs.Environment.{Environment, Tables, environment_of, with_type_number, with_proc_number}
use Rattle.px_typing.specs.declared.numbering.Numbering.{Numbering}
use Rattle.px_typing.specs.Sights.{sighted}
use Rattle.px_typing.specs.Numberings.{with_numbers, Sees}
use Rattle.px_typing.specs.Keeping.{Judged}
use Rattle.px_typing.specs.Mentions.{Mention}
use Rattle.px_typing.specs.Programs.{behind, mentions, kept_name, left_name, mentioned_name, mentioned_blocks, called_blocks, seen_names, seen_blocks}
use Rattle.px_typing.specs.declared.marked.JudgedItem.{JudgedItem}
use Rattle.px_typing.specs.ItemViews.{judged_of}
use Rattle.px_typing.proofs.MentionLemmas.{mentions_next}
use Rattle.px_typing.proofs.NumberLemmas.{number-new, insert_all-append}
use Rattle.px_syntax.proofs.Lists.{map-take_more}

-- ---- types are compared by an equivalence

pub base_refl : (a : Base) → same_base a a ≡ true
base_refl Int = refl
base_refl (Struct a) = nat_list_eq_equiv.refl a

base_symm : (a b : Base) → same_base a b ≡ same_base b a
base_symm Int Int = refl
base_symm Int (Struct b) = refl
base_symm (Struct a) Int = refl
base_symm (Struct a) (Struct b) = nat_list_eq_equiv.symm a b

base_congr : (a b c : Base) → same_base a b ≡ true → same_base a c ≡ same_base b c
base_congr Int Int c h = refl
base_congr Int (Struct b) c h = absurd (true≢false (sym h))
base_congr (Struct a) Int c h = absurd (true≢false (sym h))
base_congr (Struct a) (Struct b) Int h = refl
base_congr (Struct a) (Struct b) (Struct c) h = nat_list_eq_equiv.congr a b c h

and_left : (a b : Bool) → (a && b) ≡ true → a ≡ true
and_left true b h = refl
and_left false b h = absurd (true≢false (sym h))

and_right : (a b : Bool) → (a && b) ≡ true → b ≡ true
and_right true b h = h
and_right false b h = absurd (true≢false (sym h))

pub same_type_equiv : IsEquivalence same_type
same_type_equiv = record {
  refl = λ t. ap₂ (λ a b. a && b) (base_refl t.base) (nat_eq_equiv.refl t.stars);
  symm = λ t u. ap₂ (λ a b. a && b) (base_symm t.base u.base) (nat_eq_equiv.symm t.stars u.stars);
  congr = λ t u v h. ap₂ (λ a b. a && b)
      (base_congr t.base u.base v.base (and_left (same_base t.base u.base) (nat_eq t.stars u.stars) h))
      (nat_eq_equiv.congr t.stars u.stars v.stars (and_right (same_base t.base u.base) (nat_eq t.stars u.stars) h));
}

-- ---- one sight

sighted_old : {A : Type 0} (same : A → A → Bool) (seen : List A) (x : A) → list_any (same x) seen ≡ true → sighted same seen x ≡ seen
sighted_old same seen x h = ap (λ b. if b then seen else seen ++ x ∷ []) h

sighted_new : {A : Type 0} (same : A → A → Bool) (seen : List A) (x : A) → list_any (same x) seen ≡ false → sighted same seen x ≡ seen ++ x ∷ []
sighted_new same seen x h = ap (λ b. if b then seen else seen ++ x ∷ []) h

module _ (old new : Numbering) where
  pub sees_old_name : (name : List ℕ) → new.names ≡ sighted bytes_eq old.names name → new.types ≡ old.types → list_any (bytes_eq name) old.names ≡ true →
      new.environment ≡ old.environment → Sees old new (name ∷ []) []
  sees_old_name name n t h e = record {
    names = n;
    types = t;
    numbers = λ env k. ap environment_of e ∙ k ∙ sym (ap₂ (with_numbers env) (n ∙ sighted_old bytes_eq old.names name h) t);
    signature = ap (λ v. (environment_of v).signature) e;
  }

  pub sees_new_name : (name : List ℕ) (number : ℕ) → number ≡ length old.names → new.names ≡ sighted bytes_eq old.names name → new.types ≡ old.types →
      list_any (bytes_eq name) old.names ≡ false → environment_of new.environment ≡ with_proc_number (environment_of old.environment) name number → Sees old new (name ∷ []) []
  sees_new_name name number l n t h e = record {
    names = n;
    types = t;
    numbers = λ env k.
        e ∙ ap₂ (λ (v : Environment) m. with_proc_number v name m) k l
        ∙ sym (λ i. record (with_numbers env old.names old.types) { proc_number = λ other. number-new bytes_eq nat_list_eq_equiv old.names name h other i })
        ∙ sym (ap₂ (with_numbers env) (n ∙ sighted_new bytes_eq old.names name h) t);
    signature = ap (λ (v : Environment). v.signature) e;
  }

  pub sees_old_type : (of : TypeName) → new.types ≡ sighted same_type old.types of → new.names ≡ old.names → list_any (same_type of) old.types ≡ true →
      new.environment ≡ old.environment → Sees old new [] (of ∷ [])
  sees_old_type of t n h e = record {
    names = n;
    types = t;
    numbers = λ env k. ap environment_of e ∙ k ∙ sym (ap₂ (with_numbers env) n (t ∙ sighted_old same_type old.types of h));
    signature = ap (λ v. (environment_of v).signature) e;
  }

  pub sees_new_type : (of : TypeName) (number : ℕ) → number ≡ length old.types → new.types ≡ sighted same_type old.types of → new.names ≡ old.names →
      list_any (same_type of) old.types ≡ false → environment_of new.environment ≡ with_type_number (environment_of old.environment) of number → Sees old new [] (of ∷ [])
  sees_new_type of number l t n h e = record {
    names = n;
    types = t;
    numbers = λ env k.
        e ∙ ap₂ (λ (v : Environment) m. with_type_number v of m) k l
        ∙ sym (λ i. record (with_numbers env old.names old.types) { type_number = λ other. number-new same_type same_type_equiv old.types of h other i })
        ∙ sym (ap₂ (with_numbers env) n (t ∙ sighted_new same_type old.types of h));
    signature = ap (λ (v : Environment). v.signature) e;
  }

-- ---- many sights

pub sees_nothing : (n : Numbering) → Sees n n [] []
sees_nothing n = record { names = refl; types = refl; numbers = λ env k. k; signature = refl }

pub sees_more : (a b c : Numbering) (ns ms : List (List ℕ)) (ts us : List TypeName) → Sees a b ns ts → Sees b c ms us → Sees a c (ns ++ ms) (ts ++ us)
sees_more a b c ns ms ts us h k = record {
  names = k.names ∙ ap (λ s. insert_all bytes_eq s ms) h.names ∙ sym (insert_all-append bytes_eq a.names ns ms);
  types = k.types ∙ ap (λ s. insert_all same_type s us) h.types ∙ sym (insert_all-append same_type a.types ts us);
  numbers = λ env n. k.numbers env (h.numbers env n);
  signature = k.signature ∙ h.signature;
}

-- one type more after stars
pub sees_after : (a b c : Numbering) (base : Base) (n : ℕ) → Sees a b [] (behind base n) → Sees b c [] (record { base = base; stars = n } ∷ []) → Sees a c [] (behind base (n + 1))
sees_after a b c base n h k = subst (λ m. Sees a c [] (behind base m)) (sym (add-one n)) (sees_more a b c [] [] (behind base n) (record { base = base; stars = n } ∷ []) h k)

-- the numbers that an environment has once these names and types are seen
pub environment_seen : (a b c : Numbering) (env : Tables) (base : Environment) (ns : List (List ℕ)) (ts : List TypeName) → a.names ≡ [] → a.types ≡ [] → a.environment ≡ env →
    environment_of env ≡ with_numbers base [] [] → Sees a b ns [] → Sees b c [] ts →
    environment_of c.environment ≡ with_numbers base (insert_all bytes_eq [] ns) (insert_all same_type [] ts)
environment_seen a b c env base ns ts on ot oe h k l =
    l.numbers base (k.numbers base (ap environment_of oe ∙ h ∙ sym (ap₂ (with_numbers base) on ot)))
    ∙ ap₂ (with_numbers base) (l.names ∙ k.names ∙ ap (λ s. insert_all bytes_eq s ns) on) (l.types ∙ ap (λ s. insert_all same_type s ts) (k.types ∙ ot))

-- ---- over a list, one item further

pub take_next : {A : Type 0} (xs : List A) (i : ℕ) (x : A) → i < length xs → x ≡ get_or xs i x → take (i + 1) xs ≡ take i xs ++ x ∷ []
take_next xs i x h e = take_more xs i x h ∙ ap (λ y. take i xs ++ y ∷ []) (sym e)

option_last : {A : Type 0} (o : Option A) → cons_option o [] ≡ option_to_list o
option_last None = refl
option_last (Some x) = refl

module _ {A B : Type 0} (see : A → B) (xs : List A) (i : ℕ) (x : A) (h : i < length xs) (e : x ≡ get_or xs i x) where
  names_next : (names : B → Option (List ℕ)) → filter_map names (map see (take (i + 1) xs)) ≡ filter_map names (map see (take i xs)) ++ option_to_list (names (see x))
  names_next names =
      ap (filter_map names) (map-take_more see xs i x h e)
      ∙ filter_map-append names (map see (take i xs)) (see x ∷ [])
      ∙ ap (λ z. filter_map names (map see (take i xs)) ++ z) (option_last (names (see x)))

  types_next : (types : B → List TypeName) → flat_map types (map see (take (i + 1) xs)) ≡ flat_map types (map see (take i xs)) ++ types (see x)
  types_next types =
      ap (flat_map types) (map-take_more see xs i x h e)
      ∙ flat_map-append types (map see (take i xs)) (see x ∷ [])
      ∙ ap (λ z. flat_map types (map see (take i xs)) ++ z) (append-nil (types (see x)))

  pub sees_next_name : (a b c : Numbering) (names : B → Option (List ℕ)) → Sees a b (filter_map names (map see (take i xs))) [] → Sees b c (option_to_list (names (see x))) [] →
      Sees a c (filter_map names (map see (take (i + 1) xs))) []
  sees_next_name a b c names k l =
      subst (λ ns. Sees a c ns []) (sym (names_next names)) (sees_more a b c (filter_map names (map see (take i xs))) (option_to_list (names (see x))) [] [] k l)

  pub sees_next_types : (a b c : Numbering) (types : B → List TypeName) → Sees a b [] (flat_map types (map see (take i xs))) → Sees b c [] (types (see x)) →
      Sees a c [] (flat_map types (map see (take (i + 1) xs)))
  sees_next_types a b c types k l =
      subst (λ ts. Sees a c [] ts) (sym (types_next types)) (sees_more a b c [] [] (flat_map types (map see (take i xs))) (types (see x)) k l)

  pub sees_next : (a b c : Numbering) (names : B → Option (List ℕ)) (types : B → List TypeName) →
      Sees a b (filter_map names (map see (take i xs))) (flat_map types (map see (take i xs))) → Sees b c (option_to_list (names (see x))) (types (see x)) →
      Sees a c (filter_map names (map see (take (i + 1) xs))) (flat_map types (map see (take (i + 1) xs)))
  sees_next a b c names types k l =
      subst (λ ts. Sees a c (filter_map names (map see (take (i + 1) xs))) ts) (sym (types_next types))
      (subst (λ ns. Sees a c ns (flat_map types (map see (take i xs)) ++ types (see x))) (sym (names_next names))
      (sees_more a b c (filter_map names (map see (take i xs))) (option_to_list (names (see x))) (flat_map types (map see (take i xs))) (types (see x)) k l))

-- what an item names, one item further
module _ (js : List JudgedItem) (i : ℕ) (j : JudgedItem) (h : i < length js) (e : j ≡ get_or js i j) (a b c : Numbering) where
  pub sees_next_item : (names : Mention → Option (List ℕ)) (types : Mention → List TypeName) →
      Sees a b (filter_map names (mentions (map judged_of (take i js)))) (flat_map types (mentions (map judged_of (take i js)))) →
      Sees b c (filter_map names (mentions (judged_of j ∷ []))) (flat_map types (mentions (judged_of j ∷ []))) →
      Sees a c (filter_map names (mentions (map judged_of (take (i + 1) js)))) (flat_map types (mentions (map judged_of (take (i + 1) js))))
  sees_next_item names types k l =
      let xs = mentions (map judged_of (take i js)) in
      let ys = mentions (judged_of j ∷ []) in
      subst (λ ms. Sees a c (filter_map names ms) (flat_map types ms)) (sym (mentions_next js i j h e))
      (subst (λ ns. Sees a c ns (flat_map types (xs ++ ys))) (sym (filter_map-append names xs ys))
      (subst (λ ts. Sees a c (filter_map names xs ++ filter_map names ys) ts) (sym (flat_map-append types xs ys))
      (sees_more a b c (filter_map names xs) (filter_map names ys) (flat_map types xs) (flat_map types ys) k l)))

  pub sees_next_results : (types : Mention → List TypeName) → Sees a b [] (flat_map types (mentions (map judged_of (take i js)))) →
      Sees b c [] (flat_map types (mentions (judged_of j ∷ []))) → Sees a c [] (flat_map types (mentions (map judged_of (take (i + 1) js))))
  sees_next_results types k l =
      let xs = mentions (map judged_of (take i js)) in
      let ys = mentions (judged_of j ∷ []) in
      subst (λ ms. Sees a c [] (flat_map types ms)) (sym (mentions_next js i j h e))
      (subst (λ ts. Sees a c [] ts) (sym (flat_map-append types xs ys)) (sees_more a b c [] [] (flat_map types xs) (flat_map types ys) k l))

-- all that a program numbers
pub sees_whole : (a b c d e f : Numbering) (js : List Judged) (ms : List Mention) → Sees a b (filter_map kept_name js) [] → Sees b c (filter_map left_name js) [] →
    Sees c d [] (int ∷ []) → Sees d e (filter_map mentioned_name ms) (flat_map mentioned_blocks ms) →
    Sees e f [] (flat_map (called_blocks (environment_of e.environment).signature) ms) →
    Sees a f (seen_names js ms) (seen_blocks (environment_of a.environment).signature ms)
sees_whole a b c d e f js ms kept left one named results =
    let kn = filter_map kept_name js in
    let ln = filter_map left_name js in
    let mn = filter_map mentioned_name ms in
    let mb = flat_map mentioned_blocks ms in
    let sg = (environment_of a.environment).signature in
    let same : (environment_of e.environment).signature ≡ sg = named.signature ∙ one.signature ∙ left.signature ∙ kept.signature in
    let rs = flat_map (called_blocks sg) ms in
    let last : Sees e f [] rs = subst (λ s. Sees e f [] (flat_map (called_blocks s) ms)) same results in
    let tail : Sees d f (mn ++ []) (mb ++ rs) = sees_more d e f mn [] mb rs named last in
    let tail2 : Sees c f (mn ++ []) (int ∷ (mb ++ rs)) = sees_more c d f [] (mn ++ []) (int ∷ []) (mb ++ rs) one tail in
    let tail3 : Sees b f (ln ++ (mn ++ [])) (int ∷ (mb ++ rs)) = sees_more b c f ln (mn ++ []) [] (int ∷ (mb ++ rs)) left tail2 in
    subst (λ n. Sees a f (kn ++ (ln ++ n)) (int ∷ (mb ++ rs))) (append-nil mn) (sees_more a b f kn (ln ++ (mn ++ [])) [] (int ∷ (mb ++ rs)) kept tail3)
