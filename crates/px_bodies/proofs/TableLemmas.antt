-- A table that is read through its keys and values, after one more entry is put in.
use Rattle.std.proofs.Common.{◌≡◌, ◌∙◌, refl, sym, ap, ℕ, Bool, true, false, cond, ◌&&◌, List, [], ◌∷◌, map, Option, Some, None, option_map, nat_eq}
use Rattle.std.specs.Map.{lookup}
use Rattle.std.specs.Borrow.{Bor}
use Rattle.std.specs.Prelude.{bytes_eq, unwrap_or}
use Rattle.px_syntax.specs.declared.type_name.Base.{Base}
use Rattle.px_syntax.specs.declared.type_name.Base.TheVariants.{Int, Struct}
use Rattle.px_syntax.specs.declared.type_name.TypeName.{TypeName}
use Rattle.px_bodies.specs.declared.types.CType.{CType}
use Rattle.px_bodies.specs.Types.{same_type, same_base}
use Rattle.px_bodies.specs.Environment.{Tables, Signature, environment_of, with_struct, with_signature, with_type_number, with_proc_number}
use Rattle.std.specs.Option.{option_eq}
use Rattle.px_bodies.specs.Lent.{type_of, base_of, lent_type}

module _ {K V A B : Type 0} (read : K → A) (value : V → B) where
  pub lookup-map : (test : A → Bool) (es : List (K × V)) → lookup test (map (λ e. (read e.0, value e.1)) es) ≡ option_map value (lookup (λ k. test (read k)) es)
  lookup-map test [] = refl
  lookup-map test (e ∷ es) = by (test (read e.0)) _ _ (lookup-map test es)
    where
      by : (b : Bool) (o : Option B) (p : Option V) → o ≡ option_map value p → cond b (Some (value e.1)) o ≡ option_map value (cond b (Some e.1) p)
      by true o p h = refl
      by false o p h = h

  mapped : (b : Bool) (v : V) (o : Option V) → option_map value (cond b (Some v) o) ≡ cond b (Some (value v)) (option_map value o)
  mapped true v o = refl
  mapped false v o = refl

  -- what a test finds, where it found so in the table itself
  pub put : (test : A → Bool) (b : Bool) (v : V) (old new : List (K × V)) → lookup (λ k. test (read k)) new ≡ cond b (Some v) (lookup (λ k. test (read k)) old)
      → lookup test (map (λ e. (read e.0, value e.1)) new) ≡ cond b (Some (value v)) (lookup test (map (λ e. (read e.0, value e.1)) old))
  put test b v old new h =
      lookup-map test new ∙ ap (option_map value) h ∙ mapped b v (lookup (λ k. test (read k)) old) ∙ ap (cond b (Some (value v))) (sym (lookup-map test old))

-- a table that is read through its keys alone
pub lookup-keys : {K A X : Type 0} (read : K → A) (test : A → Bool) (es : List (K × X)) → lookup (λ k. test (read k)) es ≡ lookup test (map (λ e. (read e.0, e.1)) es)
lookup-keys read test [] = refl
lookup-keys read test (e ∷ es) = ap (cond (test (read e.0)) (Some e.1)) (lookup-keys read test es)

-- a number at a key
pub numbered : (b : Bool) (n : ℕ) (o p : Option ℕ) → o ≡ cond b (Some n) p → unwrap_or o 0 ≡ cond b n (unwrap_or p 0)
numbered true n o p h = ap (λ z. unwrap_or z 0) h
numbered false n o p h = ap (λ z. unwrap_or z 0) h

-- a key for each name, and for each type
abbrev pub name_key : List ℕ → Bor (List ℕ)
name_key bytes = record { ref_ptr = (0, 0); now = bytes }

abbrev pub base_key : Base → Option (Bor (List ℕ))
base_key Int = None
base_key (Struct tag) = Some (record { ref_ptr = (0, 0); now = tag })

abbrev pub type_key : TypeName → CType
type_key t = record { tag = base_key t.base; stars = t.stars }

base_key_is : (b : Base) → base_of (base_key b) ≡ b
base_key_is Int = refl
base_key_is (Struct tag) = refl

pub type_key_is : (t : TypeName) → type_of (type_key t) ≡ t
type_key_is t = ap (λ b. record { base = b; stars = t.stars }) (base_key_is t.base)

-- ---- an environment after one more entry

pub struct_added : (t : Tables) (structs : List (List ℕ × List (List ℕ × TypeName))) (tag : List ℕ) (fields : List (List ℕ × TypeName))
    → ((other : List ℕ) → lookup (bytes_eq other) structs ≡ cond (bytes_eq tag other) (Some fields) (lookup (bytes_eq other) t.structs))
    → environment_of (record t { structs = structs }) ≡ with_struct (environment_of t) tag fields
struct_added t structs tag fields h = λ i. record (environment_of t) { fields = λ other. h other i }

pub signature_added : (t : Tables) (signatures : List (List ℕ × Signature)) (name : List ℕ) (signature : Signature)
    → ((other : List ℕ) → lookup (bytes_eq other) signatures ≡ cond (bytes_eq name other) (Some signature) (lookup (bytes_eq other) t.signatures))
    → environment_of (record t { signatures = signatures }) ≡ with_signature (environment_of t) name signature
signature_added t signatures name signature h = λ i. record (environment_of t) { signature = λ other. h other i }

pub type_added : (t : Tables) (types : List (TypeName × ℕ)) (of : TypeName) (number : ℕ)
    → ((other : TypeName) → lookup (same_type other) types ≡ cond (same_type of other) (Some number) (lookup (same_type other) t.types))
    → environment_of (record t { types = types }) ≡ with_type_number (environment_of t) of number
type_added t types of number h = λ i. record (environment_of t) { type_number = λ other. numbered (same_type of other) number _ _ (h other) i }

pub name_added : (t : Tables) (procs : List (List ℕ × ℕ)) (name : List ℕ) (number : ℕ)
    → ((other : List ℕ) → lookup (bytes_eq other) procs ≡ cond (bytes_eq name other) (Some number) (lookup (bytes_eq other) t.procs))
    → environment_of (record t { procs = procs }) ≡ with_proc_number (environment_of t) name number
name_added t procs name number h = λ i. record (environment_of t) { proc_number = λ other. numbered (bytes_eq name other) number _ _ (h other) i }

-- ---- the comparison of lent types is that of types

same_tags : (a b : Option (Bor (List ℕ))) → option_eq (λ (x y : Bor (List ℕ)). bytes_eq x.now y.now) a b ≡ same_base (base_of a) (base_of b)
same_tags None None = refl
same_tags None (Some y) = refl
same_tags (Some x) None = refl
same_tags (Some x) (Some y) = refl

abbrev pub lent_eq : CType → CType → Bool
lent_eq x y = option_eq (λ (x y : Bor (List ℕ)). bytes_eq x.now y.now) x.tag y.tag && nat_eq x.stars y.stars

pub lent_eq_is : (x y : CType) → lent_eq x y ≡ same_type (type_of x) (type_of y)
lent_eq_is x y = ap (λ b. b && nat_eq x.stars y.stars) (same_tags x.tag y.tag)

-- what a lent type finds is what the test for the type finds
pub same_found : (t : CType) (es : List (CType × ℕ)) → lookup (lent_eq t) es ≡ lookup (λ k. same_type (type_of t) (type_of k)) es
same_found t es = λ i. lookup (λ k. lent_eq_is t k i) es

-- what a key of type t finds is what the test for t finds
pub found_type : (t : TypeName) (es : List (CType × ℕ)) → lookup (lent_eq (type_key t)) es ≡ lookup (λ k. same_type t (type_of k)) es
found_type t es = (λ i. lookup (λ k. lent_eq_is (type_key t) k i) es) ∙ ap (λ u. lookup (λ k. same_type u (type_of k)) es) (type_key_is t)

-- a type is put in
pub type_put : (of : CType) (number : ℕ) (old new : List (CType × ℕ))
    → ((q : CType) → lookup (lent_eq q) new ≡ cond (lent_eq of q) (Some number) (lookup (lent_eq q) old))
    → (t : TypeName) → lookup (same_type t) (map lent_type new) ≡ cond (same_type (type_of of) t) (Some number) (lookup (same_type t) (map lent_type old))
type_put of number old new h t = put type_of (λ n. n) (same_type t) _ number old new
    (sym (found_type t new) ∙ h (type_key t)
    ∙ ap (λ b. cond b (Some number) (lookup (lent_eq (type_key t)) old)) (lent_eq_is of (type_key t) ∙ ap (same_type (type_of of)) (type_key_is t))
    ∙ ap (cond (same_type (type_of of) t) (Some number)) (found_type t old))
