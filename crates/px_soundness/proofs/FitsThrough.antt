-- The values of a callee's variables, as the caller's contents give them, fit the callee's variables.
use Rattle.std.proofs.Common.{◌≡◌, ◌≢◌, ℕ, true, Option, Some, None, List, slice_get, refl, sym, ap, ◌∙◌, subst}
use Rattle.std.proofs.lemmas.Bool.{and_parts, eqb-true}
use Rattle.std.proofs.lemmas.Option.{same_Some}
use Rattle.px_terms.specs.Valuations.{Valuation, HasType, FitsSort, Fits}
use Rattle.px_terms.specs.Conjuncts.{word_of, IsTrueUnder}
use Rattle.px_terms.specs.declared.types.TypeId.{TypeId}
use Rattle.px_terms.specs.declared.types.ValueType.{ValueType}
use Rattle.px_terms.specs.declared.types.ValueType.TheVariants.{Int, Pointer}
use Rattle.px_terms.specs.declared.types.Value.{Value}
use Rattle.px_terms.specs.declared.types.Value.TheVariants as value
use Rattle.px_terms.specs.declared.variables.Var.{Var}
use Rattle.px_terms.specs.declared.variables.VarInfo.{VarInfo}
use Rattle.px_terms.specs.declared.variables.Sort.{Sort}
use Rattle.px_terms.specs.declared.variables.Sort.TheVariants as sort
use Rattle.px_terms.specs.declared.conjuncts.Place.TheVariants as place
use Rattle.px_terms.specs.declared.conjuncts.Content.{Content}
use Rattle.px_terms.specs.declared.conjuncts.Content.TheVariants.{Unwritten, Word, Place, Cell}
use Rattle.px_terms.specs.declared.conjuncts.Conj.{Conj}
use Rattle.px_terms.specs.Substitutions.{content_for, variable}
use Rattle.px_terms.proofs.WordLaws.{words_are_signed}
use Rattle.px_entry.specs.Sorts.{is_cell_sort, same_type, is_pointer_type, is_cell, is_made, has_type, is_input, is_input_sort}
use Rattle.px_entry.specs.Contents.{is_written_of, fits_cell}
use Rattle.px_entry.specs.Standing.{content_value}
use Rattle.px_entry.proofs.Lists.{Each}
use Rattle.px_callgraph.specs.Renaming.{Substitution}
use Rattle.px_soundness.proofs.WellFormed.{Good}
use Rattle.px_soundness.proofs.AtomHeaps.{absent}
use Rattle.px_soundness.proofs.Truths.{variable_is, made_is, made_block}
use Rattle.px_soundness.proofs.Contents.{good_place}
use Rattle.px_soundness.proofs.Through.{stood, through, cell_sort}
use Rattle.px_terms.proofs.TermWords.{below}

-- ---- what may stand for a variable

-- by its sort and type; for an input a variable that is one too
abbrev pub Suits : List VarInfo → Sort → ValueType → Content → Type 0
Suits vars sort.Given t c = is_written_of vars t c ≡ true
Suits vars sort.Cell t c = fits_cell vars t c ≡ true
Suits vars sort.Input t c = (m : ℕ) × (c ≡ Word (variable m)) × (is_input vars m ≡ true) × (is_written_of vars t c ≡ true)
Suits vars sort.Made t c = (m : Var) × (c ≡ Place (place.Var m)) × (is_made vars m.0 ≡ true) × (has_type vars t m.0 ≡ true)

-- the variable that a content is
abbrev pub variable_of : Content → Option ℕ
variable_of Unwritten = None
variable_of (Word p) = None
variable_of (Place place.Null) = None
variable_of (Place (place.Var m)) = Some m.0
variable_of (Cell m) = Some m.0

-- what stands for each variable of an entry: good contents, by sort and type, and a variable of its own for what was made
pub record Stands (vars : List VarInfo) (pure : List Conj) (xs : List VarInfo) (σ : Substitution) : Type 0 where
  pub content : (x : ℕ) (i : VarInfo) → slice_get xs x ≡ Some i → (c : Content) × (content_for σ x ≡ Some c) × Good vars pure c × Suits vars i.sort i.value c
  pub apart : (x y : ℕ) (i k : VarInfo) (c d : Content) (m n : ℕ) → slice_get xs x ≡ Some i → slice_get xs y ≡ Some k → i.sort ≡ sort.Made → x ≢ y →
      content_for σ x ≡ Some c → content_for σ y ≡ Some d → variable_of c ≡ Some m → variable_of d ≡ Some n → m ≢ n

input_suits : (vars : List VarInfo) (s : Sort) (t : ValueType) (c : Content) → is_input_sort s ≡ true → Suits vars s t c → Suits vars sort.Input t c
input_suits vars sort.Given t c e h = cc
input_suits vars sort.Cell t c e h = cc
input_suits vars sort.Input t c e h = h
input_suits vars sort.Made t c e h = cc

-- an input stands for an input
pub input_content : (vars : List VarInfo) (pure : List Conj) (xs : List VarInfo) (σ : Substitution) → Stands vars pure xs σ → (y : ℕ) → is_input xs y ≡ true →
    (m : ℕ) × (content_for σ y ≡ Some (Word (variable m))) × (is_input vars m ≡ true) × Good vars pure (Word (variable m))
input_content vars pure xs σ stands y e =
    let (i, at, input) = variable_is xs (λ (i : VarInfo). is_input_sort i.sort) y e in
    let (c, is, g, h) = stands.content y i at in
    let (m, same, here, written) = input_suits vars i.sort i.value c input h in
    (m, is ∙ ap Some same, here, subst (Good vars pure) same g)

pub same_is : (s t : ValueType) → same_type s t ≡ true → s ≡ t
same_is Int Int e = refl
same_is Int (Pointer t) e = cc
same_is (Pointer s) Int e = cc
same_is (Pointer s) (Pointer t) e = ap (λ n. Pointer (record { 0 = n })) (eqb-true s.0 t.0 e)

in_cell : (t : ValueType) (u : Value) → HasType t u → FitsSort sort.Cell t u
in_cell t (value.Word z) h = h
in_cell t value.Null h = h
in_cell t (value.Block n) h = h
in_cell t value.Unwritten h = tt

module _ (vars : List VarInfo) (pure : List Conj) (v : Valuation) (fits : Fits vars v) (true_of : Each (IsTrueUnder v) pure) where
  -- ---- values by sort and type

  typed : (t : ValueType) (x : ℕ) → has_type vars t x ≡ true → (i : VarInfo) × (slice_get vars x ≡ Some i) × (i.value ≡ t)
  typed t x e = let (i, at, same) = variable_is vars (λ (i : VarInfo). same_type i.value t) x e in (i, at, same_is i.value t same)

  written_value : (t : ValueType) (c : Content) → is_written_of vars t c ≡ true → Good vars pure c → HasType t (content_value v c)
  written_value Int (Word p) e g = words_are_signed.signed_fits (word_of v p) (below v p)
  written_value (Pointer t) (Place a) e g = good_place vars pure v a fits true_of g
  written_value Int (Place a) e g = cc
  written_value (Pointer t) (Word p) e g = cc
  written_value Int Unwritten e g = cc
  written_value (Pointer t) Unwritten e g = cc
  written_value Int (Cell x) e g = cc
  written_value (Pointer t) (Cell x) e g = cc

  cell_value : (t : ValueType) (c : Content) → fits_cell vars t c ≡ true → Good vars pure c → FitsSort sort.Cell t (content_value v c)
  cell_value t Unwritten e g = tt
  cell_value t (Word p) e g = in_cell t (content_value v (Word p)) (written_value t (Word p) e g)
  cell_value t (Place a) e g = in_cell t (content_value v (Place a)) (written_value t (Place a) e g)
  cell_value t (Cell x) e g =
      let b = and_parts (is_cell vars x.0) (has_type vars t x.0) e in
      let (i, at, is) = variable_is vars (λ (i : VarInfo). is_cell_sort i.sort) x.0 b.0 in
      let (k, at', same) = typed t x.0 b.1 in
      let one : i ≡ k = same_Some _ _ (sym at ∙ at') in
      subst (λ z. FitsSort sort.Cell z (v x.0)) (ap (λ (z : VarInfo). z.value) one ∙ same) (subst (λ s. FitsSort s i.value (v x.0)) (cell_sort i.sort is) (fits.sorts x.0 i at))

  made_value : (t : ValueType) (m : ℕ) → is_made vars m ≡ true → has_type vars t m ≡ true → FitsSort sort.Made t (v m)
  made_value t m e f =
      let (i, at, is) = made_is vars m e in
      let (k, at', same) = typed t m f in
      let one : i ≡ k = same_Some _ _ (sym at ∙ at') in
      subst (λ z. FitsSort sort.Made z (v m)) (ap (λ (z : VarInfo). z.value) one ∙ same) (subst (λ s. FitsSort s i.value (v m)) is (fits.sorts m i at))

  sort_value : (s : Sort) (t : ValueType) (c : Content) → Suits vars s t c → Good vars pure c → FitsSort s t (content_value v c)
  sort_value sort.Given t c h g = written_value t c h g
  sort_value sort.Cell t c h g = cell_value t c h g
  sort_value sort.Input t c h g = written_value t c h.3 g
  sort_value sort.Made t c (m, is, made, type) g = subst (λ z. FitsSort sort.Made t (content_value v z)) (sym is) (made_value t m.0 made type)

  -- ---- the variable of a block

  block_of_variable : (c : Content) (n : ℕ) → content_value v c ≡ value.Block n → (m : ℕ) × (variable_of c ≡ Some m) × (v m ≡ value.Block n)
  block_of_variable Unwritten n e = cc
  block_of_variable (Word p) n e = cc
  block_of_variable (Place place.Null) n e = cc
  block_of_variable (Place (place.Var m)) n e = (m.0, refl, e)
  block_of_variable (Cell m) n e = (m.0, refl, e)

  listed : (c : Content) (m : ℕ) → Good vars pure c → variable_of c ≡ Some m → (i : VarInfo) × (slice_get vars m ≡ Some i)
  listed Unwritten m g e = absent e
  listed (Word p) m g e = absent e
  listed (Place place.Null) m g e = absent e
  listed (Place (place.Var x)) m g e = let (i, at, is) = variable_is vars (λ (i : VarInfo). is_pointer_type i.value) x.0 g.0 in (i, subst (λ z. slice_get vars z ≡ Some i) (same_Some _ _ e) at)
  listed (Cell x) m g e = let (i, at, is) = variable_is vars (λ (i : VarInfo). is_cell_sort i.sort) x.0 g in (i, subst (λ z. slice_get vars z ≡ Some i) (same_Some _ _ e) at)

  -- a pointer to blocks of a type is by a variable of that type
  written_type : (b : TypeId) (c : Content) (m : ℕ) → is_written_of vars (Pointer b) c ≡ true → variable_of c ≡ Some m → has_type vars (Pointer b) m ≡ true
  written_type b Unwritten m e f = cc
  written_type b (Word p) m e f = cc
  written_type b (Place place.Null) m e f = absent f
  written_type b (Place (place.Var x)) m e f = subst (λ z. has_type vars (Pointer b) z ≡ true) (same_Some _ _ f) e
  written_type b (Cell x) m e f = cc

  variable_type : (s : Sort) (b : TypeId) (c : Content) (m : ℕ) → Suits vars s (Pointer b) c → variable_of c ≡ Some m → has_type vars (Pointer b) m ≡ true
  variable_type sort.Given b c m h f = written_type b c m h f
  variable_type sort.Input b c m h f = written_type b c m h.3 f
  variable_type sort.Made b c m (x, is, made, type) f = let g : x.0 ≡ m = same_Some _ _ (sym (ap variable_of is) ∙ f) in subst (λ z. has_type vars (Pointer b) z ≡ true) g type
  variable_type sort.Cell b Unwritten m h f = absent f
  variable_type sort.Cell b (Word p) m h f = absent f
  variable_type sort.Cell b (Place a) m h f = written_type b (Place a) m h f
  variable_type sort.Cell b (Cell x) m h f = subst (λ z. has_type vars (Pointer b) z ≡ true) (same_Some _ _ f) (and_parts (is_cell vars x.0) (has_type vars (Pointer b) x.0) h).1

  module _ (xs : List VarInfo) (σ : Substitution) (stands : Stands vars pure xs σ) where
    w : Valuation
    w = through v σ

    is_block_of : (x n : ℕ) (c : Content) → content_for σ x ≡ Some c → through v σ x ≡ value.Block n → content_value v c ≡ value.Block n
    is_block_of x n c is e = sym (ap (stood v) is) ∙ e

    made_apart : (x y : ℕ) (i k : VarInfo) → slice_get xs x ≡ Some i → slice_get xs y ≡ Some k → i.sort ≡ sort.Made → x ≢ y → through v σ x ≢ through v σ y
    made_apart x y i k at at' is ne same =
        let (c, is_c, g, h) = stands.content x i at in
        let (d, is_d, g', h') = stands.content y k at' in
        let (m, is_m, made, type) = subst (λ s. Suits vars s i.value c) is h in
        let (n, block) = made_block vars v m.0 fits made in
        let at_x : through v σ x ≡ value.Block n = ap (stood v) is_c ∙ ap (content_value v) is_m ∙ block in
        let (z, is_z, at_z) = block_of_variable d n (is_block_of y n d is_d (sym same ∙ at_x)) in
        let (l, at_l, sort_l) = made_is vars m.0 made in
        let (o, at_o) = listed d z g' is_z in
        fits.made m.0 z l o at_l at_o sort_l (stands.apart x y i k c d m.0 z at at' is ne is_c is_d (ap variable_of is_m) is_z) (block ∙ sym at_z)

    one_type : (x y : ℕ) (i k : VarInfo) (s t : TypeId) (n : ℕ) → slice_get xs x ≡ Some i → slice_get xs y ≡ Some k → i.value ≡ Pointer s → k.value ≡ Pointer t → through v σ x ≡ value.Block n → through v σ y ≡ value.Block n → s ≡ t
    one_type x y i k s t n at at' p q e f =
        let (c, is_c, g, h) = stands.content x i at in
        let (d, is_d, g', h') = stands.content y k at' in
        let (m, is_m, at_m) = block_of_variable c n (is_block_of x n c is_c e) in
        let (z, is_z, at_z) = block_of_variable d n (is_block_of y n d is_d f) in
        let (l, at_l, type_l) = typed (Pointer s) m (variable_type i.sort s c m (subst (λ u. Suits vars i.sort u c) p h) is_m) in
        let (o, at_o, type_o) = typed (Pointer t) z (variable_type k.sort t d z (subst (λ u. Suits vars k.sort u d) q h') is_z) in
        fits.types m z l o s t n at_l at_o type_l type_o at_m at_z

    pub fits_through : Fits xs (through v σ)
    fits_through = record {
      sorts = λ x i at. let (c, is, g, h) = stands.content x i at in subst (FitsSort i.sort i.value) (sym (ap (stood v) is)) (sort_value i.sort i.value c h g);
      made = made_apart;
      types = one_type;
    }
