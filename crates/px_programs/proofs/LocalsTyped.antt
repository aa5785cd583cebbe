-- The locals of a function: each one in scope has its type among those of the parameters and the declared ones.
use Rattle.std.proofs.Common.{◌≡◌, ◌∙◌, ℕ, ◌+◌, List, [], ◌∷◌, ◌++◌, length, slice_get, Some, append_assoc, refl, sym, ap}
use Rattle.std.specs.List.{AllByRecursion}
use Rattle.std.proofs.lemmas.List.{length_push}
use Rattle.px_terms.specs.declared.types.ValueType.{ValueType}
use Rattle.px_terms.specs.declared.types.BlockType.{BlockType}
use Rattle.px_syntax.specs.declared.type_name.TypeName.{TypeName}
use Rattle.px_syntax.specs.declared.item.Parameter.{Parameter}
use Rattle.px_bodies.specs.Environment.{Environment, value_type}
use Rattle.px_bodies.specs.Locals.{Local, Locals, declared, typed_parameters, after_scope}
use Rattle.px_meaning.specs.TreeTypes.{LocalTypes}
use Rattle.px_programs.specs.Numbers.{IsValueListed}
use Rattle.px_programs.proofs.Options.{Holds, on_when, on_given, on_any}
use Rattle.px_programs.proofs.Lists.{all_take, all_change, Begins, begins_push, get_begins}
use Rattle.px_programs.proofs.TypeWords.{IsKnown, value_listed}
use Rattle.px_terms.proofs.Recursion.{all_push}

module _ (env : Environment) (types : List BlockType) where
  -- the local of this number is of its type
  abbrev pub IsLocal : LocalTypes → Local → Type 0
  IsLocal locals l = IsKnown env types l.type × (locals l.number ≡ Some (value_type env l.type))

  -- the next local comes after those of these types, and each one in scope is among them
  abbrev pub AreAt : List ValueType → Locals → Type 0
  AreAt before ls =
      (ls.next ≡ length (before ++ ls.types)) × AllByRecursion (IsLocal (slice_get (before ++ ls.types))) ls.visible × AllByRecursion (IsValueListed (length types)) ls.types

  -- the locals after others
  abbrev pub GoOn : List ValueType → Locals → Locals → Type 0
  GoOn before ls after = AreAt before after × Begins (before ++ ls.types) (before ++ after.types)

  pub scope_at : (before : List ValueType) (outer : ℕ) (ls : Locals) → AreAt before ls → AreAt before (after_scope outer ls)
  scope_at before outer ls k = (k.0, all_take (IsLocal (slice_get (before ++ ls.types))) outer ls.visible k.1, k.2)

  -- what is among some is among more
  more_locals : (xs ys : List ValueType) (ls : List Local) → Begins xs ys → AllByRecursion (IsLocal (slice_get xs)) ls → AllByRecursion (IsLocal (slice_get ys)) ls
  more_locals xs ys ls b h = all_change (IsLocal (slice_get xs)) (IsLocal (slice_get ys)) (λ l k. (k.0, get_begins xs ys l.number (value_type env l.type) b k.1)) ls h

  pub visible_at : (before whole : List ValueType) (ls : Locals) → AreAt before ls → Begins (before ++ ls.types) whole → AllByRecursion (IsLocal (slice_get whole)) ls.visible
  visible_at before whole ls k b = more_locals (before ++ ls.types) whole ls.visible b k.1

  get_last : (xs : List ValueType) (v : ValueType) → slice_get (xs ++ v ∷ []) (length xs) ≡ Some v
  get_last [] v = refl
  get_last (x ∷ xs) v = get_last xs v

  -- one more local, of this type
  abbrev pub IsOneMore : List ValueType → Locals → TypeName → Locals → Type 0
  IsOneMore before ls t more =
      GoOn before ls more × (more.types ≡ ls.types ++ value_type env t ∷ []) × (slice_get (before ++ more.types) ls.next ≡ Some (value_type env t))

  pub declared_at : (before : List ValueType) (outer : ℕ) (ls : Locals) (name : List ℕ) (t : TypeName) → IsKnown env types t → AreAt before ls
      → Holds (IsOneMore before ls t) (declared env outer ls name t)
  declared_at before outer ls name t known k =
      let v = value_type env t in
      let l : Local = record { name = name; number = ls.next; type = t } in
      let now = before ++ (ls.types ++ v ∷ []) in
      let one = append_assoc before ls.types (v ∷ []) in
      let at : slice_get now ls.next ≡ Some v =
      ap (slice_get now) k.0 ∙ ap (λ xs. slice_get xs (length (before ++ ls.types))) (sym one) ∙ get_last (before ++ ls.types) v in
      on_when (IsOneMore before ls t) _ (record { visible = ls.visible ++ l ∷ []; next = ls.next + 1; types = ls.types ++ v ∷ [] }) (
        (
          (
            ap (λ n. n + 1) k.0 ∙ sym (length_push (before ++ ls.types) v) ∙ ap length one,
            all_push (IsLocal (slice_get now)) ls.visible l (more_locals (before ++ ls.types) now ls.visible (begins_push before ls.types v) k.1) (known, at),
            all_push (IsValueListed (length types)) ls.types v k.2 (value_listed env types t known),
          ),
          begins_push before ls.types v,
        ),
        refl,
        at,
      )

  -- the parameters, one after another
  pub parameters_at : (ls : Locals) (ps : List Parameter) → AllByRecursion (λ (p : Parameter). IsKnown env types p.value) ps → AreAt [] ls → Holds (AreAt []) (typed_parameters env ls ps)
  parameters_at ls [] known k = k
  parameters_at ls (p ∷ rest) known k =
      on_any (AreAt []) p.name _ (λ name.
      on_given (IsOneMore [] ls p.value) (AreAt []) (declared env 0 ls name p.value) _ (declared_at [] 0 ls name p.value known.0 k) (λ more h. parameters_at more rest known.1 h.0.0))
