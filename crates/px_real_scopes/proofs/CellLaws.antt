-- The cells of structs, in order.
use Rattle.std.proofs.Common.{◌≡◌, ℕ, suc, ◌+◌, Bool, true, false, ◌&&◌, not, List, [], ◌∷◌, ◌++◌, map, Option, Some, None, is_some, if◌then◌else◌, refl, ap, sym, ◌∙◌, append_assoc, arith}
use Rattle.std.proofs.lemmas.List.{append-nil}
use Rattle.px_expressions.specs.Reading.{or_else}
use Rattle.px_real_declarations.specs.DeclarationTree.{DeclaredTree}
use Rattle.px_real_declarations.specs.Names.{declared_name}
use Rattle.px_real_types.specs.declared.shape.Shape.{Shape}
use Rattle.px_real_types.specs.declared.shape.Shape.TheVariants as S
use Rattle.px_real_types.specs.declared.shape.ProfileType.{ProfileType}
use Rattle.px_real_types.specs.Shapes.{in_profile}
use Rattle.px_real_types.specs.Specifiers.{specified}
use Rattle.px_real_types.specs.Declarators.{declared_shape}
use Rattle.px_real_types.specs.Cells.{cell_of, member_cells, members_cells}
use Rattle.px_real_types.specs.declared.known.Known.{Known}
use Rattle.px_real_types.specs.declared.known.Known.TheVariants as K
use Rattle.px_real_types.specs.declared.known.Member.{Member}
use Rattle.px_real_types.specs.declared.known.Member.TheVariants as N
use Rattle.px_real_types.specs.Types.{unknown, is_array, record_in}
use Rattle.px_real_scopes.specs.Scopes.{NamedTree}
use Rattle.px_real_scopes.specs.Lookups.{seen, meanings}
use Rattle.px_real_scopes.specs.Knowing.{with_shape, said_known, specified_known, beyond_declarator, declared_known}
use Rattle.px_real_scopes.specs.Entering.{counted, cells_among, no_cell, with_member, with_each, inherited, members_without_a_name}
use Rattle.px_real_scopes.specs.Laws.{cell_made, cells_of, CellsAgree, number_made, cell_numbers, counted_to, AreNumbered, CellsAreNumbered}
use Rattle.px_real_scopes.proofs.MemberLemmas.{cells_pushed}

-- ---- what is known has the shape that is said

not_seen : (b : Bool) (o : Option ℕ) → seen (if b then K.Array else or_else o (λ n. K.Record n) unknown) ≡ S.Outside
not_seen true o = refl
not_seen false (Some n) = refl
not_seen false None = refl

seen_shape : (s : Shape) (k : Known) → seen (with_shape s k) ≡ s
seen_shape S.Outside k = not_seen (is_array k) (record_in k)
seen_shape (S.Value base stars) k = refl
seen_shape (S.Array base stars) k = refl

-- ---- cells

cells_behind : (ms ns : List NamedTree) → cells_of (ms ++ ns) ≡ cells_of ms ++ cells_of ns
cells_behind [] ns = refl
cells_behind (m ∷ ms) ns = ap (λ z. cell_made m.name m.member ++ z) (cells_behind ms ns) ∙ sym (append_assoc (cell_made m.name m.member) (cells_of ms) (cells_of ns))

module _ (k : Known) (ms : List NamedTree) where
  one_cell : (x : DeclaredTree) → cells_of (with_member true k ms x) ≡ cells_of ms ++ member_cells (seen k) x
  one_cell x =
      by (declared_name x.declarator) (is_some x.value) (in_profile (seen (declared_known x k)))
      ∙ ap (λ s. cells_of ms ++ (if is_some x.value then [] else cell_of (declared_name x.declarator) (in_profile s))) (seen_shape (declared_shape x (seen k)) (beyond_declarator x.declarator k))
    where
      by : (o : Option (List ℕ)) (b : Bool) (p : Option ProfileType) →
          cells_of (or_else o (λ name. ms ++ record { name = name; member = if true && not b then or_else p (λ t. N.Cell (cells_among ms) t) (N.Other (declared_known x k)) else N.Other (declared_known x k) } ∷ []) ms)
          ≡ cells_of ms ++ (if b then [] else cell_of o p)
      by None true p = sym (append-nil (cells_of ms))
      by None false p = sym (append-nil (cells_of ms))
      by (Some name) true p = cells_behind ms (record { name = name; member = N.Other (declared_known x k) } ∷ [])
      by (Some name) false (Some t) = cells_behind ms (record { name = name; member = N.Cell (cells_among ms) t } ∷ [])
      by (Some name) false None = cells_behind ms (record { name = name; member = N.Other (declared_known x k) } ∷ [])

each_cell : (k : Known) (ms : List NamedTree) (xs : List DeclaredTree) → cells_of (with_each true k ms xs) ≡ cells_of ms ++ members_cells (seen k) xs
each_cell k ms [] = sym (append-nil (cells_of ms))
each_cell k ms (x ∷ xs) = each_cell k (with_member true k ms x) xs ∙ ap (λ z. z ++ members_cells (seen k) xs) (one_cell k ms x) ∙ append_assoc (cells_of ms) (member_cells (seen k) x) (members_cells (seen k) xs)

no_cell_made : (name : List ℕ) (m : Member) → cell_made name (no_cell m) ≡ []
no_cell_made name (N.Cell i t) = refl
no_cell_made name (N.Other k) = refl

none_inherited : (ns : List NamedTree) → cells_of (map inherited ns) ≡ []
none_inherited [] = refl
none_inherited (m ∷ ns) = ap (λ z. z ++ cells_of (map inherited ns)) (no_cell_made m.name m.member) ∙ none_inherited ns

none_nameless : (o : Option (List NamedTree)) → cells_of (or_else o (λ ms. map inherited ms) []) ≡ []
none_nameless (Some ns) = none_inherited ns
none_nameless None = refl

pub cells_agree : CellsAgree
cells_agree st ss [] ms = cells_behind ms (or_else (members_without_a_name st ss) (λ ms. map inherited ms) []) ∙ ap (λ z. cells_of ms ++ z) (none_nameless (members_without_a_name st ss))
cells_agree st ss (x ∷ xs) ms = each_cell (specified_known st ss) ms (x ∷ xs) ∙ ap (λ s. cells_of ms ++ members_cells s (x ∷ xs)) (seen_shape (specified (meanings st) ss) (said_known st ss))

-- ---- their numbers

numbers_behind : (ms ns : List NamedTree) → cell_numbers (ms ++ ns) ≡ cell_numbers ms ++ cell_numbers ns
numbers_behind [] ns = refl
numbers_behind (m ∷ ms) ns = ap (λ z. number_made m.member ++ z) (numbers_behind ms ns) ∙ sym (append_assoc (number_made m.member) (cell_numbers ms) (cell_numbers ns))

one_numbered : (ms : List NamedTree) (m : NamedTree) (more : List ℕ) → AreNumbered ms → cell_numbers (m ∷ []) ≡ more → counted_to (cells_among ms) ++ more ≡ counted_to (counted (cells_among ms) m.member) → AreNumbered (ms ++ m ∷ [])
one_numbered ms m more h e g =
    numbers_behind ms (m ∷ []) ∙ ap (λ z. z ++ cell_numbers (m ∷ [])) h ∙ ap (λ z. counted_to (cells_among ms) ++ z) e ∙ g ∙ ap counted_to (sym (cells_pushed ms m))

made_numbered : (ms : List NamedTree) (name : List ℕ) (may : Bool) (p : Option ProfileType) (k : Known) → AreNumbered ms →
    AreNumbered (ms ++ record { name = name; member = if may then or_else p (λ t. N.Cell (cells_among ms) t) (N.Other k) else N.Other k } ∷ [])
made_numbered ms name true (Some t) k h =
    one_numbered ms (record { name = name; member = N.Cell (cells_among ms) t }) (cells_among ms ∷ []) h refl (let e : suc (cells_among ms) ≡ cells_among ms + 1 = omega arith in ap counted_to e)
made_numbered ms name true None k h = one_numbered ms (record { name = name; member = N.Other k }) [] h refl (append-nil (counted_to (cells_among ms)))
made_numbered ms name false p k h = one_numbered ms (record { name = name; member = N.Other k }) [] h refl (append-nil (counted_to (cells_among ms)))

member_numbered : (cells : Bool) (k : Known) (ms : List NamedTree) (x : DeclaredTree) → AreNumbered ms → AreNumbered (with_member cells k ms x)
member_numbered cells k ms x h = by (declared_name x.declarator)
  where
    by : (o : Option (List ℕ)) →
        AreNumbered (or_else o (λ name. ms ++ record { name = name; member = if cells && not (is_some x.value) then or_else (in_profile (seen (declared_known x k))) (λ t. N.Cell (cells_among ms) t) (N.Other (declared_known x k)) else N.Other (declared_known x k) } ∷ []) ms)
    by (Some name) = made_numbered ms name (cells && not (is_some x.value)) (in_profile (seen (declared_known x k))) (declared_known x k) h
    by None = h

each_numbered : (cells : Bool) (k : Known) (ms : List NamedTree) (xs : List DeclaredTree) → AreNumbered ms → AreNumbered (with_each cells k ms xs)
each_numbered cells k ms [] h = h
each_numbered cells k ms (x ∷ xs) h = each_numbered cells k (with_member cells k ms x) xs (member_numbered cells k ms x h)

no_number_made : (m : Member) → number_made (no_cell m) ≡ []
no_number_made (N.Cell i t) = refl
no_number_made (N.Other k) = refl

no_numbers : (ns : List NamedTree) → cell_numbers (map inherited ns) ≡ []
no_numbers [] = refl
no_numbers (m ∷ ns) = ap (λ z. z ++ cell_numbers (map inherited ns)) (no_number_made m.member) ∙ no_numbers ns

not_counted : (n : ℕ) (m : Member) → counted n (no_cell m) ≡ n
not_counted n (N.Cell i t) = refl
not_counted n (N.Other k) = refl

none_among : (ns : List NamedTree) → cells_among (map inherited ns) ≡ 0
none_among [] = refl
none_among (m ∷ ns) = not_counted (cells_among (map inherited ns)) m.member ∙ none_among ns

as_many : (ms ns : List NamedTree) → cells_among (ms ++ map inherited ns) ≡ cells_among ms
as_many [] ns = none_among ns
as_many (m ∷ ms) ns = ap (λ n. counted n m.member) (as_many ms ns)

inherited_numbered : (ms : List NamedTree) (o : Option (List NamedTree)) → AreNumbered ms → AreNumbered (ms ++ or_else o (λ ns. map inherited ns) [])
inherited_numbered ms (Some ns) h = numbers_behind ms (map inherited ns) ∙ ap (λ z. cell_numbers ms ++ z) (no_numbers ns) ∙ append-nil (cell_numbers ms) ∙ h ∙ ap counted_to (sym (as_many ms ns))
inherited_numbered ms None h = ap cell_numbers (append-nil ms) ∙ h ∙ ap (λ z. counted_to (cells_among z)) (sym (append-nil ms))

pub cells_are_numbered : CellsAreNumbered
cells_are_numbered cells st ss [] ms h = inherited_numbered ms (members_without_a_name st ss) h
cells_are_numbered cells st ss (x ∷ xs) ms h = each_numbered cells (specified_known st ss) ms (x ∷ xs) h
