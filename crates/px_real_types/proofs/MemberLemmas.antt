-- The cell that a member makes, and the name that a declaration makes weak.
use Rattle.std.proofs.Common.{◌≡◌, ℕ, Bool, true, false, if◌then◌else◌, List, [], ◌∷◌, ◌++◌, map, Some, None, option_map, is_some, refl, sym, ap, ◌∙◌}
use Rattle.std.proofs.lemmas.List.{append-nil, map_push}
use Rattle.px_real_expressions.specs.Lexemes.{Lexeme}
use Rattle.px_real_symbols.specs.Symbols.{held_in}
use Rattle.px_real_declarations.specs.DeclarationTree.{DeclaredTree}
use Rattle.px_real_declarations.specs.Names.{declared_name}
use Rattle.px_real_declaring.specs.declared.tree.Declared.{Declared}
use Rattle.px_real_declaring.specs.Trees.{declarator_tree, declared_tree}
use Rattle.px_real_types.specs.declared.shape.Shape.{Shape}
use Rattle.px_real_types.specs.declared.shape.ProfileType.{ProfileType}
use Rattle.px_real_types.specs.declared.cells.Cell.{Cell}
use Rattle.px_real_types.specs.Shapes.{in_profile}
use Rattle.px_real_types.specs.Declarators.{declared_shape}
use Rattle.px_real_types.specs.Cells.{CellTree, cell_tree, cell_of, member_cells}
use Rattle.px_real_types.specs.Linkage.{is_weak, listed_name, weak_name}

-- the same on both ways
either_way : {A : Type 0} (b : Bool) (xs : List A) → (if b then xs else xs) ≡ xs
either_way true xs = refl
either_way false xs = refl

-- a member without a name makes no cell
pub no_cell : (all : List Lexeme) (m : Declared) (s : Shape) (cs : List CellTree) → None ≡ declared_name (declarator_tree all m.declarator) → cs ≡ cs ++ member_cells s (declared_tree all m)
no_cell all m s cs h =
    let none : member_cells s (declared_tree all m) ≡ [] =
    ap (λ o. if is_some (option_map (held_in all) m.value) then [] else cell_of o (in_profile (declared_shape (declared_tree all m) s))) (sym h) ∙ either_way (is_some (option_map (held_in all) m.value)) [] in
    sym (ap (λ z. cs ++ z) none ∙ append-nil cs)

-- one that has a name and a type of the profile, and no width, makes one
pub a_cell : (all : List Lexeme) (m : Declared) (s shape : Shape) (before after : List Cell) (n n1 : List ℕ) (kind : ProfileType) → m.value ≡ None → Some n ≡ declared_name (declarator_tree all m.declarator) →
    shape ≡ declared_shape (declared_tree all m) s → Some kind ≡ in_profile shape → n1 ≡ n → after ≡ before ++ (record { name = n1; kind = kind }) ∷ [] → map cell_tree after ≡ map cell_tree before ++ member_cells s (declared_tree all m)
a_cell all m s shape before after n n1 kind v h d k e a =
    let one : member_cells s (declared_tree all m) ≡ (record { name = n1; kind = kind }) ∷ [] =
    ap (λ o. if is_some (option_map (held_in all) o) then [] else cell_of (declared_name (declarator_tree all m.declarator)) (in_profile (declared_shape (declared_tree all m) s))) v
    ∙ ap (λ o. cell_of o (in_profile (declared_shape (declared_tree all m) s))) (sym h) ∙ ap (cell_of (Some n)) (sym (k ∙ ap in_profile d)) ∙ ap (λ z. (record { name = z; kind = kind }) ∷ []) (sym e) in
    ap (map cell_tree) a ∙ map_push cell_tree before (record { name = n1; kind = kind }) ∙ ap (λ z. map cell_tree before ++ z) (sym one)

-- what has no name makes none weak
pub no_weak : (b : Bool) (names : List (List ℕ)) (x : DeclaredTree) → None ≡ declared_name x.declarator → names ≡ names ++ weak_name b x
no_weak b names x h =
    let none : weak_name b x ≡ [] = ap (λ o. if is_weak b x then listed_name o else []) (sym h) ∙ either_way (is_weak b x) [] in
    sym (ap (λ z. names ++ z) none ∙ append-nil names)

pub one_weak : (b : Bool) (before after : List (List ℕ)) (x : DeclaredTree) (n n1 : List ℕ) → true ≡ is_weak b x → Some n ≡ declared_name x.declarator → n1 ≡ n → after ≡ before ++ n1 ∷ [] → after ≡ before ++ weak_name b x
one_weak b before after x n n1 w h e a =
    let one : weak_name b x ≡ n1 ∷ [] = ap (λ (z : Bool). if z then listed_name (declared_name x.declarator) else []) (sym w) ∙ ap listed_name (sym h) ∙ ap (λ z. z ∷ []) (sym e) in
    a ∙ ap (λ z. before ++ z) (sym one)
