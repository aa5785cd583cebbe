-- When two commands are equal as plain data, by the lists in them.
use Rattle.std.proofs.Common.{◌≡◌, ◌↔◌, ◌<◌, ℕ, zero, suc, List, [], ◌∷◌, map, length, slice_index_or, Vec, Global, refl, sym, ap, ap₂, ◌∙◌, arith}
use Rattle.px_base.specs.declared.trace.Site.{Site}
use Rattle.px_core.specs.declared.command.Command.{Command}
use Rattle.px_core.specs.declared.command.Command.TheVariants as C
use Rattle.px_core.specs.declared.body.Body.{Body}
use Rattle.px_core.specs.BodyTree.{BodyTree, body_tree}
use Rattle.px_core.specs.CommandTree.{CommandTree, command_tree, commands_of, choose, loop}
use Rattle.px_core.proofs.CommandEquations.{tree-If, tree-Loop}

lists_same : (xs ys : List CommandTree) → commands_of xs ≡ commands_of ys → xs ≡ ys
lists_same [] [] e = refl
lists_same [] (y ∷ ys) e = cc
lists_same (x ∷ xs) [] e = cc
lists_same (x ∷ xs) (y ∷ ys) e =
    let h : x ≡ y = cc in
    let t : commands_of xs ≡ commands_of ys = cc in
    ap₂ (λ a b. a ∷ b) h (lists_same xs ys t)

-- equal lists, read at equal ones
pub lists_as : {us vs xs ys : List Command} → us ≡ xs → vs ≡ ys → map command_tree xs ≡ map command_tree ys → map command_tree us ≡ map command_tree vs
lists_as e f h = ap (λ (z : List Command). map command_tree z) e ∙ h ∙ sym (ap (λ (z : List Command). map command_tree z) f)

-- what stands at one place
pub at_same : (xs ys : List Command) (i : ℕ) (x y : Command) → i < length xs → map command_tree xs ≡ map command_tree ys → x ≡ slice_index_or xs i x → y ≡ slice_index_or ys i y → command_tree x ≡ command_tree y
at_same [] ys i x y l e ix iy = absurd (omega arith)
at_same (a ∷ xs) [] i x y l e ix iy = cc
at_same (a ∷ xs) (b ∷ ys) zero x y l e ix iy = let h : command_tree a ≡ command_tree b = cc in ap command_tree ix ∙ h ∙ sym (ap command_tree iy)
at_same (a ∷ xs) (b ∷ ys) (suc i) x y l e ix iy =
    let t : map command_tree xs ≡ map command_tree ys = cc in
    at_same xs ys i x y (omega arith) t ix iy

abbrev trees : Vec Command Global → List CommandTree
trees xs = map command_tree xs.items

pub if_same : (l r : Command) (s s' : ℕ) (xs ys xs' ys' : Vec Command Global) → l ≡ C.If s xs ys → r ≡ C.If s' xs' ys' → s ≡ s' →
    command_tree l ≡ command_tree r ↔ ((trees xs ≡ trees xs') × (trees ys ≡ trees ys'))
if_same l r s s' xs ys xs' ys' il ir es =
    let el : command_tree l ≡ choose s (commands_of (trees xs)) (commands_of (trees ys)) = ap command_tree il ∙ tree-If s xs ys in
    let er : command_tree r ≡ choose s' (commands_of (trees xs')) (commands_of (trees ys')) = ap command_tree ir ∙ tree-If s' xs' ys' in (
      λ e. let d : choose s (commands_of (trees xs)) (commands_of (trees ys)) ≡ choose s' (commands_of (trees xs')) (commands_of (trees ys')) = sym el ∙ e ∙ er in
          let a : commands_of (trees xs) ≡ commands_of (trees xs') = cc in
          let b : commands_of (trees ys) ≡ commands_of (trees ys') = cc in
          (lists_same (trees xs) (trees xs') a, lists_same (trees ys) (trees ys') b),
      λ (a, b). el ∙ ap (λ n. choose n (commands_of (trees xs)) (commands_of (trees ys))) es ∙ ap₂ (λ u v. choose s' (commands_of u) (commands_of v)) a b ∙ sym er,
    )

pub loop_same : (l r : Command) (s s' : Site) (xs ys zs xs' ys' zs' : Vec Command Global) → l ≡ C.Loop s xs ys zs → r ≡ C.Loop s' xs' ys' zs' → s ≡ s' →
    command_tree l ≡ command_tree r ↔ ((trees xs ≡ trees xs') × (trees ys ≡ trees ys') × (trees zs ≡ trees zs'))
loop_same l r s s' xs ys zs xs' ys' zs' il ir es =
    let el : command_tree l ≡ loop s (commands_of (trees xs)) (commands_of (trees ys)) (commands_of (trees zs)) = ap command_tree il ∙ tree-Loop s xs ys zs in
    let er : command_tree r ≡ loop s' (commands_of (trees xs')) (commands_of (trees ys')) (commands_of (trees zs')) = ap command_tree ir ∙ tree-Loop s' xs' ys' zs' in (
      λ e. let d : loop s (commands_of (trees xs)) (commands_of (trees ys)) (commands_of (trees zs)) ≡ loop s' (commands_of (trees xs')) (commands_of (trees ys')) (commands_of (trees zs')) = sym el ∙ e ∙ er in
          let a : commands_of (trees xs) ≡ commands_of (trees xs') = cc in
          let b : commands_of (trees ys) ≡ commands_of (trees ys') = cc in
          let g : commands_of (trees zs) ≡ commands_of (trees zs') = cc in
          (lists_same (trees xs) (trees xs') a, lists_same (trees ys) (trees ys') b, lists_same (trees zs) (trees zs') g),
      λ (a, b, g). el ∙ ap (λ n. loop n (commands_of (trees xs)) (commands_of (trees ys)) (commands_of (trees zs))) es
          ∙ ap₂ (λ u v. loop s' (commands_of u) (commands_of v) (commands_of (trees zs))) a b ∙ ap (λ w. loop s' (commands_of (trees xs')) (commands_of (trees ys')) (commands_of w)) g ∙ sym er,
    )

pub same_body : (l r : Body) → l.slots ≡ r.slots → l.parameters ≡ r.parameters → l.result ≡ r.result → trees l.commands ≡ trees r.commands → body_tree l ≡ body_tree r
same_body l r slots types result commands = λ i. record { slots = slots i; parameters = types i; result = result i; commands = commands_of (commands i) }

pub same_commands : (l r : Body) → body_tree l ≡ body_tree r → trees l.commands ≡ trees r.commands
same_commands l r e = lists_same (trees l.commands) (trees r.commands) (ap (λ (b : BodyTree). b.commands) e)
