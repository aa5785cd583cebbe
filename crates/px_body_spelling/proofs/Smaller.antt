-- Commands that stand in others are fewer.
use Rattle.std.proofs.Common.{◌≡◌, ℕ, zero, suc, ◌+◌, ◌*◌, ◌<◌, ◌≤◌, List, [], ◌∷◌, length, map, get_or, Vec, Global, ap, ◌∙◌, arith}
use Rattle.px_base.specs.declared.trace.Site.{Site}
use Rattle.px_core.specs.declared.command.Command.{Command}
use Rattle.px_core.specs.declared.command.Command.TheVariants as C
use Rattle.px_core.specs.CommandTree.{command_tree, commands_of}
use Rattle.px_core.specs.Sizes.{command_size, commands_size}
use Rattle.px_core.proofs.CommandEquations.{tree-If, tree-Loop}

abbrev size_of : List Command → ℕ
size_of cs = commands_size (commands_of (map command_tree cs))

pub item_size : (cs : List Command) (i : ℕ) (d : Command) → i < length cs → command_size (command_tree (get_or cs i d)) ≤ commands_size (commands_of (map command_tree cs))
item_size [] i d lt = absurd (omega arith)
item_size (c ∷ cs) zero d lt = omega arith
item_size (c ∷ cs) (suc i) d lt = let later = item_size cs i d (omega (arith, lt)) in omega (arith, later)

-- one of the commands of a list
pub item_falls : (t i : ℕ) (cs : List Command) (c d : Command) → 2 * size_of cs + 1 ≡ t → i < length cs → c ≡ get_or cs i d → 2 * command_size (command_tree c) < t
item_falls t i cs c d is lt at =
    let one = item_size cs i d lt in
    let same : command_size (command_tree c) ≡ command_size (command_tree (get_or cs i d)) = ap (λ x. command_size (command_tree x)) at in omega (arith, one, same, is)

-- the branches of a choice
pub then_falls : (t slot : ℕ) (c : Command) (xs ys : Vec Command Global) (cs : List Command) → 2 * command_size (command_tree c) ≡ t → c ≡ C.If slot xs ys → cs ≡ xs.items → 2 * size_of cs + 1 < t
then_falls t slot c xs ys cs measure is same =
    let all : command_size (command_tree c) ≡ 1 + (size_of xs.items + size_of ys.items) = ap (λ x. command_size x) (ap command_tree is ∙ tree-If slot xs ys) in
    let here : size_of cs ≡ size_of xs.items = ap size_of same in omega (arith, measure, all, here)

pub other_falls : (t slot : ℕ) (c : Command) (xs ys : Vec Command Global) (cs : List Command) → 2 * command_size (command_tree c) ≡ t → c ≡ C.If slot xs ys → cs ≡ ys.items → 2 * size_of cs + 1 < t
other_falls t slot c xs ys cs measure is same =
    let all : command_size (command_tree c) ≡ 1 + (size_of xs.items + size_of ys.items) = ap (λ x. command_size x) (ap command_tree is ∙ tree-If slot xs ys) in
    let here : size_of cs ≡ size_of ys.items = ap size_of same in omega (arith, measure, all, here)

-- the three lists of a loop
module _ (t : ℕ) (s : Site) (c : Command) (xs ys zs : Vec Command Global) (cs : List Command) (measure : 2 * command_size (command_tree c) ≡ t) (is : c ≡ C.Loop s xs ys zs) where
  whole_size : command_size (command_tree c) ≡ 1 + (size_of xs.items + size_of ys.items + size_of zs.items)
  whole_size = ap (λ x. command_size x) (ap command_tree is ∙ tree-Loop s xs ys zs)

  pub head_falls : cs ≡ xs.items → 2 * size_of cs + 1 < t
  head_falls same = let here : size_of cs ≡ size_of xs.items = ap size_of same in omega (arith, measure, whole_size, here)

  pub body_falls : cs ≡ ys.items → 2 * size_of cs + 1 < t
  body_falls same = let here : size_of cs ≡ size_of ys.items = ap size_of same in omega (arith, measure, whole_size, here)

  pub step_falls : cs ≡ zs.items → 2 * size_of cs + 1 < t
  step_falls same = let here : size_of cs ≡ size_of zs.items = ap size_of same in omega (arith, measure, whole_size, here)
