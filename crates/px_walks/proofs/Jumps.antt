-- Whether a jump has a place to go to, from the part of the innermost loop.
use Rattle.std.proofs.Common.{◌≡◌, List, [], ◌∷◌, option_map, Option, Some, None, Bool, is_some, cond, refl, sym, ◌∙◌, ap}
use Rattle.px_core.specs.declared.command.Command.{Command}
use Rattle.px_core.specs.declared.command.Command.TheVariants as C
use Rattle.px_core.specs.CommandTree.{CommandTree, command_tree}
use Rattle.px_core.specs.Control.{Turns, Item, Act, AfterHead, AfterBody, AfterStep, leave_to, break_to, continue_to}
use Rattle.px_core.specs.WellFormed.{Where}
use Rattle.px_core.specs.WellFormedItems.{where_in}
use Rattle.px_callgraph.specs.declared.states.State.{State}
use Rattle.px_callgraph.specs.declared.states.Way.{Way}
use Rattle.px_callgraph.specs.JobTree.{JobTree}
use Rattle.px_callgraph.specs.Commands.{command_ways}
use Rattle.px_callgraph.specs.Alternatives.{items_after, item_ways}
use Rattle.px_core.proofs.CommandEquations.{tree-Leave, tree-Break, tree-Continue}
use Rattle.px_walks.specs.Nexts.{leaves_at, breaks_at, continues_at}

leaves_where : (k : List Item) → is_some (leave_to k) ≡ leaves_at (where_in k)
leaves_where [] = refl
leaves_where (Act c ∷ k) = leaves_where k
leaves_where (AfterHead l ∷ k) = refl
leaves_where (AfterBody l ∷ k) = refl
leaves_where (AfterStep l ∷ k) = refl

breaks_where : (k : List Item) → is_some (break_to k) ≡ breaks_at (where_in k)
breaks_where [] = refl
breaks_where (Act c ∷ k) = breaks_where k
breaks_where (AfterHead l ∷ k) = refl
breaks_where (AfterBody l ∷ k) = refl
breaks_where (AfterStep l ∷ k) = refl

continues_where : (k : List Item) → is_some (continue_to k) ≡ continues_at (where_in k)
continues_where [] = refl
continues_where (Act c ∷ k) = continues_where k
continues_where (AfterHead l ∷ k) = refl
continues_where (AfterBody l ∷ k) = refl
continues_where (AfterStep l ∷ k) = refl

some_mapped : {A B : Type 0} (f : A → B) (o : Option A) → is_some (option_map f o) ≡ is_some o
some_mapped f None = refl
some_mapped f (Some x) = refl

listed_by : (ws : List Way) (o : Option (List Item)) (b : Bool) → b ≡ is_some o → elim o as (λ _. List Way) [ None ↦ [] | Some k' ↦ ws ] ≡ cond b ws []
listed_by ws None b e = sym (ap (λ z. cond z ws []) e)
listed_by ws (Some k) b e = sym (ap (λ z. cond z ws []) e)

-- what is listed of a command that goes on where it has something after it
pub listed : (j : JobTree) (s : State) (c : CommandTree) (k : List Item) (b : Bool) → b ≡ is_some (items_after s c k) → item_ways j s (Act c ∷ k) ≡ cond b (command_ways j s c) []
listed j s c k b e = listed_by (command_ways j s c) (items_after s c k) b e

-- the jumps, told by the part of the innermost loop
pub leave_listed : (j : JobTree) (s : State) (c : Command) (b : Bool) (w : Where) (all k : List Item) → c ≡ C.Leave → b ≡ leaves_at w → w ≡ where_in all → where_in k ≡ where_in all → item_ways j s (Act (command_tree c) ∷ k) ≡ cond b (command_ways j s (command_tree c)) []
leave_listed j s c b w all k is e at same =
    listed j s (command_tree c) k b (e ∙ ap leaves_at (at ∙ sym same) ∙ sym (leaves_where k) ∙ sym (some_mapped (λ (place : Turns × List Item). place.1) (leave_to k)) ∙ sym (ap (λ z. is_some (items_after s z k)) (ap command_tree is ∙ tree-Leave)))

pub break_listed : (j : JobTree) (s : State) (c : Command) (b : Bool) (w : Where) (all k : List Item) → c ≡ C.Break → b ≡ breaks_at w → w ≡ where_in all → where_in k ≡ where_in all → item_ways j s (Act (command_tree c) ∷ k) ≡ cond b (command_ways j s (command_tree c)) []
break_listed j s c b w all k is e at same =
    listed j s (command_tree c) k b (e ∙ ap breaks_at (at ∙ sym same) ∙ sym (breaks_where k) ∙ sym (ap (λ z. is_some (items_after s z k)) (ap command_tree is ∙ tree-Break)))

pub continue_listed : (j : JobTree) (s : State) (c : Command) (b : Bool) (w : Where) (all k : List Item) → c ≡ C.Continue → b ≡ continues_at w → w ≡ where_in all → where_in k ≡ where_in all → item_ways j s (Act (command_tree c) ∷ k) ≡ cond b (command_ways j s (command_tree c)) []
continue_listed j s c b w all k is e at same =
    listed j s (command_tree c) k b (e ∙ ap continues_at (at ∙ sym same) ∙ sym (continues_where k) ∙ sym (ap (λ z. is_some (items_after s z k)) (ap command_tree is ∙ tree-Continue)))
