-- What is still to be done, as the pieces of a stack say it.
use Rattle.std.specs.Prelude.{List, [], ◌∷◌, map, fold}
use Rattle.px_core.specs.declared.command.Command.{Command}
use Rattle.px_core.specs.CommandTree.{CommandTrees, commands_of, command_tree}
use Rattle.px_core.specs.Control.{Turns, Item, AfterHead, AfterBody, AfterStep, acts}
use Rattle.px_walks.specs.declared.pieces.Part.{Part}
use Rattle.px_walks.specs.declared.pieces.Part.TheVariants.{Head, Body, Step}
use Rattle.px_walks.specs.declared.pieces.OpenLoop.{OpenLoop}
use Rattle.px_walks.specs.declared.pieces.Piece.{Piece}
use Rattle.px_walks.specs.declared.pieces.Piece.TheVariants.{Commands, End}

abbrev pub trees : List Command → CommandTrees
trees cs = commands_of (map command_tree cs)

abbrev pub turns_of : OpenLoop → Turns
turns_of l = record { site = l.site; head = trees l.head.now; body = trees l.body.now; step = trees l.step.now; made = l.made }

-- a part of a loop, and its end
abbrev pub part_of : Part → Turns → CommandTrees
part_of Head l = l.head
part_of Body l = l.body
part_of Step l = l.step

abbrev pub end_of : Part → Turns → Item
end_of Head l = AfterHead l
end_of Body l = AfterBody l
end_of Step l = AfterStep l

-- what a piece puts before all else
abbrev pub on_top : List Item → Piece → List Item
on_top k (Commands cs) = acts (trees cs.now) k
on_top k (End part l) = end_of part (turns_of l) ∷ k

-- what the pieces say, of which the last comes first
abbrev pub items_of : List Piece → List Item
items_of pieces = fold on_top [] pieces
