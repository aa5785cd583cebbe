-- What the replay of a chain does after the value of what is before it.
use Rattle.std.specs.Prelude.{pos, Bool, true, false, cond, List, [], ◌∷◌, ◌++◌, Result, Ok, Err}
use Rattle.px_meaning.specs.Values.{BlockType, Value, Word}
use Rattle.px_meaning.specs.Execution.{Locals}
use Rattle.px_syntax.specs.declared.typed_expression.CellLink.{CellLink}
use Rattle.px_syntax.specs.TypedTree.{Condition}
use Rattle.px_syntax.specs.TypedViews.{ArithmeticLinkTree, RelationLinkTree}
use Rattle.px_replay.specs.declared.stop.Stop.{Stop}
use Rattle.px_replay.specs.Operations.{calculates}
use Rattle.px_replay.specs.Script.{Act, answers, and_then, either_act}
use Rattle.px_replay.specs.TreeReplay.{CallReplays, Replays, Checks, loads, compares}

-- each link in turn, with the value of what is before it
abbrev pub chained : {L X : Type 0} → (L → X → Act X) → List L → X → Act X
chained step [] x = answers (Ok x)
chained step (l ∷ links) x = and_then (step l x) (chained step links)

-- the answer of the rest of some values, with those before it
abbrev pub onto : List Value → Result (List Value) Stop → Result (List Value) Stop
onto before (Ok values) = Ok (before ++ values)
onto before (Err e) = Err e

-- a cell after its pointer
abbrev pub loads_link : CellLink → Value → Act Value
loads_link l x = loads x l.field l.block l.site

module _ (types : List BlockType) (calls : CallReplays) (locals : Locals) where
  -- an operator and its operand, after the operand before it
  abbrev pub calculates_link : ArithmeticLinkTree → Value → Act Value
  calculates_link l x = and_then (Replays types calls l.operand locals) (λ y. answers (calculates l.operator x y))

  -- a comparison after its first operand, with the outcome as a value
  abbrev pub compares_link : RelationLinkTree → Value → Act Value
  compares_link l x =
      and_then (Replays types calls l.operand locals) (λ y. and_then (compares l.relation x y l.site) (λ holds. answers (Ok (Word (cond holds (pos 1) (pos 0))))))

  -- one more condition of `&&`
  abbrev pub and_link : Condition → Bool → Act Bool
  and_link c holds = either_act holds (Checks types calls c locals) (answers (Ok false))

  -- one more condition of `||`
  abbrev pub or_link : Condition → Bool → Act Bool
  or_link c holds = either_act holds (answers (Ok true)) (Checks types calls c locals)
