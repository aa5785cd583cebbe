use Rattle.std.proofs.Common.{◌≡◌, ◌-◌, ◌∷◌, [], length}
use Rattle.px_expressions.specs.Lexemes.{seen}
use Rattle.px_parser.specs.ItemReading.{more_fields}
use Rattle.px_parser.proofs.item_parts.fields.Given as goal

abbrev pub invariant-loop : goal.invariant-loop
invariant-loop l =
    more_fields (l.end - l.counter) l.all.items (seen l.rest) ≡ more_fields (length (seen l.fn.input)) (l.fn.first ∷ []) (seen l.fn.input)
