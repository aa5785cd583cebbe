use Rattle.std.proofs.Common.{Ok, drop, ap, sym, ◌∙◌, length-drop, arith}
use Rattle.std.proofs.lemmas.List.{length-map}
use Rattle.px_real_symbols.specs.Symbols.{see, seen}
use Rattle.px_real_members.proofs.CommaLoops.{no_comma, a_comma}
use Rattle.px_real_members.proofs.commas.next_of.Goals as goal

pub returns-in_default : goal.returns-in_default
returns-in_default c =
    no_comma c.args.trailing (drop c.args.at (seen c.args.on)) (omega (arith, c.if-at-on.false, length-drop c.args.at (seen c.args.on), length-map c.args.on.symbols.now (see c.args.on.source.now))) c.in_default.ensures

pub returns : goal.returns
returns c =
    a_comma c.args.trailing (drop c.args.at (seen c.args.on)) (see c.args.on.source.now c.in-Some.field-0-0, drop c.in-Some.next (seen c.args.on)) c.in-Some.ensures ∙ ap Ok (sym c.behind_comma.ensures)
