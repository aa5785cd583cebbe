use Rattle.std.proofs.Common.{drop}
use Rattle.px_real_symbols.specs.Symbols.{see, seen}
use Rattle.px_real_symbols.proofs.AnswerLemmas.{gives_same}
use Rattle.px_real_declaring.proofs.SpecifierLoops.{specifier_is, no_specifier_at}
use Rattle.px_real_declaring.proofs.specifiers.specifier.Goals as goal

pub returns-in_default : goal.returns-in_default
returns-in_default g c = no_specifier_at _ c.args.said (drop c.args.at (seen c.args.on)) c.in_default.ensures

pub returns : goal.returns
returns g c =
    gives_same (seen c.args.on) _ _ _ _
    (specifier_is _ c.args.said (drop c.args.at (seen c.args.on)) (see c.args.on.source.now c.in-Some.symbol, drop c.in-Some.next (seen c.args.on)) c.in-Some.ensures) c.specifier_by.ensures
