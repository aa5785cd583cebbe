use Rattle.std.proofs.Common.{arith}
use Rattle.std.proofs.lemmas.Bool.{not-true}
use Rattle.px_lexer.proofs.SiteLemmas.{on_line, on_few}
use Rattle.px_lexer.proofs.places.Lines.is_on.Goals as goal

pub returns-clause-exact : goal.returns-clause-exact
returns-clause-exact c = λ e. on_line c.args.self.now.starts.items c.args.at c.args.line c.args.self.now.rising (omega arith) (omega (arith, c.start.ensures)) (λ lt. c.has_begun.ensures (not-true _ e) lt)

pub returns-clause-few : goal.returns-clause-few
returns-clause-few c = λ e. on_few c.args.self.now.starts.items c.args.at c.args.line c.args.self.now.rising (omega arith) (omega (arith, c.start.ensures))
