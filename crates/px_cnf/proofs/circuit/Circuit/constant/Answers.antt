use Rattle.std.proofs.Common.{◌<◌, refl, arith, replicate}
use Rattle.std.specs.Prelude.{true, ◌≡◌}
use Rattle.std.proofs.lemmas.Result.{IfOk-weaker}
use Rattle.std.proofs.lemmas.List.Elements.{All-replicate}
use Rattle.px_cnf.specs.declared.literal.Literal.{Literal}
use Rattle.px_cnf.specs.Clauses.{holds}
use Rattle.px_cnf.specs.Circuits.{gates_of}
use Rattle.px_cnf.proofs.BaseLemmas.{constant_word, constant_is}
use Rattle.px_cnf.proofs.circuit.Circuit.constant.Goals as goal

pub returns-clause-word : goal.returns-clause-word
returns-clause-word c =
    IfOk-weaker c.matching.result _ _ (λ z e. constant_word (gates_of c.args.self.now) (replicate 32 c.args.base.always) z.items c.args.n
    (All-replicate (λ (l : Literal). l.variable < c.args.self.now.variables) 32 c.args.base.always c.requires.inside) refl e) c.matching.ensures

pub returns-clause-value : goal.returns-clause-value
returns-clause-value c =
    IfOk-weaker c.matching.result _ _ (λ z e. λ a m. constant_is a (replicate 32 c.args.base.always) z.items c.args.n
    (All-replicate (λ (l : Literal). holds a l ≡ true) 32 c.args.base.always (c.requires.always a m)) refl (omega arith) e) c.matching.ensures
