use Rattle.std.proofs.Common.{arith}
use Rattle.std.proofs.lemmas.Result.{IfOk-weaker}
use Rattle.px_cnf.specs.Circuits.{gates_of}
use Rattle.px_cnf.proofs.BaseLemmas.{first_inside, variable_word, variable_stands}
use Rattle.px_cnf.proofs.circuit.Circuit.variable.Goals as goal

pub word_at-requires : goal.word_at-requires
word_at-requires c =
    let i = first_inside c.args.base.bits.now c.args.x c.first_of.result c.args.self.now.inputs c.requires.base.words c.first_of.ensures in
    let f = c.requires.base.few in omega arith

pub returns-clause-word : goal.returns-clause-word
returns-clause-word c =
    IfOk-weaker c.word_at.result _ _ (λ z e. variable_word (gates_of c.args.self.now) c.args.base z.items c.args.x c.first_of.result c.requires.base c.first_of.ensures e) c.word_at.ensures

pub returns-clause-value : goal.returns-clause-value
returns-clause-value c =
    IfOk-weaker c.word_at.result _ _ (λ z e. variable_stands (gates_of c.args.self.now) c.args.base z.items c.args.x c.first_of.result c.first_of.ensures e) c.word_at.ensures
