use Rattle.std.proofs.Common.{◌≡◌, ◌∙◌, refl, sym, ap, subst}
use Rattle.px_syntax.specs.ItemTree.{item_tree}
use Rattle.px_syntax.specs.ParsedTree.{parsed}
use Rattle.px_bodies.specs.Environment.{environment_of, signature_of}
use Rattle.px_typing.specs.Readings.{with_first}
use Rattle.px_typing.proofs.ReadingLemmas.{Declares, declares_prototype, declares_nothing}
use Rattle.px_typing.proofs.marking.Reading.declare_tree.Goals as goal

pub returns-in_ok-declare-in-Prototype : goal.returns-in_ok-declare-in-Prototype
returns-in_ok-declare-in-Prototype c =
    subst (λ i. Declares c.args.self.now c.declare.new.self (parsed (item_tree i))) (sym c.in-Prototype.is)
    (declares_prototype c.args.self.now c.declare.new.self c.in-Prototype.site c.in-Prototype.result c.in-Prototype.name c.in-Prototype.parameters
    c.in_ok-declare-in-Prototype.ensures.structs
    (c.in_ok-declare-in-Prototype.ensures.environment
    ∙ ap (λ ps. with_first (environment_of c.args.self.now.environment) c.in-Prototype.name (signature_of c.in-Prototype.result ps)) c.as_slice.ensures))

pub returns-in-Struct : goal.returns-in-Struct
returns-in-Struct c =
    subst (λ i. Declares c.args.self.now c.args.self.now (parsed (item_tree i))) (sym c.in-Struct.is) (declares_nothing c.args.self.now _ (λ name. refl))

pub returns-in-Declared : goal.returns-in-Declared
returns-in-Declared c =
    subst (λ i. Declares c.args.self.now c.args.self.now (parsed (item_tree i))) (sym c.in-Declared.is) (declares_nothing c.args.self.now _ (λ name. refl))

pub returns-in-Function : goal.returns-in-Function
returns-in-Function c =
    subst (λ i. Declares c.args.self.now c.args.self.now (parsed (item_tree i))) (sym c.in-Function.is) (declares_nothing c.args.self.now _ (λ name. refl))
