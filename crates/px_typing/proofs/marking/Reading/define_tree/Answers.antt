use Rattle.std.proofs.Common.{◌≡◌, ◌∙◌, refl, sym, ap, subst, map, Ok, false}
use Rattle.std.proofs.lemmas.Result.{IfOk-weaker}
use Rattle.px_syntax.specs.StatementTree.{statement_tree}
use Rattle.px_syntax.specs.ItemTree.{item_tree}
use Rattle.px_syntax.specs.ParsedTree.{parsed}
use Rattle.px_bodies.specs.Environment.{environment_of, fields_of, signature_of}
use Rattle.px_typing.specs.Readings.{with_definition, with_first}
use Rattle.px_typing.proofs.ReadingLemmas.{Defines, defines_struct, defines_function, defines_nothing}
use Rattle.px_typing.proofs.marking.Reading.define_tree.Goals as goal

pub returns-in-Struct : goal.returns-in-Struct
returns-in-Struct c =
    subst (λ i. Defines c.args.self.now c.define_struct.new.self c.define_struct.result (parsed (item_tree i))) (sym c.in-Struct.is)
    (defines_struct c.args.self.now c.define_struct.new.self c.define_struct.result c.in-Struct.site c.in-Struct.name c.in-Struct.fields
    c.define_struct.ensures.duplicate c.define_struct.ensures.structs
    (IfOk-weaker c.define_struct.result _ _
    (λ duplicate h. h ∙ ap (λ ds. with_definition duplicate (environment_of c.args.self.now.environment) c.in-Struct.name (fields_of ds)) c.as_slice.ensures)
    c.define_struct.ensures.environment))

pub returns-in-Function : goal.returns-in-Function
returns-in-Function c =
    subst (λ i. Defines c.args.self.now c.declare.new.self c.declare.result (parsed (item_tree i))) (sym c.in-Function.is)
    (defines_function c.args.self.now c.declare.new.self c.declare.result c.in-Function.site c.in-Function.result c.in-Function.name c.in-Function.parameters
    (map statement_tree c.in-Function.body) c.declare.ensures.duplicate c.declare.ensures.structs
    (IfOk-weaker c.declare.result _ _
    (λ duplicate h. h ∙ ap (λ ps. with_first (environment_of c.args.self.now.environment) c.in-Function.name (signature_of c.in-Function.result ps)) c.as_slice-in-Function.ensures)
    c.declare.ensures.environment))

pub returns-in-Declared : goal.returns-in-Declared
returns-in-Declared c =
    subst (λ i. Defines c.args.self.now c.args.self.now (Ok false) (parsed (item_tree i))) (sym c.in-Declared.is)
    (defines_nothing c.args.self.now _ (λ tag. refl) (λ name. refl) (λ before. refl))

pub returns-in-Prototype : goal.returns-in-Prototype
returns-in-Prototype c =
    subst (λ i. Defines c.args.self.now c.args.self.now (Ok false) (parsed (item_tree i))) (sym c.in-Prototype.is)
    (defines_nothing c.args.self.now _ (λ tag. refl) (λ name. refl) (λ before. refl))
