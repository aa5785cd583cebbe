use Rattle.std.proofs.Common.{Some, ap, ◌∙◌}
use Rattle.px_real_declarations.specs.Names as Scopes
use Rattle.px_real_declaring.specs.Trees.{declarator_tree}
use Rattle.px_real_names.proofs.NameLemmas.{declares_name}
use Rattle.px_real_names.proofs.names.Names.add_declarator.Goals as goal

pub returns-in-Some : goal.returns-in-Some
returns-in-Some c =
    declares_name c.add.result c.args.is_type c.as_slice.result.now c.args.self.now c.add.new.self (λ all. Scopes.declared_name (declarator_tree all c.args.declarator.now))
    (λ all. ap Some c.as_slice.ensures ∙ c.in-Some.ensures all) c.add.ensures

pub returns-in-None : goal.returns-in-None
returns-in-None c = λ all. ap (λ z. Scopes.with_name c.args.is_type z c.args.self.now) (c.in-None.ensures all)
