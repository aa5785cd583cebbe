use Rattle.std.proofs.Common.{[], map}
use Rattle.px_syntax.specs.ParsedTree.{parsed_tree}
use Rattle.px_typing.specs.Programs.{environment_in}
use Rattle.px_typing.proofs.NumberingLemmas.{environment_seen}
use Rattle.px_typing.proofs.typing.numbered_environment.Goals as goal

pub returns : goal.returns
returns c =
    environment_seen c.new-numbering.result c.see_names.new.self c.see_types.new.self _ (environment_in (map parsed_tree c.args.heads.now) [] []) c.args.names.now c.args.types.now
    c.new-numbering.ensures.names c.new-numbering.ensures.types c.new-numbering.ensures.environment c.in_ok-environment_of_items.ensures c.in_ok-see_names.ensures c.in_ok-see_types.ensures
