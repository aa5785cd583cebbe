use Rattle.std.proofs.Common.{map, refl}
use Rattle.px_typing.specs.ItemViews.{judged_of}
use Rattle.px_typing.specs.Programs.{mentions}
use Rattle.px_typing.proofs.ProgramLemmas.{types_numbered, environment_numbered}
use Rattle.px_typing.proofs.typing.numbered.Goals as goal

pub returns-clause-types : goal.returns-clause-types
returns-clause-types c =
    types_numbered c.new-numbering.result c.see_program.new.self c.args.environment (map judged_of c.args.judged.now) (mentions (map judged_of c.args.judged.now))
    refl c.new-numbering.ensures.names c.new-numbering.ensures.types c.new-numbering.ensures.environment c.in_ok-see_program.ensures

pub returns-clause-numbers : goal.returns-clause-numbers
returns-clause-numbers c =
    environment_numbered c.new-numbering.result c.see_program.new.self c.args.environment (map judged_of c.args.judged.now) (mentions (map judged_of c.args.judged.now))
    refl c.new-numbering.ensures.names c.new-numbering.ensures.types c.new-numbering.ensures.environment c.in_ok-see_program.ensures
