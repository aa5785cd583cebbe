use Rattle.px_real_declarations.proofs.OneReading as OneReading
use Rattle.px_real_declarations.proofs.laws.one_declaration.Goals as goal

pub returns : goal.returns
returns c = OneReading.one_declaration
