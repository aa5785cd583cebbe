use Rattle.std.proofs.Common.{◌≡◌, drop}
use Rattle.px_real_declarations.specs.Names as Scopes
use Rattle.px_real_names.proofs.names.Names.add_enumerators.Given as goal

-- with what is left these are all
abbrev pub invariant-loop-word : goal.invariant-loop-word
invariant-loop-word l = Scopes.with_enumerators (drop l.word-index l.words) l.self ≡ Scopes.with_enumerators l.words l.initial.self
