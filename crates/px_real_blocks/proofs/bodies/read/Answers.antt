use Rattle.std.proofs.Common.{subst}
use Rattle.px_real_symbols.specs.Answers.{IsFaultOf}
use Rattle.px_real_symbols.specs.Symbols.{seen}
use Rattle.px_real_blocks.specs.Parts.{nesting_limit, braced_at}
use Rattle.px_real_blocks.proofs.BodyLemmas.{not_braced}
use Rattle.px_real_blocks.proofs.bodies.read.Goals as goal

pub returns-in-Err-Wrong-clause-unbraced : goal.returns-in-Err-Wrong-clause-unbraced
returns-in-Err-Wrong-clause-unbraced c = λ h o a b.
    not_braced (seen c.args.on) a o _ (subst (λ z. IsFaultOf (seen c.args.on) z (braced_at nesting_limit (seen c.args.on))) c.in-Err-Wrong.field-0-is c.in-Err-Wrong.ensures) b

pub returns-in-Err-Deep-clause-unbraced : goal.returns-in-Err-Deep-clause-unbraced
returns-in-Err-Deep-clause-unbraced c = λ h o a b.
    not_braced (seen c.args.on) a o _ (subst (λ z. IsFaultOf (seen c.args.on) z (braced_at nesting_limit (seen c.args.on))) c.in-Err-Deep.field-0-is c.in-Err-Deep.ensures) b
