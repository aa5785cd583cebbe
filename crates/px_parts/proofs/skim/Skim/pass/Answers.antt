use Rattle.std.proofs.Common.{rules}
use Rattle.px_parts.proofs.Skimming.{skim_on, skim_short, skim_whole, of_slice}
use Rattle.px_parts.proofs.skim.Skim.pass.Goals as goal

pub returns-in-Ok-clause-kept : goal.returns-in-Ok-clause-kept
returns-in-Ok-clause-kept c p skim begun = skim_on p c.args.bytes.now c.in-Ok.rest.now c.args.self.now c.pass_all.new.dues.items begun skim (of_slice c.args.self.now.dues.items c.pass_all.new.dues.items c.args.self.now.passed c.args.bytes.now c.in-Ok.rest.now c.in-Ok.ensures.passes)

pub returns-in-Ok-clause-short : goal.returns-in-Ok-clause-short
returns-in-Ok-clause-short c p skim is =
    skim_short p c.args.bytes.now c.in-Ok.rest.now c.args.self.now c.pass_all.new.dues.items (search rules) skim (of_slice c.args.self.now.dues.items c.pass_all.new.dues.items c.args.self.now.passed c.args.bytes.now c.in-Ok.rest.now c.in-Ok.ensures.passes) c.in-Ok.ensures.last (c.known_by.ensures.short is)

pub returns-in-Ok-clause-whole : goal.returns-in-Ok-clause-whole
returns-in-Ok-clause-whole c p skim is =
    skim_whole p c.args.bytes.now c.in-Ok.rest.now c.args.self.now c.pass_all.new.dues.items (search rules) skim (of_slice c.args.self.now.dues.items c.pass_all.new.dues.items c.args.self.now.passed c.args.bytes.now c.in-Ok.rest.now c.in-Ok.ensures.passes) (c.known_by.ensures.whole is)
