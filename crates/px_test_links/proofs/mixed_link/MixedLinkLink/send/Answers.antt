use Rattle.std.proofs.Common.{Some, sym, subst}
use Rattle.std.specs.Result.{OnErr}
use Rattle.px_pool.specs.Talks.{SendsPart}
use Rattle.px_pool.specs.ScriptLink.{talk_of as script_talk}
use Rattle.px_test_links.specs.MixedLinks.{talk_of}
use Rattle.px_test_links.proofs.mixed_link.MixedLinkLink.send.Goals as goal

pub returns-in-Script-clause-part : goal.returns-in-Script-clause-part
returns-in-Script-clause-part g c =
    subst (λ l. OnErr c.send.result (SendsPart (Some (talk_of l)) (Some (script_talk c.send.new.self)) c.args.bytes.now)) (sym c.in-Script.is) c.send.ensures.part
