use Rattle.std.proofs.Common.{refl, ◌∙◌, ap, arith, ℕ, take}
use Rattle.px_pool.specs.ScriptLink.{talk_of}
use Rattle.px_pool.proofs.ScriptLemmas.{gives_more}
use Rattle.px_pool.proofs.script_link.ScriptLinkLink.receive.Goals as goal

pub returns-clause-given : goal.returns-clause-given
returns-clause-given g c =
    let count : ℕ = c.given_at_once-count.result in
    let given = c.given_at_once-count.ensures in
    gives_more c.args.self.now.sent.items c.args.self.now.script.bytes.items c.args.into.now c.copy_from_slice.new.self c.args.self.now.at count c.args.self.now.ended
    c.is_end.result (c.copy_from_slice.ensures.after ∙ ap (take count) c.left.ensures) (omega arith) c.is_end.ensures (talk_of c.args.self.now) _ refl refl
