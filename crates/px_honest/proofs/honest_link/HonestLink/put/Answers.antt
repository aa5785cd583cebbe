use Rattle.std.proofs.Common.{rules, ◌≡◌, ap, ◌∙◌, List, ℕ}
use Rattle.px_honest.proofs.HonestLemmas.{talk_of, part_of_none}
use Rattle.px_honest.proofs.honest_link.HonestLink.put.Goals as goal

pub returns-then-is_err-clause-part : goal.returns-then-is_err-clause-part
returns-then-is_err-clause-part g c =
    let f = c.self.inside in
    let same : c.extend_from_slice.new.self.items ≡ f.sent.items = search rules in
    let was : talk_of f.sent.items f.written.bytes.items f.given f.ended ≡ c.args.self.now.talk = search rules in
    part_of_none c.args.self.now.talk (talk_of c.extend_from_slice.new.self.items f.written.bytes.items f.given f.ended) c.args.bytes.now
    (ap (λ (l : List ℕ). talk_of l f.written.bytes.items f.given f.ended) same ∙ was)
