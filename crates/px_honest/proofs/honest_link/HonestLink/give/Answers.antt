use Rattle.std.proofs.Common.{rules, ◌≡◌, ap, ◌∙◌, arith, ◌+◌, ◌-◌, [], ◌++◌, length, take, drop}
use Rattle.std.proofs.lemmas.List.{length-take}
use Rattle.std.specs.Prelude.{◌||◌, Bool}
use Rattle.px_pool.specs.Talks.{Talk, followed_by, gives}
use Rattle.px_honest.proofs.HonestLemmas.{talk_of, front_is, given_talk, word_kept}
use Rattle.px_honest.proofs.honest_link.HonestLink.give.Goals as goal

pub returns-clause-given : goal.returns-clause-given
returns-clause-given g c =
    let f = c.self.inside in
    let count = c.min-count.result in
    let all = drop f.given f.written.bytes.items in
    let rest = drop count c.args.into.now in
    let into = c.copy_from_slice.new.self ++ rest in
    let so_many : (f.given + count) - f.given ≡ count = omega arith in
    let piece : c.copy_from_slice.new.self ≡ take count all =
    c.copy_from_slice.ensures.after ∙ ap (λ n. take n (drop f.given c.deref.result.now)) so_many ∙ ap (λ l. take count (drop f.given l)) c.deref.ensures.value in
    let size : length c.copy_from_slice.new.self ≡ count = c.copy_from_slice.ensures.len ∙ grind (arith, length-take) in
    let front : take count into ≡ take count all = front_is c.copy_from_slice.new.self rest all count piece size in
    let was : talk_of f.sent.items f.written.bytes.items f.given f.ended ≡ c.args.self.now.talk = search rules in
    given_talk f.sent.items f.written.bytes.items (take count into) f.given count f.ended c.is_end.result front
    ∙ ap (λ (e : Bool). followed_by (talk_of f.sent.items f.written.bytes.items f.given f.ended) (record { sent = []; given = take count into; ended = e })) c.is_end.ensures
    ∙ ap (λ (t : Talk). followed_by t (gives count into)) was

pub returns-clause-word : goal.returns-clause-word
returns-clause-word g c =
    word_kept c.replies_are_analyses.ensures c.self.inside.known c.self.inside.kinds c.self.inside.sent.items c.self.inside.written.bytes.items (c.self.inside.given + c.min-count.result)
    (c.self.inside.ended || c.is_end.result) c.self.invariant.begun
