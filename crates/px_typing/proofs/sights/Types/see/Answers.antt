use Rattle.std.proofs.Common.{◌≡◌, ◌∙◌, ap, not, map}
use Rattle.std.specs.List.{list_any}
use Rattle.px_bodies.specs.Types.{same_type}
use Rattle.px_bodies.specs.Lent.{type_of}
use Rattle.px_typing.specs.Sights.{sighted}
use Rattle.px_typing.proofs.SightLemmas.{same_key, any_seen, seen_insert_key}
use Rattle.px_typing.proofs.sights.Types.see.Goals as goal

pub returns-clause-seen : goal.returns-clause-seen
returns-clause-seen c =
    ap (map type_of) c.in_ok-insert.ensures.keys
    ∙ seen_insert_key type_of _ same_type same_key c.self.inside.seen.keys c.args.of
    ∙ ap (λ s. sighted same_type s (type_of c.args.of)) c.self.view_is

pub returns-clause-first : goal.returns-clause-first
returns-clause-first c =
    c.in_ok-insert.ensures.added
    ∙ ap not (any_seen type_of _ same_type same_key c.args.of c.self.inside.seen.keys)
    ∙ ap (λ s. not (list_any (same_type (type_of c.args.of)) s)) c.self.view_is
