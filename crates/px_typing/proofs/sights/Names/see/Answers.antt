use Rattle.std.proofs.Common.{◌≡◌, ◌∙◌, ap, refl, not, map, List, ℕ}
use Rattle.std.specs.Borrow.{Bor}
use Rattle.std.specs.List.{list_any}
use Rattle.std.specs.Str.{bytes_eq}
use Rattle.px_typing.specs.Sights.{sighted}
use Rattle.px_typing.proofs.SightLemmas.{any_seen, seen_insert_key}
use Rattle.px_typing.proofs.sights.Names.see.Goals as goal

pub returns-clause-seen : goal.returns-clause-seen
returns-clause-seen c =
    ap (map (λ (n : Bor (List ℕ)). n.now)) c.in_ok-insert.ensures.keys
    ∙ seen_insert_key (λ (n : Bor (List ℕ)). n.now) _ bytes_eq (λ x y. refl) c.self.inside.seen.keys (record { ref_ptr = _; now = c.args.name.now })
    ∙ ap (λ s. sighted bytes_eq s c.args.name.now) c.self.view_is

pub returns-clause-first : goal.returns-clause-first
returns-clause-first c =
    c.in_ok-insert.ensures.added
    ∙ ap not (any_seen (λ (n : Bor (List ℕ)). n.now) _ bytes_eq (λ x y. refl) (record { ref_ptr = (0, 0); now = c.args.name.now }) c.self.inside.seen.keys)
    ∙ ap (λ s. not (list_any (bytes_eq c.args.name.now) s)) c.self.view_is
