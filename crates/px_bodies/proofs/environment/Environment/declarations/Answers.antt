use Rattle.std.proofs.Common.{◌∙◌, sym, ap, ap₂, ℕ, List, option_map}
use Rattle.std.specs.Prelude.{bytes_eq}
use Rattle.std.specs.Borrow.{Bor}
use Rattle.px_bodies.specs.Types.{given}
use Rattle.px_bodies.specs.Environment.{environment_of, fields_of}
use Rattle.px_bodies.proofs.TableLemmas.{lookup-map}
use Rattle.px_bodies.proofs.environment.Environment.declarations.Goals as goal

pub returns : goal.returns
returns c =
    ap (option_map (λ ds. fields_of ds.now)) (c.copied.ensures ∙ c.get.ensures.value)
    ∙ sym (lookup-map (λ (k : Bor (List ℕ)). k.now) (λ ds. fields_of ds.now) (bytes_eq c.in_ok-tag.tag.now) c.self.inside.structs.entries)
    ∙ ap₂ (λ t s. given t (environment_of s).fields) c.in_ok-tag.ensures c.self.view_is
