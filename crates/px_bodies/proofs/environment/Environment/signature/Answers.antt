use Rattle.std.proofs.Common.{◌∙◌, sym, ap, ap₂, ℕ, List, option_map}
use Rattle.std.specs.Prelude.{bytes_eq}
use Rattle.std.specs.Borrow.{Bor}
use Rattle.px_bodies.specs.Environment.{environment_of}
use Rattle.px_bodies.specs.Lent.{prototype_seen}
use Rattle.px_bodies.proofs.TableLemmas.{lookup-map}
use Rattle.px_bodies.proofs.environment.Environment.signature.Goals as goal

pub returns : goal.returns
returns c =
    ap (option_map prototype_seen) (c.copied.ensures ∙ c.get.ensures.value)
    ∙ sym (lookup-map (λ (k : Bor (List ℕ)). k.now) prototype_seen (bytes_eq c.as_slice.result.now) c.self.inside.signatures.entries)
    ∙ ap₂ (λ n s. (environment_of s).signature n) c.as_slice.ensures c.self.view_is
