use Rattle.std.proofs.Common.{◌∙◌, refl, sym, ap, inl, inr}
use Rattle.std.specs.Prelude.{◌==◌}
use Rattle.std.specs.List.{list_any}
use Rattle.px_pool.proofs.script_spawner.ScriptSpawner.next_script.Goals as goal

pub returns-then-contains-clause-fails : goal.returns-then-contains-clause-fails
returns-then-contains-clause-fails c = (
  λ none. inr (inl (ap (list_any (λ call. call == c.args.self.now.calls)) (sym c.deref.ensures.value) ∙ sym c.contains.ensures.value ∙ c.if-contains.true)),
  λ fails. refl,
)
