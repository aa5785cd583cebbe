use Rattle.std.proofs.Common.{◌∙◌, refl, sym, ap, inl}
use Rattle.std.specs.Prelude.{◌==◌}
use Rattle.std.specs.List.{list_any}
use Rattle.px_pool.proofs.script_link.ScriptLinkLink.send.Goals as goal

pub returns-then-fails-clause-taken : goal.returns-then-fails-clause-taken
returns-then-fails-clause-taken g c = record {
  script_stays = refl;
  receives_stay = refl;
  counted = c.saturating_add-self.ensures;
  listed = λ l. refl;
  failed = inl (ap (list_any (λ call. call == c.args.self.now.sends)) (sym c.deref.ensures.value) ∙ sym c.contains-fails.ensures.value ∙ c.if-fails.true);
  unsent = refl;
}
