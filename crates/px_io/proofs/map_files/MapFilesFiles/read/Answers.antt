use Rattle.std.proofs.Common.{◌∙◌, refl, sym, ap}
use Rattle.std.specs.Prelude.{◌==◌, is_none}
use Rattle.std.specs.List.{list_any}
use Rattle.px_io.proofs.FailureLemmas.{spared}
use Rattle.px_io.proofs.map_files.MapFilesFiles.read.Goals as goal

pub returns-then-len-limit-clause-given : goal.returns-then-len-limit-clause-given
returns-then-len-limit-clause-given c = record {
  contents_stay = refl;
  failing_stays = refl;
  counted = c.saturating_add-self.ensures;
  failed = spared _ _ (ap is_none (sym c.in-Some.ensures.value))
      (ap (list_any (λ call. call == c.args.self.now.calls)) (sym c.deref.ensures.value) ∙ sym c.contains.ensures.value ∙ c.if-contains.false) (λ e. cc);
}

pub returns-in-Ok-clause-given : goal.returns-in-Ok-clause-given
returns-in-Ok-clause-given c = record {
  contents_stay = refl;
  failing_stays = refl;
  counted = c.saturating_add-self.ensures;
  failed = spared _ _ (ap is_none (sym c.in-Some.ensures.value))
      (ap (list_any (λ call. call == c.args.self.now.calls)) (sym c.deref.ensures.value) ∙ sym c.contains.ensures.value ∙ c.if-contains.false) (λ e. cc);
}

pub returns-in-Err-clause-given : goal.returns-in-Err-clause-given
returns-in-Err-clause-given c = record {
  contents_stay = refl;
  failing_stays = refl;
  counted = c.saturating_add-self.ensures;
  failed = spared _ _ (ap is_none (sym c.in-Some.ensures.value))
      (ap (list_any (λ call. call == c.args.self.now.calls)) (sym c.deref.ensures.value) ∙ sym c.contains.ensures.value ∙ c.if-contains.false) (λ e. cc);
}
