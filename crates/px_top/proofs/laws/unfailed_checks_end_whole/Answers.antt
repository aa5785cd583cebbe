use Rattle.px_top.proofs.LawLemmas.{end_whole}
use Rattle.px_top.proofs.laws.unfailed_checks_end_whole.Goals as goal

pub returns : goal.returns
returns g c = end_whole g.H.Honesty.says g.F.Files.told g.F.Files.count g.F.Files.gives g.I.Source.told g.I.Source.count g.K.Sink.told g.K.Sink.count g.E.Sink.told g.E.Sink.count
