use Rattle.px_top.proofs.LawLemmas.{no_alarms}
use Rattle.px_top.proofs.laws.no_false_alarms.Goals as goal

pub returns : goal.returns
returns g c = no_alarms g.H.Honesty.says g.F.Files.told g.F.Files.count g.F.Files.gives g.I.Source.told g.I.Source.count g.K.Sink.told g.K.Sink.count g.E.Sink.told g.E.Sink.count
