use Rattle.std.proofs.Common.{◌++◌, subst}
use Rattle.std.specs.Prelude.{codes}
use Rattle.px_lines.specs.Sinks.{change, Tells}
use Rattle.px_lines.specs.Lines.{line_feed, long_line}
use Rattle.px_lines.proofs.LineLemmas.{of_cause}
use Rattle.px_lines.proofs.lines.tell_cause.Goals as goal

pub returns-in-Usage : goal.returns-in-Usage
returns-in-Usage g c =
    of_cause _ _ _ c.in-Usage.is
    (subst (λ z. Tells (change g.E.Sink.told g.E.Sink.count c.args.err.now c.tell_line.new.err) (z)) c.as_bytes.ensures.value c.tell_line.ensures)

pub returns-in-UnreadFile : goal.returns-in-UnreadFile
returns-in-UnreadFile g c =
    of_cause _ _ _ c.in-UnreadFile.is
    (subst (λ z. Tells (change g.E.Sink.told g.E.Sink.count c.args.err.now c.tell_line-in-UnreadFile.new.err) (codes "cannot read " ++ (z ++ line_feed))) c.as_bytes-in-UnreadFile.ensures.value c.tell_line-in-UnreadFile.ensures)

pub returns-in-UnreadInput : goal.returns-in-UnreadInput
returns-in-UnreadInput g c = of_cause _ _ _ c.in-UnreadInput.is c.tell_line-in-UnreadInput.ensures

pub returns-in-Unwritten : goal.returns-in-Unwritten
returns-in-Unwritten g c = of_cause _ _ _ c.in-Unwritten.is c.tell_line-in-Unwritten.ensures

pub returns-in-LongFile : goal.returns-in-LongFile
returns-in-LongFile g c =
    of_cause _ _ _ c.in-LongFile.is
    (subst (λ z. Tells (change g.E.Sink.told g.E.Sink.count c.args.err.now c.tell_line-in-LongFile.new.err) (long_line z)) c.as_bytes-in-LongFile.ensures.value c.tell_line-in-LongFile.ensures)

pub returns-in-ManyProcedures : goal.returns-in-ManyProcedures
returns-in-ManyProcedures g c = of_cause _ _ _ c.in-ManyProcedures.is c.tell_line-in-ManyProcedures.ensures

pub returns-in-NoMemory : goal.returns-in-NoMemory
returns-in-NoMemory g c = of_cause _ _ _ c.in-NoMemory.is c.tell_line-in-NoMemory.ensures

pub returns-in-BadRequest : goal.returns-in-BadRequest
returns-in-BadRequest g c = of_cause _ _ _ c.in-BadRequest.is c.tell_place.ensures

pub returns-in-OtherDomains : goal.returns-in-OtherDomains
returns-in-OtherDomains g c = of_cause _ _ _ c.in-OtherDomains.is c.tell_place-in-OtherDomains.ensures
