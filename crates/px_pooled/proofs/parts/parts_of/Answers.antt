use Rattle.std.proofs.Common.{◌∙◌, refl, sym}
use Rattle.px_syntax.specs.ProgramTree.{program_tree}
use Rattle.px_findings.proofs.PlanLemmas.{many_bodies}
use Rattle.px_pooled.proofs.OwnLemmas.{few_lowered}
use Rattle.px_pooled.proofs.parts.parts_of.Goals as goal

pub returns : goal.returns
returns g c =
    let P = program_tree c.args.program.now in
    let desk = c.in_ok-desk.ensures in
    let (large, are) = desk.bodies in
    record {
      sources = record { bodies = are.bodies_are; types = c.in_ok-copy.ensures; limits_are = refl; kinds_are = c.in_ok-kinds_of.ensures; out = desk.out };
      many = sym desk.many ∙ many_bodies P.procedures c.in_ok-desk.desk.bodies large are;
      many_bodies = desk.many;
      many_graph = desk.kept;
      graph = desk.graph;
      few = few_lowered c.in_ok-desk.desk.bodies P.procedures are.bodies_are c.requires.few;
    }
