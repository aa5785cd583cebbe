use Rattle.px_callgraph.specs.JobTree.{job_tree}
use Rattle.px_wire.specs.Messages.{request}
use Rattle.px_wire.proofs.ShortMessages.{in_other_version}
use Rattle.px_wire.proofs.encoding.encode_request.Goals as goal

pub returns-else-version-eq-SHARED : goal.returns-else-version-eq-SHARED
returns-else-version-eq-SHARED c =
    in_other_version c.args.version (request (job_tree c.args.job.now)) (λ bytes. bytes.items) c.encode_full_request.result c.if-version-eq-SHARED.false c.encode_full_request.ensures
