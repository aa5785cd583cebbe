use Rattle.px_spelling.specs.Lists.{list_bytes, option_bytes}
use Rattle.px_spelling.specs.Traces.{proc_id_bytes, mark_bytes}
use Rattle.px_spelling.specs.Types.{var_info_bytes, value_bytes}
use Rattle.px_spelling.specs.Conjuncts.{content_bytes, conj_bytes}
use Rattle.px_spelling.specs.Entries.{atom_bytes, exit_bytes}
use Rattle.px_spelling.proofs.Nine.{nine}
use Rattle.px_spelling.proofs.entries.EntryWireWith.read_with.Goals as goal

pub returns-clause-spelled : goal.returns-clause-spelled
returns-clause-spelled g c =
    let p = g.S.Terms.spelling c.args.terms.now in
    let proc = c.in_ok-proc.ensures.spelled in
    let trace = c.in_ok-trace.ensures.spelled in
    let exit = c.in_ok-exit.ensures.spelled in
    let given = c.in_ok-result.ensures.spelled in
    let vars = c.in_ok-vars.ensures.spelled in
    let pure = c.in_ok-pure.ensures.spelled in
    let pre = c.in_ok-pre.ensures.spelled in
    let post = c.in_ok-post.ensures.spelled in
    let model = c.in_ok-model.ensures.spelled in (
      nine c.args.bytes.now
          (proc_id_bytes c.in_ok-proc.proc) c.in_ok-proc.rest.now
          (list_bytes mark_bytes c.in_ok-trace.trace) c.in_ok-trace.rest.now
          (exit_bytes c.in_ok-exit.exit) c.in_ok-exit.rest.now
          (option_bytes (content_bytes p) c.in_ok-result.result) c.in_ok-result.rest.now
          (list_bytes var_info_bytes c.in_ok-vars.vars) c.in_ok-vars.rest.now
          (list_bytes (conj_bytes p) c.in_ok-pure.pure) c.in_ok-pure.rest.now
          (list_bytes (atom_bytes p) c.in_ok-pre.pre) c.in_ok-pre.rest.now
          (list_bytes (atom_bytes p) c.in_ok-post.post) c.in_ok-post.rest.now
          (list_bytes value_bytes c.in_ok-model.model) c.in_ok-model.rest.now
          proc.0 trace.0 exit.0 given.0 vars.0 pure.0 pre.0 post.0 model.0,
      (proc.1, trace.1, exit.1, given.1, vars.1, pure.1, pre.1, post.1, model.1),
    )
