use Rattle.std.proofs.Common.{◌≡◌, ◌∙◌, sym, ap}
use Rattle.std.proofs.lemmas.Option.{same_Some}
use Rattle.std.proofs.lemmas.Result.{IfOk-weaker}
use Rattle.px_callgraph.specs.JobTree.{JobTree, job_tree}
use Rattle.px_explore.specs.declared.results.Analysis.{Analysis}
use Rattle.px_wire.specs.Messages.{reply}
use Rattle.px_keep.proofs.keeping.written.Goals as goal

pub returns-clause-written : goal.returns-clause-written
returns-clause-written g c =
    let j : JobTree = job_tree c.args.job.now in
    let a : Analysis = c.in_ok-table.field-0 in
    let same : reply 0 c.in_ok-from_slice.field-0 a.table a.derivations ≡ reply 0 j.kinds a.table a.derivations =
    ap (λ ks. reply 0 ks a.table a.derivations) (c.in_ok-from_slice.ensures ∙ c.as_slice.ensures) in
    let put = c.in_ok-put_item.ensures a.table a.derivations same in
    let found : c.in-Some.field-0 ≡ a = same_Some c.in-Some.field-0 a (sym c.in-Some.is ∙ c.analysis_in.ensures) in
    IfOk-weaker c.checked_table.result _ _ (λ x h. record {
      analysis = a;
      is_analysis = record { table = c.in_ok-table.ensures.table; own = c.in_ok-table.ensures.own };
      asks = put.asks;
      gives = put.gives;
      table_is = sym (h ∙ ap (λ (z : Analysis). z.table) found);
      items = put.items;
      bytes = put.bytes;
    }) c.checked_table.ensures.table
