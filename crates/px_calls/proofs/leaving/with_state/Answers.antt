use Rattle.std.proofs.Common.{◌∙◌, ap, sym, arith}
use Rattle.px_callgraph.specs.Accesses.{set_atom}
use Rattle.px_ways.proofs.AtomLemmas.{wrote, set_atom_past}
use Rattle.px_calls.proofs.leaving.with_state.Goals as goal

pub returns : goal.returns
returns c =
    let v = c.into_vec-all.result in
    c.from_vec-2.ensures
    ∙ wrote c.args.n c.args.state v.items c.args.atoms c.index_mut.result.now c.put_state.new.atom (omega (arith, c.len.ensures, v.ok.0)) c.index_mut.ensures.value c.put_state.ensures c.into_vec-all.ensures

pub returns-then-n-len : goal.returns-then-n-len
returns-then-n-len c =
    let v = c.into_vec-all.result in
    c.from_vec.ensures
    ∙ sym (set_atom_past c.args.n c.args.state v.items (omega (arith, c.len.ensures, v.ok.0)))
    ∙ ap (set_atom c.args.n c.args.state) c.into_vec-all.ensures
