use Rattle.std.proofs.Common.{ap, ◌∙◌, length}
use Rattle.std.proofs.lemmas.Result.{IfOk-weaker}
use Rattle.px_entry.specs.declared.atoms.AtomState.TheVariants.{Live}
use Rattle.px_callgraph.specs.States.{with_variables, met}
use Rattle.px_callgraph.specs.Accesses.{cell_infos, cell_contents, atom_of}
use Rattle.px_calls.specs.Calls.{calling_of}
use Rattle.px_calls.specs.Progress.{progress_at}
use Rattle.px_calls.proofs.MeetLemmas.{live_cut, live_met}
use Rattle.px_calls.proofs.meeting.meet_live_at.Goals as goal

pub returns-in-Some : goal.returns-in-Some
returns-in-Some c =
    let a = c.args in
    IfOk-weaker c.cut.result _ _
    (λ r e f. live_cut (progress_at r a.state.now) a.state.now a.types.now a.entry.now a.progress a.required.now a.x (length c.cells_of-cells.result.now) c.in-Some.kind (calling_of a.calling) e c.in-Some.ensures.first (ap length c.cells_of-cells.ensures) f)
    c.cut.ensures

pub returns-in_ok-meet_live-in-None : goal.returns-in_ok-meet_live-in-None
returns-in_ok-meet_live-in-None c =
    let a = c.args in
    IfOk-weaker c.stay.result _ _
    (λ r st f.
    live_met (progress_at r c.meet_live.new.state) a.state.now c.meet_live.new.state a.types.now a.entry.now a.progress a.required.now a.x (length c.cells_of-cells.result.now) _ (calling_of a.calling) st
    (c.in_ok-meet_live-in-None.ensures ∙ ap (λ ts. with_variables (cell_infos ts) (met (atom_of a.x a.required.now.block (Live (cell_contents (length a.state.now.vars) ts))) a.state.now)) c.cells_of-cells.ensures)
    c.len-n.ensures c.in-None.ensures.first (ap length c.cells_of-cells.ensures) c.in-None.ensures.few_blocks f)
    c.stay.ensures
