use Rattle.std.proofs.Common.{◌<◌, ℕ, List, length, get_or, set, Option, Some, refl, sym, subst, arith}
use Rattle.px_core.specs.BodyTree.{BodyTree}
use Rattle.px_callgraph.specs.CallGraphs.{IsGraphOf}
use Rattle.px_pieces.specs.declared.desk.Status.{Status}
use Rattle.px_book.specs.Ready.{callees_in, NoneBlocks, IsPast, IsFlagged}
use Rattle.px_book.proofs.SettleLemmas.{IsSettling, settling, settling_more, settled_all}
use Rattle.px_book.proofs.statuses.settle.Goals as goal

pub loop-caller-init : goal.loop-caller-init
loop-caller-init c =
    let h = c.put_flags.ensures in
    let g = c.args.graph.now in
    let statuses = c.args.statuses.now.items in
    let f = c.args.proc.0 in
    let x = Some c.args.status in
    subst (λ (cs : List ℕ). IsSettling g (set statuses f x) cs c.put_flags.new.ready 0) (sym c.targets-caller-items.ensures.value)
    (settling g c.args.callers.now statuses f x (let l = c.requires.proc in let s = c.requires.size in omega arith) c.requires.settled c.args.ready.now c.put_flags.new.ready c.requires.ready
    c.requires.callers c.requires.proc h.passed h.sized (subst (λ z. IsFlagged g z c.put_flags.new.ready f) c.deref.ensures.value h.flagged) h.others)

pub refresh-requires-clause-sized : goal.refresh-requires-clause-sized
refresh-requires-clause-sized c = c.loop-caller.invariant.sized

pub refresh-requires-clause-inside : goal.refresh-requires-clause-inside
refresh-requires-clause-inside c =
    let i = c.loop-caller.caller-index in
    let l = c.targets-caller-items.ensures.inside i 0 c.loop-caller-test.true in
    let s = c.requires.callers.size in
    c.loop-caller.invariant.inside (get_or c.targets-caller-items.result.now i 0) (omega arith)

pub loop-caller-preserved : goal.loop-caller-preserved
loop-caller-preserved c =
    let h = c.refresh.ensures in
    let g = c.args.graph.now in
    let i = c.loop-caller.caller-index in
    let cs = c.targets-caller-items.result.now in
    let p = get_or cs i 0 in
    let r = c.loop-caller.ready in
    let s = c.refresh.new.ready in
    let e = c.deref-in-loop-caller.ensures.value in
    settling_more g (set c.args.statuses.now.items c.args.proc.0 (Some c.args.status)) cs i p refl r s c.loop-caller.invariant (subst (λ z. IsFlagged g z s p) e h.flagged) h.inside
    (subst (λ z. (bodies : ℕ → Option BodyTree) → IsGraphOf bodies g → NoneBlocks bodies z p (callees_in g p) (get_or r.passed.items p 0) → IsPast bodies z p (callees_in g p) (get_or s.passed.items p 0)) e h.passed)
    h.others h.sized

pub returns-clause-ready : goal.returns-clause-ready
returns-clause-ready c =
    settled_all c.args.graph.now (set c.args.statuses.now.items c.args.proc.0 (Some c.args.status)) c.targets-caller-items.result.now c.loop-caller.ready c.loop-caller.caller-index
    c.loop-caller-test.false c.loop-caller.invariant
