use Rattle.std.proofs.Common.{◌≡◌, ◌<◌, length, get_or, slice_get, false, Some, None, refl, sym, ◌∙◌, arith}
use Rattle.std.proofs.lemmas.Option.{slice_get_read}
use Rattle.px_pieces.specs.Found.{table_of}
use Rattle.px_callgraph.specs.Callees.{AreTogether}
use Rattle.px_jobs.proofs.KnownLemmas.{never_left}
use Rattle.px_jobs.proofs.callees.what_is_known.Goals as goal

pub returns-in-None : goal.returns-in-None
returns-in-None c = λ w plan ready calls.
    let graph = c.args.graph.now in
    let out = c.args.out.now in
    let parts = c.args.parts.now in
    let g = c.args.callee.0 in
    let here : get_or out g false ≡ false = (let f = c.if-is_out.false in let i = c.is_out.ensures in cc) in
    let inside : g < length parts = (let t = c.if-place-parts.false in omega arith) in
    let apart : ¬ AreTogether w.bodies c.args.caller.0 g = (λ t. let e = (c.together.ensures w.bodies plan.graph).1 t in let f = c.if-together.false in cc) in
    let x = c.index-parts-place.result in
    let there : slice_get parts g ≡ Some x = slice_get_read parts (length parts) g x refl inside c.index-parts-place.is in
    let none : table_of x ≡ None = sym c.in_ok-table.ensures ∙ c.in-None.is in
    absurd (never_left w graph out parts c.args.caller.0 g plan calls c.requires.parts here inside apart x there none ready)
