use Rattle.std.proofs.Common.{slice_get}
use Rattle.std.proofs.lemmas.Result.{IfOk-weaker}
use Rattle.px_steps.specs.Led.{at_state}
use Rattle.px_steps.specs.Accessing.{access_of}
use Rattle.px_steps.proofs.AccessLemmas.{used_live}
use Rattle.px_steps.proofs.access_effects.use_atom.Goals as goal

pub returns-in-Some-false : goal.returns-in-Some-false
returns-in-Some-false c =
    let a = c.args in
    IfOk-weaker c.use_live.result _ _
    (λ r h. used_live (access_of a.access) a.n a.state.now (slice_get a.state.now.atoms a.n) (at_state r c.use_live.new.state) (cc (c.freed_at.ensures, c.as_slice.ensures, c.in-Some-false.is, c.in-Some-false.field-0-test)) h)
    c.use_live.ensures
