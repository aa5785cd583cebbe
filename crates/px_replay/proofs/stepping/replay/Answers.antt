use Rattle.std.proofs.Common.{rules, ◌≡◌, ◌∙◌, ap, arith, List, ◌∷◌, ◌+◌, ◌-◌, length, refl, subst, [], Ok, Err}
use Rattle.px_entry.specs.declared.entries.Exit.TheVariants as exit
use Rattle.px_meaning.specs.Values.{Unwritten}
use Rattle.px_meaning.specs.TypedProgram.{typed_program}
use Rattle.px_syntax.specs.ProgramTree.{program_tree}
use Rattle.px_replay.specs.declared.stop.Stop.TheVariants as stop
use Rattle.px_replay.specs.Replays.{heap_map}
use Rattle.px_replay.specs.Script.{PlainScript, plain_script, UnlessMemory}
use Rattle.px_replay.specs.TreeReplay.{CallsReplay}
use Rattle.px_replay.proofs.ReplayLaw.{replayed_returned, replayed_failed, replayed_departs, replayed_short}
use Rattle.px_replay.proofs.stepping.replay.Goals as goal

nothing : {A : Type 0} (xs : List A) → length xs ≡ 0 → xs ≡ []
nothing [] e = refl
nothing (x ∷ xs) e = absurd (omega (arith, e))

pub returns-then-is_empty : goal.returns-then-is_empty
returns-then-is_empty c =
    let P = typed_program (program_tree c.args.program.now) in
    let n = length c.args.trace.now + 2 in
    let f = c.args.proc.0 in
    let args = c.args.arguments.items in
    let s : PlainScript = record { marks = c.args.trace.now; inputs = c.args.inputs.now; heap = heap_map c.args.heap } in
    let left = plain_script c.body-answer.new.script in
    let h = subst (λ r. UnlessMemory r (CallsReplay P n f args s r left)) c.in-Ok.is c.body-answer.ensures in
    let zeroth : length c.body-answer.new.script.marks.now ≡ 0 = grind (arith, c.is_empty.ensures, c.if-is_empty.true) in
    let none = nothing c.body-answer.new.script.marks.now zeroth in
    replayed_returned P n f args s c.in-Ok.result left (record { exit = exit.Ok; result = c.in-Ok.result; heap = c.body-answer.new.script.heap }) h none refl refl refl

pub returns-else-is_empty : goal.returns-else-is_empty
returns-else-is_empty c =
    let P = typed_program (program_tree c.args.program.now) in
    let n = length c.args.trace.now + 2 in
    let f = c.args.proc.0 in
    let args = c.args.arguments.items in
    let s : PlainScript = record { marks = c.args.trace.now; inputs = c.args.inputs.now; heap = heap_map c.args.heap } in
    let left = plain_script c.body-answer.new.script in
    let h = subst (λ r. UnlessMemory r (CallsReplay P n f args s r left)) c.in-Ok.is c.body-answer.ensures in
    let at : c.saturating_sub-mark.result ≡ length c.args.trace.now - length c.body-answer.new.script.marks.now = search rules in
    let some : c.body-answer.new.script.marks.now ≡ [] → ⊥ = search rules in
    replayed_short P n f args s (Ok c.in-Ok.result) left c.saturating_sub-mark.result h some at

pub returns-then-is_empty-2 : goal.returns-then-is_empty-2
returns-then-is_empty-2 c =
    let P = typed_program (program_tree c.args.program.now) in
    let n = length c.args.trace.now + 2 in
    let f = c.args.proc.0 in
    let args = c.args.arguments.items in
    let s : PlainScript = record { marks = c.args.trace.now; inputs = c.args.inputs.now; heap = heap_map c.args.heap } in
    let left = plain_script c.body-answer.new.script in
    let h = subst (λ r. UnlessMemory r (CallsReplay P n f args s r left)) (c.in-Err.is ∙ ap (λ e. Err e) c.in-Failed.is) c.body-answer.ensures in
    let zeroth : length c.body-answer.new.script.marks.now ≡ 0 = grind (arith, c.is_empty-in-Failed.ensures, c.if-is_empty-2.true) in
    let none = nothing c.body-answer.new.script.marks.now zeroth in
    replayed_failed P n f args s c.in-Failed.kind c.in-Failed.site left (record { exit = exit.Error c.in-Failed.kind c.in-Failed.site; result = Unwritten; heap = c.body-answer.new.script.heap }) h none refl refl refl

pub returns-else-is_empty-2 : goal.returns-else-is_empty-2
returns-else-is_empty-2 c =
    let P = typed_program (program_tree c.args.program.now) in
    let n = length c.args.trace.now + 2 in
    let f = c.args.proc.0 in
    let args = c.args.arguments.items in
    let s : PlainScript = record { marks = c.args.trace.now; inputs = c.args.inputs.now; heap = heap_map c.args.heap } in
    let left = plain_script c.body-answer.new.script in
    let h = subst (λ r. UnlessMemory r (CallsReplay P n f args s r left)) (c.in-Err.is ∙ ap (λ e. Err e) c.in-Failed.is) c.body-answer.ensures in
    let at : c.saturating_sub-mark.result ≡ length c.args.trace.now - length c.body-answer.new.script.marks.now = search rules in
    let some : c.body-answer.new.script.marks.now ≡ [] → ⊥ = search rules in
    replayed_short P n f args s (Err (stop.Failed c.in-Failed.kind c.in-Failed.site)) left c.saturating_sub-mark.result h some at

pub returns-in-Departs : goal.returns-in-Departs
returns-in-Departs c =
    let P = typed_program (program_tree c.args.program.now) in
    let n = length c.args.trace.now + 2 in
    let f = c.args.proc.0 in
    let args = c.args.arguments.items in
    let s : PlainScript = record { marks = c.args.trace.now; inputs = c.args.inputs.now; heap = heap_map c.args.heap } in
    let left = plain_script c.body-answer.new.script in
    let h = subst (λ r. UnlessMemory r (CallsReplay P n f args s r left)) (c.in-Err.is ∙ ap (λ e. Err e) c.in-Departs.is) c.body-answer.ensures in
    let at : c.saturating_sub-mark.result ≡ length c.args.trace.now - length c.body-answer.new.script.marks.now = search rules in
    replayed_departs P n f args s left c.saturating_sub-mark.result h at
