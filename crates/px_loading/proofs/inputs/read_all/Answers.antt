use Rattle.std.proofs.Common.{◌≡◌, ◌∙◌, length, sym, ap, subst, Some, Ok, Err, ◌∷◌, []}
use Rattle.std.specs.Prelude.{List, IfSome, IfErr, slice_get, ◌<◌}
use Rattle.std.proofs.lemmas.Result.{err_from_is_err_and}
use Rattle.std.specs.String.{string_bytes}
use Rattle.px_io.specs.declared.files.FileFault.TheVariants as F
use Rattle.px_base.specs.Texts.{texts}
use Rattle.px_io.specs.Reads.{Given}
use Rattle.px_loading.specs.Inputs.{most_bytes}
use Rattle.px_loading.specs.Stops.{CountsFailed, GivesAll}
use Rattle.px_loading.specs.Faults.{IsFaultOf}
use Rattle.px_loading.proofs.Loops.{all_at, name_at, gives_more, read_counted, all_read_more, length_more, not_failed_at, not_failed_after}
use Rattle.px_loading.proofs.Outcomes.{stopped_fault, is_stopped}
use Rattle.px_loading.proofs.inputs.read_all.Goals as goal
use Rattle.px_programs.proofs.Lists.{all_change}

pub read-requires : goal.read-requires
read-requires g c =
    subst (λ name. g.F.Files.allows c.loop-i.files name) (sym (c.as_str-name.ensures.value ∙ ap string_bytes c.index-names-i.is))
    (all_at (λ name. g.F.Files.allows c.loop-i.files name) string_bytes c.args.names.now c.loop-i.i c.index-names-i.result c.loop-i.invariant.3 c.loop-i-test.true)

pub returns-in-Err-Failed-clause-none : goal.returns-in-Err-Failed-clause-none
returns-in-Err-Failed-clause-none g c =
    let m = g.F.Files in
    let names = texts c.args.names.now in
    let before = c.loop-i.sources.items in
    let path = c.as_str-name.result.now in
    let at : slice_get names (length before) ≡ Some path =
    name_at c.args.names.now c.loop-i.i (length before) c.index-names-i.result path c.loop-i.invariant.1 c.loop-i-test.true (c.as_str-name.ensures.value ∙ ap string_bytes c.index-names-i.is) in
    let given = subst (λ f. m.gives c.loop-i.files path (Err f) c.read.new.self) c.in-Err-Failed.field-0-is c.in-Err-Failed.ensures.given in
    let counts = subst (λ f. CountsFailed (m.count c.loop-i.files) (m.count c.read.new.self) (Err f ∷ [])) c.in-Err-Failed.field-0-is (read_counted _ _ _ c.in-Err-Failed.ensures.cause) in
    (_, gives_more m.told m.count m.gives c.args.files.now c.loop-i.files c.read.new.self names before path (Err F.Failed) c.loop-i.invariant.0 at given (λ w. absurd cc) counts, (stopped_fault before F.Failed, is_stopped names before F.Failed path at))

pub returns-in-Err-Long-clause-none : goal.returns-in-Err-Long-clause-none
returns-in-Err-Long-clause-none g c =
    let m = g.F.Files in
    let names = texts c.args.names.now in
    let before = c.loop-i.sources.items in
    let path = c.as_str-name.result.now in
    let at : slice_get names (length before) ≡ Some path =
    name_at c.args.names.now c.loop-i.i (length before) c.index-names-i.result path c.loop-i.invariant.1 c.loop-i-test.true (c.as_str-name.ensures.value ∙ ap string_bytes c.index-names-i.is) in
    let given = subst (λ f. m.gives c.loop-i.files path (Err f) c.read.new.self) c.in-Err-Long.field-0-is c.in-Err-Long.ensures.given in
    let counts = subst (λ f. CountsFailed (m.count c.loop-i.files) (m.count c.read.new.self) (Err f ∷ [])) c.in-Err-Long.field-0-is (read_counted _ _ _ c.in-Err-Long.ensures.cause) in
    (_, gives_more m.told m.count m.gives c.args.files.now c.loop-i.files c.read.new.self names before path (Err F.Long) c.loop-i.invariant.0 at given (λ w. subst (λ t. IfSome t (λ k. most_bytes < length k)) (c.loop-i.invariant.2 path) (c.in-Err-Long.ensures.long (ap Err c.in-Err-Long.field-0-is))) counts, (stopped_fault before F.Long, is_stopped names before F.Long path at))

pub returns-in-Err-NoMemory-clause-none : goal.returns-in-Err-NoMemory-clause-none
returns-in-Err-NoMemory-clause-none g c =
    let m = g.F.Files in
    let names = texts c.args.names.now in
    let before = c.loop-i.sources.items in
    let path = c.as_str-name.result.now in
    let at : slice_get names (length before) ≡ Some path =
    name_at c.args.names.now c.loop-i.i (length before) c.index-names-i.result path c.loop-i.invariant.1 c.loop-i-test.true (c.as_str-name.ensures.value ∙ ap string_bytes c.index-names-i.is) in
    let given = subst (λ f. m.gives c.loop-i.files path (Err f) c.read.new.self) c.in-Err-NoMemory.field-0-is c.in-Err-NoMemory.ensures.given in
    let counts = subst (λ f. CountsFailed (m.count c.loop-i.files) (m.count c.read.new.self) (Err f ∷ [])) c.in-Err-NoMemory.field-0-is (read_counted _ _ _ c.in-Err-NoMemory.ensures.cause) in
    (_, gives_more m.told m.count m.gives c.args.files.now c.loop-i.files c.read.new.self names before path (Err F.NoMemory) c.loop-i.invariant.0 at given (λ w. absurd cc) counts, not_failed_at before)

pub returns-in_err-push-in-Ok-clause-none : goal.returns-in_err-push-in-Ok-clause-none
returns-in_err-push-in-Ok-clause-none g c =
    let m = g.F.Files in
    let names = texts c.args.names.now in
    let before = c.loop-i.sources.items in
    let path = c.as_str-name.result.now in
    let at : slice_get names (length before) ≡ Some path =
    name_at c.args.names.now c.loop-i.i (length before) c.index-names-i.result path c.loop-i.invariant.1 c.loop-i-test.true (c.as_str-name.ensures.value ∙ ap string_bytes c.index-names-i.is) in
    let bytes = c.in-Ok.bytes in
    let contents = subst (λ t. IfSome t (λ k. bytes.items ≡ k)) (c.loop-i.invariant.2 path) c.in-Ok.ensures.contents in
    let p = err_from_is_err_and c.from_residual.result c.from_residual.ensures.1 in
    subst (λ r. IfErr r (λ fault. (given : List Given) × GivesAll m.told m.count m.gives c.args.files.now c.read.new.self names given × IsFaultOf names given fault)) (sym (p.1 ∙ ap Err p.2))
    (_, gives_more m.told m.count m.gives c.args.files.now c.loop-i.files c.read.new.self names before path (Ok bytes.items) c.loop-i.invariant.0 at c.in-Ok.ensures.given (contents, c.in-Ok.ensures.within) (read_counted _ _ _ c.in-Ok.ensures.cause), not_failed_after before bytes.items)

pub loop-i-preserved : goal.loop-i-preserved
loop-i-preserved g c =
    let m = g.F.Files in
    let names = texts c.args.names.now in
    let before = c.loop-i.sources.items in
    let path = c.as_str-name.result.now in
    let at : slice_get names (length before) ≡ Some path =
    name_at c.args.names.now c.loop-i.i (length before) c.index-names-i.result path c.loop-i.invariant.1 c.loop-i-test.true (c.as_str-name.ensures.value ∙ ap string_bytes c.index-names-i.is) in
    let bytes = c.in-Ok.bytes in
    let contents = subst (λ t. IfSome t (λ k. bytes.items ≡ k)) (c.loop-i.invariant.2 path) c.in-Ok.ensures.contents in
    let more = gives_more m.told m.count m.gives c.args.files.now c.loop-i.files c.read.new.self names before path (Ok bytes.items) c.loop-i.invariant.0 at c.in-Ok.ensures.given (contents, c.in-Ok.ensures.within) (read_counted _ _ _ c.in-Ok.ensures.cause) in (
      subst (λ v. GivesAll m.told m.count m.gives c.args.files.now c.read.new.self names v) (sym (all_read_more before c.push.new.self.items bytes c.in_ok-push-in-Ok.ensures.items)) more,
      length_more before c.push.new.self.items bytes c.loop-i.i c.in_ok-push-in-Ok.ensures.items c.loop-i.invariant.1,
      λ p. c.in-Ok.ensures.same p ∙ c.loop-i.invariant.2 p,
      all_change _ _ (λ p a. c.in-Ok.ensures.allowed p a) names c.loop-i.invariant.3,
      λ p a. c.in-Ok.ensures.allowed p (c.loop-i.invariant.4 p a),
    )
