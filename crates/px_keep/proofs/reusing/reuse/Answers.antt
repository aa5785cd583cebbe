use Rattle.std.proofs.Common.{◌∙◌, ◌≤◌, List, map, length, refl, sym, ap, ap₂, subst, arith}
use Rattle.px_symexec.specs.One.{Work}
use Rattle.px_pieces.specs.declared.desk.Event.{Event}
use Rattle.px_pieces.specs.declared.findings.Part.{Part}
use Rattle.px_pieces.specs.Found.{Found}
use Rattle.px_jobs.specs.Sources.{SourceParts, source_work}
use Rattle.px_keep.specs.Items.{KeptItem}
use Rattle.px_keep.specs.Lent.{item_of}
use Rattle.px_keep.specs.Reused.{IsAnswer, IsReused, trues}
use Rattle.px_keep.proofs.MakingLemmas.{none_made, reused_all}
use Rattle.px_keep.proofs.PartLemmas.{can_be_made}
use Rattle.px_keep.proofs.reusing.reuse.Goals as goal

pub loop-place-init : goal.loop-place-init
loop-place-init g c =
    let s : SourceParts = record { bodies = c.args.bodies; types = c.args.types; limits = c.args.limits; kinds = c.args.kinds; out = c.args.out } in
    let w : Work = source_work s c.args.kept in
    record {
      made = none_made (IsAnswer (map item_of c.lent-lent.result.now)) w c.in_ok-order.order.items c.in_ok-progress.progress.parts.items c.in_ok-progress.progress.uses.items
          (c.in_ok-order.ensures.ordered w refl (sym c.as_slice.ensures) c.requires.graph) c.in_ok-progress.ensures.parts c.in_ok-progress.ensures.uses;
      now = c.requires.kinds;
      clear = c.requires.clear;
      first = c.requires.kinds;
    }

pub make_part-requires-clause-order : goal.make_part-requires-clause-order
make_part-requires-clause-order g c =
    let s : SourceParts = record { bodies = c.args.bodies; types = c.args.types; limits = c.args.limits; kinds = c.args.kinds; out = c.args.out } in
    can_be_made s c.in_ok-sources.sources c.args.graph.now c.args.kept c.in_ok-order.order.items c.deref.result.now c.in_ok-sources.ensures c.deref.ensures.value c.requires.kept c.requires.bodies c.requires.graph
    c.requires.few (c.in_ok-order.ensures.ordered (source_work s c.args.kept) refl (sym c.as_slice.ensures) c.requires.graph)

pub returns-clause-reused : goal.returns-clause-reused
returns-clause-reused g c =
    let s : SourceParts = record { bodies = c.args.bodies; types = c.args.types; limits = c.args.limits; kinds = c.args.kinds; out = c.args.out } in
    let w : Work = source_work s c.args.kept in
    let m = c.loop-place.progress in
    let n = c.len-place-end.ensures in
    let last : length c.in_ok-order.order.items ≤ c.loop-place.place = omega (arith, c.loop-place-test.false) in
    let made : List Part → List Event → Found = λ parts events. record { parts = parts; events = events } in
    subst (λ (xs : List KeptItem). IsReused w xs c.new-3.result c.trues_in-used.result) c.lent-lent.ensures.same
    (reused_all (map item_of c.lent-lent.result.now) w c.in_ok-order.order.items m.parts.items m.uses.items c.loop-place.place c.trues_in-used.result c.new-3.result
    (c.in_ok-order.ensures.ordered w refl (sym c.as_slice.ensures) c.requires.graph) c.loop-place.invariant.made last (c.trues_in-used.ensures ∙ ap trues c.deref-2.ensures.value)
    (c.new-3.ensures ∙ ap₂ made c.from_vec.ensures c.new-2.ensures))
