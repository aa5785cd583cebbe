use Rattle.std.proofs.Common.{◌≡◌, ◌-◌, ◌≤◌, length, refl, sym, ap, subst, ◌∙◌, arith, Err}
use Rattle.std.specs.Prelude.{min}
use Rattle.px_parts.specs.declared.unread.Unread.{Unread}
use Rattle.px_parts.specs.Stream.{Streams, those}
use Rattle.px_parts.specs.Kept.{place_of, part_in, terms_behind, place_in, held_in}
use Rattle.px_parts.proofs.Skimming.{skim_not_begun}
use Rattle.px_parts.proofs.Holding.{is_behind, place_held, same_within, same_skim, given_back}
use Rattle.px_parts.proofs.Answering.{first_many, short_end, found_end, no_memory}
use Rattle.px_parts.proofs.unread.take_piece.Goals as goal

pub returns-in-Short-clause-taken : goal.returns-in-Short-clause-taken
returns-in-Short-clause-taken c =
    let old = c.args.unread.now in
    let l = c.look_first.new.unread in
    let count = c.min-count.result in
    let many : count ≡ min (length c.args.piece.now) old.left = omega (arith, c.min-count.ensures) in
    let after : Unread = record { next = l.next; terms = l.terms; held = l.held; start = l.start; left = l.left - count; skim = l.skim; expected = l.expected } in
    short_end old c.hold.new.unread l after c.args.piece.now c.first.result.now count c.count_held-behind.result c.answer.result many c.first.ensures (place_held old c.hold.new.unread c.hold.ensures.next c.hold.ensures.terms) c.hold.ensures.left
    c.in_ok-hold.ensures.held c.look_first.ensures.same refl refl refl c.count_held-behind.ensures (c.look_first.ensures.short c.hold.ensures.skim c.in-Short.is) c.answer.ensures

pub go_on-requires : goal.go_on-requires
go_on-requires c =
    let h = c.hold.new.unread in
    let l = c.look_first.new.unread in
    let k = c.keep_terms-part.new.unread in
    let x = c.in-Ok.found.0 in
    let q = place_of c.in-Ok.found.1 (terms_behind l.terms x) in
    let rest = c.in-Ok.found.2.now in
    let many : c.min-count.result ≡ min (length c.args.piece.now) c.args.unread.now.left = omega (arith, c.min-count.ensures) in
    let streams = subst (λ z. Streams (place_in l) z (those (part_in x)) q rest) c.from_start.ensures c.in-Ok.ensures.holds in
    let behind = is_behind (place_in l) q l.start l.held.items rest (those (part_in x)) (same_within h l c.look_first.ensures.same c.hold.ensures.within) streams in
    record {
      behind = subst (λ z. length rest ≤ length z) (sym c.keep_terms-part.ensures.held) behind.0;
      left = omega (arith, many, c.hold.ensures.left, c.look_first.ensures.same.4, c.keep_terms-part.ensures.left);
    }

pub returns-in-Ok : goal.returns-in-Ok
returns-in-Ok c =
    let old = c.args.unread.now in
    let h = c.hold.new.unread in
    let l = c.look_first.new.unread in
    let k = c.keep_terms-part.new.unread in
    let g = c.go_on.new.unread in
    let after = c.is_wrong-ended.new.unread in
    let count = c.min-count.result in
    let many : count ≡ min (length c.args.piece.now) old.left = omega (arith, c.min-count.ensures) in
    let same = c.is_wrong-ended.ensures.same in
    record {
      within = same_within g after same c.go_on.ensures.within;
      skim = same_skim g after same c.is_wrong-ended.ensures.skim;
      taken = found_end old h l k g after c.args.piece.now c.first.result.now c.from_start.result.now c.in-Ok.found.2.now count c.in-Ok.found.0 c.keep_terms-part.result c.in-Ok.found.1 c.answer-in-Ok.result
          c.is_wrong-ended.result many c.first.ensures c.hold.ensures.within (place_held old h c.hold.ensures.next c.hold.ensures.terms) c.hold.ensures.left c.in_ok-hold.ensures.held c.look_first.ensures.same
          c.from_start.ensures c.in-Ok.ensures.holds c.in-Ok.ensures.stuck c.keep_terms-part.ensures.part c.keep_terms-part.ensures.terms c.keep_terms-part.ensures.held c.keep_terms-part.ensures.left
          c.go_on.ensures.next c.go_on.ensures.terms c.go_on.ensures.left c.go_on.ensures.held same c.is_wrong-ended.ensures.ended c.answer-in-Ok.ensures;
    }

pub returns-in-Err : goal.returns-in-Err
returns-in-Err c =
    let old = c.args.unread.now in
    let h = c.hold.new.unread in
    let l = c.look_first.new.unread in
    let k = c.take_back.new.unread in
    let count = c.min-count.result in
    let many : count ≡ min (length c.args.piece.now) old.left = omega (arith, c.min-count.ensures) in
    let back = given_back old h l k c.first.result.now count (first_many count old.left c.args.piece.now c.first.result.now many c.first.ensures) c.hold.ensures.within
    (place_held old h c.hold.ensures.next c.hold.ensures.terms) c.hold.ensures.left c.in_ok-hold.ensures.held c.look_first.ensures.same c.take_back.ensures.held c.take_back.ensures.start
    (place_held l k c.take_back.ensures.next c.take_back.ensures.terms) c.take_back.ensures.left in
    record {
      within = back.0;
      skim = skim_not_begun (place_in k) (held_in k) k.skim c.take_back.ensures.begun;
      taken = no_memory (place_in old) (held_in old) c.args.piece.now old.left c.in-Err.fault k (λ same. c.find.ensures.memory (c.in-Err.is ∙ ap (λ z. Err z) same)) back.1;
    }
