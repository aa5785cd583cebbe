use Rattle.std.proofs.Common.{◌++◌, map, take, ap, sym, subst, rules, ◌∙◌}
use Rattle.px_terms.specs.Terms.{IsRising, gathered}
use Rattle.px_terms.specs.Monomials.{term_of}
use Rattle.px_terms.specs.Rows.{row_of, rows_of, scalar_of}
use Rattle.px_terms.proofs.Products.{rising_of, first_rows, next_row}
use Rattle.px_terms.proofs.Degrees.{room_for}
use Rattle.px_terms.proofs.product.product.Goals as goal

pub add_scaled-requires-2 : goal.add_scaled-requires-2
add_scaled-requires-2 g c = (
  search rules,
  (rising_of (map term_of c.in_ok-all.all.items) (map term_of c.new.result.items ++ row_of (scalar_of c.args.d) (map term_of c.args.a.now)) c.in_ok-all.ensures, c.requires.right),
)

pub loop-s-init : goal.loop-s-init
loop-s-init g c =
    let da = row_of (scalar_of c.args.d) (map term_of c.args.a.now) in
    first_rows (map term_of c.in_ok-all.all.items) (map term_of c.in_ok-all-2.all.items) da (row_of (scalar_of c.args.c) (map term_of c.args.b.now))
    (c.in_ok-all.ensures ∙ ap (λ z. gathered (map term_of z ++ da)) c.new.ensures.items) c.in_ok-all-2.ensures

pub add_row-requires : goal.add_row-requires
add_row-requires g c =
    let a = map term_of c.args.a.now in
    let b = map term_of c.args.b.now in (
      search rules,
      (
        subst (λ xs. IsRising (map term_of xs)) (sym c.deref.ensures.value)
            (rising_of (map term_of c.loop-s.all.items) (row_of (scalar_of c.args.d) a ++ row_of (scalar_of c.args.c) b ++ rows_of (map term_of (take c.loop-s.s-index c.args.a.now)) b) c.loop-s.invariant),
        (c.requires.right, room_for c.args.a.now c.args.b.now c.loop-s.s-index c.s-item.result c.loop-s-test.true c.s-item.is c.requires.room),
      ),
    )

pub loop-s-preserved : goal.loop-s-preserved
loop-s-preserved g c =
    let b = map term_of c.args.b.now in
    next_row c.args.a.now c.loop-s.s-index c.s-item.result (map term_of c.loop-s.all.items) (map term_of c.in_ok-all-3.all.items)
    (row_of (scalar_of c.args.d) (map term_of c.args.a.now) ++ row_of (scalar_of c.args.c) b) b c.loop-s-test.true c.s-item.is c.loop-s.invariant
    (c.in_ok-all-3.ensures ∙ ap (λ z. gathered (map term_of z ++ row_of (term_of c.s-item.result) b)) c.deref.ensures.value)
