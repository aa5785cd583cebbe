use Rattle.std.proofs.Common.{rules, ◌≡◌, sym}
use Rattle.px_core.proofs.EqualLemmas.{if_same, loop_same, lists_as, at_same}
use Rattle.px_core.proofs.equal.+equal.Goals as goal

pub equal_commands-returns-then-not-equal_lists : goal.equal_commands-returns-then-not-equal_lists
equal_commands-returns-then-not-equal_lists t c =
    let same = if_same _ _ _ _ _ _ _ _ c.in-If.is c.in-If-right.is c.if-slot-slot_2.false in
    let differ = c.if-not-equal_lists.true in
    (λ e. cc, λ e. let q = c.equal_lists.ensures.1 (lists_as c.deref.ensures.value c.deref-in-If.ensures.value (same.0 e).0) in cc)

pub equal_commands-returns-else-not-equal_lists : goal.equal_commands-returns-else-not-equal_lists
equal_commands-returns-else-not-equal_lists t c =
    let same = if_same _ _ _ _ _ _ _ _ c.in-If.is c.in-If-right.is c.if-slot-slot_2.false in
    let first = lists_as (sym c.deref.ensures.value) (sym c.deref-in-If.ensures.value) (c.equal_lists.ensures.0 c.if-not-equal_lists.false) in (
      λ e. same.1 (first, lists_as (sym c.deref-in-If-2.ensures.value) (sym c.deref-in-If-3.ensures.value) (c.equal_lists-in-If.ensures.0 e)),
      λ e. c.equal_lists-in-If.ensures.1 (lists_as c.deref-in-If-2.ensures.value c.deref-in-If-3.ensures.value (same.0 e).1),
    )

pub equal_commands-returns-then-not-equal_lists-2 : goal.equal_commands-returns-then-not-equal_lists-2
equal_commands-returns-then-not-equal_lists-2 t c =
    let es : c.in-Loop.site ≡ c.in-Loop-right.site_2 = search rules in
    let same = loop_same _ _ _ _ _ _ _ _ _ _ c.in-Loop.is c.in-Loop-right.is es in
    let differ = c.if-not-equal_lists-2.true in
    (λ e. cc, λ e. let q = c.equal_lists-in-Loop.ensures.1 (lists_as c.deref-in-Loop.ensures.value c.deref-in-Loop-2.ensures.value (same.0 e).0) in cc)

pub equal_commands-returns-then-not-equal_lists-3 : goal.equal_commands-returns-then-not-equal_lists-3
equal_commands-returns-then-not-equal_lists-3 t c =
    let es : c.in-Loop.site ≡ c.in-Loop-right.site_2 = search rules in
    let same = loop_same _ _ _ _ _ _ _ _ _ _ c.in-Loop.is c.in-Loop-right.is es in
    let differ = c.if-not-equal_lists-3.true in
    (λ e. cc, λ e. let q = c.equal_lists-in-Loop-2.ensures.1 (lists_as c.deref-in-Loop-3.ensures.value c.deref-in-Loop-4.ensures.value (same.0 e).1) in cc)

pub equal_commands-returns-else-not-equal_lists-3 : goal.equal_commands-returns-else-not-equal_lists-3
equal_commands-returns-else-not-equal_lists-3 t c =
    let es : c.in-Loop.site ≡ c.in-Loop-right.site_2 = search rules in
    let same = loop_same _ _ _ _ _ _ _ _ _ _ c.in-Loop.is c.in-Loop-right.is es in
    let head = lists_as (sym c.deref-in-Loop.ensures.value) (sym c.deref-in-Loop-2.ensures.value) (c.equal_lists-in-Loop.ensures.0 c.if-not-equal_lists-2.false) in
    let body = lists_as (sym c.deref-in-Loop-3.ensures.value) (sym c.deref-in-Loop-4.ensures.value) (c.equal_lists-in-Loop-2.ensures.0 c.if-not-equal_lists-3.false) in (
      λ e. same.1 (head, body, lists_as (sym c.deref-in-Loop-5.ensures.value) (sym c.deref-in-Loop-6.ensures.value) (c.equal_lists-in-Loop-3.ensures.0 e)),
      λ e. c.equal_lists-in-Loop-3.ensures.1 (lists_as c.deref-in-Loop-5.ensures.value c.deref-in-Loop-6.ensures.value (same.0 e).2),
    )

pub equal_lists-returns-then-not-equal_commands : goal.equal_lists-returns-then-not-equal_commands
equal_lists-returns-then-not-equal_commands t c =
    let differ = c.if-not-equal_commands.true in
    (λ e. cc, λ e. let q = c.equal_commands.ensures.1 (at_same _ _ _ _ _ c.loop-i-test.true e c.index-left-i.is c.index-right-i.is) in cc)
