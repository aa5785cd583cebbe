use Rattle.std.proofs.Common.{length, map, Some, sym, ap, subst, ◌∙◌, arith}
use Rattle.px_chains.specs.Ends.{IsEndOfKey}
use Rattle.px_real_scopes.specs.Lookups.{first_said, says_members}
use Rattle.px_real_scopes.specs.Views.{member_view}
use Rattle.px_real_scopes.proofs.DefinitionLemmas.{no_members, members_found}
use Rattle.px_real_scopes.proofs.definitions.Definitions.members.Goals as goal

pub returns-then-end-eq0 : goal.returns-then-end-eq0
returns-then-end-eq0 c =
    sym (no_members c.self.inside.items.items c.args.number c.end_of-end.result (subst (λ ks. IsEndOfKey ks c.args.number (length ks) c.end_of-end.result) c.self.invariant c.end_of-end.ensures) c.if-end-eq0.true)
    ∙ ap (first_said (says_members c.args.number)) c.self.view_is

pub returns : goal.returns
returns c =
    ap (λ z. Some (map member_view z)) c.deref.ensures.value
    ∙ sym (members_found c.self.inside.items.items c.args.number c.end_of-end.result (subst (λ ks. IsEndOfKey ks c.args.number (length ks) c.end_of-end.result) c.self.invariant c.end_of-end.ensures) c.index.result.now (omega (arith, c.if-end-eq0.false)) c.index.ensures)
    ∙ ap (first_said (says_members c.args.number)) c.self.view_is
