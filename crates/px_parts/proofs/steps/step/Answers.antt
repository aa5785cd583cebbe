use Rattle.std.proofs.Common.{sym, subst}
use Rattle.px_parts.specs.Stream.{IsStuck}
use Rattle.px_parts.specs.Kept.{place_of}
use Rattle.px_parts.proofs.steps.step.Goals as goal

pub returns-in-Start-clause-stuck : goal.returns-in-Start-clause-stuck
returns-in-Start-clause-stuck c told = subst (λ n. IsStuck (place_of n c.args.terms.now) c.args.bytes.now) (sym c.in-Start.is) (c.first_bytes.ensures.stuck told)

pub returns-in-Head-clause-stuck : goal.returns-in-Head-clause-stuck
returns-in-Head-clause-stuck c told = subst (λ n. IsStuck (place_of n c.args.terms.now) c.args.bytes.now) (sym c.in-Head.is) (c.head.ensures.stuck told)

pub returns-in-ListedHead-clause-stuck : goal.returns-in-ListedHead-clause-stuck
returns-in-ListedHead-clause-stuck c told = subst (λ n. IsStuck (place_of n c.args.terms.now) c.args.bytes.now) (sym c.in-ListedHead.is) (c.listed_head.ensures.stuck told)

pub returns-in-Large-clause-stuck : goal.returns-in-Large-clause-stuck
returns-in-Large-clause-stuck c told = subst (λ n. IsStuck (place_of n c.args.terms.now) c.args.bytes.now) (sym c.in-Large.is) (c.too_large.ensures.stuck told)

pub returns-in-EntryCount-clause-stuck : goal.returns-in-EntryCount-clause-stuck
returns-in-EntryCount-clause-stuck c told = subst (λ n. IsStuck (place_of n c.args.terms.now) c.args.bytes.now) (sym c.in-EntryCount.is) (c.count_of_entries.ensures.stuck told)

pub returns-in-Entries-clause-stuck : goal.returns-in-Entries-clause-stuck
returns-in-Entries-clause-stuck c told = subst (λ n. IsStuck (place_of n c.args.terms.now) c.args.bytes.now) (sym c.in-Entries.is) (c.next_entry.ensures.stuck told)

pub returns-in-DropCount-clause-stuck : goal.returns-in-DropCount-clause-stuck
returns-in-DropCount-clause-stuck c told = subst (λ n. IsStuck (place_of n c.args.terms.now) c.args.bytes.now) (sym c.in-DropCount.is) (c.count_of_drops.ensures.stuck told)

pub returns-in-Drops-clause-stuck : goal.returns-in-Drops-clause-stuck
returns-in-Drops-clause-stuck c told = subst (λ n. IsStuck (place_of n c.args.terms.now) c.args.bytes.now) (sym c.in-Drops.is) (c.next_drop.ensures.stuck told)

pub returns-in-DerivationCount-clause-stuck : goal.returns-in-DerivationCount-clause-stuck
returns-in-DerivationCount-clause-stuck c told = subst (λ n. IsStuck (place_of n c.args.terms.now) c.args.bytes.now) (sym c.in-DerivationCount.is) (c.count_of_derivations.ensures.stuck told)

pub returns-in-Derivations-clause-stuck : goal.returns-in-Derivations-clause-stuck
returns-in-Derivations-clause-stuck c told = subst (λ n. IsStuck (place_of n c.args.terms.now) c.args.bytes.now) (sym c.in-Derivations.is) (c.next_derivation.ensures.stuck told)
