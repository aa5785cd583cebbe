-- A message in range is so where each polynomial is sent once, and a message that is so is in range.
use Rattle.std.specs.Prelude.{length}
use Rattle.std.specs.List.{AllByRecursion}
use Rattle.px_base.specs.declared.trace.ProcId.{ProcId}
use Rattle.px_callgraph.specs.declared.jobs.Callee.{Callee}
use Rattle.px_spelling.specs.Numbers.{IsU32}
use Rattle.px_spelling.specs.Lists.{any_number}
use Rattle.px_spelling.specs.Polynomials.{PolynomialSpelling, in_full}
use Rattle.px_spelling.specs.ByPlace.{by_place}
use Rattle.px_spelling.specs.Mentions.{callee_mentions}
use Rattle.px_spelling.proofs.MentionRanges.{Ranges, list_ranges, callee_ranges, table_ranges}
use Rattle.px_spelling.proofs.DistinctLemmas.{mentioned_fit, all_once, all_mentioned}
use Rattle.px_wire.specs.Jobs.{IsKnown}
use Rattle.px_wire.specs.Mentions.{mentions, terms_of}
use Rattle.px_wire.specs.Messages.{MessageTree, request, reply, large, IsSaid, IsMessage}

known_ranges : Ranges IsKnown (λ (c : ProcId × Callee). callee_mentions c.1)
known_ranges = record {
  named = λ p c fits. callee_ranges.named p c.1 fits.1;
  moved = λ p q c fits all. (fits.0, callee_ranges.moved p q c.1 fits.1 all);
}

pub said_ranges : Ranges IsSaid mentions
said_ranges = record { named = named; moved = moved }
  where
    named : (p : PolynomialSpelling) (m : MessageTree) → IsSaid p m → AllByRecursion p.fits (mentions m)
    named p (request j) fits = (list_ranges known_ranges any_number).named p j.callees fits.0.3
    named p (reply ticket kinds table derivations) fits = table_ranges.named p table fits.0.2
    named p (large ticket) fits = tt

    moved : (p q : PolynomialSpelling) (m : MessageTree) → IsSaid p m → AllByRecursion q.fits (mentions m) → IsSaid q m
    moved p q (request j) ((proc, body, types, callees, limits, kinds, ticket), within) all =
        ((proc, body, types, (list_ranges known_ranges any_number).moved p q j.callees callees all, limits, kinds, ticket), within)
    moved p q (reply ticket kinds table derivations) ((is_ticket, are_kinds, is_table, are_derivations), rise, within) all =
        ((is_ticket, are_kinds, table_ranges.moved p q table is_table all, are_derivations), rise, within)
    moved p q (large ticket) fits all = fits

-- in range by the places of its terms
pub by_terms : (m : MessageTree) → IsMessage m → IsU32 (length (terms_of m)) → IsSaid (by_place (terms_of m)) m
by_terms m fits few = said_ranges.moved in_full (by_place (terms_of m)) m fits (mentioned_fit (mentions m) few)

-- its terms are in range
pub terms_fit : (m : MessageTree) → IsMessage m → AllByRecursion in_full.fits (terms_of m)
terms_fit m fits = all_once in_full.fits (mentions m) (said_ranges.named in_full m fits)

-- in range by places of terms that are in range
pub from_terms : (p : PolynomialSpelling) (m : MessageTree) → IsSaid p m → AllByRecursion in_full.fits (terms_of m) → IsMessage m
from_terms p m fits all = said_ranges.moved p in_full m fits (all_mentioned in_full.fits (mentions m) all)
