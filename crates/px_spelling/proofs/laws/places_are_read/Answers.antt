use Rattle.px_spelling.specs.Polynomials.{in_full}
use Rattle.px_spelling.specs.ByPlace.{distinct, by_place}
use Rattle.px_spelling.specs.Mentions.{table_mentions, callee_mentions}
use Rattle.px_spelling.proofs.MentionRanges.{table_ranges, callee_ranges}
use Rattle.px_spelling.proofs.DistinctLemmas.{mentioned_fit}
use Rattle.px_spelling.proofs.PlaceLemmas.{polynomial_total, only_same, place_round_trip, all_differ, shares_one}
use Rattle.px_spelling.proofs.laws.places_are_read.Goals as goal

pub returns : goal.returns
returns c = record {
  ordered = record { total = polynomial_total; only_same = only_same };
  read_again = λ terms p fits rest. (place_round_trip terms p fits).reads rest;
  all_differ = all_differ;
  shared = shares_one;
  tables = λ t fits few. table_ranges.moved in_full (by_place (distinct (table_mentions t))) t fits (mentioned_fit (table_mentions t) few);
  callees = λ c fits few. callee_ranges.moved in_full (by_place (distinct (callee_mentions c))) c fits (mentioned_fit (callee_mentions c) few);
}
