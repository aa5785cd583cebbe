use Rattle.std.proofs.Common.{◌≡◌, ◌≤◌, length, take}
use Rattle.px_real_declarations.specs.Names as Scopes
use Rattle.px_real_names.specs.Behind.{names_view}
use Rattle.px_real_names.proofs.names.is_type.Given as goal

abbrev pub decreases-loop-at : goal.decreases-loop-at
decreases-loop-at l = l.at

-- none of those behind is the word
abbrev pub invariant-loop-at : goal.invariant-loop-at
invariant-loop-at l = (l.at ≤ length l.entries) × (Scopes.is_type (names_view (take l.at l.entries)) l.word ≡ Scopes.is_type (names_view l.entries) l.word)
