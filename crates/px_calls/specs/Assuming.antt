-- What an entry says is assumed.
use Rattle.std.specs.Prelude.{◌≡◌, ◌+◌, ◌||◌, Bool, false, List, ◌++◌, length, fold, flat_map}
use Rattle.std.specs.List.{list_any}
use Rattle.px_terms.specs.declared.variables.VarInfo.{VarInfo}
use Rattle.px_terms.specs.declared.conjuncts.Conj.{Conj}
use Rattle.px_entry.specs.Sorts.{is_long, is_long_conjunct}
use Rattle.px_entry.specs.Equality.{same_conjunct}
use Rattle.px_callgraph.specs.Renaming.{Substitution, claim_through, assume_claim, claim_terms}
use Rattle.px_calls.specs.declared.assuming.Assumed.{Assumed}

-- what is added to these conjuncts where all that stands is this: as long as none is too long it is just that, and a
-- conjunct that isn't too long stands in all exactly where it is one of these or is added
pub record IsAssumed (pure stood : List Conj) (long : Bool) (a : Assumed) : Type 0 where
  pub count : length stood ≡ length pure + a.count
  pub long_one : a.long ≡ long
  pub exact : long ≡ false → stood ≡ pure ++ a.added
  pub one_of : (c : Conj) → is_long_conjunct c ≡ false → list_any (same_conjunct c) stood ≡ (list_any (same_conjunct c) pure || list_any (same_conjunct c) a.added)

-- what is added where conjuncts of an entry are assumed
abbrev pub AreAssumed : List VarInfo → List Conj → Substitution → List Conj → Assumed → Type 0
AreAssumed vars pure σ theirs a =
    IsAssumed pure (fold (λ cs c. assume_claim vars cs (claim_through σ c)) pure theirs) (list_any is_long (flat_map (λ c. claim_terms (claim_through σ c)) theirs)) a
