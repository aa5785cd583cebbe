-- Round trips: what was written is read as it was.
use Rattle.std.specs.Prelude.{◌≡◌, ◌≢◌, ℕ, List, [], ◌∷◌, ◌++◌, length, Some}
use Rattle.std.specs.List.{flat_map}
use Rattle.px_terms.specs.Polynomials.{Polynomial}
use Rattle.px_terms.specs.declared.conjuncts.Conj.TheVariants as J
use Rattle.px_spelling.specs.Reading.{Reader}
use Rattle.px_spelling.specs.Traces.{proc_id_bytes, IsProcId, proc_id_at, site_bytes, IsSite, site_at}
use Rattle.px_spelling.specs.Types.{value_type_bytes, IsValueType, value_type_at, block_type_bytes, IsBlockType, block_type_at}
use Rattle.px_spelling.specs.Polynomials.{polynomial_bytes, IsPolynomialInRange, polynomial_at, PolynomialSpelling, in_full}
use Rattle.px_spelling.specs.Entries.{entry_bytes, IsEntry, entry_at}
use Rattle.px_spelling.specs.Tables.{table_bytes, IsTable, table_at}
use Rattle.px_spelling.specs.Derivations.{derivation_bytes, IsDerivation, derivation_at}
use Rattle.px_spelling.specs.Operands.{operand_bytes, IsOperand, operand_at, operator_bytes, IsOperator, operator_at, comparison_bytes, IsComparison, comparison_at}
use Rattle.px_spelling.specs.Callees.{callee_bytes, IsCallee, callee_at}
use Rattle.px_spelling.specs.Conjuncts.{conj_bytes}
use Rattle.px_spelling.specs.ByPlace.{OrdersPolynomials, distinct, Differ, by_place}
use Rattle.px_spelling.specs.Mentions.{conj_mentions, table_mentions, callee_mentions}
use Rattle.px_spelling.specs.Numbers.{IsU32}

-- each value in range has its round trip: it is read as it was, whatever follows its bytes
abbrev pub HasRoundTrip : {A : Type 0} → (A → List ℕ) → (A → Type 0) → Reader A → Type 0
HasRoundTrip {A} bytes_of fits at = (x : A) → fits x → (rest : List ℕ) → at (bytes_of x ++ rest) ≡ Some (x, rest)

pub record WrittenIsRead : Type 0 where
  pub proc_ids : HasRoundTrip proc_id_bytes IsProcId proc_id_at
  pub sites : HasRoundTrip site_bytes IsSite site_at
  pub value_types : HasRoundTrip value_type_bytes IsValueType value_type_at
  pub block_types : HasRoundTrip block_type_bytes IsBlockType block_type_at
  pub polynomials : HasRoundTrip polynomial_bytes IsPolynomialInRange polynomial_at
  pub derivations : HasRoundTrip derivation_bytes IsDerivation derivation_at
  pub operands : HasRoundTrip operand_bytes IsOperand operand_at
  pub operators : HasRoundTrip operator_bytes IsOperator operator_at
  pub comparisons : HasRoundTrip comparison_bytes IsComparison comparison_at

-- polynomials have theirs in this spelling of them
abbrev pub AreReadAgain : PolynomialSpelling → Type 0
AreReadAgain p = HasRoundTrip p.bytes_of p.fits p.at

-- what holds polynomials has its own in this spelling of them
pub record HoldersAreRead (p : PolynomialSpelling) : Type 0 where
  pub entries : HasRoundTrip (entry_bytes p) (IsEntry p) (entry_at p)
  pub tables : HasRoundTrip (table_bytes p) (IsTable p) (table_at p)
  pub callees : HasRoundTrip (callee_bytes p) (IsCallee p) (callee_at p)

-- Of two conjuncts that share a polynomial, the list has it once, and they are spelled by three places: 0, 0 and 1.
abbrev pub SharesOne : Polynomial → Polynomial → Type 0
SharesOne p q =
    let conjuncts = J.Equal p ∷ J.Less p q ∷ [] in
    let terms = distinct (flat_map conj_mentions conjuncts) in
    (terms ≡ p ∷ q ∷ []) × (flat_map (conj_bytes (by_place terms)) conjuncts ≡ 0 ∷ 0 ∷ 0 ∷ 0 ∷ 0 ∷ 2 ∷ 0 ∷ 0 ∷ 0 ∷ 0 ∷ 0 ∷ 0 ∷ 0 ∷ 1 ∷ [])

-- in range where each polynomial is in full, and its terms can be counted: then in range where each is its place among these
abbrev pub FitByPlace : {A : Type 0} → (PolynomialSpelling → A → Type 0) → (A → List Polynomial) → Type 0
FitByPlace {A} fits mentions = (x : A) → fits in_full x → IsU32 (length (distinct (mentions x))) → fits (by_place (distinct (mentions x))) x

-- polynomials by their places
pub record PlacesAreRead : Type 0 where
  pub ordered : OrdersPolynomials
  pub read_again : (terms : List Polynomial) → AreReadAgain (by_place terms)
  pub all_differ : (ps : List Polynomial) → Differ (distinct ps)
  pub shared : (p q : Polynomial) → p ≢ q → SharesOne p q
  pub tables : FitByPlace IsTable table_mentions
  pub callees : FitByPlace IsCallee callee_mentions
