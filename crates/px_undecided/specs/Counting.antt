-- What the bits of undecided drops come to, procedure by procedure.
use Rattle.std.specs.Prelude.{◌≡◌, ℕ, Bool, true, false, List, [], ◌∷◌, ◌++◌, flat_map, count_by}
use Rattle.px_base.specs.declared.trace.ProcId.{ProcId}
use Rattle.px_terms.specs.declared.conjuncts.Conj.{Conj}
use Rattle.px_entry.specs.declared.tables.Cause.{Cause}
use Rattle.px_entry.specs.declared.tables.Cause.TheVariants as cause
use Rattle.px_entry.specs.declared.tables.Gap.{Gap}
use Rattle.px_syntax.specs.ProgramTree.{ProcedureTree}
use Rattle.px_text_report.specs.Known.{Known, tabled, left_out}
use Rattle.px_bits.specs.declared.looks.Look.{Look}
use Rattle.px_bits.specs.declared.looks.Look.TheVariants.{Refuted, Met, Open}
use Rattle.px_bits.specs.Looks.{IsLook}
use Rattle.px_undecided.specs.declared.counting.LookCounts.{LookCounts}

-- the conjuncts that a drop is undecided for, if it is
abbrev pub undecided_by : Cause → List (List Conj)
undecided_by (cause.Undecided hard) = hard ∷ []
undecided_by (cause.Nodes n) = []
undecided_by (cause.Paths n) = []
undecided_by (cause.Long kind) = []
undecided_by (cause.Unknown f) = []
undecided_by (cause.Cycle f) = []
undecided_by (cause.Dropped f) = []
undecided_by (cause.LeftOut f) = []
undecided_by (cause.Outside word) = []

-- those of each undecided drop, in order
abbrev pub undecided_in : List Gap → List (List Conj)
undecided_in drops = flat_map (λ (g : Gap). undecided_by g.cause) drops

-- what looks at these come to, where a search may learn so many clauses
abbrev pub AreLooks : ℕ → List (List Conj) → List Look → Type 0
AreLooks conflicts [] looks = looks ≡ []
AreLooks conflicts (hard ∷ rest) looks = (l : Look) × (ls : List Look) × (looks ≡ l ∷ ls) × IsLook conflicts hard l × AreLooks conflicts rest ls

abbrev pub is_same : Look → Look → Bool
is_same Refuted Refuted = true
is_same Met Met = true
is_same Open Open = true
is_same _ _ = false

abbrev pub count_of : Look → List Look → ℕ
count_of l looks = count_by (is_same l) looks

-- how many looks come to what; nothing is said where there are none
abbrev pub counted : ProcId → List Look → List LookCounts
counted f [] = []
counted f (l ∷ ls) = record { proc = f; refuted = count_of Refuted (l ∷ ls); met = count_of Met (l ∷ ls); left_open = count_of Open (l ∷ ls) } ∷ []

-- the counts of a function, of looks at its undecided drops
abbrev pub AreCountsOf : ℕ → ProcId → Known → List LookCounts → Type 0
AreCountsOf conflicts f (tabled entries drops) counts = (looks : List Look) × AreLooks conflicts (undecided_in drops) looks × (counts ≡ counted f looks)
AreCountsOf conflicts f left_out counts = counts ≡ []

-- those of each kept function, in order
abbrev pub AreCounts : ℕ → List ProcedureTree → List Known → List LookCounts → Type 0
AreCounts conflicts (p ∷ ps) (x ∷ parts) counts =
    (first : List LookCounts) × (rest : List LookCounts) × (counts ≡ first ++ rest) × AreCountsOf conflicts p.proc x first × AreCounts conflicts ps parts rest
AreCounts conflicts _ _ counts = counts ≡ []
