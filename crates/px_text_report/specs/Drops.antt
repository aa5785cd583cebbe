-- What a report says of drops.
use Rattle.std.specs.Prelude.{ℕ, List, [], ◌∷◌, ◌++◌, map, codes, count_by}
use Rattle.std.specs.Fmt.{decimal}
use Rattle.std.specs.Str.{bytes_eq}
use Rattle.px_base.specs.declared.trace.ProcId.{ProcId}
use Rattle.px_entry.specs.declared.tables.Cause.{Cause}
use Rattle.px_entry.specs.declared.tables.Cause.TheVariants as cause
use Rattle.px_entry.specs.declared.tables.Gap.{Gap}
use Rattle.px_entry.specs.declared.tables.LongKind.{LongKind}
use Rattle.px_entry.specs.declared.tables.LongKind.TheVariants as long
use Rattle.px_syntax.specs.ProgramTree.{ProcedureTree}
use Rattle.px_text_report.specs.declared.drops.Dropped.{Dropped}
use Rattle.px_text_report.specs.Places.{name_at}
use Rattle.px_text_report.specs.Known.{Known, tabled, left_out}
use Rattle.px_text_report.specs.Firsts.{firsts}

abbrev pub long_text : LongKind → List ℕ
long_text long.Trace = codes "too long (trace)"
long_text long.Steps = codes "too long (steps)"
long_text long.Conjuncts = codes "too long (conjuncts)"
long_text long.Atoms = codes "too long (atoms)"
long_text long.Variables = codes "too long (variables)"
long_text long.Term = codes "too long (term)"

-- a number that is spent
abbrev pub spent_text : List ℕ → ℕ → List ℕ
spent_text what n = what ++ (decimal n ++ codes " spent")

-- a function's name between two texts
abbrev pub named_text : List ℕ → List (List ℕ) → ProcId → List ℕ → List ℕ
named_text before names f after = before ++ (name_at names f.0 ++ after)

-- names are those of functions, words those of what isn't understood
abbrev pub cause_text : List (List ℕ) → List (List ℕ) → Cause → List ℕ
cause_text names words (cause.Undecided hard) = codes "undecided"
cause_text names words (cause.Nodes n) = spent_text (codes "nodes ") n
cause_text names words (cause.Paths n) = spent_text (codes "paths ") n
cause_text names words (cause.Long kind) = long_text kind
cause_text names words (cause.Unknown f) = named_text (codes "unknown callee ") names f []
cause_text names words (cause.Cycle f) = named_text (codes "cycle through ") names f []
cause_text names words (cause.Dropped f) = named_text (codes "callee ") names f (codes " dropped paths")
cause_text names words (cause.LeftOut f) = named_text (codes "callee ") names f (codes " left out")
cause_text names words (cause.Outside n) = codes "outside " ++ name_at words n

abbrev pub cause_texts : List (List ℕ) → List (List ℕ) → List Gap → List (List ℕ)
cause_texts names words drops = map (λ (g : Gap). cause_text names words g.cause) drops

-- so many of these texts are this one
abbrev pub counted : ProcId → List (List ℕ) → List ℕ → Dropped
counted f texts text = record { proc = f; cause = text; count = count_by (bytes_eq text) texts }

-- the different texts of a function's drops, each with its number, in the order in which they are first there
abbrev pub dropped_of : List (List ℕ) → List (List ℕ) → ProcId → Known → List Dropped
dropped_of names words f (tabled entries drops) = map (counted f (cause_texts names words drops)) (firsts bytes_eq (cause_texts names words drops))
dropped_of names words f left_out = []

-- of each kept function, in order
abbrev pub all_dropped : List (List ℕ) → List (List ℕ) → List ProcedureTree → List Known → List Dropped
all_dropped names words (p ∷ ps) (x ∷ parts) = dropped_of names words p.proc x ++ all_dropped names words ps parts
all_dropped names words _ _ = []
