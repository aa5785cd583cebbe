-- What is known of a reply by the parts that came.
use Rattle.std.specs.Prelude.{◌≡◌, ℕ, ◌<◌, List, [], ◌∷◌, ◌++◌, length, Option, Some, None, Result, Ok, Err}
use Rattle.px_entry.specs.declared.derivations.Derivation.{Derivation}
use Rattle.px_entry.specs.declared.entries.Entry.{Entry}
use Rattle.px_entry.specs.declared.tables.Gap.{Gap}
use Rattle.px_callgraph.specs.JobTree.{JobTree}
use Rattle.px_check.specs.declared.checked.Checked.{Checked}
use Rattle.px_wire.specs.Messages.{MessageTree}
use Rattle.px_wire.specs.Versions.{SpellsIn}
use Rattle.px_parts.specs.declared.part.Part.{Part}
use Rattle.px_parts.specs.declared.part.Part.TheVariants as P
use Rattle.px_parts.specs.Parts.{parts_of, IsReplying}
use Rattle.px_parts.specs.Laws.{IsWhole}
use Rattle.px_parts.specs.Taking.{Waiting}
use Rattle.px_parts.specs.Following.{HasGiven}
use Rattle.px_pieces.specs.declared.desk.Lost.{Lost}
use Rattle.px_pieces.specs.Pieces.{AreOf, table_from}
use Rattle.px_pool.specs.declared.answers.Answer.{Answer}
use Rattle.px_pool.specs.declared.judging.Refusal.{Refusal}
use Rattle.px_pool.specs.declared.gathering.Gathering.{Gathering}
use Rattle.px_pool.specs.declared.gathering.Standing.{Standing}
use Rattle.px_pool.specs.declared.gathering.Standing.TheVariants as S
use Rattle.px_pool.specs.declared.feeding.Turn.{Turn}
use Rattle.px_pool.specs.declared.feeding.Turn.TheVariants as T
use Rattle.px_pool.specs.declared.feeding.Fed.{Fed}
use Rattle.px_pool.specs.declared.feeding.Fed.TheVariants as F
use Rattle.px_pool.specs.Derived.{FirstFails}
use Rattle.px_pool.specs.Checks.{AreChecked}
use Rattle.px_pool.specs.Outcomes.{GivesTable, IsFaultIn}

-- ---- the entries, drops and derivations among parts

abbrev pub entry_in : Part → List Entry
entry_in P.Held = []
entry_in (P.Head number ticket kinds) = []
entry_in (P.Entry e) = e ∷ []
entry_in (P.Drop g) = []
entry_in (P.Derivation d) = []
entry_in (P.Large number ticket) = []
entry_in P.End = []

abbrev pub entries_in : List Part → List Entry
entries_in [] = []
entries_in (x ∷ parts) = entry_in x ++ entries_in parts

abbrev pub drop_in : Part → List Gap
drop_in P.Held = []
drop_in (P.Head number ticket kinds) = []
drop_in (P.Entry e) = []
drop_in (P.Drop g) = g ∷ []
drop_in (P.Derivation d) = []
drop_in (P.Large number ticket) = []
drop_in P.End = []

abbrev pub drops_in : List Part → List Gap
drops_in [] = []
drops_in (x ∷ parts) = drop_in x ++ drops_in parts

abbrev pub derivation_in : Part → List Derivation
derivation_in P.Held = []
derivation_in (P.Head number ticket kinds) = []
derivation_in (P.Entry e) = []
derivation_in (P.Drop g) = []
derivation_in (P.Derivation d) = d ∷ []
derivation_in (P.Large number ticket) = []
derivation_in P.End = []

abbrev pub derivations_in : List Part → List Derivation
derivations_in [] = []
derivations_in (x ∷ parts) = derivation_in x ++ derivations_in parts

-- ---- what came so far

-- these entries were checked by the derivations beside them, or one of them is the first that fails
abbrev pub AreJudged : JobTree → List Entry → List Derivation → List Checked → Option Refusal → Type 0
AreJudged j done ds all None = AreChecked j done ds all
AreJudged j done ds all (Some r) = (length ds ≡ length done) × FirstFails j done ds r.entry r.step

-- where these were checked, the next entry was judged by the derivation beside it
abbrev pub JudgesNext : JobTree → List Checked → Option Refusal → Entry → Derivation → List Checked → Option Refusal → Type 0
JudgesNext j all o x d new r = (done : List Entry) (ds : List Derivation) → AreJudged j done ds all o → AreJudged j (done ++ x ∷ []) (ds ++ d ∷ []) new r

-- of these entries, drops and derivations so much was done
abbrev pub IsGathered : JobTree → List Entry → List Gap → List Derivation → Gathering → Type 0
IsGathered j es gs ds g = (g.drops ≡ gs) × (done : List Entry) × (es ≡ done ++ g.pending.items) × AreJudged j done ds g.checked g.refused

-- these parts are a reply to the job in a version, as far as they go
abbrev pub IsOpen : ℕ → JobTree → List Part → Gathering → Type 0
IsOpen v j parts g = (tail : List Part) × (parts ≡ P.Head v j.ticket j.kinds ∷ tail) × IsGathered j (entries_in tail) (drops_in tail) (derivations_in tail) g

-- each message in whatever version that begins with these parts has this fault, where it was asked for in this one
abbrev pub IsLostBy : ℕ → JobTree → List Part → Lost → Type 0
IsLostBy v j parts why = (bytes : List ℕ) (own : ℕ) (m : MessageTree) (others : List Part) → SpellsIn own bytes m → IsReplying m → parts_of own m ≡ parts ++ others → IsFaultIn v j bytes why

-- what one part more gave: it is gathered too, or no message that goes on with it gives a table
abbrev pub IsGatheredOn : JobTree → Gathering → Part → Result Gathering Lost → Type 0
IsGatheredOn j g x (Ok h) = (es : List Entry) (gs : List Gap) (ds : List Derivation) → IsGathered j es gs ds g → IsGathered j (es ++ entry_in x) (gs ++ drop_in x) (ds ++ derivation_in x) h
IsGatheredOn j g x (Err why) = (v : ℕ) (parts : List Part) → IsOpen v j parts g → IsLostBy v j (parts ++ x ∷ []) why

-- this is known of a reply that begins with these parts
abbrev pub IsStanding : ℕ → JobTree → List Part → Standing → Type 0
IsStanding v j parts S.Unbegun = parts ≡ []
IsStanding v j parts (S.Open g) = IsOpen v j parts g
IsStanding v j parts (S.Lost why) = IsLostBy v j parts why

-- ---- what a message gives

-- this is what a message gives that was asked for in a version
abbrev pub IsOutcome : ℕ → JobTree → List ℕ → Result Answer Lost → Type 0
IsOutcome v j bytes (Ok a) = AreOf j a.entries × GivesTable v j bytes (table_from a.entries a.drops)
IsOutcome v j bytes (Err why) = IsFaultIn v j bytes why

-- each message of these parts gives this
abbrev pub Tells : ℕ → JobTree → List Part → Result Answer Lost → Type 0
Tells v j parts answer = (bytes : List ℕ) (own : ℕ) (m : MessageTree) → SpellsIn own bytes m → IsReplying m → parts_of own m ≡ parts → IsOutcome v j bytes answer

-- a part that was taken is the end, or none, or one more
abbrev pub IsTurn : Part → Turn → Type 0
IsTurn x (T.Held s) = x ≡ P.Held
IsTurn x (T.Ended s) = x ≡ P.End
IsTurn x (T.More s) = IsWhole x

-- what is known of the parts so far, and of this one if it is one more
abbrev pub StandsAfter : ℕ → JobTree → List Part → Part → Turn → Type 0
StandsAfter v j parts x (T.Held s) = IsStanding v j parts s
StandsAfter v j parts x (T.Ended s) = IsStanding v j parts s
StandsAfter v j parts x (T.More s) = IsStanding v j (parts ++ x ∷ []) s

-- After these bytes of a message, where so many more come: more parts are wanted; or, however they are, the outcome is this.
abbrev pub IsFed : ℕ → JobTree → List ℕ → ℕ → Waiting → Fed → Type 0
IsFed v j bytes left w (F.Open s) = (0 < left) × (parts : List Part) × HasGiven bytes left parts w × IsStanding v j parts s
IsFed v j bytes left w (F.Done answer) = (more : List ℕ) → length more ≡ left → IsOutcome v j (bytes ++ more) answer
