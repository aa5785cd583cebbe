-- What a check of entries answers.
use Rattle.std.specs.Prelude.{◌≡◌, ⊤, ℕ, List, map}
use Rattle.px_entry.specs.declared.derivations.Derivation.{Derivation}
use Rattle.px_entry.specs.declared.entries.Entry.{Entry}
use Rattle.px_callgraph.specs.JobTree.{JobTree}
use Rattle.px_check.specs.declared.checked.Checked.{Checked}
use Rattle.px_check.specs.Answers.{entry_of}
use Rattle.px_pieces.specs.declared.desk.Lost.{Lost}
use Rattle.px_pieces.specs.declared.desk.Lost.TheVariants.{Send, Read, Closed, Frame, Ticket, Kinds, Refused, Large, NoMemory}
use Rattle.px_pieces.specs.Pieces.{AreOf}
use Rattle.px_pool.specs.Derived.{AreDerived, FailsAt, AreRefused}

-- these are the entries, in order, each checked against the job, and each derives by the derivation beside it
pub record AreChecked (j : JobTree) (xs : List Entry) (ds : List Derivation) (all : List Checked) : Type 0 where
  pub entries : map entry_of all ≡ xs
  pub jobs : AreOf j all
  pub derived : AreDerived j xs ds

-- why the entry with this place isn't checked
abbrev pub IsRefusal : JobTree → Entry → Derivation → ℕ → Lost → Type 0
IsRefusal j x d place (Refused entry step) = (entry ≡ place) × FailsAt j x d step
IsRefusal j x d place NoMemory = ⊤
IsRefusal j x d place Send = ⊥
IsRefusal j x d place Read = ⊥
IsRefusal j x d place (Closed n) = ⊥
IsRefusal j x d place Frame = ⊥
IsRefusal j x d place (Ticket asked given) = ⊥
IsRefusal j x d place Kinds = ⊥
IsRefusal j x d place Large = ⊥

-- why entries aren't all checked
abbrev pub AreRefusals : JobTree → List Entry → List Derivation → Lost → Type 0
AreRefusals j xs ds (Refused entry step) = AreRefused j xs ds entry step
AreRefusals j xs ds NoMemory = ⊤
AreRefusals j xs ds Send = ⊥
AreRefusals j xs ds Read = ⊥
AreRefusals j xs ds (Closed n) = ⊥
AreRefusals j xs ds Frame = ⊥
AreRefusals j xs ds (Ticket asked given) = ⊥
AreRefusals j xs ds Kinds = ⊥
AreRefusals j xs ds Large = ⊥
