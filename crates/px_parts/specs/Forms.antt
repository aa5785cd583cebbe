-- How far the bytes of a part go, found without reading what they say.
use Rattle.std.specs.Prelude.{◌≡◌, ℕ, zero, suc, List, [], ◌∷◌, length, take, drop, Option, Some, None, ◌==◌, nat_lt, if◌then◌else◌}
use Rattle.std.specs.Int.{w32, from_be_bytes}
use Rattle.px_parts.specs.declared.form.Spelled.{Spelled}
use Rattle.px_parts.specs.declared.form.Spelled.TheVariants.{InFull, ByPlace}
use Rattle.px_parts.specs.declared.form.Form.{Form}
use Rattle.px_parts.specs.declared.form.Form.TheVariants as F
use Rattle.px_parts.specs.declared.form.Due.{Due}
use Rattle.px_parts.specs.Places.{Naming, full, listed, Place, Start, Head, ListedHead, Large, EntryCount, Entries, DropCount, Drops, DerivationCount, Derivations, Over}

-- a polynomial, in full or by its place
abbrev pub polynomial_in : Spelled → Form
polynomial_in InFull = F.Polynomial
polynomial_in ByPlace = F.Word

-- so many bytes stand at the front of a form
abbrev pub size : Form → ℕ
size F.Byte = 1
size F.Word = 4
size F.Ticket = 8
size F.Site = 12
size F.Failure = 13
size F.Call = 16
size F.Kinds = 4
size F.Words = 4
size F.Marks = 4
size F.Variables = 4
size (F.Conjuncts s) = 4
size (F.Atoms s) = 4
size F.Values = 4
size F.Terms = 4
size F.Polynomials = 4
size (F.Contents s) = 4
size F.Steps = 4
size F.Mark = 1
size F.Exit = 1
size (F.Answer s) = 1
size F.Variable = 1
size F.MaybeWord = 1
size F.Value = 1
size (F.Content s) = 1
size F.Polynomial = 4
size F.Term = 4
size (F.Conjunct s) = 1
size (F.Quotient s) = 4
size (F.State s) = 1
size (F.Atom s) = 8
size (F.Cause s) = 1
size F.Step = 1

-- so many of a form
abbrev pub due : Form → ℕ → Due
due f n = record { form = f; count = n }

-- one of a form where a byte is this one
abbrev pub due_only_at : ℕ → ℕ → Form → Due
due_only_at tag wanted f = if tag == wanted then due f 1 else due F.Byte 0

-- the first byte, and the number in the first four
abbrev pub tag_in : List ℕ → ℕ
tag_in [] = 0
tag_in (b ∷ bytes) = b

abbrev pub count_in : List ℕ → ℕ
count_in bytes = if nat_lt (length bytes) 4 then 0 else from_be_bytes w32 (take 4 bytes)

-- what follows the byte that says it
abbrev pub follow_by : Form → ℕ → Due
follow_by F.Byte tag = due F.Byte 0
follow_by F.Word tag = due F.Byte 0
follow_by F.Ticket tag = due F.Byte 0
follow_by F.Site tag = due F.Byte 0
follow_by F.Failure tag = due F.Byte 0
follow_by F.Call tag = due F.Byte 0
follow_by F.Kinds tag = due F.Byte 0
follow_by F.Words tag = due F.Byte 0
follow_by F.Marks tag = due F.Byte 0
follow_by F.Variables tag = due F.Byte 0
follow_by (F.Conjuncts s) tag = due F.Byte 0
follow_by (F.Atoms s) tag = due F.Byte 0
follow_by F.Values tag = due F.Byte 0
follow_by F.Terms tag = due F.Byte 0
follow_by F.Polynomials tag = due F.Byte 0
follow_by (F.Contents s) tag = due F.Byte 0
follow_by F.Steps tag = due F.Byte 0
follow_by F.Mark tag = if tag == 10 then due F.Call 1 else due F.Site 1
follow_by F.Exit tag = due_only_at tag 1 F.Failure
follow_by (F.Answer s) tag = due_only_at tag 1 (F.Content s)
follow_by F.Variable tag = due F.Byte 0
follow_by F.MaybeWord tag = due_only_at tag 1 F.Word
follow_by F.Value tag = if tag == 0 then due F.Word 1 else due_only_at tag 2 F.Word
follow_by (F.Content s) tag = if tag == 1 then due (polynomial_in s) 1 else (if tag == 2 then due F.MaybeWord 1 else due_only_at tag 3 F.Word)
follow_by F.Polynomial tag = due F.Byte 0
follow_by F.Term tag = due F.Byte 0
follow_by (F.Conjunct s) tag = if nat_lt tag 2 then due (polynomial_in s) 1 else (if nat_lt tag 4 then due (polynomial_in s) 2 else (if nat_lt tag 6 then due F.MaybeWord 2 else (if nat_lt tag 8 then due F.Word 1 else due (F.Quotient s) 1)))
follow_by (F.Quotient s) tag = due F.Byte 0
follow_by (F.State s) tag = due_only_at tag 0 (F.Contents s)
follow_by (F.Atom s) tag = due F.Byte 0
follow_by (F.Cause s) tag = if tag == 0 then due (F.Conjuncts s) 1 else (if tag == 3 then due F.Byte 1 else due F.Word 1)
follow_by F.Step tag = due F.Byte 0

-- what follows these bytes at the front of a form
abbrev pub follow : Form → List ℕ → Due
follow F.Byte front = due F.Byte 0
follow F.Word front = due F.Byte 0
follow F.Ticket front = due F.Byte 0
follow F.Site front = due F.Byte 0
follow F.Failure front = due F.Byte 0
follow F.Call front = due F.Byte 0
follow F.Kinds front = due F.Byte (count_in front)
follow F.Words front = due F.Word (count_in front)
follow F.Marks front = due F.Mark (count_in front)
follow F.Variables front = due F.Variable (count_in front)
follow (F.Conjuncts s) front = due (F.Conjunct s) (count_in front)
follow (F.Atoms s) front = due (F.Atom s) (count_in front)
follow F.Values front = due F.Value (count_in front)
follow F.Terms front = due F.Term (count_in front)
follow F.Polynomials front = due F.Polynomial (count_in front)
follow (F.Contents s) front = due (F.Content s) (count_in front)
follow F.Steps front = due F.Step (count_in front)
follow F.Mark front = follow_by F.Mark (tag_in front)
follow F.Exit front = follow_by F.Exit (tag_in front)
follow (F.Answer s) front = follow_by (F.Answer s) (tag_in front)
follow F.Variable front = due F.MaybeWord 1
follow F.MaybeWord front = follow_by F.MaybeWord (tag_in front)
follow F.Value front = follow_by F.Value (tag_in front)
follow (F.Content s) front = follow_by (F.Content s) (tag_in front)
follow F.Polynomial front = due F.Terms 1
follow F.Term front = due F.Words 1
follow (F.Conjunct s) front = follow_by (F.Conjunct s) (tag_in front)
follow (F.Quotient s) front = due (polynomial_in s) 2
follow (F.State s) front = follow_by (F.State s) (tag_in front)
follow (F.Atom s) front = due (F.State s) 1
follow (F.Cause s) front = follow_by (F.Cause s) (tag_in front)
follow F.Step front = due F.Words 1

-- what is due then, where this comes first: one fewer of its form, and before them what follows the front of the first. Nothing is
-- told where its bytes aren't all there.
abbrev pub next_of : Form → ℕ → List Due → List ℕ → Option (List Due × List ℕ)
next_of f zero dues bytes = Some (dues, bytes)
next_of f (suc n) dues bytes = if nat_lt (length bytes) (size f) then None else Some (follow f (take (size f) bytes) ∷ due f n ∷ dues, drop (size f) bytes)

abbrev pub next : List Due → List ℕ → Option (List Due × List ℕ)
next [] bytes = None
next (d ∷ dues) bytes = next_of d.form d.count dues bytes

-- bytes are passed over one after another: these are due then, and those bytes are left
pub data Passes : List Due → List ℕ → List Due → List ℕ → Type 0 where
  stands : {dues : List Due} {bytes : List ℕ} → Passes dues bytes dues bytes
  moves : {dues more others : List Due} {bytes after rest : List ℕ} → next dues bytes ≡ Some (more, after) → Passes more after others rest → Passes dues bytes others rest

-- what is due of an entry, and of a drop
abbrev pub entry_dues : Spelled → List Due
entry_dues s =
    due F.Word 1 ∷ due F.Marks 1 ∷ due F.Exit 1 ∷ due (F.Answer s) 1 ∷ due F.Variables 1 ∷ due (F.Conjuncts s) 1 ∷ due (F.Atoms s) 1 ∷ due (F.Atoms s) 1 ∷ due F.Values 1 ∷ []

abbrev pub drop_dues : Spelled → List Due
drop_dues s = due F.Marks 1 ∷ due (F.Cause s) 1 ∷ []

abbrev pub spelled_by : Naming → Spelled
spelled_by full = InFull
spelled_by (listed terms n) = ByPlace

-- what is due at a place
abbrev pub dues_at : Place → List Due
dues_at Start = due F.Byte 2 ∷ []
dues_at Head = due F.Ticket 1 ∷ due F.Kinds 1 ∷ []
dues_at ListedHead = due F.Polynomials 1 ∷ due F.Ticket 1 ∷ due F.Kinds 1 ∷ []
dues_at (Large number) = due F.Ticket 1 ∷ []
dues_at (EntryCount k) = due F.Word 1 ∷ []
dues_at (Entries zero rows k) = []
dues_at (Entries (suc n) rows k) = entry_dues (spelled_by k)
dues_at (DropCount rows k) = due F.Word 1 ∷ []
dues_at (Drops zero k) = []
dues_at (Drops (suc n) k) = drop_dues (spelled_by k)
dues_at DerivationCount = due F.Word 1 ∷ []
dues_at (Derivations zero) = []
dues_at (Derivations (suc n)) = due F.Steps 1 ∷ []
dues_at Over = []
