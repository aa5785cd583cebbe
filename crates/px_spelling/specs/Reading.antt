-- Reading from the front of bytes.
use Rattle.std.specs.Prelude.{◌≡◌, ℕ, List, Option, Some, None, option_and_then, Result, Ok, Err, ⊤}
use Rattle.px_spelling.specs.declared.fault.WireFault.{WireFault}
use Rattle.px_spelling.specs.declared.fault.WireFault.TheVariants.{NotAMessage, NoMemory}

-- the value at the front of bytes and the bytes after it, if there is one
abbrev pub Reader : Type 0 → Type 0
Reader A = List ℕ → Option (A × List ℕ)

-- one after another; the second knows what the first read
infixl 10 ◌>>=◌
abbrev pub ◌>>=◌ : {A B : Type 0} → Reader A → (A → Reader B) → Reader B
first >>= next = λ bytes. option_and_then (λ x. next x.0 x.1) (first bytes)

-- this value, of no bytes
abbrev pub done : {A : Type 0} → A → Reader A
done x = λ bytes. Some (x, bytes)

abbrev pub nothing : {A : Type 0} → Reader A
nothing = λ bytes. None

-- nothing is read, unless memory ran out
abbrev pub Fails : {Y : Type 0} → WireFault → Option Y → Type 0
Fails NotAMessage read = read ≡ None
Fails NoMemory read = ⊤

-- what a function gave, seen by view, is what a reader reads, unless memory ran out
abbrev pub Gives : {X Y : Type 0} → (X → Y) → Result X WireFault → Option Y → Type 0
Gives view (Ok x) read = read ≡ Some (view x)
Gives view (Err e) read = Fails e read

-- what the first read is a function: its value of what the next reads
infixl 11 ◌<*>◌
abbrev pub ◌<*>◌ : {A B : Type 0} → Reader (A → B) → Reader A → Reader B
first <*> next = first >>= λ f. next >>= λ x. done (f x)
