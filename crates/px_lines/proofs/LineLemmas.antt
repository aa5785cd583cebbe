-- A line that is told in pieces.
use Rattle.std.proofs.Common.{◌≡◌, ℕ, ◌+◌, ◌≤◌, List, ◌++◌, take, length, length-append, sym, subst, arith, Option, Result, Ok, Err, ◌⊎◌, inl, inr}
use Rattle.std.specs.Prelude.{OnOk, OnErr}
use Rattle.std.specs.Io.KnownBytes.{Appends}
use Rattle.std.proofs.lemmas.List.{take-append-le}
use Rattle.std.proofs.Math.Seq.{take-append-add}
use Rattle.px_io.specs.Faults.{RoseOnce}
use Rattle.px_io.specs.Told.{AppendsPrefix}
use Rattle.px_io.proofs.TellingLemmas.{Appends-trans}
use Rattle.px_lines.specs.declared.cause.Cause.{Cause}
use Rattle.px_lines.specs.Causes.{line_of}
use Rattle.px_lines.specs.Sinks.{Change, Tells}

pub either_way : {T E : Type 0} (r : Result T E) {A B : Type 0} → OnOk r A → OnErr r B → A ⊎ B
either_way (Ok x) a b = inl a
either_way (Err e) a b = inr b

-- a count that rose once after it had stayed rose once
pub rose_after : (a b c : ℕ) → b ≡ a → RoseOnce b c → RoseOnce a c
rose_after a b c same once = subst (λ n. RoseOnce n c) same once

-- a prefix of the front is a prefix of the whole
pub prefix_front : (old new : Option (List ℕ)) (xs ys : List ℕ) → AppendsPrefix old new xs → AppendsPrefix old new (xs ++ ys)
prefix_front old new xs ys (n, h, a) =
    (n, omega (arith, length-append xs ys), subst (λ z. Appends old new z) (sym (take-append-le n xs ys h)) a)

-- the front, and a prefix of what is after it
pub prefix_after : (old mid new : Option (List ℕ)) (xs ys : List ℕ) → Appends old mid xs → AppendsPrefix mid new ys → AppendsPrefix old new (xs ++ ys)
prefix_after old mid new xs ys a (n, h, b) =
    (length xs + n, omega (arith, length-append xs ys), Appends-trans old mid new xs (take n ys) (take (length xs + n) (xs ++ ys)) a b (take-append-add xs ys n))

pub on_err : {T E : Type 0} (r : Result T E) {A B C : Type 0} → OnErr r A → OnErr r B → (A → B → C) → OnErr r C
on_err (Ok x) a b f = tt
on_err (Err e) a b f = f a b

-- the line of a cause that is this one
pub of_cause : (err : Change) (a b : Cause) → a ≡ b → Tells err (line_of b) → Tells err (line_of a)
of_cause err a b e t = subst (λ c. Tells err (line_of c)) (sym e) t
