-- Lowered commands after others: what holds of the first, and of what is made of their value, holds of both.
use Rattle.std.proofs.Common.{◌≡◌, ℕ, ◌≤◌, List, ◌++◌, Option, None, Some, refl, ap, subst, append_assoc, le_trans}
use Rattle.std.proofs.lemmas.Option.{same_Some}
use Rattle.px_core.specs.CommandTree.{CommandTree}
use Rattle.px_lower.specs.Lowering.{Lowered, made_of, before, and_then}

-- the next new slot isn't one before
pub grown : {A B : Type 0} (x : Lowered A) (f : A → ℕ → Lowered B) (n : ℕ) → n ≤ x.next → ((a : A) → x.next ≤ (f a x.next).next) → n ≤ (and_then x f).next
grown {A} {B} x f n le more = by x.value
  where
    by : (o : Option A) → n ≤ (made_of x.commands x.next o f).next
    by None = le
    by (Some a) = le_trans le (more a)

-- what holds of the value there is
pub valued : {A B : Type 0} (x : Lowered A) (f : A → ℕ → Lowered B) (V : ℕ → B → Type 0) → ((a : A) → x.value ≡ Some a → (b : B) → (f a x.next).value ≡ Some b → V (f a x.next).next b) →
    (b : B) → (and_then x f).value ≡ Some b → V (and_then x f).next b
valued {A} {B} x f V more = by x.value refl
  where
    by : (o : Option A) → x.value ≡ o → (b : B) → (made_of x.commands x.next o f).value ≡ Some b → V (made_of x.commands x.next o f).next b
    by None e b is = cc
    by (Some a) e b is = more a e b is

-- each of the commands is such, and so is the value
pub record Holds {A : Type 0} (All : List CommandTree → Type 0) (Value : A → Type 0) (x : Lowered A) : Type 0 where
  pub commands : All x.commands
  pub value : (a : A) → x.value ≡ Some a → Value a

module _ (All : List CommandTree → Type 0) (both : (cs ds : List CommandTree) → All cs → All ds → All (cs ++ ds)) where
  pub holds_then : {A B : Type 0} (V : A → Type 0) (W : B → Type 0) (x : Lowered A) (f : A → ℕ → Lowered B) → Holds All V x → ((a : A) → V a → Holds All W (f a x.next)) → Holds All W (and_then x f)
  holds_then {A} {B} V W x f h more = by x.value refl
    where
      by : (o : Option A) → x.value ≡ o → Holds All W (made_of x.commands x.next o f)
      by None e = record { commands = h.commands; value = λ b is. cc }
      by (Some a) e =
          let r = more a (h.value a e) in
          record { commands = both x.commands (f a x.next).commands h.commands r.commands; value = λ b is. r.value b is }

  pub holds_alone : {A : Type 0} (V : A → Type 0) (cs : List CommandTree) (a : A) (n : ℕ) → All cs → V a → Holds All V (record { commands = cs; value = Some a; next = n })
  holds_alone V cs a n h v = record { commands = h; value = λ b is. subst V (same_Some _ _ is) v }

  pub commands_then : {A B : Type 0} (x : Lowered A) (f : A → ℕ → Lowered B) → All x.commands → ((a : A) → All (f a x.next).commands) → All (and_then x f).commands
  commands_then {A} {B} x f h more = by x.value
    where
      by : (o : Option A) → All (made_of x.commands x.next o f).commands
      by None = h
      by (Some a) = both x.commands (f a x.next).commands h (more a)

-- what is made of what is made of a value
pub then_assoc : {A B C : Type 0} (x : Lowered A) (f : A → ℕ → Lowered B) (g : B → ℕ → Lowered C) → and_then (and_then x f) g ≡ and_then x (λ a n. and_then (f a n) g)
then_assoc {A} {B} {C} x f g = by x.value
  where
    inner : (a : A) (o : Option B) → made_of (x.commands ++ (f a x.next).commands) (f a x.next).next o g ≡ before x.commands (made_of (f a x.next).commands (f a x.next).next o g)
    inner a None = refl
    inner a (Some b) = ap (λ cs. let y : Lowered C = record { commands = cs; value = (g b (f a x.next).next).value; next = (g b (f a x.next).next).next } in y) (append_assoc x.commands (f a x.next).commands (g b (f a x.next).next).commands)

    by : (o : Option A) → and_then (made_of x.commands x.next o f) g ≡ made_of x.commands x.next o (λ a n. and_then (f a n) g)
    by None = refl
    by (Some a) = inner a (f a x.next).value
