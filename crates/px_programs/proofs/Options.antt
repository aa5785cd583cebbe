-- What holds of a value, where a rule gives one.
use Rattle.std.proofs.Common.{◌≡◌, Bool, true, false, cond, Option, Some, None, option_map, refl, subst}
use Rattle.std.specs.Prelude.{⊤}
use Rattle.px_bodies.specs.Types.{when, given}
use Rattle.px_bodies.specs.Locals.{or_else}

abbrev pub Holds : {A : Type 0} → (A → Type 0) → Option A → Type 0
Holds P None = ⊤
Holds P (Some a) = P a

module _ {A : Type 0} (P : A → Type 0) where
  pub of_some : (o : Option A) (a : A) → o ≡ Some a → Holds P o → P a
  of_some o a is h = subst (Holds P) is h

  pub on_when : (b : Bool) (a : A) → P a → Holds P (when b a)
  on_when true a h = h
  on_when false a h = tt

  -- by the rule itself
  pub on_when_is : (b : Bool) (a : A) → (b ≡ true → P a) → Holds P (when b a)
  on_when_is true a h = h refl
  on_when_is false a h = tt

  pub on_given_when : {B : Type 0} (b : Bool) (w : B) (f : B → Option A) → Holds P (f w) → Holds P (given (when b w) f)
  on_given_when true w f h = h
  on_given_when false w f h = tt

  pub on_cond : (b : Bool) (o p : Option A) → Holds P o → Holds P p → Holds P (cond b o p)
  on_cond true o p h k = h
  on_cond false o p h k = k

  pub on_or_else : (o p : Option A) → Holds P o → Holds P p → Holds P (or_else o p)
  on_or_else None p h k = k
  on_or_else (Some a) p h k = h

  -- under a condition
  pub on_premise : {C : Type 0} (o : Option A) → (C → Holds P o) → Holds (λ a. C → P a) o
  on_premise None h = tt
  on_premise (Some a) h = h

  -- by the value itself
  pub on_given_is : {B : Type 0} (o : Option B) (f : B → Option A) → ((b : B) → o ≡ Some b → Holds P (f b)) → Holds P (given o f)
  on_given_is None f on = tt
  on_given_is (Some b) f on = on b refl

-- one thing for another
pub on_change : {A : Type 0} (P Q : A → Type 0) (o : Option A) → Holds P o → ((a : A) → P a → Q a) → Holds Q o
on_change P Q None h on = tt
on_change P Q (Some a) h on = on a h

module _ {A B : Type 0} (P : A → Type 0) (Q : B → Type 0) where
  pub on_given : (o : Option A) (f : A → Option B) → Holds P o → ((a : A) → P a → Holds Q (f a)) → Holds Q (given o f)
  on_given None f h on = tt
  on_given (Some a) f h on = on a h

  pub on_map : (o : Option A) (f : A → B) → Holds P o → ((a : A) → P a → Q (f a)) → Holds Q (option_map f o)
  on_map None f h on = tt
  on_map (Some a) f h on = on a h

-- whatever the first part gives
pub on_any : {A B : Type 0} (Q : B → Type 0) (o : Option A) (f : A → Option B) → ((a : A) → Holds Q (f a)) → Holds Q (given o f)
on_any Q None f on = tt
on_any Q (Some a) f on = on a
