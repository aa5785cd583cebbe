-- Which functions are among those that are left out, by their numbers.
use Rattle.std.proofs.Common.{◌≡◌, ◌↔◌, ℕ, zero, suc, ◌<◌, List, [], ◌∷◌, length, Bool, true, false, ◌||◌, nat_eq, refl, sym, ap, ◌∙◌, arith, Any}
use Rattle.std.proofs.lemmas.Bool.{eqb-true}
use Rattle.px_base.specs.declared.trace.ProcId.{ProcId}
use Rattle.px_jobs.specs.Plans.{is_among}
use Rattle.px_terms.proofs.Tests.{same_number}

any_here : (g : ℕ) (f : ProcId) (fs : List ProcId) → f.0 ≡ g → Any (λ (p : ProcId). p.0 ≡ g) (f ∷ fs)
any_here g f fs e = (0, f, (let l : 0 < suc (length fs) = omega arith in l), refl, e)

any_there : (g : ℕ) (f : ProcId) (fs : List ProcId) → Any (λ (p : ProcId). p.0 ≡ g) fs → Any (λ (p : ProcId). p.0 ≡ g) (f ∷ fs)
any_there g f fs (k, x, l, e, h) = (suc k, x, (let m : suc k < suc (length fs) = omega arith in m), e, h)

pub among_any : (g : ℕ) (fs : List ProcId) → is_among g fs ≡ true → Any (λ (p : ProcId). p.0 ≡ g) fs
among_any g [] e = let n : ⊥ = cc in absurd n
among_any g (f ∷ fs) e = by (nat_eq f.0 g) refl (among_any g fs) e
  where
    by : (b : Bool) → nat_eq f.0 g ≡ b → (is_among g fs ≡ true → Any (λ (p : ProcId). p.0 ≡ g) fs) → (b || is_among g fs) ≡ true → Any (λ (p : ProcId). p.0 ≡ g) (f ∷ fs)
    by true i in_rest h = any_here g f fs (eqb-true f.0 g i)
    by false i in_rest h = any_there g f fs (in_rest h)

pub any_among : (g : ℕ) (fs : List ProcId) → Any (λ (p : ProcId). p.0 ≡ g) fs → is_among g fs ≡ true
any_among g [] (k, x, l, e, h) = let n : ⊥ = omega arith in absurd n
any_among g (f ∷ fs) (zero, x, l, e, h) = ap (λ z. z || is_among g fs) (same_number f.0 g (ap (λ (z : ProcId). z.0) e ∙ h))
any_among g (f ∷ fs) (suc k, x, l, e, h) = by (nat_eq f.0 g) (any_among g fs (k, x, (let m : k < length fs = omega arith in m), e, h))
  where
    by : (b : Bool) → is_among g fs ≡ true → (b || is_among g fs) ≡ true
    by true i = refl
    by false i = i

-- a flag that says whether it is among them
pub flag_is : (g : ℕ) (fs : List ProcId) (b : Bool) → b ≡ is_among g fs → (b ≡ true) ↔ Any (λ (p : ProcId). p.0 ≡ g) fs
flag_is g fs b e = (λ t. among_any g fs (sym e ∙ t), λ a. e ∙ any_among g fs a)
