-- Runs of bytes that pass a test, and tests.
use Rattle.std.proofs.Common.{◌≡◌, ◌⊎◌, ℕ, ◌≤◌, Bool, true, false, cond, List, [], ◌∷◌, ◌++◌, length, refl, ap, arith, inl, inr}
use Rattle.std.specs.List.{prefix_len, list_all}
use Rattle.std.proofs.lemmas.Bool.{and_parts}

-- which of two was chosen
pub chosen : {A : Type 0} (b : Bool) (x y z : A) → cond b x y ≡ z → ((b ≡ true) × (x ≡ z)) ⊎ ((b ≡ false) × (y ≡ z))
chosen true x y z e = inl (refl, e)
chosen false x y z e = inr (refl, e)

-- a run goes at least as far as all bytes pass
pub run_all : (p : ℕ → Bool) (f r : List ℕ) → list_all p f ≡ true → length f ≤ prefix_len p (f ++ r)
run_all p [] r h = omega arith
run_all p (b ∷ bs) r h = let w = and_parts (p b) (list_all p bs) h in rw w.0 (omega (arith, run_all p bs r w.1))

-- the bytes of the run, and what is left
pub record Split (p : ℕ → Bool) (bs : List ℕ) : Type 0 where
  pub front : List ℕ
  pub rest : List ℕ
  pub all : list_all p front ≡ true
  pub parts : bs ≡ front ++ rest
  pub count : length front ≡ prefix_len p bs

split_on : (p : ℕ → Bool) (b : ℕ) (bs : List ℕ) (yes : Bool) → p b ≡ yes → Split p bs → Split p (b ∷ bs)
split_on p b bs true h s = record { front = b ∷ s.front; rest = s.rest; all = rw h s.all; parts = ap (λ z. b ∷ z) s.parts; count = rw h (omega (arith, s.count)) }
split_on p b bs false h s = record { front = []; rest = b ∷ bs; all = refl; parts = refl; count = rw h refl }

pub split : (p : ℕ → Bool) (bs : List ℕ) → Split p bs
split p [] = record { front = []; rest = []; all = refl; parts = refl; count = refl }
split p (b ∷ bs) = split_on p b bs (p b) refl (split p bs)
