-- Runs in which each byte goes on after the one before it.
use Rattle.std.proofs.Common.{◌≡◌, ℕ, ◌≤◌, Bool, true, false, List, [], ◌∷◌, ◌++◌, length, refl, ap, arith}
use Rattle.std.proofs.lemmas.Bool.{and_parts}
use Rattle.px_real_tokens.specs.Bytes.{goes_on_all, run_of}

-- a run goes at least as far as it goes on with all bytes
pub run_least : (go : ℕ → ℕ → Bool) (before : ℕ) (f r : List ℕ) → goes_on_all go before f ≡ true → length f ≤ run_of go before (f ++ r)
unfolding run_of
run_least go before [] r h = omega arith
run_least go before (b ∷ bs) r h = let w = and_parts (go before b) (goes_on_all go b bs) h in rw w.0 (omega (arith, run_least go b bs r w.1))

-- the bytes of the run, and what is left
pub record Run (go : ℕ → ℕ → Bool) (before : ℕ) (bs : List ℕ) : Type 0 where
  pub front : List ℕ
  pub rest : List ℕ
  pub all : goes_on_all go before front ≡ true
  pub parts : bs ≡ front ++ rest
  pub count : length front ≡ run_of go before bs

one_byte : (go : ℕ → ℕ → Bool) (before b : ℕ) (bs : List ℕ) (yes : Bool) → go before b ≡ yes → Run go b bs → Run go before (b ∷ bs)
unfolding run_of
one_byte go before b bs true h s = record { front = b ∷ s.front; rest = s.rest; all = rw h s.all; parts = ap (λ z. b ∷ z) s.parts; count = rw h (omega (arith, s.count)) }
one_byte go before b bs false h s = record { front = []; rest = b ∷ bs; all = refl; parts = refl; count = rw h refl }

pub run : (go : ℕ → ℕ → Bool) (before : ℕ) (bs : List ℕ) → Run go before bs
unfolding run_of
run go before [] = record { front = []; rest = []; all = refl; parts = refl; count = refl }
run go before (b ∷ bs) = one_byte go before b bs (go before b) refl (run go b bs)
