-- Bytes that are read in front, or put, one after another.
use Rattle.std.proofs.Common.{◌≡◌, ℕ, List, [], ◌∷◌, ◌++◌, subst}
use Rattle.px_spelling.proofs.Nine.{behind, put_more}

pub seven : (bytes a r0 b r1 c r2 d r3 e r4 f r5 g r6 : List ℕ) →
    bytes ≡ a ++ r0 → r0 ≡ b ++ r1 → r1 ≡ c ++ r2 → r2 ≡ d ++ r3 → r3 ≡ e ++ r4 → r4 ≡ f ++ r5 → r5 ≡ g ++ r6 →
    bytes ≡ a ++ b ++ c ++ d ++ e ++ f ++ g ++ r6
seven bytes a r0 b r1 c r2 d r3 e r4 f r5 g r6 p0 p1 p2 p3 p4 p5 p6 =
    behind bytes (a ++ b ++ c ++ d ++ e ++ f) r5 g r6 (behind bytes (a ++ b ++ c ++ d ++ e) r4 f r5 (behind bytes (a ++ b ++ c ++ d) r3 e r4 (behind bytes (a ++ b ++ c) r2 d r3 (behind bytes (a ++ b) r1 c r2 (behind bytes a r0 b r1 p0 p1) p2) p3) p4) p5) p6

-- which message it is, the version, and what follows
pub put_version : (before old new fields : List ℕ) (tag own version : ℕ) → tag ≡ own → old ≡ before ++ tag ∷ version ∷ [] → new ≡ old ++ fields → new ≡ before ++ own ∷ version ∷ fields
put_version before old new fields tag own version same head next =
    subst (λ t. new ≡ before ++ t ∷ version ∷ fields) same (put_more before (tag ∷ version ∷ []) old new fields head next)
