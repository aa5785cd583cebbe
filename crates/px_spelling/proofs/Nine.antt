-- Nine spellings, one after another.
use Rattle.std.proofs.Common.{◌≡◌, ℕ, List, ◌++◌, sym, ap, ◌∙◌, append_assoc}

-- more bytes after those that were read
pub behind : (bytes front rest more after : List ℕ) → bytes ≡ front ++ rest → rest ≡ more ++ after → bytes ≡ front ++ more ++ after
behind bytes front rest more after so_far next = so_far ∙ ap (λ r. front ++ r) next ∙ sym (append_assoc front more after)

pub nine : (bytes a r0 b r1 c r2 d r3 e r4 f r5 g r6 h r7 i r8 : List ℕ) →
    bytes ≡ a ++ r0 → r0 ≡ b ++ r1 → r1 ≡ c ++ r2 → r2 ≡ d ++ r3 → r3 ≡ e ++ r4 → r4 ≡ f ++ r5 → r5 ≡ g ++ r6 → r6 ≡ h ++ r7 → r7 ≡ i ++ r8 →
    bytes ≡ a ++ b ++ c ++ d ++ e ++ f ++ g ++ h ++ i ++ r8
nine bytes a r0 b r1 c r2 d r3 e r4 f r5 g r6 h r7 i r8 p0 p1 p2 p3 p4 p5 p6 p7 p8 =
    behind bytes (a ++ b ++ c ++ d ++ e ++ f ++ g ++ h) r7 i r8 (behind bytes (a ++ b ++ c ++ d ++ e ++ f ++ g) r6 h r7 (behind bytes (a ++ b ++ c ++ d ++ e ++ f) r5 g r6 (behind bytes (a ++ b ++ c ++ d ++ e) r4 f r5 (behind bytes (a ++ b ++ c ++ d) r3 e r4 (behind bytes (a ++ b ++ c) r2 d r3 (behind bytes (a ++ b) r1 c r2 (behind bytes a r0 b r1 p0 p1) p2) p3) p4) p5) p6) p7) p8

-- more bytes put after those that were put
pub put_more : (before x old new y : List ℕ) → old ≡ before ++ x → new ≡ old ++ y → new ≡ before ++ (x ++ y)
put_more before x old new y first next = next ∙ ap (λ z. z ++ y) first ∙ append_assoc before x y
