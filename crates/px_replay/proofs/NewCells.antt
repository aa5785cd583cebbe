-- The cells of a new block.
use Rattle.std.proofs.Common.{◌≡◌, ℕ, zero, suc, ◌+◌, ◌<◌, List, [], ◌∷◌, ◌++◌, map, drop, length, refl, sym, ap, ◌∙◌, append_assoc, arith}
use Rattle.px_meaning.specs.Values.{Value, ValueType, Unwritten}

abbrev unwritten : List ValueType → List Value
unwritten ts = map (λ _. Unwritten) ts

drop_step : (ts : List ValueType) (k : ℕ) → k < length ts → unwritten (drop k ts) ≡ Unwritten ∷ unwritten (drop (suc k) ts)
drop_step [] k l = absurd (omega arith)
drop_step (t ∷ ts) zero l = refl
drop_step (t ∷ ts) (suc k) l = drop_step ts k (omega arith)

pub cells_next : (ts : List ValueType) (k : ℕ) (cells new : List Value) → k < length ts → new ≡ cells ++ Unwritten ∷ [] → cells ++ unwritten (drop k ts) ≡ unwritten ts →
    new ++ unwritten (drop (k + 1) ts) ≡ unwritten ts
cells_next ts k cells new l e h =
    let s : k + 1 ≡ suc k = omega arith in
    ap (λ n. new ++ unwritten (drop n ts)) s
    ∙ ap (λ n. n ++ unwritten (drop (suc k) ts)) e
    ∙ append_assoc cells (Unwritten ∷ []) (unwritten (drop (suc k) ts))
    ∙ ap (λ u. cells ++ u) (sym (drop_step ts k l)) ∙ h
