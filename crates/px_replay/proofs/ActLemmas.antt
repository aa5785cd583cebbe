-- Acts that are put together, where memory may have run out.
use Rattle.std.proofs.Common.{◌≡◌, ◌∙◌, ap, sym, subst, Result, Ok, Err}
use Rattle.px_replay.specs.declared.stop.Stop.{Stop}
use Rattle.px_replay.specs.declared.stop.Stop.TheVariants as stop
use Rattle.px_replay.specs.Script.{PlainScript, Act, UnlessMemory}

-- a fact in place of another
pub unless : {A : Type 0} (r : Result A Stop) {X Y : Type 0} → (X → Y) → UnlessMemory r X → UnlessMemory r Y
unless (Ok x) f h = f h
unless (Err stop.Departs) f h = f h
unless (Err (stop.Failed kind site)) f h = f h
unless (Err stop.NoMemory) f h = tt

-- a fact that holds in any case
pub surely : {A : Type 0} (r : Result A Stop) {X : Type 0} → X → UnlessMemory r X
surely (Ok x) h = h
surely (Err stop.Departs) h = h
surely (Err (stop.Failed kind site)) h = h
surely (Err stop.NoMemory) h = tt

-- an error of an act, for another type of values
pub errs : (A B : Type 0) (e : Stop) {X Y : Type 0} → (X → Y) → UnlessMemory {A = A} (Err e) X → UnlessMemory {A = B} (Err e) Y
errs A B stop.Departs f h = f h
errs A B (stop.Failed kind site) f h = f h
errs A B stop.NoMemory f h = tt

-- an error that is handed on is that of the whole act
pub ended_by : (A B : Type 0) (act : Act B) (s s' : PlainScript) (r : Result B Stop) (d : Stop) → (x : Stop) × (r ≡ Err x) × (x ≡ d) → {X : Type 0} → (X → act s (Err d) s') → UnlessMemory {A = A} (Err d) X → UnlessMemory r (act s r s')
ended_by A B act s s' r d p f h = subst (λ z. UnlessMemory z (act s z s')) (sym (p.1 ∙ ap (λ z. Err z) p.2)) (errs A B d f h)

-- the same where the fact doesn't depend on memory
pub ended_surely : {B : Type 0} (act : Act B) (s s' : PlainScript) (r : Result B Stop) (d : Stop) → (x : Stop) × (r ≡ Err x) × (x ≡ d) → act s (Err d) s' → UnlessMemory r (act s r s')
ended_surely act s s' r d p h = surely r (subst (λ z. act s z s') (sym (p.1 ∙ ap (λ z. Err z) p.2)) h)
