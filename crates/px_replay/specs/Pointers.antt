-- Where pointers lead, as the code finds it.
use Rattle.std.specs.Prelude.{◌≡◌, ℕ, Option, Some, None, ⊤}
use Rattle.px_meaning.specs.Values.{Value}
use Rattle.px_meaning.specs.Heaps.{HeapMap}
use Rattle.px_meaning.specs.Steps.{by_pointer}
use Rattle.px_replay.specs.declared.pointers.Led.{Led}
use Rattle.px_replay.specs.declared.pointers.Led.TheVariants.{Null, Freed, Live}

-- a pointer to blocks of this type leads to null, to a freed block or to the cells of a live one, or it is none
abbrev pub IsLed : HeapMap → ℕ → Value → Option Led → Type 0
IsLed heap t p (Some Null) = by_pointer heap t p ⊤ ⊥ (λ n cells. ⊥)
IsLed heap t p (Some Freed) = by_pointer heap t p ⊥ ⊤ (λ n cells. ⊥)
IsLed heap t p (Some (Live m vs)) = by_pointer heap t p ⊥ ⊥ (λ n cells. (n ≡ m) × (cells ≡ vs.now))
IsLed heap t p None = by_pointer heap t p ⊤ ⊤ (λ n cells. ⊤) → ⊥
