-- What is still to be done of an well-formed body.
use Rattle.std.specs.Prelude.{ℕ, Bool, List, [], ◌∷◌, IfSome, ⊤}
use Rattle.px_core.specs.Control.{Item, Act, AfterHead, AfterBody, AfterStep, Turns}
use Rattle.px_core.specs.WellFormed.{Where, Outside, InHead, InBody, InStep, to_be_settled, Settles, IsWellFormed, AreWellFormed}

-- the part of the innermost open loop that is being done
abbrev pub where_in : List Item → Where
where_in [] = Outside
where_in (Act c ∷ k) = where_in k
where_in (AfterHead l ∷ k) = InHead
where_in (AfterBody l ∷ k) = InBody
where_in (AfterStep l ∷ k) = InStep

-- the next item reads this slot, or unsets it
abbrev pub SettlesFirst : ℕ → List Item → Type 0
SettlesFirst slot [] = ⊥
SettlesFirst slot (Act c ∷ k) = Settles slot c
SettlesFirst slot (AfterHead l ∷ k) = ⊥
SettlesFirst slot (AfterBody l ∷ k) = ⊥
SettlesFirst slot (AfterStep l ∷ k) = ⊥

-- an open loop of a body with n slots, of which these are outcomes
abbrev pub IsWellFormedLoop : ℕ → (ℕ → Bool) → Turns → Type 0
IsWellFormedLoop n outcome l = AreWellFormed n outcome InHead l.head × AreWellFormed n outcome InBody l.body × AreWellFormed n outcome InStep l.step

-- each command is well-formed where it stands, and behind a load or a used call its slot is read or unset
abbrev pub AreWellFormedItems : ℕ → (ℕ → Bool) → List Item → Type 0
AreWellFormedItems n outcome [] = ⊤
AreWellFormedItems n outcome (Act c ∷ k) = IsWellFormed n outcome (where_in k) c × IfSome (to_be_settled c) (λ slot. SettlesFirst slot k) × AreWellFormedItems n outcome k
AreWellFormedItems n outcome (AfterHead l ∷ k) = IsWellFormedLoop n outcome l × AreWellFormedItems n outcome k
AreWellFormedItems n outcome (AfterBody l ∷ k) = IsWellFormedLoop n outcome l × AreWellFormedItems n outcome k
AreWellFormedItems n outcome (AfterStep l ∷ k) = IsWellFormedLoop n outcome l × AreWellFormedItems n outcome k
