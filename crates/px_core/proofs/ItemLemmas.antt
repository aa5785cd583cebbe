-- What is still to be done of an well-formed body stays well-formed, wherever control goes.
use Rattle.std.proofs.Common.{◌≡◌, ℕ, Bool, List, [], ◌∷◌, Option, None, Some, IsSomeAnd, IfSome, refl, sym, subst, ◌∙◌}
use Rattle.px_core.specs.CommandTree.{CommandTrees, no_commands, a_command}
use Rattle.px_core.specs.BodyTree.{BodyTree}
use Rattle.px_core.specs.Control.{Item, Act, AfterHead, AfterBody, AfterStep, Turns, acts, one_turn_more, leave_to, break_to, continue_to}
use Rattle.px_core.specs.WellFormed.{Where, Outside, InHead, InBody, InStep, IsBreakable, to_be_settled, SettlesNext, IsWellFormed, AreWellFormed, IsWellFormedBody}
use Rattle.px_core.specs.WellFormedItems.{where_in, SettlesFirst, IsWellFormedLoop, AreWellFormedItems}

-- commands are in no loop of their own
pub where_acts : (cs : CommandTrees) (k : List Item) → where_in (acts cs k) ≡ where_in k
where_acts no_commands k = refl
where_acts (a_command c cs) k = where_acts cs k

settles_first : (o : Option ℕ) (cs : CommandTrees) (k : List Item) → IfSome o (λ slot. SettlesNext slot cs) → IfSome o (λ slot. SettlesFirst slot (acts cs k))
settles_first None cs k h = tt
settles_first (Some slot) no_commands k h = absurd h
settles_first (Some slot) (a_command c cs) k h = h

module _ (n : ℕ) (outcome : ℕ → Bool) where
  abbrev Are : List Item → Type 0
  Are k = AreWellFormedItems n outcome k

  -- commands that are put in front of what stands after them
  pub acts_well_formed : (place : Where) (cs : CommandTrees) (k : List Item) → where_in k ≡ place → AreWellFormed n outcome place cs → Are k → Are (acts cs k)
  acts_well_formed place no_commands k e h rest = rest
  acts_well_formed place (a_command c cs) k e h rest = (
    subst (λ p. IsWellFormed n outcome p c) (sym (where_acts cs k ∙ e)) h.0,
    settles_first (to_be_settled c) cs k h.1,
    acts_well_formed place cs k e h.2 rest,
  )

  -- ---- loops: entered, begun once more, and their parts one after another

  pub enters_well_formed : (l : Turns) (k : List Item) → IsWellFormedLoop n outcome l → Are k → Are (acts l.head (AfterHead l ∷ k))
  enters_well_formed l k h rest = acts_well_formed InHead l.head (AfterHead l ∷ k) refl h.0 (h, rest)

  pub begins_well_formed : (l : Turns) (k : List Item) → Are (AfterHead l ∷ k) → Are (acts l.body (AfterBody (one_turn_more l) ∷ k))
  begins_well_formed l k h = acts_well_formed InBody l.body (AfterBody (one_turn_more l) ∷ k) refl h.0.1 h

  pub steps_well_formed : (l : Turns) (k : List Item) → Are (AfterBody l ∷ k) → Are (acts l.step (AfterStep l ∷ k))
  steps_well_formed l k h = acts_well_formed InStep l.step (AfterStep l ∷ k) refl h.0.2 h

  pub turns_well_formed : (l : Turns) (k : List Item) → Are (AfterStep l ∷ k) → Are (acts l.head (AfterHead l ∷ k))
  turns_well_formed l k h = enters_well_formed l k h.0 h.1

  -- ---- jumps have a place to go to, and what stands there is well-formed

  pub leave_well_formed : (k : List Item) → where_in k ≡ InHead → Are k → IsSomeAnd (leave_to k) (λ place. IsWellFormedLoop n outcome place.0 × Are place.1)
  leave_well_formed [] e h = let d : Outside ≡ InHead = e in cc
  leave_well_formed (Act c ∷ k) e h = leave_well_formed k e h.2
  leave_well_formed (AfterHead l ∷ k) e h = h
  leave_well_formed (AfterBody l ∷ k) e h = let d : InBody ≡ InHead = e in cc
  leave_well_formed (AfterStep l ∷ k) e h = let d : InStep ≡ InHead = e in cc

  pub break_well_formed : (k : List Item) → IsBreakable (where_in k) → Are k → IsSomeAnd (break_to k) Are
  break_well_formed [] e h = absurd e
  break_well_formed (Act c ∷ k) e h = break_well_formed k e h.2
  break_well_formed (AfterHead l ∷ k) e h = absurd e
  break_well_formed (AfterBody l ∷ k) e h = h.1
  break_well_formed (AfterStep l ∷ k) e h = h.1

  pub continue_well_formed : (k : List Item) → where_in k ≡ InBody → Are k → IsSomeAnd (continue_to k) Are
  continue_well_formed [] e h = let d : Outside ≡ InBody = e in cc
  continue_well_formed (Act c ∷ k) e h = continue_well_formed k e h.2
  continue_well_formed (AfterHead l ∷ k) e h = let d : InHead ≡ InBody = e in cc
  continue_well_formed (AfterBody l ∷ k) e h = h
  continue_well_formed (AfterStep l ∷ k) e h = let d : InStep ≡ InBody = e in cc

-- the whole of an well-formed body
pub body_well_formed : (b : BodyTree) (o : IsWellFormedBody b) → AreWellFormedItems b.slots o.outcome (acts b.commands [])
body_well_formed b o = acts_well_formed b.slots o.outcome Outside b.commands [] refl o.commands tt
