-- Slots, and the locals that stand in the first of them.
use Rattle.std.proofs.Common.{◌≡◌, ◌≢◌, ◌∙◌, ℕ, ◌<◌, ◌≤◌, Bool, true, false, cond, nat_eq, List, length, slice_set, refl, sym, subst, arith, length-set, get_or-set_same, get_or-set_other}
use Rattle.std.proofs.lemmas.Bool.Decides.{nat_tests}
use Rattle.px_core.specs.declared.command.Operand.{Operand}
use Rattle.px_core.specs.declared.command.Operand.TheVariants.{Slot, Word, Null}
use Rattle.px_core.specs.WellFormed.{IsOperandBelow}
use Rattle.px_meaning.specs.Values.{Value, Unwritten}
use Rattle.px_meaning.specs.Execution.{Locals, with_local}
use Rattle.px_meaning.specs.Operations.{value_at, operand_value}

-- of N slots those below n are as before
pub record Kept (N n : ℕ) (before slots : List Value) : Type 0 where
  pub sized : length slots ≡ N
  pub kept : (i : ℕ) → i < n → value_at slots i ≡ value_at before i

-- of N slots those below m have the values of the locals
pub record Agrees (N m : ℕ) (locals : Locals) (slots : List Value) : Type 0 where
  pub sized : length slots ≡ N
  pub agree : (i : ℕ) → i < m → value_at slots i ≡ locals i

pub below_more : (n n' : ℕ) (a : Operand) → n ≤ n' → IsOperandBelow n a → IsOperandBelow n' a
below_more n n' (Slot i) le h = omega arith
below_more n n' (Word z) le h = tt
below_more n n' Null le h = tt

pub set_here : (N : ℕ) (slots : List Value) (to : ℕ) (v : Value) → length slots ≡ N → to < N → value_at (slice_set slots to v) to ≡ v
set_here N slots to v e h = get_or-set_same slots to v Unwritten (let q : to < length slots = omega arith in q)

pub kept_same : (N n : ℕ) (slots : List Value) → length slots ≡ N → Kept N n slots slots
kept_same N n slots e = record { sized = e; kept = λ i h. refl }

pub kept_set : (N n : ℕ) (before slots : List Value) (to : ℕ) (v : Value) → Kept N n before slots → n ≤ to → Kept N n before (slice_set slots to v)
kept_set N n before slots to v k le = record {
  sized = length-set slots to v ∙ k.sized;
  kept = λ i h. get_or-set_other slots to i v Unwritten (let d : i ≢ to = omega arith in d) ∙ k.kept i h;
}

pub kept_then : (N n n' : ℕ) (a b c : List Value) → n ≤ n' → Kept N n a b → Kept N n' b c → Kept N n a c
kept_then N n n' a b c le p q = record { sized = q.sized; kept = λ i h. q.kept i (let l : i < n' = omega arith in l) ∙ p.kept i h }

pub operand_kept : (N n : ℕ) (before slots : List Value) (a : Operand) → IsOperandBelow n a → Kept N n before slots → operand_value slots a ≡ operand_value before a
operand_kept N n before slots (Slot i) h k = k.kept i h
operand_kept N n before slots (Word z) h k = refl
operand_kept N n before slots Null h k = refl

pub agrees_kept : (N m n : ℕ) (locals : Locals) (before slots : List Value) → m ≤ n → Agrees N m locals before → Kept N n before slots → Agrees N m locals slots
agrees_kept N m n locals before slots le a k = record { sized = k.sized; agree = λ i h. k.kept i (let l : i < n = omega arith in l) ∙ a.agree i h }

pub agrees_set : (N m : ℕ) (locals : Locals) (slots : List Value) (to : ℕ) (v : Value) → Agrees N m locals slots → to < N → Agrees N m (with_local locals to v) (slice_set slots to v)
agrees_set N m locals slots to v a h = record {
  sized = length-set slots to v ∙ a.sized;
  agree = λ i l. at i l (nat_eq i to) refl;
}
  where
    at : (i : ℕ) → i < m → (b : Bool) → nat_eq i to ≡ b → value_at (slice_set slots to v) i ≡ cond b v (locals i)
    at i l true e = let s : i ≡ to = grind (arith, nat_tests) in subst (λ k. value_at (slice_set slots to v) k ≡ v) (sym s) (set_here N slots to v a.sized h)
    at i l false e = let d : i ≢ to = grind (arith, nat_tests) in get_or-set_other slots to i v Unwritten d ∙ a.agree i l
