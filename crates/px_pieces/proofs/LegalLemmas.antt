-- Ways to show that a history is legal.
use Rattle.std.proofs.Common.{◌≡◌, ℕ, zero, suc, ◌<◌, true, List, [], ◌∷◌, take, Option, Some, slice_get, subst, arith}
use Rattle.std.proofs.lemmas.Option.{same_Some}
use Rattle.px_core.specs.BodyTree.{BodyTree}
use Rattle.px_callgraph.specs.Callees.{IsCallee, Reaches, by_call, by_calls}
use Rattle.px_pieces.specs.declared.desk.Event.{Event}
use Rattle.px_pieces.specs.Desk.{Desk, is_of_desk, Awaits, Statuses, start, after, replay_from, MayCome, IsLegal}

-- event by event
abbrev pub MayFollow : Desk → ℕ → Statuses → List Event → Type 0
MayFollow d p s [] = Unit {0}
MayFollow d p s (e ∷ rest) = MayCome d s e × MayFollow d (suc p) (after p e s) rest

each_may : (d : Desk) (p : ℕ) (s : Statuses) (h : List Event) → MayFollow d p s h → (n : ℕ) (e : Event) → slice_get h n ≡ Some e → MayCome d (replay_from p s (take n h)) e
each_may d p s [] m n e q = cc
each_may d p s (x ∷ h) m zero e q = subst (MayCome d s) (same_Some x e q) m.0
each_may d p s (x ∷ h) m (suc n) e q = each_may d (suc p) (after p x s) h m.1 n e q

pub is_legal : (d : Desk) (h : List Event) → MayFollow d 0 (start d) h → IsLegal d h
is_legal d h m = each_may d 0 (start d) h m

-- where calls go to greater numbers alone, no callee is together with its caller
module _ (bodies : ℕ → Option BodyTree) (up : (f g : ℕ) → IsCallee bodies f g → f < g) where
  reaches_up : {f g : ℕ} → Reaches bodies f g → f < g
  reaches_up (by_call {f} {g} c) = up f g c
  reaches_up (by_calls {f} {g} {h} c r) = let a = up f g c in let b = reaches_up r in omega arith

  pub awaited : (kept : ℕ) (f g : ℕ) → IsCallee bodies f g → is_of_desk (record { bodies = bodies; kept = kept; out = [] }) g ≡ true →
      Awaits (record { bodies = bodies; kept = kept; out = [] }) f g
  awaited kept f g c o = record { callee = c; of_desk = o; apart = λ t. let a = up f g c in let b = reaches_up t.1 in let n : ⊥ = omega arith in n }
