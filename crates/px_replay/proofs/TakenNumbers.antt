-- The least number without a block.
use Rattle.std.proofs.Common.{◌≡◌, ap, ℕ, ◌+◌, ◌<◌, ◌≤◌, Bool, true, false, List, Option, Some, None, option_map, is_some, Ok, ◌∷◌, inl, inr, refl, sym, ◌∙◌, subst, arith}
use Rattle.std.proofs.Math.Nat.{eq-or-lt_of_le}
use Rattle.px_meaning.specs.Heaps.{HeapMap}
use Rattle.px_replay.specs.declared.heap.Block.{Block}
use Rattle.px_replay.specs.Replays.{heap_block}
use Rattle.px_replay.specs.Following.{IsLeast, IsTaken, HasNumber}
use Rattle.px_base.specs.declared.trace.Site.{Site}
use Rattle.px_base.specs.declared.trace.MarkKind.TheVariants.{Got}
use Rattle.px_meaning.specs.Values as value
use Rattle.px_meaning.specs.Values.{BlockType, TypeId}
use Rattle.px_meaning.specs.Heaps.{with_block}
use Rattle.px_meaning.specs.Events.{mark}
use Rattle.px_meaning.specs.Steps.{new_block}
use Rattle.px_replay.specs.declared.script.Script.{Script}
use Rattle.px_replay.specs.Replays.{heap_map}
use Rattle.px_replay.specs.Script.{allocates, plain_script}

pub has_number : (heap : HeapMap) (n : ℕ) (o : Option Block) → option_map heap_block o ≡ heap n → HasNumber heap n (is_some o)
has_number heap n (Some b) e = (heap_block b, sym e)
has_number heap n None e = λ t. absurd (let h : None ≡ Some t.0 = e ∙ t.1 in cc)

pub taken_next : (heap : HeapMap) (n : ℕ) (b : Bool) → HasNumber heap n b → b ≡ true → ((m : ℕ) → m < n → IsTaken heap m) → (m : ℕ) → m < n + 1 → IsTaken heap m
taken_next heap n true t e below m l =
    let k : m ≤ n = omega arith in
    elim (eq-or-lt_of_le k) [ inl e ↦ subst (IsTaken heap) (sym e) t | inr l ↦ below m l ]
taken_next heap n false t e below m l = absurd cc

pub least_at : (heap : HeapMap) (n : ℕ) (b : Bool) → HasNumber heap n b → b ≡ false → ((m : ℕ) → m < n → IsTaken heap m) → IsLeast (IsTaken heap) n
least_at heap n true t e below = absurd cc
least_at heap n false t e below = (t, below)

pub got_block : (types : List BlockType) (t : TypeId) (site : Site) (s s' : Script) (n : ℕ) →
    s.marks.now ≡ mark Got site ∷ s'.marks.now → s'.inputs.now ≡ s.inputs.now → IsLeast (IsTaken (heap_map s.heap)) n →
    heap_map s'.heap ≡ with_block (heap_map s.heap) n (new_block types t.0) → allocates types t site (plain_script s) (Ok (value.Block n)) (plain_script s')
got_block types t site s s' n marks inputs least put =
    inr (inl (
      s'.marks.now,
      n,
      marks,
      least,
      (
        refl,
        ap (λ i. record { marks = s'.marks.now; inputs = i; heap = heap_map s'.heap }) inputs
            ∙ ap (λ h. record { marks = s'.marks.now; inputs = s.inputs.now; heap = h }) put,
      ),
    ))
