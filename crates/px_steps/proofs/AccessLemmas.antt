-- The use of a block.
use Rattle.std.proofs.Common.{◌≡◌, ℕ, false, List, Option, Some, None, option_map, refl}
use Rattle.px_terms.specs.declared.conjuncts.Content.{Content}
use Rattle.px_entry.specs.declared.atoms.Atom.{Atom}
use Rattle.px_entry.specs.declared.atoms.AtomState.{AtomState}
use Rattle.px_entry.specs.declared.atoms.AtomState.TheVariants.{Live, Freed}
use Rattle.px_entry.specs.Cases.{is_freed}
use Rattle.px_callgraph.specs.declared.states.State.{State}
use Rattle.px_callgraph.specs.Accesses as spec
use Rattle.px_callgraph.specs.Accesses.{use_state, use_atom}
use Rattle.px_callgraph.specs.declared.outcomes.StepOutcome.{StepOutcome}
use Rattle.px_steps.specs.Accessing.{led_freely}

-- a block that isn't freed is used as a live one
pub used_live : (a : spec.Access) (n : ℕ) (s : State) (o : Option Atom) (r : StepOutcome State) → Some false ≡ option_map is_freed (option_map (λ (x : Atom). x.state) o)
    → ((cells : List Content) → option_map (λ (x : Atom). x.state) o ≡ Some (Live cells) → r ≡ led_freely (a.live n cells s)) → r ≡ led_freely (use_atom a n o s)
used_live a n s None r e h = absurd (cc)
used_live a n s (Some x) r e h = by x.state e h
  where
    by : (st : AtomState) → Some false ≡ Some (is_freed st) → ((cells : List Content) → Some st ≡ Some (Live cells) → r ≡ led_freely (a.live n cells s)) → r ≡ led_freely (use_state a n st s)
    by (Live cells) e h = h cells refl
    by Freed e h = absurd (cc)
