-- How much an access adds to a state, and what the limits say of it.
use Rattle.std.proofs.Common.{◌≡◌, ◌∙◌, ◌||◌, ℕ, suc, ◌+◌, Bool, true, false, List, [], ◌∷◌, ◌++◌, length, slice_get, Option, Some, None, refl, ap, sym, subst, arith}
use Rattle.std.proofs.lemmas.List.{length-append}
use Rattle.px_base.specs.declared.trace.Mark.{Mark}
use Rattle.px_base.specs.declared.trace.Site.{Site}
use Rattle.px_terms.specs.declared.types.TypeId.{TypeId}
use Rattle.px_terms.specs.declared.types.BlockType.{BlockType}
use Rattle.px_terms.specs.declared.conjuncts.Place.{Place}
use Rattle.px_terms.specs.declared.conjuncts.Place.TheVariants as place
use Rattle.px_terms.specs.declared.conjuncts.Conj.{Conj}
use Rattle.px_terms.specs.declared.conjuncts.Conj.TheVariants.{SamePlace}
use Rattle.px_entry.specs.declared.atoms.Atom.{Atom}
use Rattle.px_entry.specs.declared.atoms.AtomState.{AtomState}
use Rattle.px_entry.specs.declared.atoms.AtomState.TheVariants.{Live, Freed}
use Rattle.px_entry.specs.declared.tables.Cause.TheVariants.{Long}
use Rattle.px_entry.specs.declared.tables.LongKind.{LongKind}
use Rattle.px_entry.specs.Decided.{is_true, decided, stands_in}
use Rattle.px_callgraph.specs.declared.states.State.{State}
use Rattle.px_callgraph.specs.declared.states.Way.{Way}
use Rattle.px_callgraph.specs.declared.states.Way.TheVariants as way
use Rattle.px_callgraph.specs.States.{Outcome, goes, ends, past, drops, Done, on, begun, assumed}
use Rattle.px_callgraph.specs.Accesses as spec
use Rattle.px_callgraph.specs.Accesses.{access_done, block_cells, cell_infos, use_state, use_atom, meet_live, meet_freed}
use Rattle.px_callgraph.specs.declared.outcomes.StepOutcome.TheVariants.{Next, Ends}
use Rattle.px_callgraph.specs.Alternatives.{passes, dropped, led, limited, within_limits}
use Rattle.px_match.specs.declared.path_limits.Growth.{Growth}
use Rattle.px_steps.specs.declared.accesses.Effect.{Effect}
use Rattle.px_steps.specs.declared.accesses.Effect.TheVariants.{Load, Store, Free}
use Rattle.px_steps.specs.Led.{led_of}
use Rattle.px_match.specs.PathLimits.{passes_grown, Grows}
use Rattle.px_steps.specs.Accessing.{effect_at, led_freely, adding, conjuncts_added, atom_growth, missing_growth, access_growth}
use Rattle.px_match.proofs.PathLimitLemmas.{grown_passes}
use Rattle.px_callgraph.proofs.LengthLemmas.{length_set_atom, length_infos}

-- ---- limits of a path

abbrev pub NeverPast : Outcome → Type 0
NeverPast goes = Unit {0}
NeverPast (ends exit result) = Unit {0}
NeverPast past = ⊥
NeverPast (drops word) = ⊥

-- an act adds so much, and doesn't end beyond the bound or in a drop
pub record IsWithin (s : State) (g : Growth) (d : Done) : Type 0 where
  pub grows : Grows s g d
  pub bound : NeverPast d.outcome

kept : (s : State) (d : Done) (o : Outcome) → NeverPast o → None ≡ passes d → led d.state d (λ t. t) o ≡ within_limits s d (λ t. t) o
kept s d goes n e = ap (limited s (Next d.state)) e
kept s d (ends exit result) n e = ap (limited s (Ends d.state exit result)) e
kept s d past n e = absurd n
kept s d (drops word) n e = absurd n

pub led_within : (s : State) (g : Growth) (d : Done) → None ≡ passes_grown s g → IsWithin s g d → led_freely d ≡ led_of s d
unfolding led_of
led_within s g d e h = kept s d d.outcome h.bound (e ∙ sym (grown_passes s g d h.grows))

cut_off : (s : State) (d : Done) (kind : LongKind) (o : Outcome) → NeverPast o → Some kind ≡ passes d → dropped s (Long kind) ≡ within_limits s d (λ t. t) o
cut_off s d kind goes n e = ap (limited s (Next d.state)) e
cut_off s d kind (ends exit result) n e = ap (limited s (Ends d.state exit result)) e
cut_off s d kind past n e = absurd n
cut_off s d kind (drops word) n e = absurd n

pub cut_within : (s : State) (g : Growth) (d : Done) (kind : LongKind) → Some kind ≡ passes_grown s g → IsWithin s g d → dropped s (Long kind) ≡ led_of s d
unfolding led_of
cut_within s g d kind e h = cut_off s d kind d.outcome h.bound (e ∙ sym (grown_passes s g d h.grows))

-- ---- uses of a block: each adds a mark

abbrev pub marking : Growth
marking = record { marks = 1; commands = 0; conjuncts = 0; atoms = 0; variables = 0; long_term = false }

pub record MarksOnce (a : spec.Access) : Type 0 where
  pub null : (s : State) → IsWithin s marking (a.null s)
  pub freed : (s : State) → IsWithin s marking (a.freed s)
  pub live : (n : ℕ) (cells : _) (s : State) → IsWithin s marking (a.live n cells s)

marked_once : (s t : State) (m : Mark) (o : Outcome) → t.trace ≡ s.trace ++ m ∷ [] → t.steps ≡ s.steps → length t.pure ≡ length s.pure → length t.atoms ≡ length s.atoms → length t.vars ≡ length s.vars
    → NeverPast o → IsWithin s marking (record { state = t; terms = []; outcome = o })
marked_once s t m o e1 e2 e3 e4 e5 n = record {
  grows = record {
    marks = ap length e1 ∙ length-append s.trace (m ∷ []);
    commands = omega (arith, e2);
    conjuncts = omega (arith, e3);
    atoms = omega (arith, e4);
    variables = omega (arith, e5);
    long_term = refl;
  };
  bound = n;
}

pub marks_once : (site : Site) (e : Effect) → MarksOnce (effect_at site e)
marks_once site (Load to field) = record {
  null = λ s. marked_once s _ _ _ refl refl refl refl refl tt;
  freed = λ s. marked_once s _ _ _ refl refl refl refl refl tt;
  live = λ n cells s. marked_once s _ _ _ refl refl refl refl refl tt;
}
marks_once site (Store field content) = record {
  null = λ s. marked_once s _ _ _ refl refl refl refl refl tt;
  freed = λ s. marked_once s _ _ _ refl refl refl refl refl tt;
  live = λ n cells s. marked_once s _ _ _ refl refl refl (length_set_atom n _ s.atoms) refl tt;
}
marks_once site Free = record {
  null = λ s. marked_once s _ _ _ refl refl refl refl refl tt;
  freed = λ s. marked_once s _ _ _ refl refl refl refl refl tt;
  live = λ n cells s. marked_once s _ _ _ refl refl refl (length_set_atom n _ s.atoms) refl tt;
}

-- ---- from the state before the command

behind : (s t : State) (conjuncts atoms variables : ℕ) (d : Done) → length t.trace ≡ length s.trace → t.steps ≡ s.steps + 1
    → length t.pure ≡ length s.pure + conjuncts → length t.atoms ≡ length s.atoms + atoms → length t.vars ≡ length s.vars + variables
    → IsWithin t marking d → IsWithin s (adding 1 conjuncts atoms variables) d
behind s t conjuncts atoms variables d e1 e2 e3 e4 e5 h = record {
  grows = record {
    marks = omega (arith, e1, h.grows.marks);
    commands = omega (arith, e2, h.grows.commands);
    conjuncts = omega (arith, e3, h.grows.conjuncts);
    atoms = omega (arith, e4, h.grows.atoms);
    variables = omega (arith, e5, h.grows.variables);
    long_term = h.grows.long_term;
  };
  bound = h.bound;
}

one_step : (s : State) → suc s.steps ≡ s.steps + 1
one_step s = omega arith

-- only the command begins
stays : (s : State) → IsWithin s (adding 0 0 0 0) (on (begun s))
stays s = record {
  grows = record { marks = omega arith; commands = omega arith; conjuncts = omega arith; atoms = omega arith; variables = omega arith; long_term = refl };
  bound = tt;
}

assumed_length : (b : Bool) (pure : List Conj) (c : Conj) → length (elim b as (λ _. List Conj) [ true ↦ pure | false ↦ pure ++ c ∷ [] ]) ≡ length pure + elim b as (λ _. ℕ) [ true ↦ 0 | false ↦ 1 ]
assumed_length true pure c = omega arith
assumed_length false pure c = length-append pure (c ∷ [])

-- a use of a block where a conjunct is assumed
assuming : (s : State) (c : Conj) (d : Done) → IsWithin (assumed c (begun s)) marking d → IsWithin s (adding 1 (conjuncts_added s c) 0 0) d
assuming s c d h = behind s (assumed c (begun s)) (conjuncts_added s c) 0 0 d refl (one_step s) (assumed_length (is_true (decided s.vars c) || stands_in s.pure c) s.pure c) (omega arith) (omega arith) h

used : (a : spec.Access) → MarksOnce a → (n : ℕ) (state : AtomState) (s : State) → IsWithin s marking (use_state a n state s)
used a m n (Live cells) s = m.live n cells s
used a m n Freed s = m.freed s

atom_within : (a : spec.Access) → MarksOnce a → (s : State) (p : Place) (n : ℕ) (o : Option Atom) → IsWithin s (atom_growth s p o) (spec.reach_atom a p n o (begun s))
atom_within a m s p n None = stays s
atom_within a m s p n (Some b) = assuming s (SamePlace p (place.Var b.place)) _ (used a m n b.state _)

-- the block that is met is the last
last_found : (xs : List Atom) (b : Atom) → Some b ≡ slice_get (xs ++ b ∷ []) (length xs)
last_found [] b = refl
last_found (x ∷ xs) b = last_found xs b

missing_within : (a : spec.Access) → MarksOnce a → (s t : State) (b : Atom) (variables : ℕ) → t.atoms ≡ s.atoms ++ b ∷ [] → length t.trace ≡ length s.trace → t.steps ≡ s.steps + 1 → length t.pure ≡ length s.pure
    → length t.vars ≡ length s.vars + variables → IsWithin s (adding 1 0 1 variables) (use_atom a (length s.atoms) (slice_get t.atoms (length s.atoms)) t)
missing_within a m s t b variables e1 e2 e3 e4 e5 =
    subst (λ (o : Option Atom). IsWithin s (adding 1 0 1 variables) (use_atom a (length s.atoms) o t)) (last_found s.atoms b ∙ ap (λ z. slice_get z (length s.atoms)) (sym e1))
    (behind s t 0 1 variables _ e2 e3 (omega (arith, e4)) (ap length e1 ∙ length-append s.atoms (b ∷ [])) e5 (used a m (length s.atoms) b.state t))

live_within : (types : List BlockType) (block : TypeId) (a : spec.Access) → MarksOnce a → (s : State) (p : Place) →
    IsWithin s (missing_growth p (length (block_cells types block))) (spec.reach_missing (meet_live types block) a p (begun s))
live_within types block a m s place.Null = stays s
live_within types block a m s (place.Var x) =
    missing_within a m s (meet_live types block x (begun s)) _ (length (block_cells types block)) refl refl (one_step s) refl
    (length-append s.vars (cell_infos (block_cells types block)) ∙ ap (λ z. length s.vars + z) (length_infos (block_cells types block)))

freed_within : (block : TypeId) (a : spec.Access) → MarksOnce a → (s : State) (p : Place) → IsWithin s (missing_growth p 0) (spec.reach_missing (meet_freed block) a p (begun s))
freed_within block a m s place.Null = stays s
freed_within block a m s (place.Var x) = missing_within a m s (meet_freed block x (begun s)) _ 0 refl refl (one_step s) refl (omega arith)

-- an access by each of its ways
pub access_within : (types : List BlockType) (block : TypeId) (a : spec.Access) → MarksOnce a → (s : State) (p : Place) (w : Way) →
    IsWithin s (access_growth types s block p w) (access_done types block a p w (begun s))
access_within types block a m s p way.Null = assuming s (SamePlace p place.Null) _ (m.null _)
access_within types block a m s p (way.Atom n) = atom_within a m s p n (slice_get s.atoms n)
access_within types block a m s p way.MissingLive = live_within types block a m s p
access_within types block a m s p way.MissingFreed = freed_within block a m s p
access_within types block a m s p way.On = stays s
access_within types block a m s p way.Then = stays s
access_within types block a m s p way.Else = stays s
access_within types block a m s p way.Made = stays s
access_within types block a m s p way.Written = stays s
access_within types block a m s p way.Unwritten = stays s
access_within types block a m s p way.Missing = stays s
access_within types block a m s p (way.Entry n) = stays s
access_within types block a m s p way.Drop = stays s
access_within types block a m s p way.ByZero = stays s
access_within types block a m s p way.Divided = stays s
