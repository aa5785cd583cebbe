-- The end of a call: what an entry of the callee says is done, and the machine makes that call.
use Rattle.std.proofs.Common.{◌≡◌, ℕ, Option, Some, None, List, [], ◌∷◌, ◌++◌, map, slice_set, refl, sym, ap, ap₂, ◌∙◌, subst, append_assoc, append-nil}
use Rattle.px_base.specs.declared.trace.Site.{Site}
use Rattle.px_base.specs.declared.trace.ProcId.{ProcId}
use Rattle.px_base.specs.declared.trace.Mark.{Mark}
use Rattle.px_base.specs.declared.trace.MarkKind.TheVariants as mark
use Rattle.px_base.specs.declared.trace.Kind.{Kind}
use Rattle.px_terms.specs.Polynomials.{Polynomial}
use Rattle.px_terms.specs.Valuations.{Valuation}
use Rattle.px_terms.specs.declared.conjuncts.Content.{Content}
use Rattle.px_core.specs.declared.command.Operand.{Operand}
use Rattle.px_core.specs.CommandTree.{call}
use Rattle.px_core.specs.Control.{Item, Act}
use Rattle.px_entry.specs.declared.entries.Entry.{Entry}
use Rattle.px_entry.specs.declared.entries.Exit.{Exit}
use Rattle.px_entry.specs.declared.entries.Exit.TheVariants as exit
use Rattle.px_entry.specs.Standing.{content_value, contents_value}
use Rattle.px_callgraph.specs.declared.states.State.{State}
use Rattle.px_callgraph.specs.JobTree.{JobTree}
use Rattle.px_callgraph.specs.States.{goes, marked}
use Rattle.px_callgraph.specs.Renaming.{Substitution}
use Rattle.px_callgraph.specs.Calls as symbolic
use Rattle.px_callgraph.specs.Calls.{Calling, result_through, end_call}
use Rattle.px_meaning.specs.Values.{Value}
use Rattle.px_meaning.specs.Heaps.{HeapMap, join}
use Rattle.px_meaning.specs.Calls.{error, Returned, Failed}
use Rattle.px_meaning.specs.Operations.{operand_value}
use Rattle.px_meaning.specs.Steps.{ProcedureCalls, WereWritten, Goes, Ends, keep_result}
use Rattle.px_meaning.specs.CoreCalls.{after}
use Rattle.px_meaning.specs.Triples.{heap_of, result_value, ending_of}
use Rattle.px_soundness.proofs.AtomHeaps.{Kept}
use Rattle.px_soundness.proofs.Contents.{set_is}
use Rattle.px_soundness.proofs.Sound.{Holds, Back, WholeGoal, Can, Sound}
use Rattle.px_soundness.proofs.Walks.{Machine}
use Rattle.px_soundness.proofs.Through.{through}
use Rattle.px_meaning.proofs.Determined.{after-append}

abbrev pub enter_mark : ProcId → Site → Mark
enter_mark proc site = record { kind = mark.Enter proc; site = site }

abbrev pub leave_mark : Site → Mark
leave_mark site = record { kind = mark.Leave; site = site }

-- ---- the slots after a call

abbrev pub kept_slots : Option ℕ → Content → List Content → List Content
kept_slots None c slots = slots
kept_slots (Some n) c slots = slice_set slots n c

pub kept_is : (o : Option ℕ) (c : Content) (t : State) → symbolic.keep_result o c t ≡ record t { slots = kept_slots o c t.slots }
kept_is None c t = refl
kept_is (Some n) c t = refl

pub slots_are : (v : Valuation) (o : Option ℕ) (c : Content) (slots : List Content) → contents_value v (kept_slots o c slots) ≡ keep_result o (contents_value v slots) (content_value v c)
slots_are v None c slots = refl
slots_are v (Some n) c slots = set_is v slots n c

-- ---- the call

module _ (j : JobTree) (calls : ProcedureCalls Mark) (s : State) (k : List Item) (to : Option ℕ) (proc : ProcId) (arguments : List Operand) (site : Site) where
  -- the machine calls, from the slots before the call
  abbrev pub CallCan : Can
  CallCan = Machine j calls (Act (call to proc arguments site)) k s

  abbrev pub arguments_at : Valuation → List Value
  arguments_at v = map (operand_value (contents_value v s.slots)) arguments

  abbrev pub calling : List Content → Calling
  calling contents = record { to = to; proc = proc; arguments = contents; site = site }

  module _ (x : Entry) (σ : Substitution) (u t : State) where
    -- under a valuation of the state after the call: that before it holds, and the callee does as its entry says
    pub record Takes (v : Valuation) (further : HeapMap) : Type 0 where
      pub holds : Holds v u.vars u.pure u.atoms further
      pub keeps : Kept v u.pre u.atoms → Kept v t.pre t.atoms
      pub written : WereWritten (arguments_at v)
      pub takes : calls proc.0 (arguments_at v) (join (heap_of v u.atoms) further) x.trace (ending_of (through v σ) x.exit x.result) (join (heap_of v t.atoms) further)
      pub result : content_value v (result_through σ x.result) ≡ result_value (through v σ) x.result

    module _ (contents : List Content) (terms : List Polynomial) (slots : t.slots ≡ s.slots) (trace : t.trace ≡ (s.trace ++ enter_mark proc site ∷ []) ++ x.trace) (pre : t.pre ≡ u.pre) (takes : (v : Valuation) (further : HeapMap) → Holds v t.vars t.pure t.atoms further → Takes v further) where
      abbrev back : (v : Valuation) (further : HeapMap) → Takes v further → Back v u t further
      back v further h = record { new = []; pre = pre ∙ sym (append-nil u.pre); holds = h.holds; keeps = h.keeps }

      whole : (events : List Mark) → after s.trace (enter_mark proc site ∷ (x.trace ++ events)) ≡ t.trace ++ events
      whole events =
          after-append s.trace (enter_mark proc site ∷ (x.trace ++ events))
          ∙ sym (append_assoc s.trace (enter_mark proc site ∷ []) (x.trace ++ events))
          ∙ sym (append_assoc (s.trace ++ enter_mark proc site ∷ []) x.trace events)
          ∙ ap (λ z. z ++ events) (sym trace)

      fails : (v : Valuation) (further : HeapMap) (kind : Kind) (at : Site) → x.exit ≡ exit.Error kind at → Takes v further → (K : WholeGoal) → K t.trace (Ends (Failed (error kind) at) (join (heap_of v t.atoms) further)) → CallCan v (join (heap_of v u.atoms) further) K
      fails v further kind at is h K g = (
        h.written,
        (
          x.trace,
          Failed (error kind) at,
          join (heap_of v t.atoms) further,
          subst (λ e. calls proc.0 (arguments_at v) (join (heap_of v u.atoms) further) x.trace (ending_of (through v σ) e x.result) (join (heap_of v t.atoms) further)) is h.takes,
          subst (λ z. K z (Ends (Failed (error kind) at) (join (heap_of v t.atoms) further))) (sym (ap (λ z. after s.trace (enter_mark proc site ∷ z)) (sym (append-nil x.trace)) ∙ whole [] ∙ append-nil t.trace)) g,
        ),
      )

      returns : (v : Valuation) (further : HeapMap) → x.exit ≡ exit.Ok → Takes v further → (K : WholeGoal) →
          K (t.trace ++ leave_mark site ∷ []) (Goes k (keep_result to (contents_value v s.slots) (result_value (through v σ) x.result)) (join (heap_of v t.atoms) further)) → CallCan v (join (heap_of v u.atoms) further) K
      returns v further is h K g = (
        h.written,
        (
          x.trace,
          Returned (result_value (through v σ) x.result),
          join (heap_of v t.atoms) further,
          subst (λ e. calls proc.0 (arguments_at v) (join (heap_of v u.atoms) further) x.trace (ending_of (through v σ) e x.result) (join (heap_of v t.atoms) further)) is h.takes,
          subst (λ z. K z (Goes k (keep_result to (contents_value v s.slots) (result_value (through v σ) x.result)) (join (heap_of v t.atoms) further))) (sym (whole (leave_mark site ∷ []))) g,
        ),
      )

      kept_slots_are : (v : Valuation) (further : HeapMap) → Takes v further → contents_value v (kept_slots to (result_through σ x.result) t.slots) ≡ keep_result to (contents_value v s.slots) (result_value (through v σ) x.result)
      kept_slots_are v further h = slots_are v to (result_through σ x.result) t.slots ∙ ap₂ (λ cs r. keep_result to (contents_value v cs) r) slots h.result

      -- the entry is done, and so is the call
      pub end_sound : (e : Exit) → x.exit ≡ e → Sound CallCan u k (end_call (calling contents) σ x.result e terms t).state (end_call (calling contents) σ x.result e terms t).outcome
      unfolding Sound
      end_sound (exit.Error kind at) is = λ v further h. let facts = takes v further h in (back v further facts, λ K g. fails v further kind at is facts K g)
      end_sound exit.Ok is =
          subst (λ (z : State). Sound CallCan u k z goes) (sym (kept_is to (result_through σ x.result) (marked mark.Leave site t)))
          (λ v further h.
          let facts = takes v further (record { fits = h.fits; true_of = h.true_of; placed = h.placed; apart = h.apart }) in
          let b = back v further facts in (
            record { new = b.new; pre = b.pre; holds = b.holds; keeps = b.keeps },
            λ K g. returns v further is facts K (subst (λ z. K (t.trace ++ leave_mark site ∷ []) (Goes k z (join (heap_of v t.atoms) further))) (kept_slots_are v further facts) g),
          ))
