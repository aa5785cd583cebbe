-- A call is entered, and an entry that covers the callee's execution is chosen, or the callee's drop is handed on.
use Rattle.std.proofs.Common.{◌≡◌, ℕ, zero, suc, ◌+◌, ◌≤◌, Bool, true, false, cond, nat_eq, Option, Some, None, List, [], ◌∷◌, ◌++◌, map, length, take, slice_get, refl, sym, ap, ◌∙◌, subst, inl, inr, arith, le_trans, length-append, append-nil, append_assoc, IfSome}
use Rattle.std.specs.Prelude.{All, Any}
use Rattle.std.specs.List.{list_all}
use Rattle.std.proofs.lemmas.Option.{slice_get-get_or, same_Some}
use Rattle.std.proofs.lemmas.Bool.{and_from, eqb-true}
use Rattle.px_base.specs.Bounds.{most_marks}
use Rattle.px_base.specs.declared.trace.Site.{Site}
use Rattle.px_base.specs.declared.trace.ProcId.{ProcId}
use Rattle.px_base.specs.declared.trace.Mark.{Mark}
use Rattle.px_base.specs.declared.trace.MarkKind.TheVariants as mark
use Rattle.px_terms.specs.Substitutions.{content_for}
use Rattle.px_terms.specs.Valuations.{Valuation}
use Rattle.px_terms.specs.declared.types.Value.{Value}
use Rattle.px_terms.specs.declared.types.ValueType.{ValueType}
use Rattle.px_terms.specs.declared.variables.VarInfo.{VarInfo}
use Rattle.px_terms.specs.declared.conjuncts.Content.{Content}
use Rattle.px_core.specs.declared.command.Operand.{Operand}
use Rattle.px_core.specs.BodyTree.{BodyTree}
use Rattle.px_core.specs.CommandTree.{call}
use Rattle.px_core.specs.Control.{Item, Act, acts}
use Rattle.px_core.specs.Constants.{AreInRange}
use Rattle.px_entry.specs.declared.entries.Entry.{Entry}
use Rattle.px_entry.specs.declared.tables.Gap.{Gap}
use Rattle.px_entry.specs.declared.tables.Table.{Table}
use Rattle.px_entry.specs.declared.tables.LongKind.{LongKind}
use Rattle.px_entry.specs.Contents.{is_written_of, fit_each}
use Rattle.px_entry.specs.Regular.{is_regular, FitsResult, IsRegular}
use Rattle.px_entry.specs.Standing.{content_value, contents_value}
use Rattle.px_entry.proofs.Lists.{Each, all_each}
use Rattle.px_callgraph.specs.declared.jobs.Callee.{Callee}
use Rattle.px_callgraph.specs.declared.jobs.Callee.TheVariants as callee
use Rattle.px_callgraph.specs.declared.states.State.{State}
use Rattle.px_callgraph.specs.declared.states.Way.{Way}
use Rattle.px_callgraph.specs.declared.states.Way.TheVariants as way
use Rattle.px_callgraph.specs.JobTree.{JobTree, callee_in}
use Rattle.px_callgraph.specs.States.{marked, begun}
use Rattle.px_callgraph.specs.Commands.{is_argument, argument_contents, command_done}
use Rattle.px_callgraph.specs.Renaming.{stand_from}
use Rattle.px_callgraph.specs.Calls.{Stage, choosing, matching, unfit, entry_ways, drop_way, callee_ways, entry_in, fits_arguments, choose_entry}
use Rattle.px_callgraph.specs.declared.outcomes.StepOutcome.TheVariants.{Next}
use Rattle.px_callgraph.specs.Alternatives.{passes, limited, after_command, item_ways, item_act, going_on, choosing_act}
use Rattle.px_meaning.specs.Heaps.{HeapMap, IsWellTyped, join}
use Rattle.px_meaning.specs.Operations.{operand_value}
use Rattle.px_meaning.specs.Calls.{Ending, Returned, Failed}
use Rattle.px_meaning.specs.Events.{mark_of}
use Rattle.px_meaning.specs.Steps.{Goes, Ends, WereWritten, keep_result, comes_back}
use Rattle.px_meaning.specs.CoreCalls.{CoreProgram, Runs, CallsWithin, first_slots}
use Rattle.px_meaning.specs.CoreTypes.{SlotTypes, AreOperandsOf}
use Rattle.px_meaning.specs.CoreLaws.{Grows}
use Rattle.px_meaning.specs.Triples.{heap_of, values_from}
use Rattle.px_meaning.proofs.Taken.{some_to}
use Rattle.px_meaning.proofs.Determined.{runs_begin, after_begin}
use Rattle.px_meaning.proofs.Grown.{runs_grow}
use Rattle.px_soundness.proofs.WellFormed.{Good, GoodAtom}
use Rattle.px_soundness.proofs.AtomHeaps.{absent}
use Rattle.px_soundness.proofs.WellTyped.{each_get}
use Rattle.px_soundness.proofs.PlainSteps.{operand_good}
use Rattle.px_soundness.proofs.CallEnds.{enter_mark}
use Rattle.px_soundness.proofs.CallSteps.{chosen_stage}
use Rattle.px_symexec.proofs.Lists.{IsIn, in_left, in_right}
use Rattle.px_coverage.specs.Covered.{Execution, IsOf, Begins}
use Rattle.px_coverage.specs.Laws.{CoversProcedure, HasCoveringTables}
use Rattle.px_coverage.proofs.Follows.{Onward}
use Rattle.px_coverage.proofs.PlainFollows.{in_if}
use Rattle.px_coverage.proofs.Steps.{UnderWay}
use Rattle.px_coverage.proofs.CallingStates.{Passed, arguments_passed, calling_state}
use Rattle.px_coverage.proofs.CallAgrees.{Agrees, heads}
use Rattle.px_coverage.proofs.CallUnderWay.{the_call, MatchingAt, CallMoves}
use Rattle.px_callgraph.proofs.KeepLemmas.{each_weaker}

-- ---- lists

in_entries : (m : ℕ) (xs : List Entry) (i : ℕ) (x : Entry) → slice_get xs i ≡ Some x → (k : ℕ) → k ≡ m + i → IsIn (way.Entry k) (entry_ways m xs)
in_entries m [] i x at k is = absent at
in_entries m (y ∷ xs) zero x at k is = inl (ap way.Entry (let f : k ≡ m = omega (arith, is) in f))
in_entries m (y ∷ xs) (suc i) x at k is = inr (in_entries (suc m) xs i x at k (omega (arith, is)))

in_drops : (gs : List Gap) (i : ℕ) (g : Gap) → slice_get gs i ≡ Some g → IsIn way.Drop (drop_way gs)
in_drops [] i g at = absent at
in_drops (h ∷ gs) i g at = inl refl

-- parameters stand for arguments with the values that they have
from_agrees : (v w : Valuation) (n : ℕ) (cs : List Content) → contents_value v cs ≡ values_from w n (length cs) → Agrees v w (stand_from n cs)
from_agrees v w n [] same y c is = absent is
from_agrees v w n (d ∷ cs) same y c is = by (nat_eq n y) refl is (from_agrees v w (suc n) cs (heads same).1 y c)
  where
    by : (q : Bool) → nat_eq n y ≡ q → cond q (Some d) (content_for (stand_from (suc n) cs) y) ≡ Some c → (content_for (stand_from (suc n) cs) y ≡ Some c → content_value v c ≡ w y) → content_value v c ≡ w y
    by true at f rest = ap (content_value v) (sym (same_Some _ _ f)) ∙ (heads same).0 ∙ ap w (eqb-true n y at)
    by false at f rest = rest f

longer_trace : (so_far a inner b r whole : List Mark) → whole ≡ so_far ++ ((a ++ (inner ++ b)) ++ r) → length inner ≤ length whole
longer_trace so_far a inner b r whole is =
    let f : length whole ≡ length so_far + ((length a + (length inner + length b)) + length r) = ap length is ∙ lengths in omega (arith, f)
  where
    lengths : length (so_far ++ ((a ++ (inner ++ b)) ++ r)) ≡ length so_far + ((length a + (length inner + length b)) + length r)
    lengths =
        length-append so_far ((a ++ (inner ++ b)) ++ r)
        ∙ ap (λ n. length so_far + n) (length-append (a ++ (inner ++ b)) r ∙ ap (λ n. n + length r) (length-append a (inner ++ b) ∙ ap (λ n. length a + n) (length-append inner b)))

module _ (P : CoreProgram) (j : JobTree) (same_types : j.types ≡ P.types) (e : Execution) (typed : IsWellTyped P.types e.before) (ends : IsWellTyped P.types e.after) (few : length e.trace ≤ most_marks) (types : SlotTypes) (outcome : ℕ → Bool)
    (covering : HasCoveringTables P j) where
  abbrev bound : Option ℕ
  bound = Some j.limits.unroll

  -- ---- at a call

  module _ (n : ℕ) (s : State) (k : List Item) (to : Option ℕ) (proc : ProcId) (operands : List Operand) (site : Site) (u : UnderWay P j same_types e typed types outcome (suc n) s (Act (call to proc operands site) ∷ k)) where
    abbrev v : Valuation
    v = u.going.valuation

    abbrev rest : HeapMap
    rest = u.going.rest

    abbrev heap : HeapMap
    heap = join (heap_of v s.atoms) rest

    abbrev values : List Value
    values = map (operand_value (contents_value v s.slots)) operands

    -- the execution of the callee
    pub record Inner : Type 0 where
      pub trace : List Mark
      pub ending : Ending
      pub after : HeapMap
      pub calls : CallsWithin mark_of bound P n proc.0 values heap trace ending after
      pub back : comes_back mark_of proc to site k (contents_value v s.slots) trace after (Onward P j e types outcome n s.trace) ending
      pub body : BodyTree
      pub is_body : P.bodies proc.0 ≡ Some body

    inner : Inner
    inner =
        let (written, (t, ending, after, calls, back)) = u.going.runs in
        some_to (P.bodies proc.0) (λ b. Runs mark_of bound P n (acts b.commands []) (first_slots b.slots values) heap [] t ending after) Inner
        (λ b is runs. record { trace = t; ending = ending; after = after; calls = calls; back = back; body = b; is_body = is }) calls

    were_written : WereWritten values
    were_written = let (written, more) = u.going.runs in written

    -- the trace goes on with that of the callee
    trace_is : (ending : Ending) → comes_back mark_of proc to site k (contents_value v s.slots) inner.trace inner.after (Onward P j e types outcome n s.trace) ending →
        (b : List Mark) × (r : List Mark) × (e.trace ≡ s.trace ++ (((enter_mark proc site ∷ []) ++ (inner.trace ++ b)) ++ r))
    trace_is (Returned z) h =
        let (r, is) = after_begin mark_of bound P n s.trace e.trace e.ending e.after ((enter_mark proc site ∷ []) ++ (inner.trace ++ record { kind = mark.Leave; site = site } ∷ [])) (Goes k (keep_result to (contents_value v s.slots) z) inner.after) h in
        (record { kind = mark.Leave; site = site } ∷ [], r, is)
    trace_is (Failed kind at) h =
        let (r, is) = after_begin mark_of bound P n s.trace e.trace e.ending e.after ((enter_mark proc site ∷ []) ++ inner.trace) (Ends (Failed kind at) inner.after) h in
        ([], r, is ∙ ap (λ z. s.trace ++ (((enter_mark proc site ∷ []) ++ z) ++ r)) (sym (append-nil inner.trace)))

    begins : Begins (s.trace ++ enter_mark proc site ∷ []) e.trace
    begins =
        let (b, r, is) = trace_is inner.ending inner.back in
        ((inner.trace ++ b) ++ r, is ∙ sym (append_assoc s.trace (enter_mark proc site ∷ []) ((inner.trace ++ b) ++ r)))

    few_inner : length inner.trace ≤ most_marks
    few_inner = let (b, r, is) = trace_is inner.ending inner.back in le_trans (longer_trace s.trace (enter_mark proc site ∷ []) inner.trace b r e.trace is) few

    typed_call : AreOperandsOf types inner.body.parameters operands × IfSome to (λ m. inner.body.result ≡ Some (types m))
    typed_call = subst (λ o. IfSome o (λ b. AreOperandsOf types b.parameters operands × IfSome to (λ m. b.result ≡ Some (types m)))) inner.is_body u.lowered.typed.0

    grows : Grows heap e.after
    grows = runs_grow mark_of bound P (suc n) (Act (call to proc operands site) ∷ k) (contents_value v s.slots) heap s.trace e.trace e.ending e.after u.going.runs

    abbrev Pass : List ValueType → List Operand → Type 0
    Pass ts as' = Passed P j same_types e typed ends s u.well_formed.well_typed u.well_formed.complete v rest u.going.stands grows types outcome (Act (call to proc operands site) ∷ k) (λ m z. z) u.going.regards ts as'

    passed : Pass inner.body.parameters operands
    passed =
        arguments_passed P j same_types e typed ends s u.well_formed.well_typed u.well_formed.complete v rest u.going.stands grows types outcome (Act (call to proc operands site) ∷ k) (λ m z. z) u.going.regards
        inner.body.parameters operands typed_call.0 u.well_formed.keeps.0.0 were_written

    -- ---- the mark is made

    pub enter_goes : (name : Way) × IsIn name (item_ways j s (Act (call to proc operands site) ∷ k)) × CallMoves P j same_types e typed types outcome n s (item_act j s (Act (call to proc operands site) ∷ k) name)
    enter_goes = (way.On, in_if (list_all is_argument (argument_contents s operands)) way.On passed.are_arguments, entered_moves (passes (command_done j (call to proc operands site) way.On s)))
      where
        entered_moves : (o : Option LongKind) →
            CallMoves P j same_types e typed types outcome n s (limited s (Next (after_command s (call to proc operands site) k (command_done j (call to proc operands site) way.On s).state)) o)
        entered_moves None = (
          the_call to proc (argument_contents s operands) site,
          choosing,
          refl,
          record { before = s; to = to; proc = proc; operands = operands; site = site; under = u; state = refl; is_call = refl },
        )
        entered_moves (Some kind) = (refl, runs_begin mark_of bound P (suc n) (Act (call to proc operands site) ∷ k) (contents_value v s.slots) heap s.trace e.trace e.ending e.after u.going.runs)

    -- ---- an entry is chosen

    abbrev entered : State
    entered = marked (mark.Enter proc) site (begun s)

    abbrev contents : List Content
    contents = argument_contents s operands

    abbrev callee' : Execution
    callee' = record { arguments = values; before = heap; trace = inner.trace; ending = inner.ending; after = inner.after }

    contents_good : (as' : List Operand) → AreInRange as' → Each (Good s.vars s.pure) (argument_contents s as')
    contents_good [] r = tt
    contents_good (a ∷ as') r = (operand_good j.types s a u.well_formed.well_typed r.0, contents_good as' r.1)

    as_many : (cs : List Content) → length (contents_value v cs) ≡ length cs
    as_many [] = refl
    as_many (c ∷ cs) = ap suc (as_many cs)

    module _ (x : Entry) (known : IsRegular P.types inner.body.parameters inner.body.result x) (is_of : IsOf callee' x) where
      regular : is_regular j.types (length contents) x ≡ true
      regular = subst (λ ts. is_regular ts (length contents) x ≡ true) (sym same_types) (subst (λ m. is_regular P.types m x ≡ true) (sym passed.as_many) known.regular)

      fits : fits_arguments s.vars contents x ≡ true
      fits =
          ap (λ m. fit_each (is_written_of s.vars) (map (λ (i : VarInfo). i.value) (take m x.vars)) contents) passed.as_many ∙ ap (λ ts. fit_each (is_written_of s.vars) ts contents) known.given ∙ passed.fit

      matched_at : MatchingAt P j same_types e typed types outcome n entered (the_call to proc contents site) k x (stand_from 0 contents) x.pre []
      matched_at = record {
        to = to;
        proc = proc;
        operands = operands;
        contents = contents;
        site = site;
        is_call = refl;
        regular = regular;
        result = λ m is. subst (λ o. FitsResult x.vars o x.result) (subst (λ o. IfSome o (λ m. inner.body.result ≡ Some (types m))) is typed_call.1) known.gives;
        matched = chosen_stage j.types entered contents x regular fits (contents_good operands u.well_formed.keeps.0.0) (each_weaker (GoodAtom j.types s.vars s.pure) _ (λ b g. (g.fits, g.cells)) s.atoms u.well_formed.well_typed.atoms);
        pending = record {
          counted = s.pure;
          well_typed = record { slots = u.well_formed.well_typed.slots; atoms = u.well_formed.well_typed.atoms; own = u.well_formed.well_typed.own };
          complete = u.well_formed.complete;
          conjuncts = u.well_formed.complete.conjuncts;
          more = λ z h. h;
          said = λ z h. inl h;
        };
        keeps = u.well_formed.keeps.1;
        opens = u.well_formed.opens;
        lowered = u.lowered;
        regards = u.going.regards;
        valuation = v;
        rest = rest;
        stands = u.going.stands;
        inner = callee';
        is_of = is_of;
        agrees = from_agrees v is_of.valuation 0 contents (sym passed.values ∙ is_of.given ∙ ap (values_from is_of.valuation 0) (ap length passed.values ∙ as_many contents));
        same = refl;
        so_far = s.trace;
        marks = refl;
        back = inner.back;
        begins = begins;
      }

      chosen : (i : ℕ) (table : Table) → callee_in j.callees proc ≡ callee.Table table → slice_get table.entries i ≡ Some x →
          CallMoves P j same_types e typed types outcome n entered (choosing_act j entered (the_call to proc contents site) k (way.Entry i))
      chosen i table is at =
          subst (λ st. CallMoves P j same_types e typed types outcome n entered (Next (going_on (the_call to proc contents site) k entered st))) (sym stage_is) (the_call to proc contents site, matching x (stand_from 0 contents) x.pre [], refl, matched_at)
        where
          stage_is : choose_entry j.types entered contents (entry_in (callee_in j.callees proc) i) ≡ matching x (stand_from 0 contents) x.pre []
          stage_is =
              ap (λ z. choose_entry j.types entered contents (entry_in z i)) is
              ∙ ap (choose_entry j.types entered contents) at
              ∙ ap (λ b. elim b as (λ _. Stage) [ true ↦ matching x (stand_from 0 contents) x.pre [] | false ↦ unfit ]) (and_from _ _ regular fits)

    -- a way on from the choice
    abbrev pub Chosen : Type 0
    Chosen = (name : Way) × IsIn name (callee_ways (callee_in j.callees proc)) × CallMoves P j same_types e typed types outcome n entered (choosing_act j entered (the_call to proc contents site) k name)

    -- what covers the callee's execution is listed
    pub choose_goes : Chosen
    choose_goes = by (callee_in j.callees proc) refl
      where
        drop : (c : Callee) → callee_in j.callees proc ≡ c → IsIn way.Drop (callee_ways c) → Chosen
        drop c is listed = (way.Drop, subst (λ z. IsIn way.Drop (callee_ways z)) (sym is) listed, (refl, begins))

        by : (c : Callee) → callee_in j.callees proc ≡ c → Chosen
        by callee.Cycle is = drop callee.Cycle is (inl refl)
        by callee.LeftOut is = drop callee.LeftOut is (inl refl)
        by callee.Unknown is = drop callee.Unknown is (inl refl)
        by (callee.Table table) is = elim (covering_proc.1 values heap (calling_state P j same_types e typed ends s u.well_formed.well_typed u.well_formed.complete v rest u.going.stands grows types outcome (Act (call to proc operands site) ∷ k) (λ m z. z) u.going.regards inner.body.parameters operands passed) inner.trace inner.ending inner.after ((n, inner.calls), few_inner)) [
          | inl h ↦ entry h
          | inr h ↦ drop (callee.Table table) is (in_right way.Drop (entry_ways 0 table.entries) (drop_way table.drops) (some_drop h))
        ]
          where
            covering_proc : All (λ (x : Entry). (x.proc ≡ proc) × IsRegular P.types inner.body.parameters inner.body.result x) table.entries × CoversProcedure P j.limits.unroll proc inner.body table
            covering_proc = covering proc table inner.body u.well_formed.keeps.0.1 is inner.is_body

            entry : Any (IsOf callee') table.entries → Chosen
            entry (i, x, l, here, is_of) =
                let at : slice_get table.entries i ≡ Some x = slice_get-get_or table.entries i x l ∙ ap Some here in
                let known = each_get (λ (x : Entry). (x.proc ≡ proc) × IsRegular P.types inner.body.parameters inner.body.result x) table.entries i x (all_each _ table.entries covering_proc.0) at in (
                  way.Entry i,
                  subst (λ z. IsIn (way.Entry i) (callee_ways z)) (sym is) (in_left (way.Entry i) (entry_ways 0 table.entries) (drop_way table.drops) (in_entries 0 table.entries i x at i (omega arith))),
                  chosen x known.1 is_of i table is at,
                )

            some_drop : Any (λ (gap : Gap). Begins gap.trace callee'.trace) table.drops → IsIn way.Drop (drop_way table.drops)
            some_drop (i, g, l, here, b) = in_drops table.drops i g (slice_get-get_or table.drops i g l ∙ ap Some here)
