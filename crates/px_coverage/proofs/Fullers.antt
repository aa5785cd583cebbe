-- What a table covers of a procedure it covers of each fuller meaning, up to what isn't understood.
use Rattle.std.proofs.Common.{◌≡◌, ◌⊎◌, ℕ, Option, List, ◌++◌, refl, sym, ◌∙◌, subst, inl, inr, append_assoc}
use Rattle.std.specs.Prelude.{Any}
use Rattle.px_base.specs.declared.trace.Site.{Site}
use Rattle.px_base.specs.declared.trace.Mark.{Mark}
use Rattle.px_terms.specs.Valuations.{Valuation}
use Rattle.px_terms.specs.declared.conjuncts.Content.{Content}
use Rattle.px_entry.specs.declared.entries.Entry.{Entry}
use Rattle.px_entry.specs.declared.entries.Exit.{Exit}
use Rattle.px_entry.specs.declared.entries.Exit.TheVariants.{Ok, Error}
use Rattle.px_entry.specs.declared.tables.Gap.{Gap}
use Rattle.px_entry.specs.declared.tables.Table.{Table}
use Rattle.px_meaning.specs.Values.{Value, ValueType}
use Rattle.px_meaning.specs.Heaps.{HeapMap}
use Rattle.px_meaning.specs.Calls.{outside, Failed, IsCallingState}
use Rattle.px_meaning.specs.Triples.{ending_of}
use Rattle.px_meaning.specs.TypedProgram.{TypedProgram}
use Rattle.px_meaning.specs.TreeCalls.{BoundedTreeCalls}
use Rattle.px_meaning.specs.Fuller.{Rest, BoundedFullerCalls, Passes}
use Rattle.px_meaning.proofs.Fullers.{fuller_meanings}
use Rattle.px_coverage.specs.Covered.{Execution, IsOf, Begins, IsCovered, Covers}
use Rattle.px_coverage.specs.FullerLaws.{CutsAreHonest}

-- no entry ends at what isn't understood
never_outside : (v : Valuation) (exit : Exit) (result : Option Content) (w : ℕ) (s : Site) → Failed (outside w) s ≡ ending_of v exit result → ⊥
never_outside v Ok result w s e = cc
never_outside v (Error kind site) result w s e = cc

-- what the beginning of a trace begins with, the trace begins with
begins_more : (gap first more whole : List Mark) → whole ≡ first ++ more → Begins gap first → Begins gap whole
begins_more gap first more whole e (r, b) = (r ++ more, e ∙ subst (λ z. z ++ more ≡ gap ++ (r ++ more)) (sym b) (append_assoc gap r more))

module _ (P : TypedProgram) (f bound : ℕ) (parameters : List ValueType) (table : Table) (covers : Covers P.types parameters (BoundedTreeCalls bound P f) table) where
  dropped : (arguments : List Value) (before : HeapMap) → IsCallingState P.types parameters arguments before → (trace : List Mark) → Passes (BoundedTreeCalls bound P f) arguments before trace →
      Any (λ (gap : Gap). Begins gap.trace trace) table.drops
  dropped arguments before calling trace p = by (covers arguments before calling p.first (Failed (outside p.word) p.site) p.there p.comes)
    where
      by : IsCovered (record { arguments = arguments; before = before; trace = p.first; ending = Failed (outside p.word) p.site; after = p.there }) table → Any (λ (gap : Gap). Begins gap.trace trace) table.drops
      by (inl (i, x, l, here, is_of)) = absurd (never_outside is_of.valuation x.exit x.result p.word p.site is_of.ending)
      by (inr (i, gap, l, here, b)) = (i, gap, l, here, begins_more gap.trace p.first p.more trace p.begins b)

  covered : (rest : Rest Mark) → Covers P.types parameters (BoundedFullerCalls bound rest P f) table
  covered rest arguments before calling trace ending after c = elim ((fuller_meanings rest).bounded bound P f arguments before trace ending after c) [
    | inl same ↦ covers arguments before calling trace ending after same
    | inr passes ↦ inr (dropped arguments before calling trace passes)
  ]

pub cuts_are_honest : (rest : Rest Mark) → CutsAreHonest rest
cuts_are_honest rest = record {
  covered = λ P f bound parameters table covers. covered P f bound parameters table covers rest;
  dropped = λ P f bound parameters table covers arguments before calling trace p. dropped P f bound parameters table covers arguments before calling trace p;
  manifest = λ P f parameters bug m. (fuller_meanings rest).manifest P f parameters bug m;
}
