-- The parts that are made one after another.
use Rattle.std.proofs.Common.{◌≡◌, ◌≢◌, ℕ, zero, suc, ◌+◌, ◌<◌, List, [], ◌∷◌, length, get_or, set, Option, Some, None, refl, sym, ap, ◌∙◌, subst, inl, inr, arith, length-set}
use Rattle.std.specs.Prelude.{slice_get, option_and_then, option_map}
use Rattle.std.proofs.lemmas.Bool.{cases_eq}
use Rattle.std.proofs.lemmas.Option.{same_Some, slice_get_within, none-some}
use Rattle.px_core.specs.declared.body.Body.{Body}
use Rattle.px_core.specs.BodyTree.{body_tree}
use Rattle.px_entry.specs.declared.tables.Table.{Table}
use Rattle.px_callgraph.specs.declared.jobs.Callee.{Callee}
use Rattle.px_callgraph.specs.declared.jobs.Callee.TheVariants as callee
use Rattle.px_callgraph.specs.JobTree.{JobTree}
use Rattle.px_symexec.specs.One.{Work, IsTabled, IsKnown, IsJob}
use Rattle.px_pieces.specs.declared.findings.Part.{Part}
use Rattle.px_pieces.specs.declared.findings.Part.TheVariants.{Tabled, LeftOut}
use Rattle.px_pieces.specs.Found.{table_of}
use Rattle.px_findings.specs.declared.order.Turn.{Turn}
use Rattle.px_jobs.specs.Plans.{AreCallees, tables_at}
use Rattle.px_findings.specs.declared.exploration.Exploration.{Exploration}
use Rattle.px_findings.specs.Jobs.{IsTableOf, IsAnalysed, IsPartOf, IsAnalysedOf}
use Rattle.px_findings.specs.Analyses.{IsBeside, AreBeside}
use Rattle.px_findings.specs.Making.{IsPartSoFar, HasTable, AreMade}
use Rattle.px_jobs.proofs.Places.{set_same, set_other}

-- ---- one part

pub analysed_by_job : (w : Work) (tables : ℕ → Option Table) (j : JobTree) (x : Part) (found : Exploration) → AreCallees w tables j.proc.0 j.callees → w.bodies j.proc.0 ≡ Some j.body →
    j.types ≡ w.types → j.limits ≡ w.limits → j.kinds ≡ w.kinds → IsAnalysed j x found → IsAnalysedOf w tables j.proc.0 x found
analysed_by_job w tables j x found callees body types limits kinds h = (
  j,
  record { proc = refl; body = body; types = types; limits = limits; kinds = kinds; rising = callees.rising; all = callees.all; each = callees.each },
  h,
)

part_alone : (w : Work) (tables : ℕ → Option Table) (f : ℕ) (x : Part) (found : Exploration) → IsAnalysedOf w tables f x found → IsPartOf w tables f x
part_alone w tables f (Tabled checked drops) found (j, h, (counted, of)) = (j, h, (counted.table, of))
part_alone w tables f LeftOut found (j, h, none) = absurd none

-- ---- more tables

-- what the first have, the second have
abbrev pub Grow : (ℕ → Option Table) → (ℕ → Option Table) → Type 0
Grow a b = (g : ℕ) (t : Table) → a g ≡ Some t → b g ≡ Some t

known_grows : (w : Work) (a b : ℕ → Option Table) (f g : ℕ) (c : Callee) → Grow a b → IsKnown w a f g c → IsKnown w b f g c
known_grows w a b f g (callee.Table t) grow h = (h.0, h.1, grow g t h.2)
known_grows w a b f g callee.Cycle grow h = h
known_grows w a b f g callee.LeftOut grow h = h
known_grows w a b f g callee.Unknown grow h = h

-- so what is true of a job of f over the first is true of one over the second
pub job_grows : (w : Work) (a b : ℕ → Option Table) (f : ℕ) (P : JobTree → Type 0) → Grow a b → (j : JobTree) × IsJob w a f j × P j → (j : JobTree) × IsJob w b f j × P j
job_grows w a b f P grow (j, h, t) = (
  j,
  record {
    proc = h.proc;
    body = h.body;
    types = h.types;
    limits = h.limits;
    kinds = h.kinds;
    rising = h.rising;
    all = h.all;
    each = λ k d l. let e = h.each k d l in (e.0, known_grows w a b f (get_or j.callees k d).0.0 (get_or j.callees k d).1 grow e.1);
  },
  t,
)

-- ---- all so far

-- a part that is the table of a job
table_there : (j : JobTree) (x : Part) → IsTableOf j x → (t : Table) × (table_of x ≡ Some t)
table_there j (Tabled checked drops) h = (_, refl)
table_there j LeftOut h = absurd h

as_so_far : (w : Work) (tables : ℕ → Option Table) (n : ℕ) (x : Part) → IsTabled w n → IsPartOf w tables n x → IsPartSoFar w tables n x
as_so_far w tables n (Tabled checked drops) t h = (t, h)
as_so_far w tables n LeftOut t h = tt

so_far_grows : (w : Work) (a b : ℕ → Option Table) (n : ℕ) (x : Part) → Grow a b → IsPartSoFar w a n x → IsPartSoFar w b n x
so_far_grows w a b n (Tabled checked drops) grow h = (h.0, job_grows w a b n (λ j. IsTableOf j (Tabled checked drops)) grow h.1)
so_far_grows w a b n LeftOut grow h = tt

beside_grows : (w : Work) (a b : ℕ → Option Table) (n : ℕ) (x : Part) (found : Option Exploration) → Grow a b → IsBeside w a n x found → IsBeside w b n x found
beside_grows w a b n x None grow h = h
beside_grows w a b n x (Some found) grow h = job_grows w a b n (λ j. IsAnalysed j x found) grow h

-- one part more
module _ (w : Work) (order : List Turn) (bodies new : List Body) (parts : List Part) (i : ℕ) (d : Turn) (x : Part) (found : Exploration) (below : i < length order) (h : AreMade w order bodies parts i)
    (other : (k : ℕ) (d : Turn) → i < k → k < length order → (get_or order k d).number ≢ (get_or order i d).number)
    (tabled : IsTabled w (get_or order i d).number) (analysed : IsAnalysedOf w (tables_at parts) (get_or order i d).number x found)
    (same_size : length new ≡ length bodies) (kept : (n : ℕ) → n ≢ (get_or order i d).number → slice_get new n ≡ slice_get bodies n) where
  abbrev n : ℕ
  n = (get_or order i d).number

  is : IsPartOf w (tables_at parts) n x
  is = part_alone w (tables_at parts) n x found analysed

  abbrev more : List Part
  more = set parts n x

  free : slice_get parts n ≡ Some LeftOut
  free = (h.to_do i d (omega arith) below).part

  inside : n < length parts
  inside = slice_get_within parts n LeftOut free

  there : slice_get more n ≡ Some x
  there = set_same parts n x inside

  grow : Grow (tables_at parts) (tables_at more)
  grow g t e = elim (cases_eq g n) [
    | inl s ↦ absurd (none-some t (sym (ap (option_and_then table_of) (ap (slice_get parts) s ∙ free)) ∙ e))
    | inr a ↦ ap (option_and_then table_of) (set_other parts n g x a) ∙ e
  ]

  its_table : HasTable more n
  its_table = let (j, job, t) = is in let (table, e) = table_there j x t in (table, ap (option_and_then table_of) there ∙ e)

  has_more : (m : ℕ) → HasTable parts m → HasTable more m
  has_more m (t, e) = (t, grow m t e)

  -- how it was found stands beside it
  pub beside_more : (all : List (Option Exploration)) → AreBeside w (tables_at parts) parts all → AreBeside w (tables_at more) more (set all n (Some found))
  beside_more all its = λ m y z at beside. elim (cases_eq m n) [
    | inl s ↦ subst (λ k. IsBeside w (tables_at more) k y z) (sym s) (here y z (ap (slice_get more) (sym s) ∙ at) (ap (slice_get (set all n (Some found))) (sym s) ∙ beside))
    | inr a ↦ beside_grows w (tables_at parts) (tables_at more) m y z grow (its m y z (sym (set_other parts n m x a) ∙ at) (sym (set_other all n m (Some found) a) ∙ beside))
  ]
    where
      inside_of : (z : Option Exploration) → slice_get (set all n (Some found)) n ≡ Some z → n < length all
      inside_of z at = let l = slice_get_within (set all n (Some found)) n z at in let same = length-set all n (Some found) in omega arith

      here : (y : Part) (z : Option Exploration) → slice_get more n ≡ Some y → slice_get (set all n (Some found)) n ≡ Some z → IsBeside w (tables_at more) n y z
      here y z at beside = subst (λ k. IsBeside w (tables_at more) n k z) (same_Some x y (sym there ∙ at))
          (subst (IsBeside w (tables_at more) n x) (same_Some (Some found) z (sym (set_same all n (Some found) (inside_of z beside)) ∙ beside))
          (job_grows w (tables_at parts) (tables_at more) n (λ j. IsAnalysed j x found) grow analysed))

  pub made_more : AreMade w order new more (i + 1)
  made_more = record {
    size = length-set parts n x ∙ h.size;
    size_bodies = same_size ∙ h.size_bodies;
    each = λ m y e. elim (cases_eq m n) [
      | inl s ↦ subst (λ z. IsPartSoFar w (tables_at more) z y) (sym s) (subst (IsPartSoFar w (tables_at more) n) (same_Some x y (sym there ∙ ap (slice_get more) (sym s) ∙ e))
          (as_so_far w (tables_at more) n x tabled (job_grows w (tables_at parts) (tables_at more) n (λ j. IsTableOf j x) grow is)))
      | inr a ↦ so_far_grows w (tables_at parts) (tables_at more) m y grow (h.each m y (sym (set_other parts n m x a) ∙ e))
    ];
    done = λ k e l m. elim (cases_eq k i) [
      | inl s ↦ subst (HasTable more) (same_at k e s m) its_table
      | inr a ↦ has_more (get_or order k e).number (h.done k e (omega arith) m)
    ];
    to_do = λ k e l m.
        let a : (get_or order k e).number ≢ n = apart k e (omega arith) m in
        let old = h.to_do k e (omega arith) m in
        record {
          part = set_other parts n (get_or order k e).number x a ∙ old.part;
          body = old.body ∙ ap (option_map body_tree) (sym (kept (get_or order k e).number a));
        };
  }
    where
      default : (k : ℕ) (e : Turn) → k < length order → get_or order k e ≡ get_or order k d
      default k e m = by order k e d m
        where
          by : (ts : List Turn) (k : ℕ) (a b : Turn) → k < length ts → get_or ts k a ≡ get_or ts k b
          by [] k a b l = let z : ⊥ = omega arith in absurd z
          by (t ∷ ts) zero a b l = refl
          by (t ∷ ts) (suc k) a b l = by ts k a b (let z : k < length ts = omega arith in z)

      same_at : (k : ℕ) (e : Turn) → k ≡ i → k < length order → n ≡ (get_or order k e).number
      same_at k e s m = ap (λ (t : Turn). t.number) (sym (default k e m ∙ ap (λ z. get_or order z d) s))

      apart : (k : ℕ) (e : Turn) → i < k → k < length order → (get_or order k e).number ≢ n
      apart k e l m = subst (λ (t : Turn). t.number ≢ n) (sym (default k e m)) (other k d l m)
