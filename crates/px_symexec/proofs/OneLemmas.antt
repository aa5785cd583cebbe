-- One process makes one list of tables. The tables of a procedure's callees are the same before its own are: a list of
-- different procedures of which each calls the next, and none that is together with it, is no longer than there are procedures.
use Rattle.std.proofs.Common.{◌≡◌, ℕ, zero, suc, ◌+◌, ◌<◌, ◌≤◌, List, [], ◌∷◌, length, Bool, true, false, nat_eq, Option, Some, None, refl, sym, ◌∙◌, ap, subst, arith, inl, inr}
use Rattle.std.specs.Prelude.{◌⊎◌, ◌||◌, Any, AllPairs}
use Rattle.std.specs.List.{list_any, IsDistinct}
use Rattle.std.proofs.lemmas.Bool.{cases_lt, eqb-true, ne_eqb}
use Rattle.std.proofs.lemmas.Option.{same_Some}
use Rattle.std.proofs.lemmas.Map.Steps.{length-le_from_distinct_below}
use Rattle.px_base.specs.LimitNumbers.{LimitNumbers}
use Rattle.px_base.specs.declared.trace.ProcId.{ProcId}
use Rattle.px_terms.specs.declared.types.BlockType.{BlockType}
use Rattle.px_core.specs.BodyTree.{BodyTree}
use Rattle.px_entry.specs.declared.tables.Table.{Table}
use Rattle.px_entry.proofs.Lists.{Each, all_each}
use Rattle.px_callgraph.specs.declared.jobs.Callee.{Callee}
use Rattle.px_callgraph.specs.declared.jobs.Callee.TheVariants as callee
use Rattle.px_callgraph.specs.JobTree.{JobTree}
use Rattle.px_callgraph.specs.Callees.{IsCallee, Reaches, by_call, by_calls, AreTogether}
use Rattle.px_symexec.specs.Tables.{IsTable}
use Rattle.px_symexec.specs.Laws.{with_ticket}
use Rattle.px_symexec.specs.One.{Work, IsTabled, IsKnown, IsJob, IsTableIn, IsOne, OneProcess}
use Rattle.px_symexec.proofs.TicketLemmas.{no_ticket}
use Rattle.px_symexec.proofs.UniqueLemmas.{one_table}

-- ---- what a caller knows

pub same_known : (w : Work) (a b : ℕ → Option Table) (f g : ℕ) → (IsTabled w g → ¬ AreTogether w.bodies f g → a g ≡ b g) →
    (c d : Callee) → IsKnown w a f g c → IsKnown w b f g d → c ≡ d
same_known w a b f g same (callee.Table t) (callee.Table u) h k = ap callee.Table (same_Some t u (sym h.2 ∙ same h.0 h.1 ∙ k.2))
same_known w a b f g same (callee.Table t) callee.Cycle h k = absurd (h.1 k.1)
same_known w a b f g same (callee.Table t) callee.LeftOut h k = absurd (h.0.1 k)
same_known w a b f g same (callee.Table t) callee.Unknown h k = absurd (k.0 h.0.0)
same_known w a b f g same callee.Cycle (callee.Table t) h k = absurd (k.1 h.1)
same_known w a b f g same callee.Cycle callee.Cycle h k = refl
same_known w a b f g same callee.Cycle callee.LeftOut h k = absurd (h.0.1 k)
same_known w a b f g same callee.Cycle callee.Unknown h k = absurd (k.0 h.0.0)
same_known w a b f g same callee.LeftOut (callee.Table t) h k = absurd (k.0.1 h)
same_known w a b f g same callee.LeftOut callee.Cycle h k = absurd (k.0.1 h)
same_known w a b f g same callee.LeftOut callee.LeftOut h k = refl
same_known w a b f g same callee.LeftOut callee.Unknown h k = absurd (k.1 h)
same_known w a b f g same callee.Unknown (callee.Table t) h k = absurd (h.0 k.0.0)
same_known w a b f g same callee.Unknown callee.Cycle h k = absurd (h.0 k.0.0)
same_known w a b f g same callee.Unknown callee.LeftOut h k = absurd (h.1 k)
same_known w a b f g same callee.Unknown callee.Unknown h k = refl

-- ---- lists in the order of their numbers

abbrev Known : Type 0
Known = ProcId × Callee

abbrev Has : List Known → ℕ → Type 0
Has [] n = ⊥
Has (y ∷ ys) n = (y.0.0 ≡ n) ⊎ Has ys n

abbrev Rises : List Known → Type 0
Rises [] = Unit {0}
Rises (x ∷ xs) = Each (λ (y : Known). x.0.0 < y.0.0) xs × Rises xs

rises_from : (xs : List Known) → AllPairs (λ (c d : Known). c.0.0 < d.0.0) xs → Rises xs
rises_from [] h = tt
rises_from (x ∷ xs) h = (
  all_each (λ (y : Known). x.0.0 < y.0.0) xs (λ k d l. h 0 (suc k) d (let p : 0 < suc k = omega arith in p) (let q : suc k < suc (length xs) = omega arith in q)),
  rises_from xs (λ i k d l m. h (suc i) (suc k) d (let p : suc i < suc k = omega arith in p) (let q : suc k < suc (length xs) = omega arith in q)),
)

has_from : (xs : List Known) (n : ℕ) → Any (λ (c : Known). c.0.0 ≡ n) xs → Has xs n
has_from [] n (k, c, l, e, h) = let m : ⊥ = omega arith in m
has_from (x ∷ xs) n (zero, c, l, e, h) = inl (ap (λ (z : Known). z.0.0) e ∙ h)
has_from (x ∷ xs) n (suc k, c, l, e, h) = inr (has_from xs n (k, c, (let m : k < length xs = omega arith in m), e, h))

none_below : (m n : ℕ) (ys : List Known) → Each (λ (y : Known). m < y.0.0) ys → n ≤ m → Has ys n → ⊥
none_below m n [] h l i = i
none_below m n (y ∷ ys) h l (inl e) = omega (arith, h.0, e)
none_below m n (y ∷ ys) h l (inr i) = none_below m n ys h.1 l i

-- after the first of one list nothing has the number of the first of the other
tail_has : (y : Known) (xs ys : List Known) → Each (λ (x : Known). y.0.0 < x.0.0) xs → Each (λ (x : Known). Has (y ∷ ys) x.0.0) xs → Each (λ (x : Known). Has ys x.0.0) xs
tail_has y [] ys h k = tt
tail_has y (x ∷ xs) ys h k = (elim k.0 [ inl e ↦ absurd (let m : ⊥ = omega (arith, h.0, e) in m) | inr i ↦ i ], tail_has y xs ys h.1 k.1)

below_all : (m n : ℕ) (xs : List Known) → m ≡ n → Each (λ (x : Known). m < x.0.0) xs → Each (λ (x : Known). n < x.0.0) xs
below_all m n xs e h = subst (λ z. Each (λ (x : Known). z < x.0.0) xs) e h

first_least : (x y : Known) (ys : List Known) → Each (λ (z : Known). y.0.0 < z.0.0) ys → Has (y ∷ ys) x.0.0 → y.0.0 ≤ x.0.0
first_least x y ys h (inl e) = omega (arith, e)
first_least x y ys h (inr i) = elim (cases_lt x.0.0 y.0.0) [ inl l ↦ absurd (none_below y.0.0 x.0.0 ys h (let m : x.0.0 ≤ y.0.0 = omega (arith, l) in m) i) | inr l ↦ l ]

same_pair : (x y : Known) → x.0.0 ≡ y.0.0 → x.1 ≡ y.1 → x ≡ y
same_pair x y e f = ap (λ (n : ℕ). ◌≡◌-pair n x.1) e ∙ ap (λ (c : Callee). ◌≡◌-pair y.0.0 c) f
  where
    ◌≡◌-pair : ℕ → Callee → Known
    ◌≡◌-pair n c = (record { 0 = n }, c)

-- P holds of what each has
same_lists : (P Q : Known → Type 0) → ((x y : Known) → P x → Q y → x.0.0 ≡ y.0.0 → x.1 ≡ y.1) → (xs ys : List Known) → Rises xs → Rises ys →
    Each P xs → Each Q ys → Each (λ (x : Known). Has ys x.0.0) xs → Each (λ (y : Known). Has xs y.0.0) ys → xs ≡ ys
same_lists P Q same [] [] r s p q h k = refl
same_lists P Q same [] (y ∷ ys) r s p q h k = absurd k.0
same_lists P Q same (x ∷ xs) [] r s p q h k = absurd h.0
same_lists P Q same (x ∷ xs) (y ∷ ys) r s p q h k =
    let l : y.0.0 ≤ x.0.0 = first_least x y ys s.0 h.0 in
    let m : x.0.0 ≤ y.0.0 = first_least y x xs r.0 k.0 in
    let e : x.0.0 ≡ y.0.0 = omega (arith, l, m) in
    ap (λ z. z ∷ xs) (same_pair x y e (same x y p.0 q.0 e))
    ∙ ap (λ z. y ∷ z)
    (same_lists P Q same xs ys r.1 s.1 p.1 q.1 (tail_has y xs ys (below_all x.0.0 y.0.0 xs e r.0) h.1) (tail_has x ys xs (below_all y.0.0 x.0.0 ys (sym e) s.0) k.1))

-- ---- jobs

each_has : (w : Work) (a b : ℕ → Option Table) (f : ℕ) (j : JobTree) → IsJob w b f j → (xs : List Known) → Each (λ (c : Known). IsCallee w.bodies f c.0.0 × IsKnown w a f c.0.0 c.1) xs →
    Each (λ (x : Known). Has j.callees x.0.0) xs
each_has w a b f j h [] k = tt
each_has w a b f j h (x ∷ xs) k = (has_from j.callees x.0.0 (h.all x.0.0 k.0.0), each_has w a b f j h xs k.1)

pub same_proc : (p q : ProcId) → p.0 ≡ q.0 → p ≡ q
same_proc p q e = ap (λ (n : ℕ). proc_of n) e
  where
    proc_of : ℕ → ProcId
    proc_of n = record { 0 = n }

abbrev job_of : ℕ → ProcId → BodyTree → List BlockType → List Known → LimitNumbers → List ℕ → JobTree
job_of ticket proc body types callees limits kinds =
    record { proc = proc; body = body; types = types; callees = callees; limits = limits; kinds = kinds; ticket = ticket }

same_job : (w : Work) (a b : ℕ → Option Table) (f : ℕ) → ((g : ℕ) → IsCallee w.bodies f g → IsTabled w g → ¬ AreTogether w.bodies f g → a g ≡ b g) →
    (i j : JobTree) → IsJob w a f i → IsJob w b f j → i ≡ with_ticket i.ticket j
same_job w a b f same i j h k =
    let n = i.ticket in
    let proc : i.proc ≡ j.proc = same_proc i.proc j.proc (h.proc ∙ sym k.proc) in
    let body : i.body ≡ j.body = same_Some i.body j.body (sym h.body ∙ k.body) in
    let types : i.types ≡ j.types = h.types ∙ sym k.types in
    let limits : i.limits ≡ j.limits = h.limits ∙ sym k.limits in
    let kinds : i.kinds ≡ j.kinds = h.kinds ∙ sym k.kinds in
    let ours = all_each (λ (c : Known). IsCallee w.bodies f c.0.0 × IsKnown w a f c.0.0 c.1) i.callees h.each in
    let theirs = all_each (λ (c : Known). IsCallee w.bodies f c.0.0 × IsKnown w b f c.0.0 c.1) j.callees k.each in
    let callees : i.callees ≡ j.callees =
    same_lists (λ (c : Known). IsCallee w.bodies f c.0.0 × IsKnown w a f c.0.0 c.1) (λ (c : Known). IsCallee w.bodies f c.0.0 × IsKnown w b f c.0.0 c.1)
    (λ x y p q e. same_known w a b f y.0.0 (same y.0.0 q.0) x.1 y.1 (subst (λ z. IsKnown w a f z x.1) e p.1) q.1)
    i.callees j.callees (rises_from i.callees h.rising) (rises_from j.callees k.rising) ours theirs
    (each_has w a b f j k i.callees ours) (each_has w b a f i h j.callees theirs) in
    ap (λ z. job_of n z i.body i.types i.callees i.limits i.kinds) proc
    ∙ ap (λ z. job_of n j.proc z i.types i.callees i.limits i.kinds) body
    ∙ ap (λ z. job_of n j.proc j.body z i.callees i.limits i.kinds) types
    ∙ ap (λ z. job_of n j.proc j.body j.types z i.limits i.kinds) callees
    ∙ ap (λ z. job_of n j.proc j.body j.types j.callees z i.kinds) limits
    ∙ ap (λ z. job_of n j.proc j.body j.types j.callees j.limits z) kinds

-- ---- procedures that lead to one another

pub reaches_then : (bodies : ℕ → Option BodyTree) (f m h : ℕ) → Reaches bodies f m → IsCallee bodies m h → Reaches bodies f h
reaches_then bodies f m h (by_call c) d = by_calls c (by_call d)
reaches_then bodies f m h (by_calls {g} c r) d = by_calls c (reaches_then bodies g m h r d)

abbrev pub AreApart : List ℕ → Type 0
AreApart [] = Unit {0}
AreApart (x ∷ xs) = Each (λ y. ¬ (x ≡ y)) xs × AreApart xs

each_apart : (x : ℕ) (xs : List ℕ) → Each (λ y. ¬ (x ≡ y)) xs → Each (λ y. nat_eq x y ≡ false) xs
each_apart x [] h = tt
each_apart x (y ∷ ys) h = (ne_eqb x y h.0, each_apart x ys h.1)

pub distinct_from : (xs : List ℕ) → AreApart xs → IsDistinct nat_eq xs
unfolding IsDistinct
distinct_from [] h = tt
distinct_from (x ∷ xs) h = (each_apart x xs h.0, distinct_from xs h.1)

pub below_from : (n : ℕ) (xs : List ℕ) → Each (λ y. y < n) xs → (q : ℕ) → list_any (nat_eq q) xs ≡ true → q < n
below_from n [] h q e = absurd (never_true e)
  where
    never_true : false ≡ true → ⊥
    never_true e = cc
below_from n (x ∷ xs) h q e = by (nat_eq q x) refl (below_from n xs h.1 q) e
  where
    by : (b : Bool) → nat_eq q x ≡ b → (list_any (nat_eq q) xs ≡ true → q < n) → (b || list_any (nat_eq q) xs) ≡ true → q < n
    by true i f e = subst (λ z. z < n) (sym (eqb-true q x i)) h.0
    by false i f e = f e

-- the procedures before f on the way to it
abbrev LeadTo : Work → ℕ → List ℕ → Type 0
LeadTo w f path = Each (λ p. (p < w.kept) × Reaches w.bodies p f) path

lead_on : (w : Work) (f g : ℕ) (path : List ℕ) → IsCallee w.bodies f g → LeadTo w f path → LeadTo w g path
lead_on w f g [] c h = tt
lead_on w f g (p ∷ path) c h = ((h.0.0, reaches_then w.bodies p f g h.0.1 c), lead_on w f g path c h.1)

lead_below : (w : Work) (f : ℕ) (path : List ℕ) → LeadTo w f path → Each (λ p. p < w.kept) path
lead_below w f [] h = tt
lead_below w f (p ∷ path) h = (h.0.0, lead_below w f path h.1)

-- a callee that isn't together with f isn't on the way to it
lead_apart : (w : Work) (f g : ℕ) (path : List ℕ) → IsCallee w.bodies f g → ¬ AreTogether w.bodies f g → LeadTo w f path → Each (λ p. ¬ (g ≡ p)) path
lead_apart w f g [] c n h = tt
lead_apart w f g (p ∷ path) c n h = ((λ e. n (by_call c, subst (λ z. Reaches w.bodies z f) (sym e) h.0.1)), lead_apart w f g path c n h.1)

not_itself : (w : Work) (f g : ℕ) → IsCallee w.bodies f g → ¬ AreTogether w.bodies f g → ¬ (g ≡ f)
not_itself w f g c n e = n (by_call c, subst (λ z. Reaches w.bodies z f) (sym e) (by_call (subst (IsCallee w.bodies f) e c)))

module _ (w : Work) (a b : ℕ → Option Table) (one_a : IsOne w a) (one_b : IsOne w b) where
  by_callees : (f : ℕ) → (f < w.kept → (g : ℕ) → IsCallee w.bodies f g → IsTabled w g → ¬ AreTogether w.bodies f g → a g ≡ b g) →
      (o p : Option Table) → IsTableIn w a f o → IsTableIn w b f p → o ≡ p
  by_callees f next None None h k = refl
  by_callees f next None (Some u) h k = absurd (h k.0)
  by_callees f next (Some t) None h k = absurd (k h.0)
  by_callees f next (Some t) (Some u) (i, ja, ha, ta) (k, jb, hb, tb) =
      let e = same_job w a b f (next i.0) ja jb ha hb in
      ap Some (one_table.tables ja t u ta (subst (λ z. IsTable z u) (sym e) (no_ticket jb ja.ticket u tb)))

  -- n procedures may still come before f
  same_at : (n f : ℕ) (path : List ℕ) → length path + n ≡ w.kept → AreApart (f ∷ path) → LeadTo w f path → a f ≡ b f
  same_at zero f path e d h = by_callees f (λ l g c t m. absurd (too_many l)) (a f) (b f) (one_a f) (one_b f)
    where
      too_many : f < w.kept → ⊥
      too_many l = let m = length-le_from_distinct_below (f ∷ path) w.kept (distinct_from (f ∷ path) d) (below_from w.kept (f ∷ path) (l, lead_below w f path h)) in omega (arith, m, e)
  same_at (suc n) f path e d h =
      by_callees f
      (λ l g c t m. same_at n g (f ∷ path) (let q : suc (length path) + n ≡ w.kept = omega (arith, e) in q)
      ((not_itself w f g c m, lead_apart w f g path c m h), d) ((l, by_call c), lead_on w f g path c h))
      (a f) (b f) (one_a f) (one_b f)

pub one_process : OneProcess
one_process w a b p q f = same_at w a b p q w.kept f [] (omega arith) (tt, tt) tt
