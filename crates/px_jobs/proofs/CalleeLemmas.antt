-- What a procedure knows of all those that it calls.
use Rattle.std.proofs.Common.{◌≡◌, ℕ, zero, suc, ◌+◌, ◌<◌, List, [], ◌∷◌, ◌++◌, length, get_or, take, map, Bool, Option, refl, sym, ap, ◌∙◌, subst, arith, All, AllPairs, Any, Contains}
use Rattle.std.proofs.lemmas.List.{length-map, map_push, take_more}
use Rattle.std.proofs.lemmas.List.Elements.{All-push}
use Rattle.px_base.specs.declared.trace.ProcId.{ProcId}
use Rattle.px_entry.specs.declared.tables.Table.{Table}
use Rattle.px_callgraph.specs.declared.jobs.Callee.{Callee}
use Rattle.px_callgraph.specs.Callees.{IsCallee}
use Rattle.px_callgraph.specs.Working.{numbers_of}
use Rattle.px_symexec.specs.One.{Work, IsKnown}
use Rattle.px_pieces.specs.declared.findings.Part.{Part}
use Rattle.px_jobs.specs.Plans.{IsPlan, IsReady, AreCallees, tables_at}

abbrev pub Known : Type 0
Known = ProcId × Callee

abbrev pub KnownIf : Work → (ℕ → Option Table) → ℕ → Known → Type 0
KnownIf w tables f c = IsCallee w.bodies f c.0.0 → IsKnown w tables f c.0.0 c.1

-- those of the first i callees
pub record AreFirst (graph : List (List ℕ)) (out : List Bool) (parts : List Part) (f : ℕ) (callees : List ProcId) (i : ℕ) (known : List Known) : Type 0 where
  pub numbers : map (λ (c : Known). c.0) known ≡ take i callees
  pub each : (w : Work) → IsPlan w graph out → IsReady w parts f → All (KnownIf w (tables_at parts) f) known

any_number : (known : List Known) (g : ℕ) → Contains (map (λ (c : Known). c.0.0) known) g → Any (λ (c : Known). c.0.0 ≡ g) known
any_number [] g (k, l, e) = let n : ⊥ = omega arith in absurd n
any_number (c ∷ known) g (zero, l, e) = (0, c, (let m : 0 < suc (length known) = omega arith in m), refl, e)
any_number (c ∷ known) g (suc k, l, e) = let (i, x, m, a, b) = any_number known g (k, (let m : k < length (map (λ (c : Known). c.0.0) known) = omega arith in m), e) in (suc i, x, (let m : suc i < suc (length known) = omega arith in m), a, b)

number_in : (known : List Known) (k : ℕ) (d : Known) → k < length known → Contains (map (λ (c : Known). c.0.0) known) (get_or known k d).0.0
number_in [] k d l = let n : ⊥ = omega arith in absurd n
number_in (c ∷ known) zero d l = (0, (let m : 0 < suc (length (map (λ (c : Known). c.0.0) known)) = omega arith in m), refl)
number_in (c ∷ known) (suc k) d l = let (i, m, e) = number_in known k d (let m : k < length known = omega arith in m) in (suc i, (let m : suc i < suc (length (map (λ (c : Known). c.0.0) known)) = omega arith in m), e)

pairs_of : (known : List Known) → AllPairs (λ a b. a < b) (map (λ (c : Known). c.0.0) known) → AllPairs (λ (c d : Known). c.0.0 < d.0.0) known
pairs_of known h i j d l m =
    let n = length-map known (λ (c : Known). c.0.0) in
    let at : (k : ℕ) → get_or (map (λ (c : Known). c.0.0) known) k d.0.0 ≡ (get_or known k d).0.0 = λ k. read known k in
    let r = h i j d.0.0 l (omega arith) in
    subst (λ z. z < (get_or known j d).0.0) (at i) (subst (λ z. get_or (map (λ (c : Known). c.0.0) known) i d.0.0 < z) (at j) r)
  where
    read : (known : List Known) (k : ℕ) → get_or (map (λ (c : Known). c.0.0) known) k d.0.0 ≡ (get_or known k d).0.0
    read [] k = refl
    read (c ∷ known) zero = refl
    read (c ∷ known) (suc k) = read known k

same_numbers : (known : List Known) → map (λ (c : Known). c.0.0) known ≡ numbers_of (map (λ (c : Known). c.0) known)
same_numbers [] = refl
same_numbers (c ∷ known) = ap (λ z. c.0.0 ∷ z) (same_numbers known)

-- the numbers are those of the graph
pub all_callees : (w : Work) (graph : List (List ℕ)) (out : List Bool) (parts : List Part) (f : ℕ) (callees : List ProcId) (known : List Known) → f < length graph → numbers_of callees ≡ get_or graph f [] → map (λ (c : Known). c.0) known ≡ callees →
    IsPlan w graph out → All (KnownIf w (tables_at parts) f) known → AreCallees w (tables_at parts) f known
all_callees w graph out parts f callees known l is all plan each =
    let numbers : map (λ (c : Known). c.0.0) known ≡ get_or graph f [] = same_numbers known ∙ ap numbers_of all ∙ is in
    record {
      rising = pairs_of known (subst (AllPairs (λ a b. a < b)) (sym numbers) (plan.graph.rising f [] l));
      all = λ g calls. any_number known g (subst (λ z. Contains z g) (sym numbers) ((plan.graph.callees f g).1 calls));
      each = λ k d m.
          let calls : IsCallee w.bodies f (get_or known k d).0.0 = (plan.graph.callees f (get_or known k d).0.0).0 (subst (λ z. Contains z (get_or known k d).0.0) numbers (number_in known k d m)) in
          (calls, each k d m calls);
    }

pub first_more : (graph : List (List ℕ)) (out : List Bool) (parts : List Part) (f : ℕ) (callees : List ProcId) (i : ℕ) (d : ProcId) (known new : List Known) (c : Known) → i < length callees → c.0 ≡ get_or callees i d →
    ((w : Work) → IsPlan w graph out → IsReady w parts f → KnownIf w (tables_at parts) f c) → new ≡ known ++ c ∷ [] → AreFirst graph out parts f callees i known → AreFirst graph out parts f callees (i + 1) new
first_more graph out parts f callees i d known new c l at is pushed h = subst (AreFirst graph out parts f callees (i + 1)) (sym pushed) (record {
  numbers = map_push (λ (c : Known). c.0) known c ∙ ap (λ z. z ++ c.0 ∷ []) h.numbers ∙ ap (λ z. take i callees ++ z ∷ []) at ∙ sym (take_more callees i d l);
  each = λ w plan ready. All-push (KnownIf w (tables_at parts) f) known c (h.each w plan ready) (is w plan ready);
})
